use Rattle.std.proofs.Common.{◌<◌, ◌≡◌, arith, ap, ◌∙◌, length, map, slice_set}
use Rattle.std.proofs.lemmas.Result.{on_ok_weaker, on_err_weaker}
use Rattle.undo_records.specs.Changes.{restored, changes_in}
use Rattle.undo_records.specs.Marks.{marks_of}
use Rattle.undo_records.specs.Written.{kept_write, undone_write, slice_set_back}
use Rattle.undo_records.specs.declared.change.Change.TheVariants.{Cell}
use Rattle.undo_records.proofs.store.StoreCells.set.Goals as goal

pub returns-clause-ok : goal.returns-clause-ok
returns-clause-ok c =
    let items = c.self.inside.current.items in
    let within : c.args.cell < length items = omega (arith, c.self.inside.current.ok.0, c.len.ensures, c.if-cell-len.false) in
    let back : slice_set (slice_set items c.args.cell c.args.value) c.args.cell c.replace-old.result ≡ items = slice_set_back items c.args.cell c.args.value c.replace-old.result c.index_mut.result.now within (c.replace-old.ensures.value ∙ c.index_mut.ensures.value) in
    on_ok_weaker c.keep.result (λ kept. kept_write (λ s. slice_set s c.args.cell c.args.value) (Cell c.args.cell c.replace-old.result) items c.keep.new.current.items (marks_of c.self.inside.is_marked c.self.inside.newest.items (map changes_in c.self.inside.older.items)) (marks_of c.self.inside.is_marked c.keep.new.newest.items (map changes_in c.self.inside.older.items)) c.args.self.now c.self.view_is (kept.0 ∙ ap (slice_set items c.args.cell) c.replace-old.ensures.after) (kept.1 (map changes_in c.self.inside.older.items)) back) c.keep.ensures.ok

pub returns-clause-err : goal.returns-clause-err
returns-clause-err c =
    let items = c.self.inside.current.items in
    let within : c.args.cell < length items = omega (arith, c.self.inside.current.ok.0, c.len.ensures, c.if-cell-len.false) in
    let back : slice_set (slice_set items c.args.cell c.args.value) c.args.cell c.replace-old.result ≡ items = slice_set_back items c.args.cell c.args.value c.replace-old.result c.index_mut.result.now within (c.replace-old.ensures.value ∙ c.index_mut.ensures.value) in
    on_err_weaker c.keep.result (λ gone. undone_write items c.keep.new.current.items (marks_of c.self.inside.is_marked c.self.inside.newest.items (map changes_in c.self.inside.older.items)) (marks_of c.self.inside.is_marked c.keep.new.newest.items (map changes_in c.self.inside.older.items)) c.args.self.now c.self.view_is (gone.0 ∙ ap (λ s. restored (Cell c.args.cell c.replace-old.result) (slice_set items c.args.cell s)) c.replace-old.ensures.after ∙ back) (ap (λ changes. marks_of c.self.inside.is_marked changes (map changes_in c.self.inside.older.items)) gone.1)) c.keep.ensures.err
