use Rattle.std.proofs.Common.{◌<◌, ◌≡◌, ◌+◌, arith, ap, sym, ◌∙◌, length, map, slice_set, get_or}
use Rattle.std.specs.Prelude.{slice_get, Some, None}
use Rattle.std.proofs.lemmas.Result.{on_ok_weaker, on_err_weaker}
use Rattle.terms.specs.Datum.{items_of}
use Rattle.terms.specs.Shapes.{set_item}
use Rattle.terms.specs.Turns.{set_item_by, set_item_past}
use Rattle.undo_records.specs.States.{States}
use Rattle.undo_records.specs.Changes.{restored, changes_in}
use Rattle.undo_records.specs.Marks.{marks_of}
use Rattle.undo_records.specs.Written.{kept_write, undone_write, no_write, set_item_back, set_item_none}
use Rattle.undo_records.specs.declared.change.Change.TheVariants.{Item}
use Rattle.undo_records.proofs.store.StoreCells.set_at.Goals as goal

pub returns-in-Some-clause-ok : goal.returns-in-Some-clause-ok
returns-in-Some-clause-ok c =
    let items = c.self.inside.current.items in
    let within : c.args.cell < length items = omega (arith, c.self.inside.current.ok.0, c.len.ensures, c.if-cell-len.false) in
    let set : slice_set items c.args.cell c.replace_item.new.self ≡ set_item c.args.cell c.args.index c.args.value items = set_item_by items c.args.cell c.args.index c.args.value c.index_mut.result.now c.replace_item.new.self within c.index_mut.ensures.value c.in-Some.ensures.new in
    let was : slice_get (items_of (get_or items c.args.cell c.index_mut.result.now)) c.args.index ≡ Some c.in-Some.old = ap (λ value. slice_get (items_of value) c.args.index) (sym c.index_mut.ensures.value) ∙ sym c.in-Some.ensures.old in
    let back : set_item c.args.cell c.args.index c.in-Some.old (set_item c.args.cell c.args.index c.args.value items) ≡ items = set_item_back items c.args.cell c.args.index c.args.value c.in-Some.old c.index_mut.result.now within was in
    on_ok_weaker c.keep.result (λ kept. kept_write (λ s. set_item c.args.cell c.args.index c.args.value s) (Item c.args.cell c.args.index c.in-Some.old) items c.keep.new.current.items (marks_of c.self.inside.is_marked c.self.inside.newest.items (map changes_in c.self.inside.older.items)) (marks_of c.self.inside.is_marked c.keep.new.newest.items (map changes_in c.self.inside.older.items)) c.args.self.now c.self.view_is (kept.0 ∙ set) (kept.1 (map changes_in c.self.inside.older.items)) back) c.keep.ensures.ok

pub returns-in-Some-clause-err : goal.returns-in-Some-clause-err
returns-in-Some-clause-err c =
    let items = c.self.inside.current.items in
    let within : c.args.cell < length items = omega (arith, c.self.inside.current.ok.0, c.len.ensures, c.if-cell-len.false) in
    let set : slice_set items c.args.cell c.replace_item.new.self ≡ set_item c.args.cell c.args.index c.args.value items = set_item_by items c.args.cell c.args.index c.args.value c.index_mut.result.now c.replace_item.new.self within c.index_mut.ensures.value c.in-Some.ensures.new in
    let was : slice_get (items_of (get_or items c.args.cell c.index_mut.result.now)) c.args.index ≡ Some c.in-Some.old = ap (λ value. slice_get (items_of value) c.args.index) (sym c.index_mut.ensures.value) ∙ sym c.in-Some.ensures.old in
    let back : set_item c.args.cell c.args.index c.in-Some.old (set_item c.args.cell c.args.index c.args.value items) ≡ items = set_item_back items c.args.cell c.args.index c.args.value c.in-Some.old c.index_mut.result.now within was in
    on_err_weaker c.keep.result (λ gone. undone_write items c.keep.new.current.items (marks_of c.self.inside.is_marked c.self.inside.newest.items (map changes_in c.self.inside.older.items)) (marks_of c.self.inside.is_marked c.keep.new.newest.items (map changes_in c.self.inside.older.items)) c.args.self.now c.self.view_is (gone.0 ∙ ap (restored (Item c.args.cell c.args.index c.in-Some.old)) set ∙ back) (ap (λ changes. marks_of c.self.inside.is_marked changes (map changes_in c.self.inside.older.items)) gone.1)) c.keep.ensures.err

pub returns-then-cell-len-clause-ok : goal.returns-then-cell-len-clause-ok
returns-then-cell-len-clause-ok c =
    let current : length c.args.self.now.current ≡ length c.self.inside.current.items = ap (λ (s : States). length s.current) (sym c.self.view_is) in
    let past : length c.args.self.now.current < c.args.cell + 1 = omega (arith, current, c.self.inside.current.ok.0, c.len.ensures, c.if-cell-len.true) in
    λ i. record { current = sym (set_item_past c.args.self.now.current c.args.cell c.args.index c.args.value past) i; below = c.args.self.now.below }

pub returns-in-None-clause-ok : goal.returns-in-None-clause-ok
returns-in-None-clause-ok c =
    let items = c.self.inside.current.items in
    let within : c.args.cell < length items = omega (arith, c.self.inside.current.ok.0, c.len.ensures, c.if-cell-len.false) in
    let set : slice_set items c.args.cell c.replace_item.new.self ≡ set_item c.args.cell c.args.index c.args.value items = set_item_by items c.args.cell c.args.index c.args.value c.index_mut.result.now c.replace_item.new.self within c.index_mut.ensures.value c.in-None.ensures.new in
    let was : slice_get (items_of (get_or items c.args.cell c.index_mut.result.now)) c.args.index ≡ None = ap (λ value. slice_get (items_of value) c.args.index) (sym c.index_mut.ensures.value) ∙ sym c.in-None.ensures.old in
    no_write (λ s. set_item c.args.cell c.args.index c.args.value s) items (slice_set items c.args.cell c.replace_item.new.self) (marks_of c.self.inside.is_marked c.self.inside.newest.items (map changes_in c.self.inside.older.items)) c.args.self.now c.self.view_is set (set_item_none items c.args.cell c.args.index c.args.value c.index_mut.result.now within was)
