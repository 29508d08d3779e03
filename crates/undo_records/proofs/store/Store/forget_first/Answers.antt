use Rattle.std.proofs.Common.{◌≡◌, ◌-◌, ◌≤◌, arith, ap, sym, ◌∙◌, length, take}
use Rattle.undo_records.specs.Changes.{changes_in}
use Rattle.undo_records.proofs.Marked.{at_most, forgotten_all, forgotten_first}
use Rattle.undo_records.proofs.store.Store.forget_first.Goals as goal

pub returns-then-older-count : goal.returns-then-older-count
returns-then-older-count c =
    let inside = c.self.inside in
    let few = at_most changes_in inside.is_marked inside.newest.items inside.older.items inside.current.items c.args.self.now c.self.view_is in
    let all : length c.args.self.now.below ≤ c.args.count = omega (arith, few, inside.older.ok.0, c.len-older.ensures, c.if-older-count.true) in
    c.forget_all.ensures ∙ sym (forgotten_all c.args.self.now c.args.count all)

pub returns : goal.returns
returns c =
    let inside = c.self.inside in
    let older = inside.older.items in
    let counted : c.len-older.result ≡ length older = c.len-older.ensures ∙ inside.older.ok.0 in
    forgotten_first changes_in inside.is_marked inside.newest.items older c.keep_newest.new.marks.items inside.current.items c.args.self.now c.args.count c.self.view_is
    (omega (arith, counted, c.if-older-count.false))
    (c.keep_newest.ensures ∙ ap (λ n. take (n - c.args.count) older) counted)
