use Rattle.std.proofs.Common.{arith}
use Rattle.undo_records.specs.Changes.{changes_in}
use Rattle.undo_records.proofs.Marked.{counted}
use Rattle.undo_records.proofs.store.Store.marks.Goals as goal

pub returns : goal.returns
returns c =
    let inside = c.self.inside in
    let all = counted changes_in inside.is_marked inside.newest.items inside.older.items inside.current.items c.args.self.now c.self.view_is c.if-not-self.false in
    omega (arith, all, inside.older.ok.0, c.len.ensures)
