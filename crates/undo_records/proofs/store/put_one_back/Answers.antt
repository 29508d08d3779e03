use Rattle.std.proofs.Common.{◌<◌, arith, ap, sym, ◌∙◌, length}
use Rattle.undo_records.specs.Changes.{restored}
use Rattle.terms.specs.Turns.{set_item_by}
use Rattle.undo_records.proofs.store.put_one_back.Goals as goal

pub returns-then-cell-len-2 : goal.returns-then-cell-len-2
returns-then-cell-len-2 c =
    let items = c.args.current.now.items in
    let within : c.in-Item.cell < length items = omega (arith, c.args.current.now.ok.0, c.len-in-Item.ensures, c.if-cell-len-2.true) in
    set_item_by items c.in-Item.cell c.in-Item.index c.in-Item.old _ c.put_item.new.self within c.index_mut-then-cell-len-2.ensures.value c.put_item.ensures
    ∙ ap (λ change. restored change items) (sym c.in-Item.is)
