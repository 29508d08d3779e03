use Rattle.std.proofs.Common.{◌<◌, length, arith, ap, ◌∙◌}
use Rattle.terms.specs.Shapes.{set_item}
use Rattle.terms.specs.Turns.{set_item_by}
use Rattle.terms.proofs.state.StateCells.set_at.Goals as goal

pub returns-then-cell-len-clause-value : goal.returns-then-cell-len-clause-value
returns-then-cell-len-clause-value c =
    let within : c.args.cell < length c.self.inside.values.items = omega (arith, c.self.inside.values.ok.0) in
    set_item_by c.self.inside.values.items c.args.cell c.args.index c.args.value _ c.put_item.new.self within c.index_mut.ensures.value c.put_item.ensures
    ∙ ap (set_item c.args.cell c.args.index c.args.value) c.self.view_is
