use Rattle.std.proofs.Common.{◌∙◌, sym, true, false, refl}
use Rattle.io_automata.specs.Automata.{transition_of}
use Rattle.outcomes.proofs.AllOrNone.{all_or_none, unasked, counted}
use Rattle.outcomes.proofs.several.count_if.Goals as goal

pub returns-then-holding : goal.returns-then-holding
returns-then-holding g c =
    let entry = transition_of c.args.entry.now in
    let state = g.C.Cells.values c.args.cells.now in
    all_or_none entry c.args.formals.now state true c.args.number (unasked entry c.args.number c.requires.told c.requires.some) (sym c.if-holding.true ∙ c.requires.holding) (counted entry c.args.number c.requires.told c.requires.some)

pub returns-else-holding : goal.returns-else-holding
returns-else-holding g c =
    let entry = transition_of c.args.entry.now in
    let state = g.C.Cells.values c.args.cells.now in
    all_or_none entry c.args.formals.now state false 0 (unasked entry c.args.number c.requires.told c.requires.some) (sym c.if-holding.false ∙ c.requires.holding) refl
