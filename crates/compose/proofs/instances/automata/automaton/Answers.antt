use Rattle.std.proofs.Common.{[]}
use Rattle.ioa_check.specs.AutomatonViews.{place_lists}
use Rattle.compose.proofs.instances.automata.automaton.Goals as goal

pub returns : goal.returns
returns c =
    let entries = c.in_ok-entries.ensures in
    let start = c.in_ok-start.ensures in
    λ i. record { entries = entries i; start = start i; tasks = place_lists c.args.one.tasks.items; formals = [] }
