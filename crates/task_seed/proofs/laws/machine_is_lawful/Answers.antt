use Rattle.std.proofs.Common.{arith}
use Rattle.terms.specs.contracts.action.ActionOrd.TheImpl.Laws.{total-law}
use Rattle.io_automata.specs.Automata.{instance_of}
use Rattle.std.proofs.lemmas.List.{length-map}
use Rattle.task_seed.specs.Setups.{system}
use Rattle.task_seed.specs.MachineLaws.{machine_lawful, machine_counted}
use Rattle.task_seed.proofs.laws.machine_is_lawful.Goals as goal

pub returns-clause-lawful : goal.returns-clause-lawful
returns-clause-lawful g c =
    let few = c.args.setup.now.plan.few in
    machine_lawful (system g.T.Turns.turn_of c.args.setup.now) (record { components = omega (arith, few, c.args.setup.now.plan.components.ok.0, length-map c.args.setup.now.plan.components.items (instance_of c.args.setup.now.plan.automata.items)); horizon = c.args.setup.now.in_range }) total-law

pub returns-clause-counted : goal.returns-clause-counted
returns-clause-counted g c = machine_counted (system g.T.Turns.turn_of c.args.setup.now)
