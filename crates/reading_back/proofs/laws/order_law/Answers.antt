use Rattle.std.proofs.Common.{◌^◌, ◌<◌, length, sym, subst, arith}
use Rattle.std.proofs.lemmas.List.{length-map}
use Rattle.io_automata.specs.Automata.{instance_of}
use Rattle.plans.specs.Plans.{composition}
use Rattle.virtual_time.specs.Reference.{IsReference}
use Rattle.task_seed.specs.Machines.{machine, end_rank}
use Rattle.task_seed.specs.Setups.{system}
use Rattle.task_seed.specs.Taken.{turns_of}
use Rattle.reading_back.proofs.Rising.{all_said, are_turns, rising}
use Rattle.reading_back.proofs.laws.order_law.Goals as goal

pub returns-clause-order : goal.returns-clause-order
returns-clause-order g c =
    let plan = c.args.setup.now.plan in
    let few = plan.few in
    let components : length (composition plan) < 2 ^ 16 = omega (arith, few, plan.components.ok.0, length-map plan.components.items (instance_of plan.automata.items)) in
    let m = machine (system g.T.Turns.turn_of c.args.setup.now) in
    λ turns b is fit said.
    rising plan components turns (are_turns plan turns (c.turns_are_own.ensures.reference turns b is fit) said)
    (c.reference_is_complete.ensures.ordered m b (turns_of turns) c.machine_is_lawful.ensures.lawful is)

pub returns-clause-reads : goal.returns-clause-reads
returns-clause-reads g c =
    let plan = c.args.setup.now.plan in
    let m = machine (system g.T.Turns.turn_of c.args.setup.now) in
    let order = returns-clause-order g c in
    λ lines turns are said.
    let whole = c.reference_is_complete.ensures.exists m end_rank c.machine_is_lawful.ensures.lawful (omega arith) in
    c.head_law.ensures.read_back plan lines turns (order turns end_rank (subst (IsReference m end_rank) (sym are.all) whole) are.keys said)

pub returns-clause-said : goal.returns-clause-said
returns-clause-said g c = λ turns says are. all_said c.args.setup.now.plan says turns (c.turns_are_own.ensures.all turns are)
