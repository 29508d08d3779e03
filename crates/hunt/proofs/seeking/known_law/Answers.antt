use Rattle.std.proofs.Common.{arith}
use Rattle.task_seed.specs.Machines.{machine, end_rank}
use Rattle.task_seed.specs.Setups.{system}
use Rattle.virtual_time.specs.Reference.{IsReference, reference_below}
use Rattle.hunt.proofs.seeking.known_law.Goals as goal

pub returns : goal.returns
returns g c =
    let m = machine (system g.T.Turns.turn_of c.args.setup.now) in
    let exists = c.reference_is_complete.ensures.exists m in
    let law = c.machine_is_lawful.ensures.lawful in
    let whole : IsReference m end_rank (reference_below m end_rank) = exists end_rank law (omega arith) in
    record {
      scheduled = c.turns_are_schedule.ensures.below;
      begins = λ b low. c.reference_is_one.ensures.begins m b end_rank (reference_below m b) (reference_below m end_rank) low (exists b law low) whole;
      one = λ turns is. c.reference_is_one.ensures.same m end_rank turns (reference_below m end_rank) is whole;
    }
