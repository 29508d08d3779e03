use Rattle.std.proofs.Common.{length}
use Rattle.task_seed.specs.Machines.{machine}
use Rattle.task_seed.specs.Setups.{system}
use Rattle.std.specs.Arc.{arc_value}
use Rattle.virtual_time.specs.Reference.{point}
use Rattle.reference.specs.Queues.{least_rank}
use Rattle.reference.proofs.Queued.{has_number}
use Rattle.reference.proofs.agenda.Agenda.next.Goals as goal

pub least-requires : goal.least-requires
least-requires g c =
    let a = c.self.inside in
    let s = system g.T.Turns.turn_of (arc_value a.setup) in
    let places = a.line.places.items in
    let numbers = a.line.numbers.items in
    has_number s (length s.composition) (point (machine s) (least_rank places numbers)).next places numbers c.self.invariant.queue
