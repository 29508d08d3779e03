use Rattle.task_seed.specs.Setups.{system}
use Rattle.reference.specs.Queues.{ArePlaced}
use Rattle.reference.proofs.frontier.first_places.Given as goal

abbrev pub invariant-loop-i : goal.invariant-loop-i
invariant-loop-i g l = ArePlaced (system g.T.Turns.turn_of l.setup) l.count l.i (λ j. 0) l.places.items
