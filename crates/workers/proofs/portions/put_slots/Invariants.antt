use Rattle.std.specs.Prelude.{drop, map}
use Rattle.lone_group.specs.Lone.{turned}
use Rattle.workers.proofs.Putting.{ArePut}
use Rattle.workers.proofs.portions.put_slots.Given as goal

abbrev pub invariant-loop-slot : goal.invariant-loop-slot
invariant-loop-slot g l = ArePut g.W.Write.contents l.plan l.lines l.initial.out l.out l.before l.written (map turned l.slots) (map turned (drop l.slot-index l.slots))
