use Rattle.workers.proofs.Putting.{ArePut}
use Rattle.workers.proofs.portions.put_portion.Given as goal

abbrev pub invariant-loop-turned : goal.invariant-loop-turned
invariant-loop-turned g l = ArePut g.W.Write.contents l.plan l.lines l.initial.out l.out l.before l.written l.turns.after l.turned-iterator
