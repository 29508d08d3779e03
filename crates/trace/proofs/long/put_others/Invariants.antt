use Rattle.std.proofs.Common.{take}
use Rattle.trace.specs.Lines.{others_text}
use Rattle.trace.specs.Puts.{Puts}
use Rattle.trace.proofs.long.put_others.Given as goal

abbrev pub invariant-loop-argument : goal.invariant-loop-argument
invariant-loop-argument g l = Puts g.W.Write.contents l.initial.out l.out l.fn.before l.written (others_text l.plan (take l.argument-index l.arguments))
