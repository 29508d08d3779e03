use Rattle.trace.specs.Lines.{text_of, turns_at}
use Rattle.trace.specs.Puts.{Puts}
use Rattle.trace.proofs.lines.append_turns.Given as goal

abbrev pub invariant-loop-turned : goal.invariant-loop-turned
invariant-loop-turned g l = Puts g.W.Write.contents l.initial.out l.out l.before l.written (text_of l.plan l.lines (turns_at l.yielded))
