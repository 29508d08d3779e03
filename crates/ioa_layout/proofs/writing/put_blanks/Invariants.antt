use Rattle.std.proofs.Common.{◌≡◌, ◌++◌}
use Rattle.ioa_layout.specs.Gaps.{blanks}
use Rattle.ioa_layout.proofs.writing.put_blanks.Given as goal

abbrev pub invariant-loop-done : goal.invariant-loop-done
invariant-loop-done l = l.text.items ≡ l.initial.text.items ++ blanks l._done
