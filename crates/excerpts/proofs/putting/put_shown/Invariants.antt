use Rattle.std.proofs.Common.{◌≡◌, ◌++◌, drop, map}
use Rattle.excerpts.specs.Excerpts.{shown}
use Rattle.excerpts.proofs.putting.put_shown.Given as goal

abbrev pub invariant-loop-byte : goal.invariant-loop-byte
invariant-loop-byte l = l.out.items ++ map shown (drop l.byte-index l.line) ≡ l.initial.out.items ++ map shown l.line
