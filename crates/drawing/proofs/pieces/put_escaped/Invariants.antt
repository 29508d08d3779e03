use Rattle.std.proofs.Common.{◌≡◌, ◌++◌, length}
use Rattle.drawing.specs.Elements.{escaped}
use Rattle.drawing.proofs.pieces.put_escaped.Given as goal

abbrev pub invariant-loop-byte : goal.invariant-loop-byte
invariant-loop-byte l = l.text.items ++ escaped l.rest ≡ l.initial.text.items ++ escaped l.words

abbrev pub decreases-loop-byte : goal.decreases-loop-byte
decreases-loop-byte l = length l.rest
