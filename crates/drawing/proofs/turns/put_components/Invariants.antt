use Rattle.std.proofs.Common.{◌≡◌, ◌+◌, ◌≤◌, ◌++◌, length, map, string_bytes}
use Rattle.drawing.specs.Turns.{components_text}
use Rattle.drawing.proofs.turns.put_components.Given as goal

abbrev pub invariant-loop-name : goal.invariant-loop-name
invariant-loop-name l = record {
  few : l.component + length l.rest ≤ 1024;
  left : l.text.items ++ components_text l.bottom l.component (map string_bytes l.rest) ≡ l.initial.text.items ++ components_text l.bottom 0 (map string_bytes l.names);
}

abbrev pub decreases-loop-name : goal.decreases-loop-name
decreases-loop-name l = length l.rest
