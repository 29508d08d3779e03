use Rattle.std.proofs.Common.{◌≡◌, ℕ, filter, map, take}
use Rattle.compose.specs.Standings.{stood, seen_at, is_input_of, is_control_of, Pair, Clash}
use Rattle.compose.proofs.compatibility.search.first_clash.Given as goal

abbrev pub invariant-loop-standing : goal.invariant-loop-standing
invariant-loop-standing l = record {
  inputs : (n : ℕ) → seen_at l.inputs.items n ≡ filter (is_input_of n) (map stood (take l.standing-index l.standings));
  controls : (n : ℕ) → seen_at l.controls.items n ≡ filter (is_control_of n) (map stood (take l.standing-index l.standings));
  free : Pair (Clash l.rule) (map stood (take l.standing-index l.standings)) → ⊥;
}
