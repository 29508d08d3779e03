use Rattle.std.proofs.Common.{◌≡◌, ◌≤◌, Some, drop, length, map}
use Rattle.ioa_entries.specs.EntryViews.{slot_tree}
use Rattle.ioa_typing.specs.KindViews.{option_tree}
use Rattle.compose.specs.Types.{same_kinds, slot_kind}
use Rattle.compose.specs.TypedStandings.{stood}
use Rattle.compose.proofs.action_types.kinds.are_same.Given as goal

abbrev pub invariant-loop-place : goal.invariant-loop-place
invariant-loop-place l = record {
  within : l.place ≤ length l.others;
  left : same_kinds (map (slot_kind (map (λ k. option_tree (Some k)) l.a.formals.now)) (map (λ p. slot_tree (Some p)) (drop l.place l.slots)))
      (map (slot_kind (map (λ k. option_tree (Some k)) l.b.formals.now)) (map (λ p. slot_tree (Some p)) (drop l.place l.others)))
      ≡ same_kinds (stood l.a).kinds (stood l.b).kinds;
}
