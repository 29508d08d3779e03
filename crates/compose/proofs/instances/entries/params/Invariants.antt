use Rattle.std.proofs.Common.{◌≡◌, Some, map, take}
use Rattle.ioa_entries.specs.EntryViews.{slot_tree}
use Rattle.compose.specs.Instances.{param_of}
use Rattle.compose.proofs.instances.entries.params.Given as goal

abbrev pub invariant-loop-slot : goal.invariant-loop-slot
invariant-loop-slot l = l.found.items ≡ map param_of (map (λ p. slot_tree (Some p)) (take l.slot-index l.slots))
