use Rattle.std.proofs.Common.{◌≡◌, Some, map, take}
use Rattle.terms.specs.ShapeTree.{shape_tree}
use Rattle.ioa_entries.specs.EntryViews.{slot_tree}
use Rattle.ioa_typing.specs.KindViews.{option_tree}
use Rattle.compose.specs.Names.{type_in}
use Rattle.compose.proofs.instances.table.types_of.Given as goal

abbrev pub invariant-loop-slot : goal.invariant-loop-slot
invariant-loop-slot l = map shape_tree l.types.items ≡ map (type_in (map (λ k. option_tree (Some k)) l.formals)) (map (λ p. slot_tree (Some p)) (take l.slot-index l.slots))
