use Rattle.std.proofs.Common.{◌≡◌, Some, map, take}
use Rattle.ioa_typing.specs.TermViews.{core_tree}
use Rattle.compose.specs.Instances.{argument}
use Rattle.compose.proofs.instances.components.values_of.Given as goal

abbrev pub invariant-loop-term : goal.invariant-loop-term
invariant-loop-term l = l.values.items ≡ map argument (map (λ t. core_tree (Some t)) (take l.term-index l.terms))
