use Rattle.std.proofs.Common.{◌≡◌, map, take}
use Rattle.ioa_check.specs.Resolutions.{component_meaning}
use Rattle.compose.specs.Tables.{meant_parts, parts_in}
use Rattle.compose.proofs.instances.components.components.Given as goal

abbrev pub invariant-loop-one : goal.invariant-loop-one
invariant-loop-one l = map parts_in l.found.items ≡ map (meant_parts l.beyond) (map component_meaning (take l.one-index l.all))
