use Rattle.std.proofs.Common.{map, string_bytes, take}
use Rattle.ioa_check.specs.AutomatonViews.{used_names}
use Rattle.ioa_check.specs.Sets.{AreNames}
use Rattle.compose.proofs.instances.actions.names_in.Given as goal

abbrev pub invariant-loop-name : goal.invariant-loop-name
invariant-loop-name l = AreNames (used_names l.set) (map string_bytes (take l.name-index l.names))
