use Rattle.std.proofs.Common.{◌≡◌, ◌++◌, drop, map, string_bytes}
use Rattle.ioa_check.proofs.definitions.push_names.Given as goal

abbrev pub invariant-loop-name : goal.invariant-loop-name
invariant-loop-name l = map string_bytes l.members.items ++ map string_bytes (drop l.name-index l.names) ≡ map string_bytes l.initial.members.items ++ map string_bytes l.names
