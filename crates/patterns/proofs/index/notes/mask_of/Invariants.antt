use Rattle.std.proofs.Common.{◌≡◌, map, take}
use Rattle.patterns.specs.Patterns.{fixes}
use Rattle.patterns.proofs.index.notes.mask_of.Given as goal

abbrev pub invariant-loop-param : goal.invariant-loop-param
invariant-loop-param l = l.mask.items ≡ map fixes (take l.param-index l.params)
