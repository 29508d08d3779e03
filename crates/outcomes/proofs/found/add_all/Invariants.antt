use Rattle.std.proofs.Common.{◌≡◌, ◌++◌, map, take}
use Rattle.outcomes.specs.Tasks.{placed}
use Rattle.outcomes.proofs.found.add_all.Given as goal

abbrev pub invariant-loop-span : goal.invariant-loop-span
invariant-loop-span l = l.founds.items ≡ l.initial.founds.items ++ map (placed l.place) (take l.span-index l.spans)
