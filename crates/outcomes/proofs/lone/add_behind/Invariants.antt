use Rattle.std.proofs.Common.{◌≡◌, ◌+◌, ◌++◌, map, take}
use Rattle.outcomes.specs.Solving.{places_in}
use Rattle.outcomes.proofs.lone.add_behind.Given as goal

abbrev pub invariant-loop-span : goal.invariant-loop-span
invariant-loop-span l = places_in l.out.items ≡ places_in l.initial.out.items ++ map (λ at. at + l.by) (places_in (take l.span-index l.spans))
