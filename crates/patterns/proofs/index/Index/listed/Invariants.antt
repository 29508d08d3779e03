use Rattle.std.proofs.Common.{ℕ, All, Contains, take}
use Rattle.patterns.specs.Patterns.{IsListed, masked}
use Rattle.patterns.proofs.index.Index.listed.Given as goal

abbrev pub invariant-loop-mask : goal.invariant-loop-mask
invariant-loop-mask l = All (λ mask. (j : ℕ) → IsListed l.self.numbers l.action.name (masked mask.items l.action.args) j → Contains l.found.items j) (take l.mask-index l.mask-items)
