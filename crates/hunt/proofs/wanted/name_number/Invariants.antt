use Rattle.std.proofs.Common.{◌≡◌, ℕ, ◌-◌, ◌^◌, ◌<◌, Some}
use Rattle.std.specs.Prelude.{slice_get}
use Rattle.plans.specs.Plans.{action_texts}
use Rattle.hunt.proofs.wanted.name_number.Given as goal

abbrev pub invariant-loop-name : goal.invariant-loop-name
invariant-loop-name l = record {
  low : l.number < 2 ^ 16;
  before : (k : ℕ) → k < l.number → slice_get (action_texts l.plan) k ≡ Some l.text → ⊥;
}

abbrev pub decreases-loop-name : goal.decreases-loop-name
decreases-loop-name l = 2 ^ 16 - l.number
