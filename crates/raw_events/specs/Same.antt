-- When two lists with a cursor are equal.
use Rattle.std.specs.Prelude.{Bool, reverse}
use Rattle.std.specs.Ordering.{eq_of_both, on}
use Rattle.std.specs.Cmp.{IsPartialEquivalence, IsEquivalence, and_per, on_per, and_equiv, on_equiv}
use Rattle.std.specs.Cmp.Lexicographic.{pointwise, lists_per, lists_equiv}
use Rattle.raw_events.specs.Around.{Around}

-- as many items before the cursor, and as many after it, and each pair is equal
abbrev pub same_items : {T : Type 0} → (T → T → Bool) → Around T → Around T → Bool
same_items eq = eq_of_both (on (λ w. reverse w.before) (pointwise eq)) (on (λ w. w.after) (pointwise eq))

module _ {T : Type 0} {eq : T → T → Bool} where
  -- it is symmetric and transitive where the items' equality is
  pub same_items_per : IsPartialEquivalence eq → IsPartialEquivalence (same_items eq)
  same_items_per laws = and_per (on_per (λ w. reverse w.before) (lists_per laws)) (on_per (λ w. w.after) (lists_per laws))

  -- and reflexive too
  pub same_items_equiv : IsEquivalence eq → IsEquivalence (same_items eq)
  same_items_equiv laws = and_equiv (on_equiv (λ w. reverse w.before) (lists_equiv laws)) (on_equiv (λ w. w.after) (lists_equiv laws))
