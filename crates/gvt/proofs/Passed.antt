-- The least of some bounds and one more.
use Rattle.std.proofs.Common.{◌≡◌, ◌≤◌, ◌⊎◌, List, [], ◌∷◌, ◌++◌, inl, inr, sym, ◌∙◌, arith, subst}
use Rattle.std.specs.List.{All, Contains}
use Rattle.std.proofs.lemmas.List.Elements.{All-push, Contains-append_left, Contains-push}
use Rattle.event_keys.specs.declared.key.Bound.{Bound}
use Rattle.event_keys.specs.declared.key.Bound.TheVariants.{End}
use Rattle.event_keys.specs.Ranks.{rank_of_bound}
use Rattle.gvt.specs.Least.{IsLeast}

all_above : (a b : Bound) → rank_of_bound b ≤ rank_of_bound a → (xs : List Bound) → All (λ bound. rank_of_bound a ≤ rank_of_bound bound) xs → All (λ bound. rank_of_bound b ≤ rank_of_bound bound) xs
all_above a b low xs all k d h = let f = all k d h in omega (arith, low, f)

pub least_so_far : (xs : List Bound) (x a b : Bound) → IsLeast xs a → (b ≡ a) ⊎ (b ≡ x) → rank_of_bound b ≤ rank_of_bound a → rank_of_bound b ≤ rank_of_bound x → IsLeast (xs ++ x ∷ []) b
least_so_far xs x a b least either low_a low_x =
    record { below = All-push (λ bound. rank_of_bound b ≤ rank_of_bound bound) xs x (all_above a b low_a xs least.below) low_x; reached = go either least.reached } where
      go : (b ≡ a) ⊎ (b ≡ x) → Contains xs a ⊎ (a ≡ End) → Contains (xs ++ x ∷ []) b ⊎ (b ≡ End)
      go (inl e) (inl c) = inl (subst (Contains (xs ++ x ∷ [])) (sym e) (Contains-append_left xs (x ∷ []) a c))
      go (inl e) (inr n) = inr (e ∙ n)
      go (inr e) r = inl (subst (Contains (xs ++ x ∷ [])) (sym e) (Contains-push xs x))
