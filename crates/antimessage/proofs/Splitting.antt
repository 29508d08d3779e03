-- A bag that goes apart along one walk.
use Rattle.std.proofs.Common.{◌≡◌, refl, sym, ◌∙◌, ap, List, [], ◌∷◌, ◌++◌, reverse, filter, Bool, true, false, not, if◌then◌else◌}
use mathlib.Core.List.{reverse_aux, reverse_aux-eq}

module _ {A : Type 0} where
  -- where the walk stands: what was taken and what was passed, each with what will join it, are the two parts of the old list
  pub record IsSplitting (test : A → Bool) (old taken passed after : List A) : Type 0 where
    pub taken_so : reverse_aux taken (filter test after) ≡ filter test old
    pub passed_so : reverse_aux passed (filter (λ x. not (test x)) after) ≡ filter (λ x. not (test x)) old

  pub splitting_starts : (test : A → Bool) (old passed : List A) → passed ≡ [] → IsSplitting test old [] passed old
  splitting_starts test old passed e = record { taken_so = refl; passed_so = ap (λ b. reverse_aux b (filter (λ x. not (test x)) old)) e }

  pub splitting_takes : (test : A → Bool) (old taken passed after : List A) (x : A) → test x ≡ true → IsSplitting test old taken passed (x ∷ after) → IsSplitting test old (x ∷ taken) passed after
  splitting_takes test old taken passed after x t k = record {
    taken_so = ap (λ (b : Bool). reverse_aux taken (if b then x ∷ filter test after else filter test after)) (sym t) ∙ k.taken_so;
    passed_so = ap (λ (b : Bool). reverse_aux passed (if not b then x ∷ filter (λ y. not (test y)) after else filter (λ y. not (test y)) after)) (sym t) ∙ k.passed_so;
  }

  pub splitting_passes : (test : A → Bool) (old taken passed after : List A) (x : A) → test x ≡ false → IsSplitting test old taken passed (x ∷ after) → IsSplitting test old taken (x ∷ passed) after
  splitting_passes test old taken passed after x t k = record {
    taken_so = ap (λ (b : Bool). reverse_aux taken (if b then x ∷ filter test after else filter test after)) (sym t) ∙ k.taken_so;
    passed_so = ap (λ (b : Bool). reverse_aux passed (if not b then x ∷ filter (λ y. not (test y)) after else filter (λ y. not (test y)) after)) (sym t) ∙ k.passed_so;
  }

  pub splitting_ends : (test : A → Bool) (old taken passed : List A) → IsSplitting test old taken passed [] → (reverse taken ++ [] ≡ filter test old) × (reverse passed ++ [] ≡ filter (λ x. not (test x)) old)
  splitting_ends test old taken passed k = (sym (reverse_aux-eq taken []) ∙ k.taken_so, sym (reverse_aux-eq passed []) ∙ k.passed_so)
