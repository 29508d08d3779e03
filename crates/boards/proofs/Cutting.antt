-- How the sections of a new board go to their passes, one by one.
use Rattle.std.proofs.Common.{◌≡◌, ◌⊎◌, ℕ, zero, suc, ◌+◌, ◌<◌, List, [], ◌∷◌, ◌++◌, length, drop, sym, refl, ap, subst, ◌∙◌, inl, inr, ⊎_elim, arith}
use Rattle.std.specs.Prelude.{Some, slice_get}
use Rattle.std.proofs.lemmas.Option.{none-some, same_Some}
use Rattle.boards.specs.declared.parts.Board.{Board}
use Rattle.boards.specs.declared.parts.Pass.{Pass}
use Rattle.boards.specs.Sections.{section_of, numbered}
use Rattle.boards.specs.Passes.{AreOwners, IsAtRest, Owns}

module _ {A : Type 0} where
  cut : (xs : List A) (k : ℕ) → k < length xs → (c : A) × (slice_get xs k ≡ Some c) × (drop k xs ≡ c ∷ drop (suc k) xs)
  cut [] k within = absurd (omega arith)
  cut (x ∷ xs) zero within = (x, refl, refl)
  cut (x ∷ xs) (suc k) within = cut xs k (omega arith)

  -- the next section, and those behind it
  pub next_section : (xs : List A) (k : ℕ) → k < length xs → (c : A) × (slice_get xs k ≡ Some c) × (numbered k (drop k xs) ≡ section_of k c ∷ numbered (k + 1) (drop (k + 1) xs))
  next_section xs k within =
      let h = cut xs k within in
      let next : suc k ≡ k + 1 = omega arith in (h.0, h.1, ap (numbered k) h.2 ∙ ap (λ n. section_of k h.0 ∷ numbered n (drop n xs)) next)

  pub at_pushed : (xs : List A) (a b : A) (n : ℕ) → slice_get (xs ++ a ∷ []) n ≡ Some b → (slice_get xs n ≡ Some b) ⊎ ((n ≡ length xs) × (a ≡ b))
  at_pushed [] a b zero e = inr (refl, same_Some a b e)
  at_pushed [] a b (suc n) e = absurd (none-some b e)
  at_pushed (x ∷ xs) a b zero e = inl e
  at_pushed (x ∷ xs) a b (suc n) e = ⊎_elim inl (λ (t : (n ≡ length xs) × (a ≡ b)). inr (ap suc t.0, t.1)) (at_pushed xs a b n e)

module _ {L K P : Type 0} (b : Board L K P) (kind : K) (sections : List P) where
  -- one more pass has the section of its place
  pub owners_more : (passes after : List (Pass L K P)) (p : Pass L K P) (k : ℕ) (c : P) → after ≡ passes ++ p ∷ [] → length passes ≡ k → AreOwners b kind sections passes → IsAtRest b kind p → slice_get sections k ≡ Some c
      → Owns p k c → AreOwners b kind sections after
  owners_more passes after p k c pushed count each rests there owns n q e = ⊎_elim (λ (x : slice_get passes n ≡ Some q). each n q x)
      (λ (x : (n ≡ length passes) × (p ≡ q)).
      let here : k ≡ n = sym (x.0 ∙ count) in
      (subst (IsAtRest b kind) x.1 rests, (c, ap (slice_get sections) (sym here) ∙ there, subst (λ (r : Pass L K P). Owns r n c) x.1 (subst (λ (m : ℕ). Owns p m c) here owns))))
      (at_pushed passes p q n (ap (λ (l : List (Pass L K P)). slice_get l n) (sym pushed) ∙ e))
