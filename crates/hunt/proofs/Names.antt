-- The number of a name, found by a search from the front.
use Rattle.std.proofs.Common.{◌≡◌, ℕ, ◌^◌, ◌<◌, List, Bool, eqb, inl, inr, refl, ap, sym, ◌∙◌, arith}
use Rattle.std.specs.Prelude.{None, Some, slice_get, is_some, true}
use Rattle.std.specs.Cmp.Lexicographic.{pointwise}
use Rattle.std.proofs.lemmas.Option.{slice_get_within, slice_get_cases}
use Rattle.std.proofs.lemmas.Bool.{both_ways}
use Rattle.std.proofs.lemmas.Slice.Eq.{bytes_eq-Decides}
use Rattle.trace.specs.Written.{IsNumberOf}

pub same_texts : (r : Bool) (a b : List ℕ) → r ≡ pointwise eqb a b → r ≡ true → a ≡ b
same_texts r a b is t = (bytes_eq-Decides a b).0 (sym is ∙ t)

pub number_found : (names : List (List ℕ)) (text own : List ℕ) (n : ℕ) → n < 2 ^ 16 → ((k : ℕ) → k < n → slice_get names k ≡ Some text → ⊥) → Some own ≡ slice_get names n → own ≡ text → IsNumberOf names text n
number_found names text own n low before here same = record { fits = low; is = sym here ∙ ap Some same; first = before }

pub number_none : (names : List (List ℕ)) (text : List ℕ) (n : ℕ) → ((k : ℕ) → k < n → slice_get names k ≡ Some text → ⊥) → None ≡ slice_get names n → (m : ℕ) → IsNumberOf names text m → ⊥
number_none names text n before none m h =
    let inside = slice_get_within names m text h.is in
    elim (slice_get_cases names n).1 [
      | inl here ↦ both_ways true (ap is_some (sym here.2 ∙ sym none)) refl
      | inr past ↦ before m (omega (arith, inside, past.0)) h.is
    ]
