-- What searches in texts and comparisons of texts say.
use Rattle.std.proofs.Common.{◌≡◌, ℕ, ◌<◌, Bool, true, false, eqb, List, ◌∷◌, ◌++◌, refl, sym, subst, ◌∙◌}
use Rattle.std.specs.Prelude.{Option, None, Some, Result, Err, IfErr, IsSomeAnd}
use Rattle.std.specs.Borrow.{Bor}
use Rattle.std.specs.Cmp.Lexicographic.{pointwise}
use Rattle.std.specs.Str.Pattern.{FindsChar}
use Rattle.std.proofs.lemmas.Bool.{both_ways}
use Rattle.std.proofs.lemmas.Slice.Eq.{bytes_eq-Decides}
use Rattle.std.proofs.lemmas.Str.Pattern.{IsSplitOnceResult, split_parts, contains_char}
use Rattle.trace.proofs.Cuts.{Lacks}

pub failed_with : {A E : Type 0} (P : E → Type 0) (r : Result A E) (e : E) → r ≡ Err e → P e → IfErr r P
failed_with P r e is p = subst (λ x. IfErr x P) (sym is) p

pub same_texts : (r : Bool) (a b : List ℕ) → r ≡ pointwise eqb a b → r ≡ true → a ≡ b
same_texts r a b is t = (bytes_eq-Decides a b).0 (sym is ∙ t)

pub other_texts : (r : Bool) (a b : List ℕ) → r ≡ pointwise eqb a b → r ≡ false → a ≡ b → ⊥
other_texts r a b is f e = both_ways r f (is ∙ (bytes_eq-Decides a b).1 e)

pub cut_parts : (c : ℕ) → c < 128 → (text : List ℕ) (before after : Bor (List ℕ)) → IsSplitOnceResult c text (Some (before, after)) → (text ≡ before.now ++ (c ∷ after.now)) × Lacks c before.now
cut_parts c low text before after h = split_parts c text (Some (before, after)) h low

-- what is said of an answer that is there
pub some_of : {A : Type 0} (P : A → Type 0) (r : Option A) (x : A) → r ≡ Some x → IsSomeAnd r P → P x
some_of P r x is h = subst (λ o. IsSomeAnd o P) is h

pub cut_in : (c : ℕ) → c < 128 → (text : List ℕ) (r : Option (Bor (List ℕ) × Bor (List ℕ))) (before after : Bor (List ℕ)) → r ≡ Some (before, after) → IsSplitOnceResult c text r → (text ≡ before.now ++ (c ∷ after.now)) × Lacks c before.now
cut_in c low text r before after is h = cut_parts c low text before after (subst (IsSplitOnceResult c text) is h)

pub uncut : (c : ℕ) → c < 128 → (text : List ℕ) → FindsChar c text None → Lacks c text
uncut c low text h k inside e = both_ways false refl ((contains_char c text false h low).1 k inside e)
