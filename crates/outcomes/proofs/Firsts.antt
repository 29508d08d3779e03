-- A condition that stands twice among the entries of an automaton is known where it is known once.
use Rattle.std.specs.Prelude.{◌≡◌, ◌⊎◌, ℕ, zero, suc, ◌+◌, ◌<◌, ◌≤◌, List, [], ◌∷◌, ◌++◌, length, get_or, slice_get, is_some, Option, None, Some, refl}
use Rattle.std.specs.Option.{option_map}
use Rattle.std.proofs.Common.{arith, ap, sym, subst, inl, inr, ◌∙◌}
use Rattle.std.proofs.lemmas.Bool.{cases_lt, true≢false}
use Rattle.terms.specs.Meaning.{truth, value}
use Rattle.terms.specs.TermTree.{TermTree}
use Rattle.outcomes.specs.Alike.{IsLike, AreFirsts}
use Rattle.io_automata.specs.Automata.{Transition}
use Rattle.io_automata.specs.Steps.{permitted, scope_in}

some_same : {X : Type 0} (a b : X) → Some a ≡ Some b → a ≡ b
some_same a b e = cc

abbrev condition : Option Transition → Option TermTree
condition found = option_map (λ (t : Transition). t.precondition) found

-- an entry with the same condition is found at the first place
pub like_there : (ts : List Transition) (place first : ℕ) (other : Option Transition) (entry : Transition) → other ≡ slice_get ts first → Some entry ≡ slice_get ts place → option_map (λ (t : Transition). t.precondition) other ≡ Some entry.precondition → IsLike ts place first
like_there ts place first other entry at there same formals state =
    ap (λ o. permitted o formals [] state) (sym at) ∙ go other same ∙ ap (λ o. permitted o formals [] state) there where
      go : (other : Option Transition) → condition other ≡ Some entry.precondition → permitted other formals [] state ≡ permitted (Some entry) formals [] state
      go None is = absurd (true≢false (sym (ap is_some is)))
      go (Some o) is = ap (λ p. truth (value p (scope_in formals []) state)) (some_same o.precondition entry.precondition is)

-- the next entry's place, too
pub firsts_more : (ts : List Transition) (firsts : List ℕ) (place first : ℕ) → AreFirsts ts firsts → length firsts ≡ place → IsLike ts place first → AreFirsts ts (firsts ++ first ∷ [])
firsts_more ts firsts place first are long like p below = go (cases_lt p (length firsts)) where
  left : (xs : List ℕ) (x k : ℕ) → k < length xs → get_or (xs ++ x ∷ []) k 0 ≡ get_or xs k 0
  left [] x k h = absurd (omega (arith, h))
  left (y ∷ ys) x zero h = refl
  left (y ∷ ys) x (suc k) h = left ys x k (omega (arith, h))

  end : (xs : List ℕ) (x : ℕ) → get_or (xs ++ x ∷ []) (length xs) 0 ≡ x
  end [] x = refl
  end (y ∷ ys) x = end ys x

  longer : (xs : List ℕ) (x : ℕ) → length (xs ++ x ∷ []) ≡ length xs + 1
  longer [] x = refl
  longer (y ∷ ys) x = let rest = longer ys x in omega (arith, rest)

  go : (p < length firsts) ⊎ (length firsts ≤ p) → IsLike ts p (get_or (firsts ++ first ∷ []) p 0)
  go (inl h) = subst (IsLike ts p) (sym (left firsts first p h)) (are p h)
  go (inr h) =
      let more = longer firsts first in
      let last : length firsts ≡ p = omega (arith, below, more, h) in
      let here : place ≡ p = sym long ∙ last in
      subst (λ k. IsLike ts k (get_or (firsts ++ first ∷ []) k 0)) last
      (subst (IsLike ts (length firsts)) (sym (end firsts first)) (subst (λ k. IsLike ts k first) (sym long) like))
