-- Turns of a loop, one at a time.
use Rattle.std.proofs.Common.{◌≡◌, ℕ, ◌+◌, ◌-◌, ◌<◌, List, sym, ap, subst, ◌∙◌, inl, inr}
use Rattle.terms.specs.Datum.{Datum}
use Rattle.terms.specs.EffectTree.{EffectTree}
use Rattle.terms.specs.Meaning.{Scope, after, each, turn, with_loop, AreParts, IsPart, IsPartOfTurn}
use Rattle.terms.specs.Shapes.{member, members_from, count}
use Rattle.terms.specs.Turns.{next_member}
use Rattle.terms.specs.declared.scalar.Listed.{Listed}
use Rattle.terms.specs.declared.scalar.Scalar.{Scalar}

-- the members from a place on
abbrev pub members_left : Listed → ℕ → List Scalar
members_left listed k = members_from listed k (count listed - k)

-- the turns that are left after one more do the same to what it made
pub turned : (slot k : ℕ) (listed : Listed) (body : EffectTree) (scope inner : Scope) (cells new all : List Datum) → k < count listed → inner ≡ with_loop slot (member listed k) scope → new ≡ after body inner cells → each (turn slot body scope) (members_left listed k) cells ≡ all → each (turn slot body scope) (members_left listed (k + 1)) new ≡ all
turned slot k listed body scope inner cells new all low at made done =
    ap (each (turn slot body scope) (members_left listed (k + 1))) (made ∙ ap (λ s. after body s cells) at)
    ∙ sym (ap (λ ms. each (turn slot body scope) ms cells) (next_member listed k (count listed) low))
    ∙ done

-- and what they reach is reached from here
pub parts_turned : (slot k : ℕ) (listed : Listed) (body : EffectTree) (scope inner : Scope) (cells new reached : List Datum) → k < count listed → inner ≡ with_loop slot (member listed k) scope → new ≡ after body inner cells → AreParts (turn slot body scope) (IsPartOfTurn slot body scope) (members_left listed (k + 1)) new reached → AreParts (turn slot body scope) (IsPartOfTurn slot body scope) (members_left listed k) cells reached
parts_turned slot k listed body scope inner cells new reached low at made h =
    subst (λ ms. AreParts (turn slot body scope) (IsPartOfTurn slot body scope) ms cells reached) (sym (next_member listed k (count listed) low)) (inr (subst (λ v. AreParts (turn slot body scope) (IsPartOfTurn slot body scope) (members_left listed (k + 1)) v reached) (made ∙ ap (λ s. after body s cells) at) h))

-- as is what a part of this turn reaches
pub part_of_turn : (slot k : ℕ) (listed : Listed) (body : EffectTree) (scope inner : Scope) (cells reached : List Datum) → k < count listed → inner ≡ with_loop slot (member listed k) scope → IsPart body inner cells reached → AreParts (turn slot body scope) (IsPartOfTurn slot body scope) (members_left listed k) cells reached
part_of_turn slot k listed body scope inner cells reached low at h =
    subst (λ ms. AreParts (turn slot body scope) (IsPartOfTurn slot body scope) ms cells reached) (sym (next_member listed k (count listed) low)) (inl (subst (λ s. IsPart body s cells reached) at h))
