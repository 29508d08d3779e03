-- A condition that mentions no parameter holds for all tuples of its entry, or for none.
use Rattle.std.specs.Prelude.{◌≡◌, ℕ, zero, suc, ◌<◌, Bool as Truth, true, false, ◌||◌, cond, List, [], ◌∷◌, map, filter, length, slice_get, Option, None, Some, refl}
use Rattle.std.proofs.Common.{arith, ap, sym, ◌∙◌, subst}
use Rattle.std.proofs.lemmas.List.{length-map}
use Rattle.terms.specs.Datum.{Datum}
use Rattle.terms.specs.Meaning.{truth}
use Rattle.terms.specs.Mentions.{same_for_all}
use Rattle.terms.specs.declared.scalar.Scalar.{Scalar}
use Rattle.io_automata.specs.declared.automaton.Kind.TheVariants.{Input}
use Rattle.outcomes.specs.Alike.{asks, alike, Tells, number_or_none}
use Rattle.io_automata.specs.Automata.{Transition}
use Rattle.io_automata.specs.Outcomes.{enabled_by, named, tuples}
use Rattle.io_automata.specs.Steps.{holds, scope_in}
use Rattle.io_automata.specs.Signatures.{same_kind}
use Rattle.io_automata.specs.Tuples.{many, tuple_at}
use Rattle.outcomes.proofs.Placed.{tuples_length, tuple_there}
use Rattle.outcomes.proofs.Among.{all_there}

-- it holds for these arguments where it holds for none
pub holds_alike : (entry : Transition) (formals : List Scalar) (state : List Datum) (args : List Scalar) → asks entry ≡ false → holds entry formals state args ≡ holds entry formals state []
holds_alike entry formals state args unasked = ap truth (same_for_all entry.precondition (scope_in formals []) state args [] unasked)

pub kept_alike : (test : List Scalar → Truth) (b : Truth) → ((args : List Scalar) → test args ≡ b) → (ts : List (List Scalar)) → filter test ts ≡ cond b ts []
kept_alike test true alike [] = refl
kept_alike test false alike [] = refl
kept_alike test true alike (t ∷ ts) =
    ap (λ x. cond x (t ∷ filter test ts) (filter test ts)) (alike t)
    ∙ ap (λ us. t ∷ us) (kept_alike test true alike ts)
kept_alike test false alike (t ∷ ts) =
    ap (λ x. cond x (t ∷ filter test ts) (filter test ts)) (alike t)
    ∙ kept_alike test false alike ts

-- all tuples are kept, or none
pub all_or_none : (entry : Transition) (formals : List Scalar) (state : List Datum) (holding : Truth) (count : ℕ) → asks entry ≡ false → holding ≡ holds entry formals state [] → count ≡ cond holding (many entry.params) 0 → count ≡ length (enabled_by formals state (Some entry))
all_or_none entry formals state holding count unasked is count_is = go holding is count_is where
  kept : (b : Truth) → b ≡ holds entry formals state [] → filter (holds entry formals state) (tuples formals entry.params) ≡ cond b (tuples formals entry.params) []
  kept b is = kept_alike (holds entry formals state) b (λ args. holds_alike entry formals state args unasked ∙ sym is) (tuples formals entry.params)

  go : (b : Truth) → b ≡ holds entry formals state [] → count ≡ cond b (many entry.params) 0 → count ≡ length (map (named entry.name) (filter (holds entry formals state) (tuples formals entry.params)))
  go true is count_is =
      count_is
      ∙ sym (tuples_length formals entry.params)
      ∙ sym (length-map (tuples formals entry.params) (named entry.name))
      ∙ sym (ap (λ ts. length (map (named entry.name) ts)) (kept true is))
  go false is count_is = count_is ∙ sym (ap (λ ts. length (map (named entry.name) ts)) (kept false is))

-- where an action is at a place among the enabled ones of such an entry, it is that of the tuple there
pub alike_found : (entry : Transition) (formals : List Scalar) (state : List Datum) (enabled at : ℕ) → asks entry ≡ false → enabled ≡ length (enabled_by formals state (Some entry)) → at < enabled → (at < many entry.params) × (Some (named entry.name (tuple_at formals entry.params at)) ≡ slice_get (enabled_by formals state (Some entry)) at)
alike_found entry formals state enabled at unasked is below = go (holds entry formals state []) refl where
  test : List Scalar → Truth
  test = holds entry formals state

  go : (b : Truth) → b ≡ holds entry formals state [] → (at < many entry.params) × (Some (named entry.name (tuple_at formals entry.params at)) ≡ slice_get (enabled_by formals state (Some entry)) at)
  go true holding =
      let all = all_or_none entry formals state true (many entry.params) unasked holding refl in
      let few : at < many entry.params = omega (arith, all, is, below) in
      let long = tuples_length formals entry.params in
      let within : at < length (tuples formals entry.params) = omega (arith, few, long) in
      let every : length (map (named entry.name) (filter test (tuples formals entry.params))) ≡ length (tuples formals entry.params) = sym all ∙ sym long in
      let there = tuple_there formals entry.params at (tuple_at formals entry.params at) few in
      (few, all_there entry.name test (tuples formals entry.params) at (tuple_at formals entry.params at) within there every)
  go false holding =
      let none = all_or_none entry formals state false 0 unasked holding refl in
      absurd (omega (arith, none, is, below))

-- a number beside the entries tells of the entry at its place
pub tells_there : (ts : List Transition) (numbers : List ℕ) (place : ℕ) (number : ℕ) (entry : Option Transition) → numbers ≡ map alike ts → number ≡ number_or_none (slice_get numbers place) → entry ≡ slice_get ts place → Tells number entry
tells_there ts numbers place number entry all is at = subst (Tells number) (sym at) (go ts place number (is ∙ ap (λ ns. number_or_none (slice_get ns place)) all)) where
  go : (ts : List Transition) (place : ℕ) (number : ℕ) → number ≡ number_or_none (slice_get (map alike ts) place) → Tells number (slice_get ts place)
  go [] place number is = refl
  go (t ∷ ts) zero number is = is
  go (t ∷ ts) (suc place) number is = go ts place number is

-- where a number is there, the condition mentions no parameter
pub unasked : (entry : Transition) (number : ℕ) → number ≡ alike entry → 0 < number → asks entry ≡ false
unasked entry number is some = go (same_kind Input entry.kind) (asks entry) (subst (λ (n : ℕ). 0 < n) is some) where
  go : (a b : Truth) → 0 < cond (a || b) 0 (many entry.params) → b ≡ false
  go true b h = absurd (omega (arith, h))
  go false true h = absurd (omega (arith, h))
  go false false h = refl

-- and is that of the tuples
pub counted : (entry : Transition) (number : ℕ) → number ≡ alike entry → 0 < number → number ≡ many entry.params
counted entry number is some = is ∙ go (same_kind Input entry.kind) (asks entry) (subst (λ (n : ℕ). 0 < n) is some) where
  go : (a b : Truth) → 0 < cond (a || b) 0 (many entry.params) → cond (a || b) 0 (many entry.params) ≡ many entry.params
  go true b h = absurd (omega (arith, h))
  go false true h = absurd (omega (arith, h))
  go false false h = refl

-- where there are none, none is found
pub none_of : {X : Type 0} (xs : List X) (count k : ℕ) → count ≡ length xs → count ≡ 0 → None ≡ slice_get xs k
none_of [] count k is none = refl
none_of (x ∷ xs) count k is none = absurd (omega (arith, is, none))
