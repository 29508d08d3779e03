-- The action that a turn takes is a joint step.
use Rattle.std.specs.Prelude.{FitsSigned, ◌≡◌, ◌≢◌, ℕ, zero, suc, ◌+◌, ◌<◌, ◌≤◌, ◌^◌, ◌%◌, ℤ, pos, ◌+ℤ◌, neg_ℤ, int_le, int_lt, nat_le, nat_lt, ◌≤ℤ◌, Bool as Truth, true, false, ◌&&◌, ◌||◌, ◌==◌, cond, List, [], ◌∷◌, map, filter, length, Option, Some, None, slice_get, refl}
use Rattle.std.specs.Int.{w64}
use Rattle.std.proofs.Common.{arith, ap, ◌∙◌, sym, subst, inl, inr, ◌⊎◌}
use Rattle.std.proofs.lemmas.Bool.Decides.{nat_tests}
use Rattle.std.proofs.lemmas.Int.{ints, int_wrap_fits}
use Rattle.terms.specs.Datum.{Datum}
use Rattle.terms.specs.Named.{Named}
use Rattle.terms.specs.Meaning.{slot}
use Rattle.terms.specs.Same.{scalar_refl}
use Rattle.terms.specs.Shapes.{members, members_from, member, count, whole}
use Rattle.terms.specs.declared.scalar.Scalar.{Scalar}
use Rattle.terms.specs.declared.scalar.Listed.{Listed}
use Rattle.terms.specs.declared.scalar.Listed.TheVariants as listed
use Rattle.io_automata.specs.declared.automaton.Kind.{Kind}
use Rattle.io_automata.specs.declared.automaton.Kind.TheVariants.{Input, Output, Internal}
use Rattle.io_automata.specs.declared.automaton.Param.{Param}
use Rattle.io_automata.specs.declared.automaton.Param.TheVariants.{Const, Member, Between, Whole}
use Rattle.io_automata.specs.Automata.{Transition, Instance, component_at}
use Rattle.io_automata.specs.Compatible.{IsCompatible}
use Rattle.io_automata.specs.Each.{Each, each_map, each_flat_map, each_filter, each_get, each_from, each_weaker, found_at, each_stands, times_in_task}
use Rattle.io_automata.specs.Found.{found_as}
use Rattle.io_automata.specs.Outcomes.{named, tuples, enabled_by, enabled_at, enabled_of, task_of, outcome_of}
use Rattle.io_automata.specs.Signatures.{is_member, fits_one, fits, has, any_as, same_kind, inputs, outputs, internals, acts, controls}
use Rattle.io_automata.specs.Steps.{Joint, applied, is_enabled, entry_in, holds}
use Rattle.io_automata.specs.WellFormed.{IsWellFormed, is_complete, times, all_places, share}

both_true : (a b : Truth) → (a && b) ≡ true → (a ≡ true) × (b ≡ true)
both_true true b h = (refl, h)
both_true false b h = cc

and_true : (a b : Truth) → a ≡ true → b ≡ true → (a && b) ≡ true
and_true a b p q = rw (p, q) refl

pub wraps_not : (low : ℤ) (size k : ℕ) → is_complete (listed.Range low size) ≡ true → k < size → whole (low +ℤ pos k) ≡ low +ℤ pos k
wraps_not low size k complete below = int_wrap_fits w64 (low +ℤ pos k) fit where
  parts : (int_le (neg_ℤ (pos (2 ^ 63))) low ≡ true) × (int_le (low +ℤ pos size) (pos (2 ^ 63)) ≡ true)
  parts = both_true (int_le (neg_ℤ (pos (2 ^ 63))) low) (int_le (low +ℤ pos size) (pos (2 ^ 63))) complete

  least : neg_ℤ (pos (2 ^ 63)) ≤ℤ low
  least = let h = parts.0 in grind (arith, ints)

  most : (low +ℤ pos size) ≤ℤ pos (2 ^ 63)
  most = let h = parts.1 in grind (arith, ints)

  fit : FitsSigned w64 (low +ℤ pos k)
  fit = let a = least in let b = most in omega (arith, ints, a, b, below)

number_member : (low : ℤ) (size k : ℕ) → is_complete (listed.Range low size) ≡ true → k < size → is_member (listed.Range low size) (member (listed.Range low size) k) ≡ true
number_member low size k complete below = rw (wraps_not low size k complete below) (and_true (int_le low (low +ℤ pos k)) (int_lt (low +ℤ pos k) (low +ℤ pos size)) (grind (arith, ints)) (grind (arith, ints)))

named_member : (first size k : ℕ) → is_complete (listed.Enumeration first size) ≡ true → k < size → is_member (listed.Enumeration first size) (member (listed.Enumeration first size) k) ≡ true
named_member first size k complete below =
    let most : first + size ≤ 2 ^ 16 = grind (arith, nat_tests) in
    let same : (first + k) % 2 ^ 16 ≡ first + k = omega arith in
    rw same (and_true (nat_le first (first + k)) (nat_lt (first + k) (first + size)) (grind (arith, nat_tests)) (grind (arith, nat_tests)))

member_fits : (members : Listed) (k : ℕ) → is_complete members ≡ true → k < count members → is_member members (member members k) ≡ true
member_fits listed.Bool k complete below = refl
member_fits (listed.Range low count) k complete below = number_member low count k complete below
member_fits (listed.Enumeration first count) k complete below = named_member first count k complete below

members_fit_from : (members : Listed) (k n : ℕ) → is_complete members ≡ true → k + n ≤ count members → Each (λ m. is_member members m ≡ true) (members_from members k n)
members_fit_from members k zero complete within = tt
members_fit_from members k (suc n) complete within =
    (member_fits members k complete (omega (arith, within)), members_fit_from members (suc k) n complete (omega (arith, within)))

members_fit : (members' : Listed) → is_complete members' ≡ true → Each (λ m. is_member members' m ≡ true) (members members')
members_fit members' complete = members_fit_from members' 0 (count members') complete (omega arith)

-- the parameter's type, if it is listed, has all its members
abbrev pub IsComplete : Param → Type 0
IsComplete (Const n) = Unit {0}
IsComplete (Member members) = is_complete members ≡ true
IsComplete (Between low high) = Unit {0}
IsComplete Whole = Unit {0}

-- the tuples fit the parameters
tuples_fit : (formals : List Scalar) (params : List Param) → Each IsComplete params → Each (λ args. fits formals params args ≡ true) (tuples formals params)
tuples_fit formals [] complete = (refl, tt)
tuples_fit formals (Const n ∷ params) complete =
    each_map (λ args. fits formals (Const n ∷ params) args ≡ true) (λ args. slot formals n ∷ args) (tuples formals params)
    (each_weaker (λ args. fits formals params args ≡ true) (λ args. fits formals (Const n ∷ params) (slot formals n ∷ args) ≡ true) (tuples formals params)
    (λ args h. and_true (fits_one formals (Const n) (slot formals n)) (fits formals params args) (scalar_refl (slot formals n)) h)
    (tuples_fit formals params complete.1))
tuples_fit formals (Member listed ∷ params) complete =
    each_flat_map (λ args. fits formals (Member listed ∷ params) args ≡ true) (λ m. map (λ args. m ∷ args) (tuples formals params)) (members listed)
    (each_weaker (λ m. is_member listed m ≡ true) (λ m. Each (λ args. fits formals (Member listed ∷ params) args ≡ true) (map (λ args. m ∷ args) (tuples formals params))) (members listed)
    (one (tuples_fit formals params complete.1))
    (members_fit listed complete.0)) where
      one : Each (λ args. fits formals params args ≡ true) (tuples formals params) → (m : Scalar) → is_member listed m ≡ true → Each (λ args. fits formals (Member listed ∷ params) args ≡ true) (map (λ args. m ∷ args) (tuples formals params))
      one rest m is =
          each_map (λ args. fits formals (Member listed ∷ params) args ≡ true) (λ args. m ∷ args) (tuples formals params)
          (each_weaker (λ args. fits formals params args ≡ true) (λ args. fits formals (Member listed ∷ params) (m ∷ args) ≡ true) (tuples formals params)
          (λ args h. and_true (is_member listed m) (fits formals params args) is h) rest)
tuples_fit formals (Between low high ∷ params) complete = tt
tuples_fit formals (Whole ∷ params) complete = tt

same_name : (n : ℕ) → (n == n) ≡ true
same_name n = grind (arith, nat_tests)

-- an entry stands for the action, and its precondition holds
pub record IsMade (formals : List Scalar) (state : List Datum) (entry : Transition) (action : Named) : Type 0 where
  pub has : has formals action entry ≡ true
  pub holding : holds entry formals state action.args ≡ true

pub entry_makes : (formals : List Scalar) (state : List Datum) (entry : Transition) → Each IsComplete entry.params → Each (IsMade formals state entry) (enabled_by formals state (Some entry))
entry_makes formals state entry complete =
    each_map (IsMade formals state entry) (named entry.name) (filter (holds entry formals state) (tuples formals entry.params))
    (each_filter (λ args. IsMade formals state entry (named entry.name args)) (holds entry formals state) (tuples formals entry.params)
    (each_weaker (λ args. fits formals entry.params args ≡ true) (λ args. holds entry formals state args ≡ true → IsMade formals state entry (named entry.name args)) (tuples formals entry.params)
    (λ args fit holding. record { has = and_true (entry.name == entry.name) (fits formals entry.params args) (same_name entry.name) fit; holding = holding })
    (tuples_fit formals entry.params complete)))

-- an action that a task of a component offers: an entry that is locally controlled has it, and its precondition holds
pub record IsOffered (component : Instance) (state : List Datum) (action : Named) : Type 0 where
  pub entry : Transition
  pub place : ℕ
  pub at : slice_get component.entries place ≡ Some entry
  pub local : same_kind Input entry.kind ≡ false
  pub has : has component.formals action entry ≡ true
  pub holding : holds entry component.formals state action.args ≡ true

entry_offers : (component : Instance) (state : List Datum) (place : ℕ) (entry : Transition) → slice_get component.entries place ≡ Some entry → same_kind Input entry.kind ≡ false → Each IsComplete entry.params → Each (IsOffered component state) (enabled_by component.formals state (Some entry))
entry_offers component state place entry at local complete =
    each_weaker (IsMade component.formals state entry) (IsOffered component state) (enabled_by component.formals state (Some entry))
    (λ action made. record { entry = entry; place = place; at = at; local = local; has = made.has; holding = made.holding })
    (entry_makes component.formals state entry complete)

pub local_from : (a : Truth) → 1 ≤ cond a 0 1 → a ≡ false
local_from true h = absurd (omega (arith, h))
local_from false h = refl

module _ (composition : List Instance) (formed : IsWellFormed composition) where
  pub complete_at : (i place : ℕ) (entry : Transition) → slice_get (component_at composition i).entries place ≡ Some entry → Each IsComplete entry.params
  complete_at i place entry at = each_from IsComplete entry.params (λ k param found. go param k found) where
    go : (param : Param) (k : ℕ) → slice_get entry.params k ≡ Some param → IsComplete param
    go (Const n) k found = tt
    go (Member members) k found = formed.complete i place k entry members at found
    go (Between low high) k found = tt
    go Whole k found = tt

  place_offers : (i : ℕ) (state : List Datum) (place : ℕ) → 1 ≤ times place (all_places (component_at composition i).tasks) → Each (IsOffered (component_at composition i) state) (enabled_at composition i state place)
  place_offers i state place stands = go (slice_get (component_at composition i).entries place) refl (subst (λ (n : ℕ). 1 ≤ n) (formed.tasks i place) stands) where
    go : (found : Option Transition) → slice_get (component_at composition i).entries place ≡ found → 1 ≤ share (slice_get (component_at composition i).entries place) → Each (IsOffered (component_at composition i) state) (enabled_by (component_at composition i).formals state (slice_get (component_at composition i).entries place))
    go None is once = rw is tt
    go (Some entry) is once =
        let local : same_kind Input entry.kind ≡ false = local_from (same_kind Input entry.kind) (subst (λ (found : Option Transition). 1 ≤ share found) is once) in
        rw is (entry_offers (component_at composition i) state place entry is local (complete_at i place entry is))

  all_offered : (i task : ℕ) (state : List Datum) → Each (IsOffered (component_at composition i) state) (enabled_of composition i task state)
  all_offered i task state =
      each_flat_map (IsOffered (component_at composition i) state) (enabled_at composition i state) (task_of composition i task)
      (each_weaker (λ n. 1 ≤ times n (task_of composition i task)) (λ n. Each (IsOffered (component_at composition i) state) (enabled_at composition i state n)) (task_of composition i task)
      (λ n stands. place_offers i state n (omega (arith, stands, times_in_task n (component_at composition i).tasks task)))
      (each_stands (task_of composition i task)))

  pub outcome_offered : (i task choice : ℕ) (state : List Datum) (action : Named) → outcome_of composition i task choice state ≡ Some action → IsOffered (component_at composition i) state action
  outcome_offered i task choice state action is =
      each_get (IsOffered (component_at composition i) state) (enabled_of composition i task state) (choice % length (enabled_of composition i task state)) action (all_offered i task state) is

  -- the entry that stands for an offered action is the one that offers it
  entry_is : (i : ℕ) (state : List Datum) (action : Named) (offered : IsOffered (component_at composition i) state action) → entry_in (component_at composition i) action ≡ Some offered.entry
  entry_is i state action offered =
      let found = found_at (has (component_at composition i).formals action) (component_at composition i).entries offered.place offered.entry offered.at offered.has in
      let same : found.place ≡ offered.place = formed.single i found.place offered.place found.item offered.entry action found.at offered.at found.passes offered.has in
      found.found ∙ sym found.at ∙ ap (slice_get (component_at composition i).entries) same ∙ offered.at

or_true : (a : Truth) → (a || true) ≡ true
or_true true = refl
or_true false = refl

-- who has no action under any kind has no entry for it
no_entry : (component : Instance) (action : Named) → (any_as Input component action || any_as Output component action || any_as Internal component action) ≡ false → entry_in component action ≡ None
no_entry component action none = go (entry_in component action) refl where
  or_false : (a b c : Truth) → (a || b || c) ≡ false → (a ≡ false) × (b ≡ false) × (c ≡ false)
  or_false true b c h = cc
  or_false false true c h = cc
  or_false false false true h = cc
  or_false false false false h = (refl, refl, refl)

  parts : (any_as Input component action ≡ false) × (any_as Output component action ≡ false) × (any_as Internal component action ≡ false)
  parts = or_false (any_as Input component action) (any_as Output component action) (any_as Internal component action) none

  by_kind : (kind : Kind) → any_as kind component action ≡ false
  by_kind Input = parts.0
  by_kind Output = parts.1
  by_kind Internal = parts.2

  go : (found : Option Transition) → entry_in component action ≡ found → entry_in component action ≡ None
  go None is = is
  go (Some entry) is =
      let had : any_as entry.kind component action ≡ true = found_as component.formals action component.entries entry is in
      let both : ◌≡◌ {A = Truth} false true = sym (by_kind entry.kind) ∙ had in
      cc

controlled : (component : Instance) (action : Named) (kind : Kind) → same_kind Input kind ≡ false → any_as kind component action ≡ true → (any_as Output component action || any_as Internal component action) ≡ true
controlled component action Input local had = cc
controlled component action Output local had = ap (λ b. b || any_as Internal component action) had
controlled component action Internal local had = rw had (or_true (any_as Output component action))

module _ (composition : List Instance) (compatible : IsCompatible composition) where
  acts_from : (i : ℕ) (action : Named) → controls composition i action ≡ true → acts composition i action ≡ true
  acts_from i action h = go (inputs composition i action) (outputs composition i action) (internals composition i action) h where
    go : (a b c : Truth) → (b || c) ≡ true → (a || b || c) ≡ true
    go true b c h = refl
    go false b c h = h

  either : (a b : Truth) → (a || b) ≡ true → (a ≡ true) ⊎ (b ≡ true)
  either true b h = inl refl
  either false b h = inr h

  -- one component alone controls an action
  alone : (i j : ℕ) (action : Named) → i ≢ j → controls composition i action ≡ true → controls composition j action ≡ true → ⊥
  alone i j action other ci cj = go (either (outputs composition i action) (internals composition i action) ci) (either (outputs composition j action) (internals composition j action) cj) where
    go : (outputs composition i action ≡ true) ⊎ (internals composition i action ≡ true) → (outputs composition j action ≡ true) ⊎ (internals composition j action ≡ true) → ⊥
    go (inl a) (inl b) = compatible.own_outputs i j action other a b
    go (inl a) (inr b) = compatible.own_internals j i action (λ e. other (sym e)) b (acts_from i action ci)
    go (inr a) b = compatible.own_internals i j action other a (acts_from j action cj)

same_or_other : (i j : ℕ) → (i ≡ j) ⊎ (i ≢ j)
same_or_other i j = go (i == j) refl where
  go : (b : Truth) → (i == j) ≡ b → (i ≡ j) ⊎ (i ≢ j)
  go true h = inl (grind (arith, nat_tests))
  go false h = inr (λ e. grind (arith, nat_tests))

-- The action that a turn takes is a joint step to the states after its effects.
pub turn_is_step : (composition : List Instance) → IsCompatible composition → IsWellFormed composition → (i task choice : ℕ) (state : ℕ → List Datum) (action : Named) → outcome_of composition i task choice (state i) ≡ Some action → Joint composition state action (λ j. applied composition j action (state j))
turn_is_step composition compatible formed i task choice state action is = record {
  actor = i;
  acting = acts_from composition compatible i action in_control;
  enabled = enabled;
  changes = λ j has. refl;
  stays = stays;
} where
  offered : IsOffered (component_at composition i) (state i) action
  offered = outcome_offered composition formed i task choice (state i) action is

  entry : entry_in (component_at composition i) action ≡ Some offered.entry
  entry = entry_is composition formed i (state i) action offered

  in_control : controls composition i action ≡ true
  in_control = controlled (component_at composition i) action offered.entry.kind offered.local (found_as (component_at composition i).formals action (component_at composition i).entries offered.entry entry)

  here : is_enabled composition i action (state i) ≡ true
  here = rw entry offered.holding

  enabled : (j : ℕ) → controls composition j action ≡ true → is_enabled composition j action (state j) ≡ true
  enabled j control = go (same_or_other i j) where
    go : (i ≡ j) ⊎ (i ≢ j) → is_enabled composition j action (state j) ≡ true
    go (inl same) = subst (λ (k : ℕ). is_enabled composition k action (state k) ≡ true) same here
    go (inr other) = absurd (alone composition compatible i j action other in_control control)

  stays : (j : ℕ) → acts composition j action ≡ false → applied composition j action (state j) ≡ state j
  stays j none = let gone = no_entry (component_at composition j) action none in rw gone refl
