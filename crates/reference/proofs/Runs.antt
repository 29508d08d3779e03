-- The states to which actions lead, and what follows for verdicts.
use Rattle.std.proofs.Common.{◌≡◌, ℕ, zero, suc, ◌<◌, ◌⊎◌, inl, inr, Bool as Truth, true, false, ◌||◌, List, [], ◌∷◌, ◌++◌, take, refl, ap, sym, subst, ◌∙◌, arith, slice_get, Option, None, Some}
use Rattle.std.proofs.lemmas.Bool.{cases_order}
use Rattle.terms.specs.Datum.{Datum}
use Rattle.terms.specs.Named.{Named}
use Rattle.io_automata.specs.declared.automaton.Kind.{Kind}
use Rattle.io_automata.specs.declared.automaton.Kind.TheVariants.{Input, Output, Internal}
use Rattle.io_automata.specs.Automata.{Transition, Instance, component_at}
use Rattle.io_automata.specs.Found.{found_as}
use Rattle.io_automata.specs.Signatures.{any_as, inputs, outputs, internals, acts, controls}
use Rattle.io_automata.specs.Steps.{Joint, Leads, IsSchedule, start_of, is_enabled, applied, entry_in}
use Rattle.reference.specs.declared.checking.Verdict.{Verdict}
use Rattle.reference.specs.declared.checking.Verdict.TheVariants.{Schedule, NotEnabled, NotAnAction}
use Rattle.reference.specs.Verdicts.{IsVerdict, IsForeignAt, IsDisabledAt}

pub no_two : {b : Truth} → b ≡ true → b ≡ false → ⊥
no_two p q = cc

pub or_false : (a b c : Truth) → (a || b || c) ≡ false → (a ≡ false) × (b ≡ false) × (c ≡ false)
or_false true b c h = cc
or_false false true c h = cc
or_false false false true h = cc
or_false false false false h = (refl, refl, refl)

pub wider : (a b c : Truth) → (b || c) ≡ true → (a || b || c) ≡ true
wider true b c h = refl
wider false b c h = h

-- what a component hasn't, changes nothing in it
pub stays : (composition : List Instance) (i : ℕ) (action : Named) (state : List Datum) → acts composition i action ≡ false → applied composition i action state ≡ state
stays composition i action state none = go (entry_in component action) refl where
  component : Instance
  component = component_at composition i

  parts : (any_as Input component action ≡ false) × (any_as Output component action ≡ false) × (any_as Internal component action ≡ false)
  parts = or_false (any_as Input component action) (any_as Output component action) (any_as Internal component action) none

  by_kind : (kind : Kind) → any_as kind component action ≡ false
  by_kind Input = parts.0
  by_kind Output = parts.1
  by_kind Internal = parts.2

  go : (found : Option Transition) → entry_in component action ≡ found → applied composition i action state ≡ state
  go None is = rw is refl
  go (Some entry) is = absurd (no_two (found_as component.formals action component.entries entry is) (by_kind entry.kind))

-- a joint step changes each state by the action
joint_applied : (composition : List Instance) (old : ℕ → List Datum) (action : Named) (new : ℕ → List Datum) → Joint composition old action new → (i : ℕ) → new i ≡ applied composition i action (old i)
joint_applied composition old action new joint i = go (acts composition i action) refl where
  go : (has : Truth) → acts composition i action ≡ has → new i ≡ applied composition i action (old i)
  go true h = joint.changes i h
  go false h = joint.stays i h ∙ sym (stays composition i action (old i) h)

-- the states after these actions
abbrev run : List Instance → (ℕ → List Datum) → List Named → ℕ → List Datum
run composition old [] = old
run composition old (action ∷ actions) = run composition (λ i. applied composition i action (old i)) actions

leads_run : (composition : List Instance) (old : ℕ → List Datum) (actions : List Named) (new : ℕ → List Datum) → Leads composition old actions new → (i : ℕ) → new i ≡ run composition old actions i
leads_run composition old [] new leads i = leads i
leads_run composition old (action ∷ actions) new (between, joint, rest) i =
    let same : between ≡ (λ j. applied composition j action (old j)) = λ d j. joint_applied composition old action between joint j d in
    leads_run composition between actions new rest i ∙ ap (λ (states : ℕ → List Datum). run composition states actions i) same

-- the same actions lead to the same states
same_states : (composition : List Instance) (old : ℕ → List Datum) (actions : List Named) (a b : ℕ → List Datum) → Leads composition old actions a → Leads composition old actions b → a ≡ b
same_states composition old actions a b to_a to_b =
    λ d i. (leads_run composition old actions a to_a i ∙ sym (leads_run composition old actions b to_b i)) d

-- one joint step more
pub leads_more : (composition : List Instance) (old : ℕ → List Datum) (actions : List Named) (mid : ℕ → List Datum) (action : Named) (new : ℕ → List Datum)
    → Leads composition old actions mid → Joint composition mid action new → Leads composition old (actions ++ action ∷ []) new
leads_more composition old [] mid action new leads joint =
    let same : mid ≡ old = λ d i. leads i d in
    (new, subst (λ (states : ℕ → List Datum). Joint composition states action new) same joint, λ i. refl)
leads_more composition old (first ∷ actions) mid action new (between, step, rest) joint =
    (between, step, leads_more composition between actions mid action new rest joint)

-- the joint step of an action within a schedule, and what stands before it
record Reaches (composition : List Instance) (old : ℕ → List Datum) (actions : List Named) (at : ℕ) (action : Named) : Type 0 where
  pub states : ℕ → List Datum
  pub leads : Leads composition old (take at actions) states
  pub after : ℕ → List Datum
  pub joint : Joint composition states action after

reaches : (composition : List Instance) (old : ℕ → List Datum) (actions : List Named) (new : ℕ → List Datum) (at : ℕ) (action : Named)
    → Leads composition old actions new → slice_get actions at ≡ Some action → Reaches composition old actions at action
reaches composition old [] new at action leads there = cc
reaches composition old (first ∷ actions) new zero action (between, step, rest) there =
    let same : first ≡ action = cc in
    record { states = old; leads = λ i. refl; after = between; joint = subst (λ (a : Named). Joint composition old a between) same step }
reaches composition old (first ∷ actions) new (suc at) action (between, step, rest) there =
    let later = reaches composition between actions new at action rest there in
    record { states = later.states; leads = (between, step, later.leads); after = later.after; joint = later.joint }

-- no fault stands in a schedule
no_foreign : (composition : List Instance) (actions : List Named) (at : ℕ) → IsSchedule composition actions → IsForeignAt composition actions at → ⊥
no_foreign composition actions at (new, leads) fault =
    let reached = reaches composition (start_of composition) actions new at fault.action leads fault.there in
    no_two reached.joint.acting (fault.foreign reached.joint.actor)

no_disabled : (composition : List Instance) (actions : List Named) (at : ℕ) → IsSchedule composition actions → IsDisabledAt composition actions at → ⊥
no_disabled composition actions at (new, leads) fault =
    let reached = reaches composition (start_of composition) actions new at fault.action leads fault.there in
    let same : reached.states ≡ fault.states = same_states composition (start_of composition) (take at actions) reached.states fault.states reached.leads fault.reached in
    let controller = fault.barred.controller in
    let enabled : is_enabled composition controller fault.action (fault.states controller) ≡ true =
    subst (λ (states : ℕ → List Datum). is_enabled composition controller fault.action (states controller) ≡ true) same (reached.joint.enabled controller fault.barred.in_control) in
    no_two enabled fault.barred.disabled

-- a beginning has the same items, and the same beginnings
get_take : {X : Type 0} (xs : List X) (n at : ℕ) → at < n → slice_get (take n xs) at ≡ slice_get xs at
get_take xs zero at below = absurd (omega (arith, below))
get_take [] (suc n) at below = refl
get_take (x ∷ xs) (suc n) zero below = refl
get_take (x ∷ xs) (suc n) (suc at) below = get_take xs n at (omega (arith, below))

take_take : {X : Type 0} (xs : List X) (n at : ℕ) → at < n → take at (take n xs) ≡ take at xs
take_take xs zero at below = absurd (omega (arith, below))
take_take xs (suc n) zero below = refl
take_take [] (suc n) (suc at) below = refl
take_take (x ∷ xs) (suc n) (suc at) below = ap (λ ys. x ∷ ys) (take_take xs n at (omega (arith, below)))

foreign_within : (composition : List Instance) (actions : List Named) (at n : ℕ) → at < n → IsForeignAt composition actions at → IsForeignAt composition (take n actions) at
foreign_within composition actions at n below fault = record {
  action = fault.action;
  there = get_take actions n at below ∙ fault.there;
  before = subst (IsSchedule composition) (sym (take_take actions n at below)) fault.before;
  foreign = fault.foreign;
}

disabled_within : (composition : List Instance) (actions : List Named) (at n : ℕ) → at < n → IsDisabledAt composition actions at → IsDisabledAt composition (take n actions) at
disabled_within composition actions at n below fault = record {
  action = fault.action;
  there = get_take actions n at below ∙ fault.there;
  states = fault.states;
  reached = subst (λ (before : List Named). Leads composition (start_of composition) before fault.states) (sym (take_take actions n at below)) fault.reached;
  barred = fault.barred;
}

-- what stands before a disabled action is a schedule
before_disabled : (composition : List Instance) (actions : List Named) (at : ℕ) → IsDisabledAt composition actions at → IsSchedule composition (take at actions)
before_disabled composition actions at fault = (fault.states, fault.reached)

controls_acts : (composition : List Instance) (i : ℕ) (action : Named) → controls composition i action ≡ true → acts composition i action ≡ true
controls_acts composition i action h = wider (inputs composition i action) (outputs composition i action) (internals composition i action) h

some_is : {x y : Named} → Some x ≡ Some y → x ≡ y
some_is e = cc

-- one place isn't both of no component and without its precondition
apart : (composition : List Instance) (actions : List Named) (at : ℕ) → IsForeignAt composition actions at → IsDisabledAt composition actions at → ⊥
apart composition actions at foreign disabled =
    let same : foreign.action ≡ disabled.action = some_is (sym foreign.there ∙ disabled.there) in
    let controller = disabled.barred.controller in
    let has : acts composition controller foreign.action ≡ true =
    subst (λ (action : Named). acts composition controller action ≡ true) (sym same) (controls_acts composition controller disabled.action disabled.barred.in_control) in
    no_two has (foreign.foreign controller)

-- there is one first fault
module _ (composition : List Instance) (actions : List Named) where
  by_order : (a b : ℕ) → (a < b → ⊥) → (b < a → ⊥) → a ≡ b
  by_order a b not_less not_greater = go (cases_order a b) where
    go : (a ≡ b) ⊎ ((a < b) ⊎ (b < a)) → a ≡ b
    go (inl same) = same
    go (inr (inl less)) = absurd (not_less less)
    go (inr (inr greater)) = absurd (not_greater greater)

  foreign_later : (a b : ℕ) → IsForeignAt composition actions a → IsSchedule composition (take b actions) → a < b → ⊥
  foreign_later a b fault before below = no_foreign composition (take b actions) a before (foreign_within composition actions a b below fault)

  disabled_later : (a b : ℕ) → IsDisabledAt composition actions a → IsSchedule composition (take b actions) → a < b → ⊥
  disabled_later a b fault before below = no_disabled composition (take b actions) a before (disabled_within composition actions a b below fault)

  both_foreign : (a b : ℕ) → IsForeignAt composition actions a → IsForeignAt composition actions b → a ≡ b
  both_foreign a b one other = by_order a b (foreign_later a b one other.before) (foreign_later b a other one.before)

  both_disabled : (a b : ℕ) → IsDisabledAt composition actions a → IsDisabledAt composition actions b → a ≡ b
  both_disabled a b one other = by_order a b (disabled_later a b one (before_disabled composition actions b other)) (disabled_later b a other (before_disabled composition actions a one))

  not_both : (a b : ℕ) → IsForeignAt composition actions a → IsDisabledAt composition actions b → ⊥
  not_both a b foreign disabled =
      let same : a ≡ b = by_order a b (foreign_later a b foreign (before_disabled composition actions b disabled)) (disabled_later b a disabled foreign.before) in
      apart composition actions b (subst (IsForeignAt composition actions) same foreign) disabled

  pub one_verdict : (a b : Verdict) → IsVerdict composition actions a → IsVerdict composition actions b → a ≡ b
  one_verdict Schedule Schedule p q = refl
  one_verdict Schedule (NotEnabled b) p q = absurd (no_disabled composition actions b p q)
  one_verdict Schedule (NotAnAction b) p q = absurd (no_foreign composition actions b p q)
  one_verdict (NotEnabled a) Schedule p q = absurd (no_disabled composition actions a q p)
  one_verdict (NotEnabled a) (NotEnabled b) p q = ap NotEnabled (both_disabled a b p q)
  one_verdict (NotEnabled a) (NotAnAction b) p q = absurd (not_both b a q p)
  one_verdict (NotAnAction a) Schedule p q = absurd (no_foreign composition actions a q p)
  one_verdict (NotAnAction a) (NotEnabled b) p q = absurd (not_both a b p q)
  one_verdict (NotAnAction a) (NotAnAction b) p q = ap NotAnAction (both_foreign a b p q)
