-- Whoever has a turn that comes to an action may send to all that receive it.
use Rattle.std.specs.Prelude.{◌≡◌, ℕ, ◌==◌, Bool, true, false, not, ◌&&◌, ◌||◌, List, [], ◌∷◌, map, Some, slice_get, zero, suc, refl}
use Rattle.std.specs.List.{list_any}
use Rattle.std.proofs.Common.{arith, ap, sym, subst, ◌∙◌}
use Rattle.std.proofs.lemmas.Bool.{eqb-true}
use Rattle.std.proofs.lemmas.Grind.{common_steps}
use Rattle.terms.specs.Datum.{Datum}
use Rattle.terms.specs.Named.{Named}
use Rattle.terms.specs.Meaning.{slot}
use Rattle.terms.specs.Same.{scalar_is}
use Rattle.terms.specs.SameTreeLaws.{both_true, both_by}
use Rattle.terms.specs.declared.scalar.Scalar.{Scalar}
use Rattle.terms.specs.declared.scalar.Scalar.TheVariants as scalar
use Rattle.terms.specs.declared.scalar.Listed.{Listed}
use Rattle.terms.specs.declared.scalar.Listed.TheVariants as listed
use Rattle.io_automata.specs.Automata.{Transition, Instance, component_at, transition_of}
use Rattle.io_automata.specs.Signatures.{fits, fits_one, has, has_as, inputs, is_member, receives, same_kind}
use Rattle.io_automata.specs.TurnSteps.{IsOffered}
use Rattle.io_automata.specs.WellFormed.{IsWellFormed}
use Rattle.io_automata.specs.declared.automaton.Entry.{Entry}
use Rattle.io_automata.specs.declared.automaton.Kind.TheVariants.{Input}
use Rattle.io_automata.specs.declared.automaton.Param.{Param}
use Rattle.io_automata.specs.declared.automaton.Param.TheVariants.{Const, Member, Between, Whole}
use Rattle.senders.specs.Meeting.{do_listed_meet, gives_one, may_all_meet, may_give, may_meet, may_send, may_take}

-- a member of both
members_meet : (one other : Listed) (value : Scalar) → is_member one value ≡ true → is_member other value ≡ true → do_listed_meet one other ≡ true
members_meet listed.Bool listed.Bool value h k = refl
members_meet listed.Bool (listed.Range low count) (scalar.Int z) h k = cc
members_meet listed.Bool (listed.Range low count) (scalar.Bool b) h k = cc
members_meet listed.Bool (listed.Range low count) (scalar.Member n) h k = cc
members_meet listed.Bool (listed.Enumeration first count) (scalar.Int z) h k = cc
members_meet listed.Bool (listed.Enumeration first count) (scalar.Bool b) h k = cc
members_meet listed.Bool (listed.Enumeration first count) (scalar.Member n) h k = cc
members_meet (listed.Range low count) listed.Bool (scalar.Int z) h k = cc
members_meet (listed.Range low count) listed.Bool (scalar.Bool b) h k = cc
members_meet (listed.Range low count) listed.Bool (scalar.Member n) h k = cc
members_meet (listed.Range low count) (listed.Range bottom many) (scalar.Int z) h k = grind (arith, common_steps, h, k)
members_meet (listed.Range low count) (listed.Range bottom many) (scalar.Bool b) h k = cc
members_meet (listed.Range low count) (listed.Range bottom many) (scalar.Member n) h k = cc
members_meet (listed.Range low count) (listed.Enumeration first many) (scalar.Int z) h k = cc
members_meet (listed.Range low count) (listed.Enumeration first many) (scalar.Bool b) h k = cc
members_meet (listed.Range low count) (listed.Enumeration first many) (scalar.Member n) h k = cc
members_meet (listed.Enumeration first count) listed.Bool (scalar.Int z) h k = cc
members_meet (listed.Enumeration first count) listed.Bool (scalar.Bool b) h k = cc
members_meet (listed.Enumeration first count) listed.Bool (scalar.Member n) h k = cc
members_meet (listed.Enumeration first count) (listed.Range low many) (scalar.Int z) h k = cc
members_meet (listed.Enumeration first count) (listed.Range low many) (scalar.Bool b) h k = cc
members_meet (listed.Enumeration first count) (listed.Range low many) (scalar.Member n) h k = cc
members_meet (listed.Enumeration first count) (listed.Enumeration begin many) (scalar.Int z) h k = cc
members_meet (listed.Enumeration first count) (listed.Enumeration begin many) (scalar.Bool b) h k = cc
members_meet (listed.Enumeration first count) (listed.Enumeration begin many) (scalar.Member n) h k = grind (arith, common_steps, h, k)

-- a value that fits both
met : (formals others : List Scalar) (param other : Param) (value : Scalar) → fits_one formals param value ≡ true → fits_one others other value ≡ true → may_meet formals param others other ≡ true
met formals others (Const n) other value h k = let same : slot formals n ≡ value = scalar_is (slot formals n) value h in subst (λ v. fits_one others other v ≡ true) (sym same) k
met formals others (Member listed) (Const m) value h k = let same : slot others m ≡ value = scalar_is (slot others m) value k in subst (λ v. is_member listed v ≡ true) (sym same) h
met formals others (Member listed) (Member another) value h k = members_meet listed another value h k
met formals others (Member listed) (Between low high) value h k = refl
met formals others (Member listed) Whole value h k = refl
met formals others (Between low high) (Const m) value h k = let same : slot others m ≡ value = scalar_is (slot others m) value k in subst (λ v. fits_one formals (Between low high) v ≡ true) (sym same) h
met formals others (Between low high) (Member listed) value h k = refl
met formals others (Between low high) (Between bottom top) value h k = refl
met formals others (Between low high) Whole value h k = refl
met formals others Whole (Const m) value h k = let same : slot others m ≡ value = scalar_is (slot others m) value k in subst (λ v. fits_one formals Whole v ≡ true) (sym same) h
met formals others Whole (Member listed) value h k = refl
met formals others Whole (Between low high) value h k = refl
met formals others Whole Whole value h k = refl

all_met : (formals others : List Scalar) (params more : List Param) (args : List Scalar) → fits formals params args ≡ true → fits others more args ≡ true → may_all_meet formals params others more ≡ true
all_met formals others [] [] args h k = refl
all_met formals others [] (other ∷ more) [] h k = cc
all_met formals others [] (other ∷ more) (value ∷ args) h k = cc
all_met formals others (param ∷ params) [] [] h k = cc
all_met formals others (param ∷ params) [] (value ∷ args) h k = cc
all_met formals others (param ∷ params) (other ∷ more) [] h k = cc
all_met formals others (param ∷ params) (other ∷ more) (value ∷ args) h k =
    let one = both_true (fits_one formals param value) (fits formals params args) h in
    let two = both_true (fits_one others other value) (fits others more args) k in
    both_by (may_meet formals param others other) (may_all_meet formals params others more) (met formals others param other value one.0 two.0) (all_met formals others params more args one.1 two.1)

-- an action that an entry stands for, and that an input takes
taken : (formals others : List Scalar) (entry input : Transition) (action : Named) → has formals action entry ≡ true → has_as Input others action input ≡ true → may_take formals entry others input ≡ true
taken formals others entry input action h k =
    let one = both_true (entry.name == action.name) (fits formals entry.params action.args) h in
    let two = both_true (same_kind Input input.kind) (has others action input) k in
    let three = both_true (input.name == action.name) (fits others input.params action.args) two.1 in
    let name : entry.name ≡ action.name = eqb-true entry.name action.name one.0 in
    let meet = all_met formals others entry.params input.params action.args one.1 three.1 in
    let named : (input.name == entry.name) ≡ true = subst (λ n. (input.name == n) ≡ true) (sym name) three.0 in
    both_by (same_kind Input input.kind) ((input.name == entry.name) && may_all_meet formals entry.params others input.params) two.0 (both_by (input.name == entry.name) (may_all_meet formals entry.params others input.params) named meet)

module _ {A : Type 0} where
  any_weaker : (p q : A → Bool) → ((x : A) → p x ≡ true → q x ≡ true) → (xs : List A) → list_any p xs ≡ true → list_any q xs ≡ true
  any_weaker p q weaker [] h = cc
  any_weaker p q weaker (x ∷ xs) h = go (any_weaker p q weaker xs) (p x) refl h (q x) refl where
    go : (list_any p xs ≡ true → list_any q xs ≡ true) → (a : Bool) → p x ≡ a → (a || list_any p xs) ≡ true → (b : Bool) → q x ≡ b → (b || list_any q xs) ≡ true
    go later a is any true at = refl
    go later true is any false at = let both : ◌≡◌ {A = Bool} false true = sym at ∙ weaker x is in cc
    go later false is any false at = later any

  any_at : (p : A → Bool) (xs : List A) (k : ℕ) (x : A) → slice_get xs k ≡ Some x → p x ≡ true → list_any p xs ≡ true
  any_at p [] k x at passes = cc
  any_at p (y ∷ ys) zero x at passes = let same : y ≡ x = cc in ap (λ b. b || list_any p ys) (ap p same ∙ passes)
  any_at p (y ∷ ys) (suc k) x at passes = last (p y) (any_at p ys k x at passes) where
    last : (b : Bool) → list_any p ys ≡ true → (b || list_any p ys) ≡ true
    last true h = refl
    last false h = h

any_map : {A B : Type 0} (p : B → Bool) (f : A → B) (xs : List A) → list_any (λ x. p (f x)) xs ≡ list_any p (map f xs)
any_map p f [] = refl
any_map p f (x ∷ xs) = ap (λ b. p (f x) || b) (any_map p f xs)

-- entries as the code has them
pub reach_is : (formals others : List Scalar) (inputs entries : List Entry) → list_any (gives_one formals others inputs) entries ≡ list_any (may_give formals others (map transition_of inputs)) (map transition_of entries)
reach_is formals others inputs [] = refl
reach_is formals others inputs (entry ∷ entries) =
    let here = any_map (may_take formals (transition_of entry) others) transition_of inputs in
    let later = reach_is formals others inputs entries in
    λ i. (not (same_kind Input entry.kind) && here i) || later i

module _ (composition : List Instance) (formed : IsWellFormed composition) where
  pub offered_by : (i j task choice : ℕ) (state : List Datum) (action : Named) → IsOffered (component_at composition i) state action → receives composition i action j ≡ true → may_send composition j i ≡ true
  offered_by i j task choice state action offered takes =
      let one = component_at composition i in
      let other = component_at composition j in
      let parts = both_true (not (j == i)) (inputs composition j action) takes in
      let any = any_weaker (has_as Input other.formals action) (may_take one.formals offered.entry other.formals) (λ input had. taken one.formals other.formals offered.entry input action offered.has had) other.entries parts.1 in
      let gives = both_by (not (same_kind Input offered.entry.kind)) (list_any (may_take one.formals offered.entry other.formals) other.entries) (ap not offered.local) any in
      both_by (not (j == i)) (list_any (may_give one.formals other.formals other.entries) one.entries) parts.0 (any_at (may_give one.formals other.formals other.entries) one.entries offered.place offered.entry offered.at gives)
