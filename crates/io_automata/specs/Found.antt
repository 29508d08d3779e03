-- Where an entry is found, that its kind is the action's kind.
use Rattle.std.specs.Prelude.{◌≡◌, ℕ, Bool, true, false, ◌||◌, ◌&&◌, cond, List, [], ◌∷◌, map, find, Option, None, Some, refl}
use Rattle.std.specs.Option.{option_map}
use Rattle.std.specs.List.{list_any}
use Rattle.std.proofs.Common.{ap, ◌∙◌, sym}
use Rattle.terms.specs.Named.{Named}
use Rattle.terms.specs.declared.scalar.Scalar.{Scalar}
use Rattle.io_automata.specs.declared.automaton.Kind.{Kind}
use Rattle.io_automata.specs.declared.automaton.Kind.TheVariants.{Input, Output, Internal}
use Rattle.io_automata.specs.Automata.{Transition, Instance, component_at, transition_of}
use Rattle.io_automata.specs.Signatures.{has, has_as, same_kind, any_as, kind_in}
use Rattle.io_automata.specs.Steps.{entry_in}
use Rattle.io_automata.specs.Compatible.{IsCompatible}
use Rattle.io_automata.specs.declared.automaton.Entry.{Entry}

-- what is found in a list's image is the image of what is found
pub find-map : {A B : Type 0} (f : A → B) (test : B → Bool) (xs : List A) → find test (map f xs) ≡ option_map f (find (λ x. test (f x)) xs)
find-map f test [] = refl
find-map f test (x ∷ xs) = go (find-map f test xs) (test (f x)) where
  go : find test (map f xs) ≡ option_map f (find (λ x. test (f x)) xs) → (b : Bool) → cond b (Some (f x)) (find test (map f xs)) ≡ option_map f (cond b (Some x) (find (λ x. test (f x)) xs))
  go rest true = refl
  go rest false = rest

abbrev pub kind_found : Option Transition → Option Kind
kind_found None = None
kind_found (Some entry) = Some entry.kind

same_self : (kind : Kind) → same_kind kind kind ≡ true
same_self Input = refl
same_self Output = refl
same_self Internal = refl

or_true : (b : Bool) → (b || true) ≡ true
or_true true = refl
or_true false = refl

and_false : (b : Bool) → ((b && false) || false) ≡ false
and_false true = refl
and_false false = refl

-- an entry that is found is of a kind under which the action is had
pub found_as : (formals : List Scalar) (action : Named) (entries : List Transition) (entry : Transition) → find (has formals action) entries ≡ Some entry → list_any (has_as entry.kind formals action) entries ≡ true
found_as formals action [] entry found = cc
found_as formals action (e ∷ es) entry found = go (λ f. found_as formals action es entry f) (has formals action e) refl found where
  go : (find (has formals action) es ≡ Some entry → list_any (has_as entry.kind formals action) es ≡ true) → (b : Bool) → has formals action e ≡ b → cond b (Some e) (find (has formals action) es) ≡ Some entry → (has_as entry.kind formals action e || list_any (has_as entry.kind formals action) es) ≡ true
  go rest true h f =
      let same : e ≡ entry = cc in
      let here : has_as entry.kind formals action e ≡ true = ap (λ x. has_as x.kind formals action e) (sym same) ∙ ap (λ b. b && has formals action e) (same_self e.kind) ∙ h in
      ap (λ b. b || list_any (has_as entry.kind formals action) es) here
  go rest false h f =
      let later : list_any (has_as entry.kind formals action) es ≡ true = rest f in
      rw later (or_true (has_as entry.kind formals action e))

-- where none is found, the action is had under no kind
none_as : (formals : List Scalar) (action : Named) (kind : Kind) (entries : List Transition) → find (has formals action) entries ≡ None → list_any (has_as kind formals action) entries ≡ false
none_as formals action kind [] found = refl
none_as formals action kind (e ∷ es) found = go (λ f. none_as formals action kind es f) (has formals action e) refl found where
  go : (find (has formals action) es ≡ None → list_any (has_as kind formals action) es ≡ false) → (b : Bool) → has formals action e ≡ b → cond b (Some e) (find (has formals action) es) ≡ None → (has_as kind formals action e || list_any (has_as kind formals action) es) ≡ false
  go rest true h f = cc
  go rest false h f = let later : list_any (has_as kind formals action) es ≡ false = rest f in rw (h, later) (and_false (same_kind kind e.kind))

pub record IsDisjoint (component : Instance) (action : Named) : Type 0 where
  pub input_output : any_as Input component action ≡ true → any_as Output component action ≡ true → ⊥
  pub input_internal : any_as Input component action ≡ true → any_as Internal component action ≡ true → ⊥
  pub output_internal : any_as Output component action ≡ true → any_as Internal component action ≡ true → ⊥

-- the kind of the entry that is found is the kind under which the component has the action
pub kind-entry_in : (component : Instance) (action : Named) → IsDisjoint component action → kind_found (entry_in component action) ≡ kind_in component action
kind-entry_in component action disjoint = go (entry_in component action) refl where
  by_kind : (entry : Transition) (kind : Kind) → entry.kind ≡ kind → entry_in component action ≡ Some entry → Some kind ≡ kind_in component action
  by_kind entry Input is found =
      let input : any_as Input component action ≡ true = ap (λ k. any_as k component action) (sym is) ∙ found_as component.formals action component.entries entry found in
      rw input refl
  by_kind entry Output is found = with_input (any_as Input component action) refl where
    output : any_as Output component action ≡ true
    output = ap (λ k. any_as k component action) (sym is) ∙ found_as component.formals action component.entries entry found

    with_input : (b : Bool) → any_as Input component action ≡ b → Some Output ≡ kind_in component action
    with_input true h = absurd (disjoint.input_output h output)
    with_input false h = rw (h, output) refl
  by_kind entry Internal is found = with_input (any_as Input component action) refl (any_as Output component action) refl where
    internal : any_as Internal component action ≡ true
    internal = ap (λ k. any_as k component action) (sym is) ∙ found_as component.formals action component.entries entry found

    with_input : (b : Bool) → any_as Input component action ≡ b → (d : Bool) → any_as Output component action ≡ d → Some Internal ≡ kind_in component action
    with_input true h d i = absurd (disjoint.input_internal h internal)
    with_input false h true i = absurd (disjoint.output_internal i internal)
    with_input false h false i = rw (h, i, internal) refl

  go : (found : Option Transition) → entry_in component action ≡ found → kind_found found ≡ kind_in component action
  go None is = rw (none_as component.formals action Input component.entries is, none_as component.formals action Output component.entries is, none_as component.formals action Internal component.entries is) refl
  go (Some entry) is = by_kind entry entry.kind refl is

-- what is found among a component's entries, wherever they lie in memory, is the entry that stands for the action
pub entry_found : (component : Instance) (action : Named) (formals : List Scalar) (entries : List Entry) → component.formals ≡ formals → component.entries ≡ map transition_of entries → option_map transition_of (find (λ entry. has formals action (transition_of entry)) entries) ≡ entry_in component action
entry_found component action formals entries f e =
    sym (find-map transition_of (has formals action) entries)
    ∙ (λ i. find (has (sym f i) action) (sym e i))

pub disjoint_at : (composition : List Instance) → IsCompatible composition → (i : ℕ) (action : Named) → IsDisjoint (component_at composition i) action
disjoint_at composition compatible i action = record {
  input_output = compatible.input_output i action;
  input_internal = compatible.input_internal i action;
  output_internal = compatible.output_internal i action;
}
