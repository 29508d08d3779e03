-- An action is external exactly where some component has it as an input or an output, and it isn't an output whose name is hidden.
use Rattle.std.specs.Prelude.{◌≡◌, ℕ, Bool, true, false, not, ◌||◌, ◌&&◌, List, [], ◌∷◌, refl, length, if◌then◌else◌, Some, None}
use Rattle.std.specs.List.{list_any, range_with_len}
use Rattle.std.proofs.Common.{ap, ◌∙◌}
use Rattle.terms.specs.Named.{Named}
use Rattle.io_automata.specs.declared.automaton.Kind.TheVariants.{Input, Output, Internal}
use Rattle.io_automata.specs.Automata.{Instance, component_at}
use Rattle.io_automata.specs.Compatible.{IsCompatible}
use Rattle.io_automata.specs.Signatures.{any_as, kind_in, kind_of, is_open, is_output, inputs, outputs, some_component, given_out, is_external}

open_kind : (component : Instance) (action : Named) → is_open (kind_in component action) ≡ (any_as Input component action || any_as Output component action)
open_kind component action = go (any_as Input component action) (any_as Output component action) (any_as Internal component action) where
  go : (a b c : Bool) → is_open (if a then Some Input else if b then Some Output else if c then Some Internal else None) ≡ (a || b)
  go true b c = refl
  go false true c = refl
  go false false true = refl
  go false false false = refl

-- where no action is an input and an output of a component
output_kind : (component : Instance) (action : Named) → (any_as Input component action ≡ true → any_as Output component action ≡ true → ⊥) → is_output (kind_in component action) ≡ any_as Output component action
output_kind component action apart = go (any_as Input component action) (any_as Output component action) (any_as Internal component action) apart where
  go : (a b c : Bool) → (a ≡ true → b ≡ true → ⊥) → is_output (if a then Some Input else if b then Some Output else if c then Some Internal else None) ≡ b
  go true true c apart = absurd (apart refl refl)
  go true false c apart = refl
  go false true c apart = refl
  go false false true apart = refl
  go false false false apart = refl

any_or : {A : Type 0} (p q r : A → Bool) → ((x : A) → r x ≡ (p x || q x)) → (xs : List A) → list_any r xs ≡ (list_any p xs || list_any q xs)
any_or p q r each [] = refl
any_or p q r each (x ∷ xs) = rw (each x, any_or p q r each xs) (regroup (p x) (q x) (list_any p xs) (list_any q xs)) where
  regroup : (a b c d : Bool) → ((a || b) || (c || d)) ≡ ((a || c) || (b || d))
  regroup true b c d = refl
  regroup false true true d = refl
  regroup false true false d = refl
  regroup false false c d = refl

-- some component has the action as an input or as an output
pub open_somewhere : (composition : List Instance) (action : Named) → some_component composition (λ j. is_open (kind_of composition j action)) ≡ (some_component composition (λ j. inputs composition j action) || given_out composition action)
open_somewhere composition action =
    any_or (λ j. inputs composition j action) (λ j. outputs composition j action) (λ j. is_open (kind_of composition j action)) (λ j. open_kind (component_at composition j) action) (range_with_len 0 (length composition))

-- some component has it as an output
pub given_somewhere : (composition : List Instance) → IsCompatible composition → (action : Named) → some_component composition (λ j. is_output (kind_of composition j action)) ≡ given_out composition action
given_somewhere composition compatible action =
    let same : (j : ℕ) → is_output (kind_of composition j action) ≡ outputs composition j action = λ j. output_kind (component_at composition j) action (compatible.input_output j action) in
    λ i. list_any (λ j. same j i) (range_with_len 0 (length composition))

-- what is open and no hidden output is external
seen : (input output hidden : Bool) → (not (hidden && output) && (input || output)) ≡ ((input && not output) || (output && not hidden))
seen true true true = refl
seen true true false = refl
seen true false true = refl
seen true false false = refl
seen false true true = refl
seen false true false = refl
seen false false true = refl
seen false false false = refl

pub seen_is_external : (hides : ℕ → Bool) (composition : List Instance) (action : Named)
    → (not (hides action.name && given_out composition action) && some_component composition (λ j. is_open (kind_of composition j action))) ≡ is_external hides composition action
seen_is_external hides composition action =
    ap (λ b. not (hides action.name && given_out composition action) && b) (open_somewhere composition action)
    ∙ seen (some_component composition (λ j. inputs composition j action)) (given_out composition action) (hides action.name)
