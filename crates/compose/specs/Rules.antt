-- When components aren't compatible (Lynch, Distributed Algorithms, sections 8.1 and 8.2.1), and with which of them this begins.
use Rattle.std.specs.Prelude.{◌≡◌, ◌≢◌, ◌≤◌, ◌⊎◌, ℕ, Bool, true, false, not, ◌&&◌, ◌||◌, List, Option, None, Some}
use Rattle.terms.specs.Named.{Named}
use Rattle.io_automata.specs.declared.automaton.Kind.{Kind}
use Rattle.io_automata.specs.declared.automaton.Kind.TheVariants.{Input, Output, Internal}
use Rattle.io_automata.specs.Automata.{Instance}
use Rattle.io_automata.specs.Signatures.{inputs, outputs, internals, acts, same_kind}
use Rattle.compose.specs.declared.compatibility.rule.Rule.{Rule}
use Rattle.compose.specs.declared.compatibility.rule.Rule.TheVariants as rule

-- an action is in two of the sets of component i
abbrev pub IsTwice : List Instance → ℕ → Named → Type 0
IsTwice composition i action =
    ((inputs composition i action ≡ true) × (outputs composition i action ≡ true))
    ⊎ (((inputs composition i action ≡ true) × (internals composition i action ≡ true))
    ⊎ ((outputs composition i action ≡ true) × (internals composition i action ≡ true)))

-- One of the components 0 to j has an action that is in two of its own sets.
pub record OwnOverlap (composition : List Instance) (j : ℕ) : Type 0 where
  pub component : ℕ
  pub within : component ≤ j
  pub action : Named
  pub twice : IsTwice composition component action

-- Among the components 0 to j an internal action of one is an action of another.
pub record InternalShared (composition : List Instance) (j : ℕ) : Type 0 where
  pub owner : ℕ
  pub other : ℕ
  pub within : owner ≤ j
  pub other_within : other ≤ j
  pub apart : owner ≢ other
  pub action : Named
  pub internal : internals composition owner action ≡ true
  pub had : acts composition other action ≡ true

-- Among the components 0 to j two share an output.
pub record OutputShared (composition : List Instance) (j : ℕ) : Type 0 where
  pub owner : ℕ
  pub other : ℕ
  pub within : owner ≤ j
  pub other_within : other ≤ j
  pub apart : owner ≢ other
  pub action : Named
  pub output : outputs composition owner action ≡ true
  pub shared : outputs composition other action ≡ true

-- the components 0 to j break a rule
abbrev pub Breaks : Rule → List Instance → ℕ → Type 0
Breaks rule.Own composition j = OwnOverlap composition j
Breaks rule.Internal composition j = InternalShared composition j
Breaks rule.Output composition j = OutputShared composition j

-- the least number of which something holds, or none where it holds of none
abbrev pub IsFirst : (ℕ → Type 0) → Option ℕ → Type 0
IsFirst P None = (j : ℕ) → P j → ⊥
IsFirst P (Some j) = P j × ((k : ℕ) → P k → j ≤ k)

-- entries of these kinds may not share an action, whether they are of one component or of two
abbrev pub is_barred : Rule → Bool → Kind → Kind → Bool
is_barred rule.Own is_one kind other = is_one && not (same_kind kind other)
is_barred rule.Internal is_one kind other = not is_one && (same_kind kind Internal || same_kind other Internal)
is_barred rule.Output is_one kind other = not is_one && (same_kind kind Output && same_kind other Output)

-- an entry of this kind breaks the rule with no input
abbrev pub suits_inputs : Rule → Kind → Bool
suits_inputs rule.Own kind = same_kind kind Input
suits_inputs rule.Internal kind = not (same_kind kind Internal)
suits_inputs rule.Output kind = true

-- an entry of this kind breaks the rule with no other
abbrev pub suits_all : Rule → Kind → Bool
suits_all rule.Own kind = false
suits_all rule.Internal kind = false
suits_all rule.Output kind = not (same_kind kind Output)
