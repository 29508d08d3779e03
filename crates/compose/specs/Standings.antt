-- Entries of components, one component after the other.
use Rattle.std.specs.Prelude.{◌≡◌, ◌⊎◌, ℕ, suc, Bool, true, not, ◌&&◌, nat_eq, List, [], ◌∷◌, ◌++◌, map, Option, None, Some, slice_get}
use Rattle.std.specs.declared.vec.Vec.{Vec}
use Rattle.terms.specs.Named.{Named}
use Rattle.terms.specs.declared.scalar.Scalar.{Scalar}
use Rattle.io_automata.specs.Automata.{Transition, Instance, transition_of}
use Rattle.io_automata.specs.Signatures.{has, same_kind}
use Rattle.io_automata.specs.declared.automaton.Kind.TheVariants.{Input}
use Rattle.compose.specs.declared.compatibility.rule.Rule.{Rule}
use Rattle.compose.specs.declared.compatibility.standing.Standing.{Standing}
use Rattle.compose.specs.Rules.{is_barred}

-- an entry of a component, with the values of the component's formals
pub record Stood : Type 0 where
  pub component : ℕ
  pub entry : Transition
  pub formals : List Scalar

abbrev pub stood : Standing → Stood
stood s = record { component = s.component; entry = transition_of s.entry.now; formals = s.formals.now }

abbrev pub stood_in : ℕ → List Scalar → Transition → Stood
stood_in i formals entry = record { component = i; entry = entry; formals = formals }

-- the entries of the components of a list, of which the first has number i
abbrev pub stands : ℕ → List Instance → List Stood
stands i [] = []
stands i (c ∷ cs) = map (stood_in i c.formals) c.entries ++ stands (suc i) cs

-- one of a list
abbrev pub Has : {A : Type 0} → (A → Type 0) → List A → Type 0
Has P [] = ⊥
Has P (x ∷ xs) = P x ⊎ Has P xs

-- one of a list and a later one
abbrev pub Pair : {A : Type 0} → (A → A → Type 0) → List A → Type 0
Pair R [] = ⊥
Pair R (x ∷ xs) = Has (R x) xs ⊎ Pair R xs

-- two entries stand for an action together
abbrev pub Shares : Stood → Stood → Type 0
Shares a b = (action : Named) × ((has a.formals action a.entry ≡ true) × (has b.formals action b.entry ≡ true))

-- two entries break a rule
abbrev pub Clash : Rule → Stood → Stood → Type 0
Clash rule a b = (is_barred rule (nat_eq a.component b.component) a.entry.kind b.entry.kind ≡ true) × Shares a b

-- A list begins with entries of which no two clash, and one that clashes with an earlier one.
pub record IsFirstPair (rule : Rule) (all : List Stood) (component : ℕ) : Type 0 where
  pub before : List Stood
  pub last : Stood
  pub after : List Stood
  pub split : all ≡ before ++ last ∷ after
  pub free : Pair (Clash rule) before → ⊥
  pub clash : Has (λ a. Clash rule a last) before
  pub same : last.component ≡ component

abbrev pub IsFirstClash : Rule → List Stood → Option ℕ → Type 0
IsFirstClash rule all None = Pair (Clash rule) all → ⊥
IsFirstClash rule all (Some component) = IsFirstPair rule all component

-- the entries so far of one name
abbrev pub is_of : ℕ → Stood → Bool
is_of n s = nat_eq s.entry.name n

-- the same, inputs and others apart
abbrev pub is_input_of : ℕ → Stood → Bool
is_input_of n s = is_of n s && same_kind Input s.entry.kind

abbrev pub is_control_of : ℕ → Stood → Bool
is_control_of n s = is_of n s && not (same_kind Input s.entry.kind)

-- an input and another entry break a rule
abbrev pub ClashesAsInput : Rule → Stood → Stood → Type 0
ClashesAsInput rule a b = (same_kind Input a.entry.kind ≡ true) × Clash rule a b

abbrev pub listed : {A : Type 0} → Option (Vec Standing A) → List Stood
listed None = []
listed (Some v) = map stood v.items

abbrev pub seen_at : {A : Type 0} → List (Vec Standing A) → ℕ → List Stood
seen_at seen n = listed (slice_get seen n)
