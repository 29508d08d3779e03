-- Signatures and their composition (Lynch, Distributed Algorithms, sections 8.1 and 8.2.1).
use Rattle.std.specs.Prelude.{ℕ, ◌+◌, pos, ◌+ℤ◌, int_le, int_lt, nat_le, nat_lt, Bool as Truth, true, false, not, ◌&&◌, ◌||◌, ◌==◌, if◌then◌else◌, List, [], ◌∷◌, length, filter, Option, None, Some}
use Rattle.std.specs.List.{list_any, range_with_len}
use Rattle.terms.specs.Named.{Named}
use Rattle.terms.specs.Meaning.{slot}
use Rattle.terms.specs.declared.scalar.Scalar.{Scalar}
use Rattle.terms.specs.declared.scalar.Scalar.TheVariants as scalar
use Rattle.terms.specs.declared.scalar.Listed.{Listed}
use Rattle.terms.specs.declared.scalar.Listed.TheVariants as listed
use Rattle.terms.specs.contracts.scalar.ScalarPartialEq.TheImpl as scalar_eq
use Rattle.io_automata.specs.declared.automaton.Kind.{Kind}
use Rattle.io_automata.specs.declared.automaton.Kind.TheVariants.{Input, Output, Internal}
use Rattle.io_automata.specs.declared.automaton.Param.{Param}
use Rattle.io_automata.specs.declared.automaton.Param.TheVariants.{Const, Member, Between, Whole}
use Rattle.io_automata.specs.Automata.{Transition, Instance, component_at}

-- the scalar is one of the members of a listed type
abbrev pub is_member : Listed → Scalar → Truth
is_member listed.Bool (scalar.Int z) = false
is_member listed.Bool (scalar.Bool b) = true
is_member listed.Bool (scalar.Member n) = false
is_member (listed.Range low count) (scalar.Int z) = int_le low z && int_lt z (low +ℤ pos count)
is_member (listed.Range low count) (scalar.Bool b) = false
is_member (listed.Range low count) (scalar.Member n) = false
is_member (listed.Enumeration first count) (scalar.Int z) = false
is_member (listed.Enumeration first count) (scalar.Bool b) = false
is_member (listed.Enumeration first count) (scalar.Member n) = nat_le first n && nat_lt n (first + count)

-- the scalar may stand for the parameter: it is the formal's value, or of the parameter's type
abbrev pub fits_one : List Scalar → Param → Scalar → Truth
fits_one formals (Const n) value = scalar_eq.ghosts.eq (slot formals n) value
fits_one formals (Member members) value = is_member members value
fits_one formals (Between low high) (scalar.Int z) = int_le low z && int_le z high
fits_one formals (Between low high) (scalar.Bool b) = false
fits_one formals (Between low high) (scalar.Member n) = false
fits_one formals Whole (scalar.Int z) = true
fits_one formals Whole (scalar.Bool b) = false
fits_one formals Whole (scalar.Member n) = false

abbrev pub fits : List Scalar → List Param → List Scalar → Truth
fits formals [] [] = true
fits formals [] (value ∷ values) = false
fits formals (param ∷ params) [] = false
fits formals (param ∷ params) (value ∷ values) = fits_one formals param value && fits formals params values

-- the action is one of those that an entry stands for
abbrev pub has : List Scalar → Named → Transition → Truth
has formals action entry = (entry.name == action.name) && fits formals entry.params action.args

abbrev pub same_kind : Kind → Kind → Truth
same_kind Input Input = true
same_kind Input Output = false
same_kind Input Internal = false
same_kind Output Input = false
same_kind Output Output = true
same_kind Output Internal = false
same_kind Internal Input = false
same_kind Internal Output = false
same_kind Internal Internal = true

abbrev pub has_as : Kind → List Scalar → Named → Transition → Truth
has_as kind formals action entry = same_kind kind entry.kind && has formals action entry

abbrev pub any_as : Kind → Instance → Named → Truth
any_as kind component action = list_any (has_as kind component.formals action) component.entries

-- the signature of component i: the sets of its input, output and internal actions
abbrev pub inputs : List Instance → ℕ → Named → Truth
inputs composition i action = any_as Input (component_at composition i) action

abbrev pub outputs : List Instance → ℕ → Named → Truth
outputs composition i action = any_as Output (component_at composition i) action

abbrev pub internals : List Instance → ℕ → Named → Truth
internals composition i action = any_as Internal (component_at composition i) action

-- the actions of component i, and those that it controls locally
abbrev pub acts : List Instance → ℕ → Named → Truth
acts composition i action = inputs composition i action || outputs composition i action || internals composition i action

abbrev pub controls : List Instance → ℕ → Named → Truth
controls composition i action = outputs composition i action || internals composition i action

-- the kind under which component i has an action, if it has it
abbrev pub kind_in : Instance → Named → Option Kind
kind_in component action =
    if any_as Input component action then Some Input
    else if any_as Output component action then Some Output
    else if any_as Internal component action then Some Internal
    else None

abbrev pub kind_of : List Instance → ℕ → Named → Option Kind
kind_of composition i action = kind_in (component_at composition i) action

-- the kind is that of an input; the kind is one that others see
abbrev pub takes_input : Option Kind → Truth
takes_input None = false
takes_input (Some Input) = true
takes_input (Some Output) = false
takes_input (Some Internal) = false

abbrev pub is_open : Option Kind → Truth
is_open None = false
is_open (Some Input) = true
is_open (Some Output) = true
is_open (Some Internal) = false

abbrev pub is_output : Option Kind → Truth
is_output None = false
is_output (Some Input) = false
is_output (Some Output) = true
is_output (Some Internal) = false

-- some component passes the test
abbrev pub some_component : List Instance → (ℕ → Truth) → Truth
some_component composition test = list_any test (range_with_len 0 (length composition))

-- some component has the action as an output
abbrev pub given_out : List Instance → Named → Truth
given_out composition action = some_component composition (λ i. outputs composition i action)

-- The signature of the composition, where outputs of some names are hidden, told by the names' numbers: its outputs are the components' outputs
-- that aren't hidden, its inputs the components' inputs that no component has as an output, its internal actions the components' internal ones
-- and their hidden outputs.
abbrev pub composed_outputs : (hides : ℕ → Truth) → List Instance → Named → Truth
composed_outputs hides composition action =
    given_out composition action && not (hides action.name)

abbrev pub composed_inputs : List Instance → Named → Truth
composed_inputs composition action =
    some_component composition (λ i. inputs composition i action)
    && not (given_out composition action)

abbrev pub composed_internals : (hides : ℕ → Truth) → List Instance → Named → Truth
composed_internals hides composition action =
    some_component composition (λ i. internals composition i action)
    || (given_out composition action && hides action.name)

-- an action of the composition that its surroundings see
abbrev pub is_external : (hides : ℕ → Truth) → List Instance → Named → Truth
is_external hides composition action =
    composed_inputs composition action || composed_outputs hides composition action

-- component j takes the action as an input when component i does it
abbrev pub receives : List Instance → ℕ → Named → ℕ → Truth
receives composition i action j = not (j == i) && inputs composition j action

-- the receivers of an action of component i, in order
abbrev pub receivers_of : List Instance → Named → ℕ → List ℕ
receivers_of composition action i = filter (receives composition i action) (range_with_len 0 (length composition))

-- the components that have an action, in order
abbrev pub takers_of : List Instance → Named → List ℕ
takers_of composition action = filter (λ j. acts composition j action) (range_with_len 0 (length composition))
