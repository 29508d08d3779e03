-- Which components have entries that may stand for one action.
use Rattle.std.specs.Prelude.{ℕ, pos, ◌+◌, ◌+ℤ◌, int_lt, nat_lt, Bool as Truth, true, false, not, ◌&&◌, ◌==◌, List, [], ◌∷◌, filter, length}
use Rattle.std.specs.List.{list_any, range_with_len}
use Rattle.terms.specs.Meaning.{slot}
use Rattle.terms.specs.declared.scalar.Scalar.{Scalar}
use Rattle.terms.specs.declared.scalar.Listed.{Listed}
use Rattle.terms.specs.declared.scalar.Listed.TheVariants as listed
use Rattle.io_automata.specs.Automata.{Transition, Instance, component_at, transition_of}
use Rattle.io_automata.specs.Signatures.{fits_one, is_member, same_kind}
use Rattle.io_automata.specs.declared.automaton.Entry.{Entry}
use Rattle.io_automata.specs.declared.automaton.Kind.TheVariants.{Input}
use Rattle.io_automata.specs.declared.automaton.Param.{Param}
use Rattle.io_automata.specs.declared.automaton.Param.TheVariants.{Const, Member, Between, Whole}

-- two listed types have a member in common
abbrev pub do_listed_meet : Listed → Listed → Truth
do_listed_meet listed.Bool listed.Bool = true
do_listed_meet listed.Bool (listed.Range low count) = false
do_listed_meet listed.Bool (listed.Enumeration first count) = false
do_listed_meet (listed.Range low count) listed.Bool = false
do_listed_meet (listed.Range low count) (listed.Range bottom many) = int_lt low (bottom +ℤ pos many) && int_lt bottom (low +ℤ pos count)
do_listed_meet (listed.Range low count) (listed.Enumeration first many) = false
do_listed_meet (listed.Enumeration first count) listed.Bool = false
do_listed_meet (listed.Enumeration first count) (listed.Range low many) = false
do_listed_meet (listed.Enumeration first count) (listed.Enumeration begin many) = nat_lt first (begin + many) && nat_lt begin (first + count)

-- A value may stand for both parameters, each in a component with its formals: where one is a formal, its value does; where both are of listed
-- types, these have a member in common. Others are taken to meet.
abbrev pub may_meet : List Scalar → Param → List Scalar → Param → Truth
may_meet formals (Const n) others other = fits_one others other (slot formals n)
may_meet formals (Member listed) others (Const m) = is_member listed (slot others m)
may_meet formals (Member listed) others (Member another) = do_listed_meet listed another
may_meet formals (Member listed) others (Between low high) = true
may_meet formals (Member listed) others Whole = true
may_meet formals (Between low high) others (Const m) = fits_one formals (Between low high) (slot others m)
may_meet formals (Between low high) others (Member listed) = true
may_meet formals (Between low high) others (Between bottom top) = true
may_meet formals (Between low high) others Whole = true
may_meet formals Whole others (Const m) = fits_one formals Whole (slot others m)
may_meet formals Whole others (Member listed) = true
may_meet formals Whole others (Between low high) = true
may_meet formals Whole others Whole = true

-- all pairs of parameters may meet, and there are as many of both
abbrev pub may_all_meet : List Scalar → List Param → List Scalar → List Param → Truth
may_all_meet formals [] others [] = true
may_all_meet formals [] others (other ∷ more) = false
may_all_meet formals (param ∷ params) others [] = false
may_all_meet formals (param ∷ params) others (other ∷ more) = may_meet formals param others other && may_all_meet formals params others more

-- an entry is an input that may stand for an action of another entry
abbrev pub may_take : List Scalar → Transition → List Scalar → Transition → Truth
may_take formals entry others input = same_kind Input input.kind && ((input.name == entry.name) && may_all_meet formals entry.params others input.params)

-- an entry is no input, and a component has an input that may stand for an action of it
abbrev pub may_give : List Scalar → List Scalar → List Transition → Transition → Truth
may_give formals others inputs entry = not (same_kind Input entry.kind) && list_any (may_take formals entry others) inputs

-- the same of entries as the code has them
abbrev pub takes_one : List Scalar → Entry → List Scalar → Entry → Truth
takes_one formals entry others input = may_take formals (transition_of entry) others (transition_of input)

abbrev pub gives_one : List Scalar → List Scalar → List Entry → Entry → Truth
gives_one formals others inputs entry = not (same_kind Input entry.kind) && list_any (takes_one formals entry others) inputs

-- a component has an entry that is no input, and for an action of which one of these inputs may stand, or an input of another component
abbrev pub may_give_any : Instance → List Scalar → List Transition → Truth
may_give_any component others inputs = list_any (may_give component.formals others inputs) component.entries

abbrev pub may_reach : Instance → Instance → Truth
may_reach component other = may_give_any component other.formals other.entries

-- component i is another one than j, and has an entry that is no input, and for an action of which an input of j may stand
abbrev pub may_send : List Instance → ℕ → ℕ → Truth
may_send composition j i = not (j == i) && may_reach (component_at composition i) (component_at composition j)

-- the components that may send to j, in order
abbrev pub senders_of : List Instance → ℕ → List ℕ
senders_of composition j = filter (may_send composition j) (range_with_len 0 (length composition))
