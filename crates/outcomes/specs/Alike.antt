-- The entries whose condition mentions no parameter of the action: it holds for all tuples of arguments or for none.
use Rattle.std.specs.Prelude.{◌≡◌, ℕ, ◌<◌, Bool as Truth, ◌||◌, cond, List, [], length, get_or, slice_get, Option, None, Some}
use Rattle.terms.specs.Datum.{Datum}
use Rattle.terms.specs.Mentions.{mentions_parameter}
use Rattle.terms.specs.declared.scalar.Scalar.{Scalar}
use Rattle.io_automata.specs.declared.automaton.Kind.TheVariants.{Input}
use Rattle.io_automata.specs.Automata.{Transition}
use Rattle.io_automata.specs.Signatures.{same_kind}
use Rattle.io_automata.specs.Steps.{permitted}
use Rattle.io_automata.specs.Tuples.{many}

-- the condition of an entry mentions a parameter of the action
abbrev pub asks : Transition → Truth
asks entry = mentions_parameter entry.precondition

-- how many tuples an entry has, where its condition mentions no parameter; 0 where it does, and for an input, which stands in no task
abbrev pub alike : Transition → ℕ
alike entry = cond (same_kind Input entry.kind || asks entry) 0 (many entry.params)

-- a number tells of an entry, if there is one
abbrev pub Tells : ℕ → Option Transition → Type 0
Tells number None = number ≡ number
Tells number (Some entry) = number ≡ alike entry

-- the number at a place, or 0 where there is none
abbrev pub number_or_none : Option ℕ → ℕ
number_or_none None = 0
number_or_none (Some number) = number

-- where it is asked for no arguments, the condition of the entry at the first place holds as that of the entry at the other does
abbrev pub IsLike : List Transition → ℕ → ℕ → Type 0
IsLike entries place first = (formals : List Scalar) (state : List Datum) → permitted (slice_get entries first) formals [] state ≡ permitted (slice_get entries place) formals [] state

-- for each entry stands there the place of one with a condition that holds as its own
abbrev pub AreFirsts : List Transition → List ℕ → Type 0
AreFirsts entries firsts = (place : ℕ) → place < length firsts → IsLike entries place (get_or firsts place 0)
