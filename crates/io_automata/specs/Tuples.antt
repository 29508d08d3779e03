-- The tuples of arguments that an entry stands for, by their places.
use Rattle.std.specs.Prelude.{ℕ, pos, ◌*◌, ◌/◌, ◌%◌, List, [], ◌∷◌, length, map, slice_get}
use Rattle.terms.specs.Datum.{Datum}
use Rattle.terms.specs.Named.{Named}
use Rattle.terms.specs.Meaning.{slot}
use Rattle.terms.specs.Shapes.{count, member}
use Rattle.terms.specs.declared.scalar.Scalar.{Scalar}
use Rattle.terms.specs.declared.scalar.Scalar.TheVariants.{Int}
use Rattle.io_automata.specs.declared.automaton.Param.{Param}
use Rattle.io_automata.specs.declared.automaton.Param.TheVariants.{Const, Member, Between, Whole}
use Rattle.io_automata.specs.declared.automaton.Entry.{Entry}
use Rattle.io_automata.specs.Automata.{transition_of}
use Rattle.io_automata.specs.Outcomes.{enabled_by}

-- how many tuples there are: the product of the numbers of members of the listed types
abbrev pub many : List Param → ℕ
many [] = 1
many (Const n ∷ params) = many params
many (Member listed ∷ params) = count listed * many params
many (Between low high ∷ params) = 0
many (Whole ∷ params) = 0

-- how many values a parameter ranges over; none where they are not listed
abbrev pub choices : Param → ℕ
choices (Const n) = 1
choices (Member listed) = count listed
choices (Between low high) = 0
choices Whole = 0

-- the value of a parameter at a place, or the whole number 0 where its values are not listed
abbrev pub picked : List Scalar → Param → ℕ → Scalar
picked formals (Const n) at = slot formals n
picked formals (Member listed) at = member listed at
picked formals (Between low high) at = Int (pos 0)
picked formals Whole at = Int (pos 0)

-- the tuple at a place: what follows a listed parameter changes faster
abbrev pub tuple_at : List Scalar → List Param → ℕ → List Scalar
tuple_at formals [] at = []
tuple_at formals (Const n ∷ params) at = slot formals n ∷ tuple_at formals params at
tuple_at formals (Member listed ∷ params) at = member listed (at / many params) ∷ tuple_at formals params (at % many params)
tuple_at formals (Between low high ∷ params) at = []
tuple_at formals (Whole ∷ params) at = []

-- the enabled actions of the entry at a place, and their number
abbrev pub enabled_in : List Entry → List Scalar → List Datum → ℕ → List Named
enabled_in entries formals state place = enabled_by formals state (slice_get (map transition_of entries) place)

abbrev pub enabled_count : List Entry → List Scalar → List Datum → ℕ → ℕ
enabled_count entries formals state place = length (enabled_in entries formals state place)
