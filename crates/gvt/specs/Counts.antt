-- The rule of a published word: it is the greatest that any seat has published, and no seat has read more.
use Rattle.std.specs.Prelude.{◌≡◌, ℕ, ◌≤◌, List, [], ◌∷◌, max, length, slice_index}
use mathlib.Core.Option.{some}
use lib.ListN.{get_elem?}
use Rattle.gvt.specs.declared.rule.Known.{Known}

-- what a seat knows: the greatest count that was published with it, and what was read with it last
abbrev pub known : ℕ → ℕ → Known
known published read = record { published = published; read = read }

-- the greatest that any of them has published, or 0
abbrev pub greatest : List Known → ℕ
greatest [] = 0
greatest (v ∷ vs) = max v.published (greatest vs)

-- the one word is the greatest published count, and each seat's reading is at most the word
abbrev pub IsKept : List ℕ → List Known → Type 0
IsKept words views =
    (length words ≡ 1) × (slice_index words 0 ≡ greatest views)
    × ((seat : ℕ) (v : Known) → get_elem? views seat ≡ some v → v.read ≤ slice_index words 0)

-- a seat raises the word: what it published becomes the greater of that and the count, and what it read stays
abbrev pub Raises : ℕ → Known → Known → Type 0
Raises count v w = w ≡ known (max v.published count) v.read

-- a seat loads the word: what it read becomes what was found, which is at least what it had read and what it had published
abbrev pub Loads : ℕ → Known → Known → Type 0
Loads found v w = (w ≡ known v.published found) × (v.published ≤ found) × (v.read ≤ found)
