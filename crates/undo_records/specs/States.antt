-- A nonempty list of whole states, the last one current.
use Rattle.std.specs.Prelude.{ℕ, ◌-◌, Bool, true, false, List, [], ◌∷◌, length, take, refl}
use Rattle.std.specs.Coded.{Coded, code_by, coded×, coded_list}
use Rattle.terms.specs.Datum.{Datum, datum_code}

-- the current state, and the marked ones below it, the newest first
pub record States : Type 0 where
  pub current : List Datum
  pub below : List (List Datum)

abbrev pub states_code : Coded States
states_code =
    code_by (List Datum × List (List Datum)) (coded× (coded_list datum_code) (coded_list (coded_list datum_code))) (λ s. (s.current, s.below)) (λ p. record { current = p.0; below = p.1 }) (λ _. refl)

-- with the current state repeated
abbrev pub marked : States → States
marked s = record { current = s.current; below = s.current ∷ s.below }

-- without the current state; nothing changes where it is the only one
abbrev pub undone_by : List Datum → List (List Datum) → States
undone_by current [] = record { current = current; below = [] }
undone_by current (state ∷ below) = record { current = state; below = below }

abbrev pub undone : States → States
undone s = undone_by s.current s.below

-- there is a marked state
abbrev pub has_marked : List (List Datum) → Bool
has_marked [] = false
has_marked (state ∷ below) = true

-- without the first states, as many as k
abbrev pub without_first : ℕ → States → States
without_first k s = record { current = s.current; below = take (length s.below - k) s.below }
