-- Faults: the least place decides, then the least number.
use Rattle.std.specs.Prelude.{◌≡◌, ℕ, Bool, false, ◌&&◌, ◌||◌, ◌⊎◌, Option, Some, None, if◌then◌else◌, nat_lt, nat_eq, List, [], ◌∷◌}

-- the number of a token, counted from 0 without comments, and the number of the fault
pub record Fault : Type 0 where
  pub place : ℕ
  pub number : ℕ

abbrev pub is_before : Fault → Fault → Bool
is_before a b = nat_lt a.place b.place || (nat_eq a.place b.place && nat_lt a.number b.number)

abbrev pub IsIn : Fault → List Fault → Type 0
IsIn f [] = ⊥
IsIn f (g ∷ gs) = (f ≡ g) ⊎ IsIn f gs

-- it is one of these, and none of them comes before it
pub record IsLeast (f : Fault) (fs : List Fault) : Type 0 where
  pub is_one : IsIn f fs
  pub least : (g : Fault) → IsIn g fs → is_before g f ≡ false

-- the lesser of a fault and the least so far
abbrev pub note : Fault → Option Fault → Option Fault
note f None = Some f
note f (Some g) = if is_before f g then Some f else Some g

-- the least so far, after these faults too
abbrev pub keep : Option Fault → List Fault → Option Fault
keep o [] = o
keep o (f ∷ fs) = keep (note f o) fs

abbrev pub at_fault : ℕ → ℕ → List Fault
at_fault place number = record { place = place; number = number } ∷ []

-- a fault of this number here, if the test says so
abbrev pub where_wrong : Bool → ℕ → ℕ → List Fault
where_wrong wrong place number = if wrong then at_fault place number else []
