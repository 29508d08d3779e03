-- Numbers, types and their members.
use Rattle.std.specs.Prelude.{ℕ, zero, suc, ◌+◌, ◌-◌, ◌%◌, ◌^◌, min, ℤ, pos, ◌+ℤ◌, ◌-ℤ◌, int_lt, unsigned_abs, Bool as Truth, false, if◌then◌else◌, nat_lt, List, [], ◌∷◌, replicate, cond}
use Rattle.std.specs.Int.{w64, int_wrap, int_rem_euclid}
use Rattle.terms.specs.Datum.{Datum, Just, End, Link, pack}
use Rattle.terms.specs.declared.scalar.Scalar.{Scalar}
use Rattle.terms.specs.declared.scalar.Scalar.TheVariants.{Int, Bool, Member}
use Rattle.terms.specs.declared.scalar.Listed.{Listed}
use Rattle.terms.specs.declared.scalar.Listed.TheVariants as listed
use Rattle.terms.specs.ShapeTree.{ShapeTree}
use Rattle.terms.specs.ShapeTree as shape

-- modulo 2 ^ 64, into the numbers of 64 bits with a sign
abbrev pub whole : ℤ → ℤ
whole = int_wrap w64

-- the member of 0 to modulus - 1 that differs from a number by a multiple of the modulus; 0 where there is none
abbrev pub rest : ℤ → ℤ → ℤ
rest dividend modulus = if int_lt (pos 0) modulus then int_rem_euclid dividend modulus else pos 0

-- the nearest number from low to high
abbrev pub nearest : ℤ → ℤ → ℤ → ℤ
nearest low high given = if int_lt given low then low else if int_lt high given then high else given

-- a scalar as a whole number; 0 where it is none
abbrev pub number_of : Scalar → ℤ
number_of (Int whole_number) = whole_number
number_of (Bool is_true) = pos 0
number_of (Member at) = pos 0

-- a scalar as a truth value; false where it is none
abbrev pub truth_of : Scalar → Truth
truth_of (Int whole_number) = false
truth_of (Bool is_true) = is_true
truth_of (Member at) = false

-- false is at 0 and true at 1, and a member of an enumeration at its number
abbrev pub place_of : Scalar → ℕ
place_of (Int whole_number) = 0
place_of (Bool is_true) = cond is_true 1 0
place_of (Member at) = at

-- how many members a type has
abbrev pub count : Listed → ℕ
count listed.Bool = 2
count (listed.Range low total) = total
count (listed.Enumeration first total) = total

-- the member of a type at a place, from 0
abbrev pub member : Listed → ℕ → Scalar
member listed.Bool at = Bool (nat_lt 0 at)
member (listed.Range low total) at = Int (whole (low +ℤ pos at))
member (listed.Enumeration first total) at = Member ((first + at) % 2 ^ 16)

-- so many members, from a place on
abbrev pub members_from : Listed → ℕ → ℕ → List Scalar
members_from type at zero = []
members_from type at (suc more) = member type at ∷ members_from type (suc at) more

-- all members of a type, in order
abbrev pub members : Listed → List Scalar
members type = members_from type 0 (count type)

-- the place of the nearest member of a type
abbrev pub place : Listed → Scalar → ℕ
place listed.Bool scalar = place_of scalar
place (listed.Range low total) scalar = if int_lt (number_of scalar) low then 0 else min (unsigned_abs (number_of scalar -ℤ low)) (total - 1)
place (listed.Enumeration first total) scalar = min (place_of scalar - first) (total - 1)

-- the value of a type that stands where there is none: false, 0, the least or first, the empty sequence, an array of defaults
abbrev pub default : ShapeTree → Datum
default shape.Int = Just (Int (pos 0))
default (shape.Range low high) = Just (Int low)
default (shape.Listed type) = Just (member type 0)
default (shape.Seq item room) = End
default (shape.Array index item) = pack (replicate (count index) (default item))

-- a value with another item at one place
abbrev pub with_item : ℕ → Datum → Datum → Datum
with_item at new (Just scalar) = Just scalar
with_item at new End = End
with_item zero new (Link item others) = Link new others
with_item (suc at) new (Link item others) = Link item (with_item at new others)

-- a state with another item at one place of one of its values
abbrev pub set_item : ℕ → ℕ → Datum → List Datum → List Datum
set_item cell at new [] = []
set_item zero at new (value ∷ others) = with_item at new value ∷ others
set_item (suc cell) at new (value ∷ others) = value ∷ set_item cell at new others
