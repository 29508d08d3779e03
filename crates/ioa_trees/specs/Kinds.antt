-- What types mean: kinds, their members and weights.
use Rattle.std.specs.Prelude.{ℕ, ◌+◌, ◌*◌, min, ℤ, ◌-ℤ◌, int_lt, unsigned_abs, Bool, true, false, not, ◌&&◌, nat_eq, nat_lt, if◌then◌else◌}
use Rattle.std.specs.Int.{w64, cast_signed, int_wrapping_neg}
use Rattle.terms.specs.declared.scalar.Listed.{Listed}
use Rattle.terms.specs.declared.scalar.Listed.TheVariants as listed
use Rattle.terms.specs.ShapeTree as shape
use Rattle.terms.specs.ShapeTree.{ShapeTree}
use Rattle.ioa_trees.specs.declared.tree.Signed.{Signed}

-- A range has its least and its greatest number, an enumeration the number of its first member among all members, and how many it has.
pub data Kind : Type 0 where
  Truth : Kind
  Whole : Kind
  Range : (low high : ℤ) → Kind
  Enum : (first count : ℕ) → Kind
  SeqOf : Kind → ℕ → Kind
  ArrayOf : Kind → Kind → Kind

-- A number as 64 bits with a sign have it. The numbers of a source are below 2^63, so it is the number itself.
abbrev pub whole_number : ℕ → ℤ
whole_number n = cast_signed w64 n

abbrev pub number : Signed → ℤ
number s = if s.is_negative then int_wrapping_neg w64 (whole_number s.size) else whole_number s.size

-- how many members a kind has that can be listed; 0 for the others
abbrev pub count : Kind → ℕ
count Truth = 2
count Whole = 0
count (Range low high) = if int_lt high low then 0 else unsigned_abs (high -ℤ low) + 1
count (Enum first n) = n
count (SeqOf k n) = 0
count (ArrayOf r k) = 0

abbrev pub can_be_listed : Kind → Bool
can_be_listed Truth = true
can_be_listed Whole = false
can_be_listed (Range low high) = true
can_be_listed (Enum first n) = true
can_be_listed (SeqOf k n) = false
can_be_listed (ArrayOf r k) = false

abbrev pub is_scalar : Kind → Bool
is_scalar Truth = true
is_scalar Whole = true
is_scalar (Range low high) = true
is_scalar (Enum first n) = true
is_scalar (SeqOf k n) = false
is_scalar (ArrayOf r k) = false

-- how many scalars a value has at most
abbrev pub weight : Kind → ℕ
weight Truth = 1
weight Whole = 1
weight (Range low high) = 1
weight (Enum first n) = 1
weight (SeqOf k n) = n * weight k
weight (ArrayOf r k) = count r * weight k

abbrev pub is_whole : Kind → Bool
is_whole Truth = false
is_whole Whole = true
is_whole (Range low high) = true
is_whole (Enum first n) = false
is_whole (SeqOf k n) = false
is_whole (ArrayOf r k) = false

abbrev pub is_truth : Kind → Bool
is_truth Truth = true
is_truth Whole = false
is_truth (Range low high) = false
is_truth (Enum first n) = false
is_truth (SeqOf k n) = false
is_truth (ArrayOf r k) = false

abbrev pub is_seq : Kind → Bool
is_seq Truth = false
is_seq Whole = false
is_seq (Range low high) = false
is_seq (Enum first n) = false
is_seq (SeqOf k n) = true
is_seq (ArrayOf r k) = false

abbrev pub is_array : Kind → Bool
is_array Truth = false
is_array Whole = false
is_array (Range low high) = false
is_array (Enum first n) = false
is_array (SeqOf k n) = false
is_array (ArrayOf r k) = true

abbrev pub same_number : ℤ → ℤ → Bool
same_number a b = not (int_lt a b) && not (int_lt b a)

-- whether two kinds are one
abbrev pub same : Kind → Kind → Bool
same Truth Truth = true
same Whole Whole = true
same (Range a b) (Range c d) = same_number a c && same_number b d
same (Enum e n) (Enum f m) = nat_eq e f && nat_eq n m
same (SeqOf k n) (SeqOf l m) = same k l && nat_eq n m
same (ArrayOf r k) (ArrayOf s l) = same r s && same k l
same Truth _ = false
same Whole _ = false
same (Range a b) _ = false
same (Enum e n) _ = false
same (SeqOf k n) _ = false
same (ArrayOf r k) _ = false

-- whether a value of the second can be put in a place of the first: any whole number in a place of whole numbers, else one of an equal type
abbrev pub fits : Kind → Kind → Bool
fits place k = if is_whole place then is_whole k else same place k

-- a number of members or items as `terms` has it; one above 65,535 is a fault everywhere that it is listed or bounds a sequence
abbrev pub small : ℕ → ℕ
small n = min n 65535

-- a kind whose members are listed, as `terms` has it
abbrev pub listed_of : Kind → Listed
listed_of Truth = listed.Bool
listed_of Whole = listed.Bool
listed_of (Range low high) = listed.Range low (small (count (Range low high)))
listed_of (Enum first n) = listed.Enumeration first n
listed_of (SeqOf k n) = listed.Bool
listed_of (ArrayOf r k) = listed.Bool

-- the most members of a type where it is listed, and the most weight of a type and of a state
abbrev pub most_listed : ℕ
most_listed = 256

abbrev pub most_weight : ℕ
most_weight = 65536

-- a kind as `terms` has it: a range of at most 65,535 numbers is listed
abbrev pub shape_of : Kind → ShapeTree
shape_of Truth = shape.Listed listed.Bool
shape_of Whole = shape.Int
shape_of (Range low high) = if nat_lt 65535 (count (Range low high)) then shape.Range low high else shape.Listed (listed_of (Range low high))
shape_of (Enum first n) = shape.Listed (listed.Enumeration first n)
shape_of (SeqOf k n) = shape.Seq (shape_of k) (small n)
shape_of (ArrayOf r k) = shape.Array (listed_of r) (shape_of k)
