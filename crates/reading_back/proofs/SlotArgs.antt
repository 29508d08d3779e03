-- The arguments that fit the parameters of an entry are of its types, and may be written.
use Rattle.std.proofs.Common.{◌≡◌, ◌≤◌, ◌<◌, ℕ, ◌+◌, ◌^◌, ℤ, pos, neg_ℤ, unsigned_abs, ◌+ℤ◌, ◌-ℤ◌, ◌≤ℤ◌, int_le, int_lt, nat_le, nat_lt, Bool, true, false, ◌&&◌, if◌then◌else◌, Option, None, Some, List, [], ◌∷◌, map, slice_get, refl, ap, subst, arith}
use Rattle.std.specs.Prelude.{FitsSigned}
use Rattle.std.specs.Int.{w64}
use Rattle.std.specs.List.{AllByRecursion}
use Rattle.std.proofs.lemmas.Bool.Decides.{nat_tests}
use Rattle.std.proofs.lemmas.Int.{ints}
use Rattle.terms.specs.Meaning.{slot}
use Rattle.terms.specs.Same.{scalar_is}
use Rattle.terms.specs.ShapeTree as shape
use Rattle.terms.specs.ShapeTree.{ShapeTree}
use Rattle.terms.specs.declared.scalar.Listed.TheVariants as listed
use Rattle.terms.specs.declared.scalar.Scalar.{Scalar}
use Rattle.terms.specs.declared.scalar.Scalar.TheVariants as scalar
use Rattle.plans.specs.declared.plan.Plan.{Plan}
use Rattle.io_automata.specs.declared.automaton.Param.{Param}
use Rattle.io_automata.specs.declared.automaton.Param.TheVariants as param
use Rattle.io_automata.specs.Each.{Each}
use Rattle.io_automata.specs.Signatures.{fits, fits_one, is_member}
use Rattle.ioa_trees.specs.Kinds.{Kind, Truth, Whole, Range, Enum, SeqOf, ArrayOf, count, small, listed_of, can_be_listed, is_scalar, shape_of}
use Rattle.ioa_trees.specs.EntryRules.{Slot, Fixed, Free}
use Rattle.compose.specs.Instances.{is_short, param_in, param_of}
use Rattle.compose.specs.Names.{formal_type, type_in}
use Rattle.compose.specs.Sound.{is_listed, is_slot, is_within}
use Rattle.trace.specs.Written.{IsArgument, IsMember, are_of, is_of}
use Rattle.reading_back.proofs.Sayable.{IsTyped}

both_true : (a b : Bool) → (a && b) ≡ true → (a ≡ true) × (b ≡ true)
both_true true b h = (refl, h)
both_true false b h = cc

and_true : (a b : Bool) → a ≡ true → b ≡ true → (a && b) ≡ true
and_true true b h i = i
and_true false b h i = cc

fewer : (n : ℕ) → nat_le n 256 ≡ true → nat_le n 65535 ≡ true
fewer n few = grind (arith, nat_tests)

-- ---- ranges

module _ (low high : ℤ) (within : (int_le low high && (int_le (neg_ℤ (pos (2 ^ 63))) low && int_lt high (pos (2 ^ 63)))) ≡ true) (few : nat_le (count (Range low high)) 256 ≡ true) where
  ordered : int_le low high ≡ true
  ordered = (both_true (int_le low high) (int_le (neg_ℤ (pos (2 ^ 63))) low && int_lt high (pos (2 ^ 63))) within).0

  bits : (int_le (neg_ℤ (pos (2 ^ 63))) low && int_lt high (pos (2 ^ 63))) ≡ true
  bits = (both_true (int_le low high) (int_le (neg_ℤ (pos (2 ^ 63))) low && int_lt high (pos (2 ^ 63))) within).1

  short : is_short low high ≡ true
  short =
      and_true (int_le low high) (nat_le (count (Range low high)) 65535 && (int_le (neg_ℤ (pos (2 ^ 63))) low && int_lt high (pos (2 ^ 63)))) ordered
      (and_true (nat_le (count (Range low high)) 65535) (int_le (neg_ℤ (pos (2 ^ 63))) low && int_lt high (pos (2 ^ 63))) (fewer (count (Range low high)) few) bits)

  not_empty : int_lt high low ≡ false
  not_empty = let o = ordered in grind (arith, ints)

  count_is : count (Range low high) ≡ unsigned_abs (high -ℤ low) + 1
  count_is = ap (λ b. if b then 0 else unsigned_abs (high -ℤ low) + 1) not_empty

  -- a number of a listed range has 64 bits
  number_fits : (z : ℤ) → (int_le low z && int_lt z (low +ℤ pos (small (count (Range low high))))) ≡ true → FitsSigned w64 z
  number_fits z h =
      let o = ordered in
      let c = count_is in
      let least : int_le (neg_ℤ (pos (2 ^ 63))) low ≡ true = (both_true (int_le (neg_ℤ (pos (2 ^ 63))) low) (int_lt high (pos (2 ^ 63))) bits).0 in
      let most : int_lt high (pos (2 ^ 63)) ≡ true = (both_true (int_le (neg_ℤ (pos (2 ^ 63))) low) (int_lt high (pos (2 ^ 63))) bits).1 in
      let same : small (count (Range low high)) ≡ unsigned_abs (high -ℤ low) + 1 = let f : count (Range low high) ≤ 256 = grind (arith, nat_tests) in omega (arith, c, f) in
      let from : int_le low z ≡ true = (both_true (int_le low z) (int_lt z (low +ℤ pos (small (count (Range low high))))) h).0 in
      let to : int_lt z (low +ℤ pos (unsigned_abs (high -ℤ low) + 1)) ≡ true = subst (λ n. int_lt z (low +ℤ pos n) ≡ true) same ((both_true (int_le low z) (int_lt z (low +ℤ pos (small (count (Range low high))))) h).1) in
      fit z o least most from to
    where
      fit : (z : ℤ) → int_le low high ≡ true → int_le (neg_ℤ (pos (2 ^ 63))) low ≡ true → int_lt high (pos (2 ^ 63)) ≡ true → int_le low z ≡ true → int_lt z (low +ℤ pos (unsigned_abs (high -ℤ low) + 1)) ≡ true → FitsSigned w64 z
      fit z o least most from to =
          let long : pos (unsigned_abs (high -ℤ low)) ≡ high -ℤ low = grind (arith, ints) in
          let a : neg_ℤ (pos (2 ^ 63)) ≤ℤ low = grind (arith, ints) in
          let b : (low ≤ℤ z) = grind (arith, ints) in
          let d : (z ≤ℤ high) = grind (arith, ints) in
          let e : (high +ℤ pos 1) ≤ℤ pos (2 ^ 63) = grind (arith, ints) in
          omega (arith, ints, a, b, d, e)

pub range_kind : (low high : ℤ) (z : ℤ) → is_of (shape_of (Range low high)) (scalar.Int z) ≡ true
range_kind low high z = by (nat_lt 65535 (count (Range low high)))
  where
    by : (b : Bool) → is_of (if b then shape.Range low high else shape.Listed (listed_of (Range low high))) (scalar.Int z) ≡ true
    by true = refl
    by false = refl

-- ---- one parameter

module _ (plan : Plan) (members : ℕ) (numbered : (n : ℕ) → n < members → IsMember plan n) where
  range_by : (low high : ℤ) (v : Scalar) → (int_le low high && (int_le (neg_ℤ (pos (2 ^ 63))) low && int_lt high (pos (2 ^ 63)))) ≡ true → nat_le (count (Range low high)) 256 ≡ true
      → is_member (listed_of (Range low high)) v ≡ true → IsTyped plan (shape_of (Range low high)) v
  range_by low high (scalar.Int z) w few h = record { written = number_fits low high w few z h; kind = range_kind low high z }
  range_by low high (scalar.Bool b) w few h = cc
  range_by low high (scalar.Member n) w few h = cc

  enum_by : (first n : ℕ) (v : Scalar) → nat_le (first + n) members ≡ true → is_member (listed.Enumeration first n) v ≡ true → IsTyped plan (shape.Listed (listed.Enumeration first n)) v
  enum_by first n (scalar.Int z) w h = cc
  enum_by first n (scalar.Bool b) w h = cc
  enum_by first n (scalar.Member k) w h =
      let p = both_true (nat_le first k) (nat_lt k (first + n)) h in
      let low : nat_lt k (first + n) ≡ true = p.1 in
      let less : k < members = grind (arith, nat_tests) in
      record { written = numbered k less; kind = h }

  truth_by : (v : Scalar) → is_member listed.Bool v ≡ true → IsTyped plan (shape.Listed listed.Bool) v
  truth_by (scalar.Int z) h = cc
  truth_by (scalar.Bool b) h = record { written = tt; kind = refl }
  truth_by (scalar.Member n) h = cc

  free_by : (formals : List Scalar) (k : Kind) (v : Scalar) → (is_scalar k && is_within members k) ≡ true → (can_be_listed k && nat_le (count k) 256) ≡ true → fits_one formals (param_in k) v ≡ true → IsTyped plan (shape_of k) v
  free_by formals Truth v w l h = truth_by v h
  free_by formals Whole v w l h = cc
  free_by formals (Range low high) v w l h =
      let same : param_in (Range low high) ≡ param.Member (listed_of (Range low high)) = ap (λ b. if b then param.Member (listed_of (Range low high)) else param.Between low high) (short low high w l) in
      range_by low high v w l (subst (λ (p : Param). fits_one formals p v ≡ true) same h)
  free_by formals (Enum first n) v w l h = enum_by first n v w h
  free_by formals (SeqOf k n) v w l h = cc
  free_by formals (ArrayOf r k) v w l h = cc

  module _ (formals : List Scalar) (kinds : List (Option Kind)) (fixed : (n : ℕ) → IsTyped plan (formal_type (slice_get kinds n)) (slot formals n)) where
    slot_by : (s : Option Slot) (v : Scalar) → is_slot members s ≡ true → is_listed s ≡ true → fits_one formals (param_of s) v ≡ true → IsTyped plan (type_in kinds s) v
    slot_by None v w l h = cc
    slot_by (Some (Fixed n)) v w l h = subst (IsTyped plan (formal_type (slice_get kinds n))) (scalar_is (slot formals n) v h) (fixed n)
    slot_by (Some (Free k)) v w l h = free_by formals k v w l h

    -- ---- all parameters

    -- a parameter that may stand there, whose values can be listed
    pub record IsFine (s : Option Slot) : Type 0 where
      pub slot : is_slot members s ≡ true
      pub listed : is_listed s ≡ true

    pub record AreTyped (ts : List ShapeTree) (args : List Scalar) : Type 0 where
      pub written : AllByRecursion (IsArgument plan) args
      pub all_of : are_of ts args ≡ true

    more_typed : (t : ShapeTree) (ts : List ShapeTree) (v : Scalar) (vs : List Scalar) → IsTyped plan t v → AreTyped ts vs → AreTyped (t ∷ ts) (v ∷ vs)
    more_typed t ts v vs one others = record { written = (one.written, others.written); all_of = and_true (is_of t v) (are_of ts vs) one.kind others.all_of }

    pub slots_typed : (ss : List (Option Slot)) (args : List Scalar) → Each IsFine ss → fits formals (map param_of ss) args ≡ true → AreTyped (map (type_in kinds) ss) args
    slots_typed [] [] fine h = record { written = tt; all_of = refl }
    slots_typed [] (v ∷ vs) fine h = cc
    slots_typed (s ∷ ss) [] fine h = cc
    slots_typed (s ∷ ss) (v ∷ vs) fine h =
        let p = both_true (fits_one formals (param_of s) v) (fits formals (map param_of ss) vs) h in
        more_typed (type_in kinds s) (map (type_in kinds) ss) v vs (slot_by s v fine.0.slot fine.0.listed p.0) (slots_typed ss vs fine.1 p.1)
