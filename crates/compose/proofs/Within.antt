-- The enumerations of a source end within its members, and its ranges are of numbers of 64 bits with a sign.
use Rattle.std.specs.Prelude.{FitsSigned}
use Rattle.std.specs.Int.{w64, cast_signed, cast_unsigned}
use Rattle.std.proofs.Common.{◌≡◌, ◌≤◌, ℕ, ◌+◌, ◌-◌, ◌%◌, ◌^◌, ℤ, pos, neg_ℤ, Bool, true, false, ◌&&◌, inl, inr, Option, Some, None, List, [], ◌∷◌, length, length-append, int_le, int_lt, refl, sym, subst, arith, if◌then◌else◌}
use Rattle.std.proofs.lemmas.Bool.{and_from, le-leb}
use Rattle.std.proofs.lemmas.Int.{ints}
use Rattle.ioa_trees.specs.declared.tree.Signed.{Signed}
use Rattle.ioa_trees.specs.Trees as tree
use Rattle.ioa_trees.specs.Trees.{Bytes, PlainType, PlainDeclared, PlainVariable, PlainTypeBody, PlainTypeDefinition}
use Rattle.ioa_trees.specs.Kinds.{Kind, Range, Enum, ArrayOf, whole_number, number, can_be_listed}
use Rattle.ioa_trees.specs.Scopes.{Scope, Meaning, OfType, OfMember, OfFormal, named, declare, kind_meant}
use Rattle.ioa_trees.specs.TypeRules.{kind_of, seq_of, array_of}
use Rattle.ioa_trees.specs.AutomatonRules.{with_formals}
use Rattle.ioa_trees.specs.SourceRules.{with_members, with_definition, members_in, with_definitions, all_members}
use Rattle.compose.specs.Sound.{is_within}
use Rattle.ioa_trees.proofs.ScopesMeant.{Grown, grown}

-- nothing, or a kind within the members
abbrev pub may_stand : ℕ → Option Kind → Bool
may_stand members None = true
may_stand members (Some k) = is_within members k

-- each type that is named is within the members
abbrev pub Within : ℕ → Scope → Type 0
Within members s = (q : Bytes) → may_stand members (kind_meant (named q s)) ≡ true

within_by : (members : ℕ) (x y : Option Meaning) (m : Meaning) → Grown x y m → may_stand members (kind_meant (Some m)) ≡ true → may_stand members (kind_meant x) ≡ true → may_stand members (kind_meant y) ≡ true
within_by members x y m (inl e) f g = subst (λ z. may_stand members (kind_meant z) ≡ true) (sym e) g
within_by members x y m (inr e) f g = subst (λ z. may_stand members (kind_meant z) ≡ true) (sym e.1) f

-- one more name
pub within_with : (members : ℕ) (q : Bytes) (m : Meaning) (s : Scope) → may_stand members (kind_meant (Some m)) ≡ true → Within members s → Within members (declare q m s)
within_with members q m s f w p = within_by members (named p s) (named p (declare q m s)) m (grown p q m s) f (w p)

-- ---- numbers

-- what is read from bits has no more bits
bits_fit : (n : ℕ) → FitsSigned w64 (cast_signed w64 n)
bits_fit n = omega (arith, ints)

sign_fits : (b : Bool) (m n : ℕ) → FitsSigned w64 (if b then cast_signed w64 m else cast_signed w64 n)
sign_fits true m n = bits_fit m
sign_fits false m n = bits_fit n

number_fits : (s : Signed) → FitsSigned w64 (number s)
number_fits s = sign_fits s.is_negative ((2 ^ 64 - cast_unsigned w64 (whole_number s.size)) % 2 ^ 64) s.size

not_below : (z : ℤ) → FitsSigned w64 z → int_le (neg_ℤ (pos (2 ^ 63))) z ≡ true
not_below z fits = grind (arith, ints)

not_above : (z : ℤ) → FitsSigned w64 z → int_lt z (pos (2 ^ 63)) ≡ true
not_above z fits = grind (arith, ints)

in_order : (low high : ℤ) → int_lt high low ≡ false → int_le low high ≡ true
in_order low high h = grind (arith, ints)

-- ---- types

range_by : (members : ℕ) (low high : ℤ) → FitsSigned w64 low → FitsSigned w64 high → (b : Bool) → int_lt high low ≡ b → may_stand members (if b then None else Some (Range low high)) ≡ true
range_by members low high l h true is = refl
range_by members low high l h false is =
    let least = int_le (neg_ℤ (pos (2 ^ 63))) low in let most = int_lt high (pos (2 ^ 63)) in
    and_from (int_le low high) (least && most) (in_order low high is) (and_from least most (not_below low l) (not_above high h))

seq_by : (members n : ℕ) (k : Option Kind) → may_stand members k ≡ true → may_stand members (seq_of n k) ≡ true
seq_by members n None h = refl
seq_by members n (Some k) h = h

listed_by : (members : ℕ) (b : Bool) (k : Kind) → is_within members k ≡ true → may_stand members (if b then Some k else None) ≡ true
listed_by members true k h = h
listed_by members false k h = refl

array_by : (members : ℕ) (r k : Option Kind) → may_stand members r ≡ true → may_stand members k ≡ true → may_stand members (array_of r k) ≡ true
array_by members None k h i = refl
array_by members (Some r) None h i = refl
array_by members (Some r) (Some k) h i = listed_by members (can_be_listed r) (ArrayOf r k) (and_from (is_within members r) (is_within members k) h i)

-- what a type means is within the members
pub kind_within : (members : ℕ) (s : Scope) → Within members s → (t : PlainType) → may_stand members (kind_of s t) ≡ true
kind_within members s w tree.Bools = refl
kind_within members s w tree.Ints = refl
kind_within members s w (tree.Range a b) = range_by members (number a) (number b) (number_fits a) (number_fits b) (int_lt (number b) (number a)) refl
kind_within members s w (tree.Named q) = w q
kind_within members s w (tree.SeqOf t n) = seq_by members n (kind_of s t) (kind_within members s w t)
kind_within members s w (tree.ArrayOf r t) = array_by members (kind_of s r) (kind_of s t) (kind_within members s w r) (kind_within members s w t)

-- ---- scopes

members_within : (members : ℕ) (s : Scope) → Within members s → (first count at : ℕ) (qs : List Bytes) → Within members (with_members s first count at qs)
members_within members s w first count at [] = w
members_within members s w first count at (q ∷ qs) =
    members_within members (declare q (OfMember at first count) s) (within_with members q (OfMember at first count) s refl w) first count (at + 1) qs

abbrev definition : Bytes → PlainTypeBody → PlainTypeDefinition
definition q b = record { name = q; body = b }

definition_within : (members : ℕ) (s : Scope) → Within members s → (n : ℕ) (q : Bytes) (b : PlainTypeBody) → n + length (members_in b) ≤ members → Within members (with_definition s n (definition q b))
definition_within members s w n q (tree.Same t) h = within_with members q (OfType (kind_of s t)) s (kind_within members s w t) w
definition_within members s w n q (tree.Enumeration qs) h =
    let m = OfType (Some (Enum n (length qs))) in
    members_within members (declare q m s) (within_with members q m s (le-leb (n + length qs) members h) w) n (length qs) n qs

-- what the definitions declare is within the members
pub definitions_within : (members : ℕ) (s : Scope) → Within members s → (n : ℕ) (ds : List PlainTypeDefinition) → n + length (all_members ds) ≤ members → Within members (with_definitions s n ds)
definitions_within members s w n [] h = w
definitions_within members s w n (d ∷ ds) h =
    let long = length-append (members_in d.body) (all_members ds) in
    definitions_within members (with_definition s n d) (definition_within members s w n d.name d.body (omega (arith, h, long))) (n + length (members_in d.body)) ds (omega (arith, h, long))

pub formals_within : (members : ℕ) (s : Scope) → Within members s → (n : ℕ) (ds : List PlainDeclared) → Within members (with_formals s n ds)
formals_within members s w n [] = w
formals_within members s w n (d ∷ ds) =
    let m = OfFormal n (kind_of s d.of) in
    formals_within members (declare d.name m s) (within_with members d.name m s refl w) (n + 1) ds
