-- Parameters without faults are scalar and within the members, and those of what is controlled can be listed.
use Rattle.std.proofs.Common.{◌≡◌, ℕ, ◌+◌, zero, suc, Bool, true, false, not, Option, Some, None, IsSome, List, [], ◌∷◌, ◌++◌, slice_get, nat_le, nat_lt, refl, sym, ap, ◌∙◌, subst, if◌then◌else◌}
use Rattle.std.proofs.lemmas.Bool.{and_from, ltb-false, le-leb}
use Rattle.std.proofs.lemmas.Option.{same_Some}
use Rattle.ioa_trees.specs.Trees as tree
use Rattle.ioa_trees.specs.Trees.{PlainParameter}
use Rattle.ioa_trees.specs.Faults.{where_wrong}
use Rattle.ioa_trees.specs.Kinds.{Kind, Truth, Whole, Range, Enum, SeqOf, ArrayOf, count, can_be_listed, is_scalar}
use Rattle.ioa_trees.specs.Scopes.{Scope, Meaning, OfType, OfMember, OfAutomaton, OfComposed, OfFormal, OfVariable, OfParameter, OfLoop, named, doubled, is_formal}
use Rattle.ioa_trees.specs.Sizes.{declared_size}
use Rattle.ioa_trees.specs.TypeRules.{kind_of, type_faults}
use Rattle.ioa_trees.specs.EntryRules.{with_parameter, sort_faults, parameters_faults, Slot, Free, formal_of, free_of, slots}
use Rattle.compose.specs.Sound.{is_within, is_slot, is_listed}
use Rattle.compose.proofs.NoFaults.{nil_left, nil_right, right_if, not_wrong}
use Rattle.ioa_trees.proofs.ScopesMeant.{Alike, alike_parameter, kind_alike}
use Rattle.compose.proofs.Within.{may_stand, Within, within_with, kind_within}

-- what is said of a parameter, of what is controlled or of an input
pub record IsRight (members : ℕ) (controlled : Bool) (slot : Option Slot) : Type 0 where
  pub stands : is_slot members slot ≡ true
  pub listed : controlled ≡ true → is_listed slot ≡ true

formal_right : (members : ℕ) (c : Bool) (m : Option Meaning) → IsSome (formal_of m) → IsRight members c (formal_of m)
formal_right members c None h = absurd (cc)
formal_right members c (Some (OfType k)) h = absurd (cc)
formal_right members c (Some (OfMember at first n)) h = absurd (cc)
formal_right members c (Some (OfAutomaton n)) h = absurd (cc)
formal_right members c (Some OfComposed) h = absurd (cc)
formal_right members c (Some (OfFormal n k)) h = record { stands = refl; listed = λ e. refl }
formal_right members c (Some (OfVariable n k)) h = absurd (cc)
formal_right members c (Some (OfParameter n k)) h = absurd (cc)
formal_right members c (Some (OfLoop n k)) h = absurd (cc)

scalar_if : (k : Kind) → can_be_listed k ≡ true → is_scalar k ≡ true
scalar_if Truth h = refl
scalar_if Whole h = cc
scalar_if (Range low high) h = refl
scalar_if (Enum first n) h = refl
scalar_if (SeqOf k n) h = cc
scalar_if (ArrayOf r k) h = cc

listed_by : (b : Bool) (at n : ℕ) → (if b then where_wrong (nat_lt 256 n) at 17 else where_wrong true at 12) ≡ [] → (b ≡ true) × (nat_le n 256 ≡ true)
listed_by true at n h = (refl, le-leb n 256 (ltb-false 256 n (not_wrong (nat_lt 256 n) at 17 h)))
listed_by false at n h = absurd (cc)

free_by : (members : ℕ) (c : Bool) (at : ℕ) (k : Kind) → sort_faults c at (Some k) ≡ [] → is_within members k ≡ true → IsRight members c (Some (Free k))
free_by members true at k h w =
    let l = listed_by (can_be_listed k) at (count k) h in
    record {
      stands = and_from (is_scalar k) (is_within members k) (scalar_if k l.0) w;
      listed = λ e. and_from (can_be_listed k) (nat_le (count k) 256) l.0 l.1;
    }
free_by members false at k h w = record {
  stands = and_from (is_scalar k) (is_within members k) (right_if (is_scalar k) at 12 h) w;
  listed = λ e. absurd (cc);
}

free_right : (members : ℕ) (c : Bool) (at : ℕ) (k : Option Kind) → sort_faults c at k ≡ [] → may_stand members k ≡ true → IsSome (free_of k) → IsRight members c (free_of k)
free_right members c at None h w i = absurd (cc)
free_right members c at (Some k) h w i = free_by members c at k h w

-- The faults are those of one scope, the slots those of another with the same types and formals.
pub slots_right : (members : ℕ) (g r : Scope) → Within members g → Alike r g → (c : Bool) (n at : ℕ) (ps : List PlainParameter) → parameters_faults g c n at ps ≡ []
    → (k : ℕ) (slot : Option Slot) → slice_get (slots r n ps) k ≡ Some slot → IsSome slot → IsRight members c slot
slots_right members g r w a c n at [] h k slot e i = absurd (cc)
slots_right members g r w a c n at (tree.Constant q ∷ ps) h zero slot e i =
    let same = same_Some (formal_of (named q r)) slot e in
    subst (IsRight members c) same (formal_right members c (named q r) (subst (λ (o : Option Slot). IsSome o) (sym same) i))
slots_right members g r w a c n at (tree.Constant q ∷ ps) h (suc k) slot e i =
    let x = where_wrong (not (is_formal (named q g))) (at + 1) 10 in let y = parameters_faults g c (n + 1) (at + 3) ps in
    slots_right members g r w a c (n + 1) (at + 3) ps (nil_right x y h) k slot e i
slots_right members g r w a c n at (tree.Typed d ∷ ps) h zero slot e i =
    let f = kind_of g d.of in
    let u = doubled g at d.name in let x = type_faults g (at + 2) d.of in let y = sort_faults c (at + 2) f in
    let z = parameters_faults (with_parameter g n d) c (n + 1) (at + declared_size d + 1) ps in
    let sorted = nil_left y z (nil_right x (y ++ z) (nil_right u (x ++ (y ++ z)) h)) in
    let same : free_of f ≡ slot = ap free_of (sym (kind_alike r g a d.of)) ∙ same_Some (free_of (kind_of r d.of)) slot e in
    subst (IsRight members c) same (free_right members c (at + 2) f sorted (kind_within members g w d.of) (subst (λ (o : Option Slot). IsSome o) (sym same) i))
slots_right members g r w a c n at (tree.Typed d ∷ ps) h (suc k) slot e i =
    let f = kind_of g d.of in let l = kind_of r d.of in
    let u = doubled g at d.name in let x = type_faults g (at + 2) d.of in let y = sort_faults c (at + 2) f in
    let p = at + declared_size d + 1 in
    let z = parameters_faults (with_parameter g n d) c (n + 1) p ps in
    slots_right members (with_parameter g n d) (with_parameter r n d) (within_with members d.name (OfParameter n f) g refl w) (alike_parameter d.name n l f r g a) c (n + 1) p ps
    (nil_right y z (nil_right x (y ++ z) (nil_right u (x ++ (y ++ z)) h))) k slot e i
