-- The members of a source without faults have different names.
use Rattle.std.proofs.Common.{◌≡◌, ◌<◌, ◌+◌, ℕ, zero, suc, Bool, true, false, cond, bytes_eq, is_some, None, Some, List, [], ◌∷◌, ◌++◌, length, slice_get, refl, sym, ◌∙◌, ap, arith}
use Rattle.std.specs.Map.{lookup}
use Rattle.std.proofs.lemmas.Slice.Eq.{bytes_eq-Decides}
use Rattle.ioa_trees.specs.Trees as tree
use Rattle.ioa_trees.specs.Trees.{Bytes, PlainTypeBody, PlainTypeDefinition, PlainSource}
use Rattle.ioa_trees.specs.Kinds.{Enum}
use Rattle.ioa_trees.specs.Scopes.{Scope, Meaning, OfType, OfMember, named, declare, doubled}
use Rattle.ioa_trees.specs.Sizes.{definition_size}
use Rattle.ioa_trees.specs.TypeRules.{kind_of}
use Rattle.ioa_trees.specs.SourceRules.{all_members, automata_faults, composed_faults, definition_faults, definitions_faults, definitions_size, members_faults, members_in, source_faults, with_definition, with_members, all_locals, composed_at, table_of, types_scope, whole_scope}
use Rattle.io_automata.specs.Each.{Each, each_append, each_get}
use Rattle.compose.proofs.NoFaults.{nil_left, nil_right, not_wrong}

same_bytes : (q r : Bytes) → bytes_eq q r ≡ true → q ≡ r
same_bytes q r h = (bytes_eq-Decides q r).0 h

name_itself : (q : Bytes) → bytes_eq q q ≡ true
name_itself q = (bytes_eq-Decides q q).1 refl

-- ---- what is declared stays

kept : (r q : Bytes) (m : Meaning) (s : Scope) → is_some (named r s) ≡ true → is_some (named r (declare q m s)) ≡ true
kept r q m [] h = cc
kept r q m (e ∷ es) h = outer (kept r q m es) (bytes_eq q e.0)
  where
    inner : (is_some (named r es) ≡ true → is_some (named r (declare q m es)) ≡ true) → (b : Bool) → is_some (cond b (Some e.1) (lookup (bytes_eq r) es)) ≡ true → is_some (cond b (Some e.1) (lookup (bytes_eq r) (declare q m es))) ≡ true
    inner f true i = refl
    inner f false i = f i

    outer : (is_some (named r es) ≡ true → is_some (named r (declare q m es)) ≡ true) → (b : Bool) → is_some (named r (cond b (e ∷ es) (e ∷ declare q m es))) ≡ true
    outer f true = h
    outer f false = inner f (bytes_eq r e.0) h

there : (q : Bytes) (m : Meaning) (s : Scope) → is_some (named q (declare q m s)) ≡ true
there q m [] = ap (λ b. is_some (cond b (Some m) None)) (name_itself q)
there q m (e ∷ es) = by (there q m es) (bytes_eq q e.0) refl
  where
    by : is_some (named q (declare q m es)) ≡ true → (b : Bool) → bytes_eq q e.0 ≡ b → is_some (named q (cond b (e ∷ es) (e ∷ declare q m es))) ≡ true
    by f true h = ap (λ c. is_some (cond c (Some e.1) (lookup (bytes_eq q) es))) h
    by f false h = ap (λ c. is_some (cond c (Some e.1) (lookup (bytes_eq q) (declare q m es)))) h ∙ f

-- ---- fresh names

abbrev IsFresh : Scope → Bytes → Type 0
IsFresh s r = is_some (named r s) ≡ false

abbrev IsOther : Bytes → Bytes → Type 0
IsOther q r = bytes_eq r q ≡ false

-- no name stands twice
abbrev pub Apart : List Bytes → Type 0
Apart [] = Unit {0}
Apart (q ∷ qs) = Each (IsOther q) qs × Apart qs

fresh_before : (r q : Bytes) (m : Meaning) (s : Scope) → IsFresh (declare q m s) r → IsFresh s r
fresh_before r q m s h = by (is_some (named r s)) refl
  where
    by : (b : Bool) → is_some (named r s) ≡ b → is_some (named r s) ≡ false
    by true e = let both : ◌≡◌ {A = Bool} false true = sym h ∙ kept r q m s e in cc
    by false e = e

fresh_other : (r q : Bytes) (m : Meaning) (s : Scope) → IsFresh (declare q m s) r → IsOther q r
fresh_other r q m s h = by (bytes_eq r q) refl
  where
    by : (b : Bool) → bytes_eq r q ≡ b → bytes_eq r q ≡ false
    by true e =
        let both : ◌≡◌ {A = Bool} false true = sym h ∙ ap (λ (x : Bytes). is_some (named x (declare q m s))) (same_bytes r q e) ∙ there q m s in
        cc
    by false e = e

all_before : (q : Bytes) (m : Meaning) (s : Scope) (rs : List Bytes) → Each (IsFresh (declare q m s)) rs → Each (IsFresh s) rs × Each (IsOther q) rs
all_before q m s [] h = (tt, tt)
all_before q m s (r ∷ rs) h = let rest = all_before q m s rs h.1 in ((fresh_before r q m s h.0, rest.0), (fresh_other r q m s h.0, rest.1))

-- ---- members

members_apart : (s : Scope) (first count member at : ℕ) (qs : List Bytes) → members_faults s first count member at qs ≡ [] → Each (IsFresh s) qs × Apart qs
members_apart s first count member at [] h = (tt, tt)
members_apart s first count member at (q ∷ qs) h =
    let m = OfMember member first count in
    let later = members_faults (declare q m s) first count (member + 1) (at + 2) qs in
    let one = not_wrong (is_some (named q s)) at 11 (nil_left (doubled s at q) later h) in
    let rest = members_apart (declare q m s) first count (member + 1) (at + 2) qs (nil_right (doubled s at q) later h) in
    let both = all_before q m s qs rest.0 in
    ((one, both.0), (both.1, rest.1))

-- names that are fresh behind others are other than these
joined : (s : Scope) (first count at : ℕ) (qs rs : List Bytes) → Apart qs → Each (IsFresh (with_members s first count at qs)) rs → Apart rs → Each (IsFresh s) rs × Apart (qs ++ rs)
joined s first count at [] rs a fresh b = (fresh, b)
joined s first count at (q ∷ qs) rs a fresh b =
    let m = OfMember at first count in
    let rest = joined (declare q m s) first count (at + 1) qs rs a.1 fresh b in
    let both = all_before q m s rs rest.0 in
    (both.0, (each_append (IsOther q) qs rs a.0 both.1, rest.1))

abbrev definition : Bytes → PlainTypeBody → PlainTypeDefinition
definition q b = record { name = q; body = b }

body_apart : (s : Scope) (n at : ℕ) (q : Bytes) (b : PlainTypeBody) (rs : List Bytes) → definition_faults s n at (definition q b) ≡ []
    → Each (IsFresh (with_definition s n (definition q b))) rs → Apart rs → Each (IsFresh s) (members_in b ++ rs) × Apart (members_in b ++ rs)
body_apart s n at q (tree.Same t) rs h fresh a = ((all_before q (OfType (kind_of s t)) s rs fresh).0, a)
body_apart s n at q (tree.Enumeration qs) rs h fresh a =
    let m = OfType (Some (Enum n (length qs))) in
    let own = members_apart (declare q m s) n (length qs) n (at + 5) qs (nil_right (doubled s (at + 1) q) (members_faults (declare q m s) n (length qs) n (at + 5) qs) h) in
    let both = joined (declare q m s) n (length qs) n qs rs own.1 fresh a in
    ((all_before q m s (qs ++ rs) (each_append (IsFresh (declare q m s)) qs rs own.0 both.0)).0, both.1)

definitions_apart : (s : Scope) (n at : ℕ) (ds : List PlainTypeDefinition) → definitions_faults s n at ds ≡ [] → Each (IsFresh s) (all_members ds) × Apart (all_members ds)
definitions_apart s n at [] h = (tt, tt)
definitions_apart s n at (d ∷ ds) h =
    let later = definitions_faults (with_definition s n d) (n + length (members_in d.body)) (at + definition_size d) ds in
    let rest = definitions_apart (with_definition s n d) (n + length (members_in d.body)) (at + definition_size d) ds (nil_right (definition_faults s n at d) later h) in
    body_apart s n at d.name d.body (all_members ds) (nil_left (definition_faults s n at d) later h) rest.0 rest.1

pub members_distinct : (x : PlainSource) → source_faults x ≡ [] → Apart (all_members x.types)
members_distinct x h =
    let a = definitions_faults [] 0 0 x.types in
    let b = automata_faults (types_scope x) [] 0 (definitions_size x.types) x.automata in
    let c = composed_faults (whole_scope x) (all_locals x.automata) (table_of x) (composed_at x) x.composed in
    (definitions_apart [] 0 0 x.types (nil_left a (b ++ c) h)).1

-- each stands at one place
pub first_place : (qs : List Bytes) → Apart qs → (k n : ℕ) (q : Bytes) → k < n → slice_get qs n ≡ Some q → slice_get qs k ≡ Some q → ⊥
first_place [] apart k n q less at before = cc
first_place (r ∷ qs) apart k zero q less at before = omega (arith, less)
first_place (r ∷ qs) apart zero (suc n) q less at before =
    let same : r ≡ q = cc in
    let other : bytes_eq q r ≡ false = each_get (IsOther r) qs n q apart.0 at in
    let both : ◌≡◌ {A = Bool} false true = sym other ∙ ap (bytes_eq q) same ∙ name_itself q in
    cc
first_place (r ∷ qs) apart (suc k) (suc n) q less at before = first_place qs apart.1 k n q (omega (arith, less)) at before
