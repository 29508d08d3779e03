-- Parameters that are the same token for token are the same.
use Rattle.std.proofs.Common.{◌≡◌, ℕ, Bool, true, false, not, ◌&&◌, nat_eq, List, [], ◌∷◌, refl, ap, ap₂, arith, bytes_eq, if◌then◌else◌}
use Rattle.std.proofs.lemmas.Bool.{and_parts}
use Rattle.std.proofs.lemmas.Bool.Decides.{nat_tests}
use Rattle.std.proofs.lemmas.Slice.Eq.{bytes_eq-Decides}
use Rattle.ioa_trees.specs.declared.tree.Signed.{Signed}
use Rattle.ioa_trees.specs.Trees as tree
use Rattle.ioa_trees.specs.Trees.{Bytes, PlainType, PlainDeclared, PlainParameter}
use Rattle.ioa_trees.specs.EntryRules.{same_signed, same_type, same_parameter, same_parameters}

number_same : (n m : ℕ) → nat_eq n m ≡ true → n ≡ m
number_same n m h = grind (arith, nat_tests)

bytes_same : (q r : Bytes) → bytes_eq q r ≡ true → q ≡ r
bytes_same q r h = (bytes_eq-Decides q r).0 h

abbrev signed : Bool → ℕ → Signed
signed b n = record { is_negative = b; size = n }

signed_by : (x y : Bool) (n m : ℕ) → (if x then y && nat_eq n m else not y && nat_eq n m) ≡ true → (x ≡ y) × (n ≡ m)
signed_by true true n m h = (refl, number_same n m h)
signed_by true false n m h = absurd (cc)
signed_by false true n m h = absurd (cc)
signed_by false false n m h = (refl, number_same n m h)

signed_same : (a b : Signed) → same_signed a b ≡ true → a ≡ b
signed_same a b h =
    let e = signed_by a.is_negative b.is_negative a.size b.size h in
    ap₂ signed e.0 e.1

type_same : (t u : PlainType) → same_type t u ≡ true → t ≡ u
type_same tree.Bools tree.Bools h = refl
type_same tree.Bools tree.Ints h = cc
type_same tree.Bools (tree.Range x y) h = cc
type_same tree.Bools (tree.Named x) h = cc
type_same tree.Bools (tree.SeqOf x y) h = cc
type_same tree.Bools (tree.ArrayOf x y) h = cc
type_same tree.Ints tree.Bools h = cc
type_same tree.Ints tree.Ints h = refl
type_same tree.Ints (tree.Range x y) h = cc
type_same tree.Ints (tree.Named x) h = cc
type_same tree.Ints (tree.SeqOf x y) h = cc
type_same tree.Ints (tree.ArrayOf x y) h = cc
type_same (tree.Range a b) tree.Bools h = cc
type_same (tree.Range a b) tree.Ints h = cc
type_same (tree.Range a b) (tree.Range x y) h =
    let e = and_parts (same_signed a x) (same_signed b y) h in
    ap₂ tree.Range (signed_same a x e.0) (signed_same b y e.1)
type_same (tree.Range a b) (tree.Named x) h = cc
type_same (tree.Range a b) (tree.SeqOf x y) h = cc
type_same (tree.Range a b) (tree.ArrayOf x y) h = cc
type_same (tree.Named a) tree.Bools h = cc
type_same (tree.Named a) tree.Ints h = cc
type_same (tree.Named a) (tree.Range x y) h = cc
type_same (tree.Named a) (tree.Named x) h = ap tree.Named (bytes_same a x h)
type_same (tree.Named a) (tree.SeqOf x y) h = cc
type_same (tree.Named a) (tree.ArrayOf x y) h = cc
type_same (tree.SeqOf a b) tree.Bools h = cc
type_same (tree.SeqOf a b) tree.Ints h = cc
type_same (tree.SeqOf a b) (tree.Range x y) h = cc
type_same (tree.SeqOf a b) (tree.Named x) h = cc
type_same (tree.SeqOf a b) (tree.SeqOf x y) h =
    let e = and_parts (same_type a x) (nat_eq b y) h in
    ap₂ tree.SeqOf (type_same a x e.0) (number_same b y e.1)
type_same (tree.SeqOf a b) (tree.ArrayOf x y) h = cc
type_same (tree.ArrayOf a b) tree.Bools h = cc
type_same (tree.ArrayOf a b) tree.Ints h = cc
type_same (tree.ArrayOf a b) (tree.Range x y) h = cc
type_same (tree.ArrayOf a b) (tree.Named x) h = cc
type_same (tree.ArrayOf a b) (tree.SeqOf x y) h = cc
type_same (tree.ArrayOf a b) (tree.ArrayOf x y) h =
    let e = and_parts (same_type a x) (same_type b y) h in
    ap₂ tree.ArrayOf (type_same a x e.0) (type_same b y e.1)

abbrev declared : Bytes → PlainType → PlainDeclared
declared q t = record { name = q; of = t }

declared_same : (d e : PlainDeclared) → (bytes_eq d.name e.name && same_type d.of e.of) ≡ true → d ≡ e
declared_same d e h =
    let both = and_parts (bytes_eq d.name e.name) (same_type d.of e.of) h in
    ap₂ declared (bytes_same d.name e.name both.0) (type_same d.of e.of both.1)

parameter_same : (p q : PlainParameter) → same_parameter p q ≡ true → p ≡ q
parameter_same (tree.Constant q) (tree.Constant r) h = ap tree.Constant (bytes_same q r h)
parameter_same (tree.Typed d) (tree.Typed e) h = ap tree.Typed (declared_same d e h)
parameter_same (tree.Constant q) (tree.Typed e) h = cc
parameter_same (tree.Typed d) (tree.Constant r) h = cc

pub parameters_same : (ps qs : List PlainParameter) → same_parameters ps qs ≡ true → ps ≡ qs
parameters_same [] [] h = refl
parameters_same [] (q ∷ qs) h = cc
parameters_same (p ∷ ps) [] h = cc
parameters_same (p ∷ ps) (q ∷ qs) h =
    let both = and_parts (same_parameter p q) (same_parameters ps qs) h in
    ap₂ ◌∷◌ (parameter_same p q both.0) (parameters_same ps qs both.1)
