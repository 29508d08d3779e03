-- Scopes with one more name.
use Rattle.std.proofs.Common.{◌≡◌, ℕ, Bool, true, false, Option, Some, None, IsSome, [], ◌∷◌, ◌⊎◌, inl, inr, refl, sym, ap, ap₂, ◌∙◌, subst, cond, bytes_eq, if◌then◌else◌}
use Rattle.ioa_trees.specs.Trees as tree
use Rattle.ioa_trees.specs.Trees.{Bytes, PlainType}
use Rattle.ioa_trees.specs.Kinds.{Kind}
use Rattle.ioa_trees.specs.Scopes.{Scope, Meaning, OfType, OfMember, OfAutomaton, OfFormal, OfVariable, OfParameter, OfLoop, named, declare, is_type, is_value, kind_meant}
use Rattle.ioa_trees.specs.TermRules.{value_meant}
use Rattle.ioa_trees.specs.TypeRules.{kind_of, seq_of, array_of}
use Rattle.ioa_trees.specs.EntryRules.{formal_of}
use Rattle.ioa_trees.specs.Meant.{AllMeant}

-- of two look-ups the second is the first, or found this where there was nothing
abbrev pub Grown : Option Meaning → Option Meaning → Meaning → Type 0
Grown x y m = (y ≡ x) ⊎ ((x ≡ None) × (y ≡ Some m))

first_by : (b : Bool) (m : Meaning) → Grown None (cond b (Some m) None) m
first_by true m = inr (refl, refl)
first_by false m = inl refl

behind_by : (b : Bool) (z x y : Option Meaning) (m : Meaning) → Grown x y m → Grown (cond b z x) (cond b z y) m
behind_by true z x y m h = inl refl
behind_by false z x y m h = h

grown_by : (c : Bool) (p : Bytes) (m : Meaning) (e : Bytes × Meaning) (es ds : Scope) → Grown (named p es) (named p ds) m → Grown (named p (e ∷ es)) (named p (if c then e ∷ es else e ∷ ds)) m
grown_by true p m e es ds h = inl refl
grown_by false p m e es ds h = behind_by (bytes_eq p e.0) (Some e.1) (named p es) (named p ds) m h

pub grown : (p q : Bytes) (m : Meaning) (s : Scope) → Grown (named p s) (named p (declare q m s)) m
grown p q m [] = first_by (bytes_eq p q) m
grown p q m (e ∷ es) = grown_by (bytes_eq q e.0) p m e es (declare q m es) (grown p q m es)

types_by : (x y : Option Meaning) (m : Meaning) → Grown x y m → (is_type x ≡ true → IsSome (kind_meant x)) → (is_type (Some m) ≡ true → IsSome (kind_meant (Some m))) → is_type y ≡ true → IsSome (kind_meant y)
types_by x y m (inl e) f g = subst (λ z. is_type z ≡ true → IsSome (kind_meant z)) (sym e) f
types_by x y m (inr e) f g = subst (λ z. is_type z ≡ true → IsSome (kind_meant z)) (sym e.1) g

values_by : (x y : Option Meaning) (m : Meaning) → Grown x y m → (is_value x ≡ true → IsSome (value_meant x)) → (is_value (Some m) ≡ true → IsSome (value_meant (Some m))) → is_value y ≡ true → IsSome (value_meant y)
values_by x y m (inl e) f g = subst (λ z. is_value z ≡ true → IsSome (value_meant z)) (sym e) f
values_by x y m (inr e) f g = subst (λ z. is_value z ≡ true → IsSome (value_meant z)) (sym e.1) g

-- a scope stays meant with one more name that is
pub meant_with : (q : Bytes) (m : Meaning) (s : Scope) → AllMeant s → (is_type (Some m) ≡ true → IsSome (kind_meant (Some m))) → (is_value (Some m) ≡ true → IsSome (value_meant (Some m))) → AllMeant (declare q m s)
meant_with q m s h f g = record {
  types = λ p. types_by (named p s) (named p (declare q m s)) m (grown p q m s) (h.types p) f;
  values = λ p. values_by (named p s) (named p (declare q m s)) m (grown p q m s) (h.values p) g;
}

pub with_type : (q : Bytes) (k : Option Kind) (s : Scope) → AllMeant s → IsSome k → AllMeant (declare q (OfType k) s)
with_type q k s h i = meant_with q (OfType k) s h (λ e. i) (λ e. absurd (cc))

pub with_member : (q : Bytes) (at first count : ℕ) (s : Scope) → AllMeant s → AllMeant (declare q (OfMember at first count) s)
with_member q at first count s h = meant_with q (OfMember at first count) s h (λ e. absurd (cc)) (λ e. refl)

pub with_automaton_meant : (q : Bytes) (n : ℕ) (s : Scope) → AllMeant s → AllMeant (declare q (OfAutomaton n) s)
with_automaton_meant q n s h = meant_with q (OfAutomaton n) s h (λ e. absurd (cc)) (λ e. absurd (cc))

pub with_formal : (q : Bytes) (n : ℕ) (k : Option Kind) (s : Scope) → AllMeant s → IsSome k → AllMeant (declare q (OfFormal n k) s)
with_formal q n None s h i = absurd (cc)
with_formal q n (Some k) s h i = meant_with q (OfFormal n (Some k)) s h (λ e. absurd (cc)) (λ e. refl)

pub with_variable : (q : Bytes) (n : ℕ) (k : Option Kind) (s : Scope) → AllMeant s → IsSome k → AllMeant (declare q (OfVariable n k) s)
with_variable q n None s h i = absurd (cc)
with_variable q n (Some k) s h i = meant_with q (OfVariable n (Some k)) s h (λ e. absurd (cc)) (λ e. refl)

pub with_parameter_meant : (q : Bytes) (n : ℕ) (k : Option Kind) (s : Scope) → AllMeant s → IsSome k → AllMeant (declare q (OfParameter n k) s)
with_parameter_meant q n None s h i = absurd (cc)
with_parameter_meant q n (Some k) s h i = meant_with q (OfParameter n (Some k)) s h (λ e. absurd (cc)) (λ e. refl)

pub with_loop : (q : Bytes) (n : ℕ) (k : Option Kind) (s : Scope) → AllMeant s → IsSome k → AllMeant (declare q (OfLoop n k) s)
with_loop q n None s h i = absurd (cc)
with_loop q n (Some k) s h i = meant_with q (OfLoop n (Some k)) s h (λ e. absurd (cc)) (λ e. refl)

-- ---- scopes with the same types and formals

abbrev pub Alike : Scope → Scope → Type 0
Alike g s = (q : Bytes) → (kind_meant (named q g) ≡ kind_meant (named q s)) × (formal_of (named q g) ≡ formal_of (named q s))

pub alike_self : (s : Scope) → Alike s s
alike_self s q = (refl, refl)

kinds_by : (x y : Option Meaning) (m : Meaning) → Grown x y m → kind_meant (Some m) ≡ None → kind_meant y ≡ kind_meant x
kinds_by x y m (inl e) f = ap (λ z. kind_meant z) e
kinds_by x y m (inr e) f = ap (λ z. kind_meant z) e.1 ∙ (f ∙ sym (ap (λ z. kind_meant z) e.0))

formals_by : (x y : Option Meaning) (m : Meaning) → Grown x y m → formal_of (Some m) ≡ None → formal_of y ≡ formal_of x
formals_by x y m (inl e) f = ap (λ z. formal_of z) e
formals_by x y m (inr e) f = ap (λ z. formal_of z) e.1 ∙ (f ∙ sym (ap (λ z. formal_of z) e.0))

-- one more name, which is neither
pub alike_with : (q : Bytes) (m : Meaning) (g s : Scope) → kind_meant (Some m) ≡ None → formal_of (Some m) ≡ None → Alike g s → Alike (declare q m g) s
alike_with q m g s e f a p =
    let both = grown p q m g in
    (kinds_by (named p g) (named p (declare q m g)) m both e ∙ (a p).0, formals_by (named p g) (named p (declare q m g)) m both f ∙ (a p).1)

alike_turned : (g s : Scope) → Alike g s → Alike s g
alike_turned g s a q = (sym (a q).0, sym (a q).1)

-- a parameter more in both
pub alike_parameter : (q : Bytes) (n : ℕ) (k l : Option Kind) (g s : Scope) → Alike g s → Alike (declare q (OfParameter n k) g) (declare q (OfParameter n l) s)
alike_parameter q n k l g s a =
    let t = declare q (OfParameter n l) s in
    alike_with q (OfParameter n k) g t refl refl (alike_turned t g (alike_with q (OfParameter n l) s g refl refl (alike_turned g s a)))

pub kind_alike : (g s : Scope) → Alike g s → (t : PlainType) → kind_of g t ≡ kind_of s t
kind_alike g s f tree.Bools = refl
kind_alike g s f tree.Ints = refl
kind_alike g s f (tree.Range a b) = refl
kind_alike g s f (tree.Named q) = (f q).0
kind_alike g s f (tree.SeqOf t n) = ap (seq_of n) (kind_alike g s f t)
kind_alike g s f (tree.ArrayOf r t) = ap₂ array_of (kind_alike g s f r) (kind_alike g s f t)
