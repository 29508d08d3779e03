-- State variables: their faults, the weight of the state, and what they declare.
use Rattle.std.proofs.Common.{◌≡◌, ℕ, ◌+◌, ◌<◌, ◌≤◌, false, ◌&&◌, ◌||◌, inl, inr, nat_le, nat_lt, bytes_eq, Option, List, [], ◌∷◌, ◌++◌, get_or, length, map, refl, ap, sym, ◌∙◌, arith}
use Rattle.std.proofs.lemmas.Bool.{cases_lt}
use Rattle.std.proofs.lemmas.Bool.Decides.{nat_tests}
use Rattle.std.proofs.lemmas.List.{append_assoc, get_or-map, length-map}
use Rattle.std.specs.List.{list_any}
use Rattle.std.specs.Option.{is_some}
use Rattle.ioa_trees.specs.Trees.{Bytes, PlainVariable}
use Rattle.ioa_trees.specs.AutomatonRules.{goes_over, variable_faults, variables_faults, weight_of, with_variables}
use Rattle.ioa_trees.specs.Faults.{Fault, keep, where_wrong}
use Rattle.ioa_trees.specs.Kinds.{Kind}
use Rattle.ioa_trees.specs.Scopes.{OfVariable, Scope, declare, named}
use Rattle.ioa_trees.specs.Sizes.{type_size, variable_size}
use Rattle.ioa_trees.specs.TypeRules.{kind_of, type_faults}
use Rattle.ioa_typing.specs.KindViews.{capped}
use Rattle.ioa_check.specs.AutomatonParts.{head_faults, kind_in, start_faults}
use Rattle.ioa_check.specs.Sets.{AreNames}
use Rattle.ioa_typing.proofs.Keeps.{keep_append}

-- a state variable by its parts
pub variable_noted : (s : Scope) (used : List Bytes) (before at place : ℕ) (k : Option Kind) (v : PlainVariable) (o p z : Option Fault) →
    p ≡ keep o (head_faults s used before at v.declared) → z ≡ keep p (start_faults s k place v.start) → k ≡ kind_of s v.declared.of → place ≡ at + type_size v.declared.of + 3 →
    z ≡ keep o (variable_faults s used before at v)
variable_noted s used before at place k v o p z first second kind here =
    let head = head_faults s used before at v.declared in
    let start = start_faults s (kind_of s v.declared.of) (at + type_size v.declared.of + 3) v.start in
    let joined : head ++ start ≡ variable_faults s used before at v = simp append_assoc refl in
    second
    ∙ ap (λ x. keep p (start_faults s x place v.start)) kind
    ∙ ap (λ n. keep p (start_faults s (kind_of s v.declared.of) n v.start)) here
    ∙ ap (λ x. keep x start) first
    ∙ sym (keep_append o head start)
    ∙ ap (keep o) joined

-- ---- the weight, as far as the limit

heavy : (n w : ℕ) → 65537 ≤ n → (nat_le n 65536 && nat_lt 65536 (n + w)) ≡ false
heavy n w h = let over : nat_le n 65536 ≡ false = grind (arith, nat_tests) in ap (λ b. b && nat_lt 65536 (n + w)) over

over_same : (n m : ℕ) (k : Option Kind) → capped n ≡ capped m → goes_over n k ≡ goes_over m k
over_same n m k same = elim (cases_lt n 65537) as (λ w. goes_over n k ≡ goes_over m k) [
  | inl low ↦ let is : n ≡ m = omega (arith, same, low) in ap (λ x. goes_over x k) is
  | inr high ↦ let big : 65537 ≤ m = omega (arith, same, high) in heavy n (weight_of k) high ∙ sym (heavy m (weight_of k) big)
]

sum_same : (n m w : ℕ) → capped n ≡ capped m → capped (n + w) ≡ capped (m + w)
sum_same n m w same = omega (arith, same)

variable_same : (s : Scope) (U V : List Bytes) (n m at : ℕ) (v : PlainVariable) → capped n ≡ capped m → AreNames U V → variable_faults s U n at v ≡ variable_faults s V m at v
variable_same s U V n m at v weight names =
    let k = kind_of s v.declared.of in
    let start = start_faults s k (at + type_size v.declared.of + 3) v.start in
    ap (λ b. where_wrong (is_some (named v.declared.name s) || b) at 11 ++ (type_faults s (at + 2) v.declared.of ++ (where_wrong (goes_over n k) (at + 2) 17 ++ start))) (names v.declared.name)
    ∙ ap (λ b. where_wrong (is_some (named v.declared.name s) || list_any (bytes_eq v.declared.name) V) at 11 ++ (type_faults s (at + 2) v.declared.of ++ (where_wrong b (at + 2) 17 ++ start))) (over_same n m k weight)

pub variables_same : (s : Scope) (U V : List Bytes) (n m at : ℕ) (vs : List PlainVariable) → capped n ≡ capped m → AreNames U V → variables_faults s U n at vs ≡ variables_faults s V m at vs
variables_same s U V n m at [] weight names = refl
variables_same s U V n m at (v ∷ vs) weight names =
    let q = v.declared.name in
    let w = weight_of (kind_of s v.declared.of) in
    let next = at + variable_size v + 1 in
    ap (λ fs. fs ++ variables_faults s (q ∷ U) (n + w) next vs) (variable_same s U V n m at v weight names)
    ∙ ap (λ fs. variable_faults s V m at v ++ fs) (variables_same s (q ∷ U) (q ∷ V) (n + w) (m + w) next vs (sum_same n m w weight) (λ r. ap (λ b. bytes_eq r q || b) (names r)))

-- the faults of a state variable, and of those after it
pub variable_kept : (s : Scope) (before after : List Bytes) (n m at next : ℕ) (v : PlainVariable) (vs : List PlainVariable) (o p : Option Fault) →
    p ≡ keep o (variable_faults s before n at v) → AreNames after (v.declared.name ∷ before) → capped m ≡ capped (n + weight_of (kind_in s v)) → next ≡ at + variable_size v →
    keep p (variables_faults s after m (next + 1) vs) ≡ keep o (variables_faults s before n at (v ∷ vs))
variable_kept s before after n m at next v vs o p noted names weight place =
    let rest = variables_faults s (v.declared.name ∷ before) (n + weight_of (kind_in s v)) (at + variable_size v + 1) vs in
    ap (λ k. keep p (variables_faults s after m (k + 1) vs)) place
    ∙ ap (keep p) (variables_same s after (v.declared.name ∷ before) m (n + weight_of (kind_in s v)) (at + variable_size v + 1) vs weight names)
    ∙ ap (λ x. keep x rest) noted
    ∙ sym (keep_append o (variable_faults s before n at v) rest)

pub joined_is : (n w m j : ℕ) → j ≡ capped (n + m) → m ≡ capped w → capped j ≡ capped (n + w)
joined_is n w m j sum weight = omega (arith, sum, weight)

-- ---- what they declare

pub mapped_at : {A B C : Type 0} (f : B → C) (g : A → B) (xs : List A) (i : ℕ) (x : A) (e : C) → x ≡ get_or xs i x → i < length xs → get_or (map f (map g xs)) i e ≡ f (g x)
mapped_at f g xs i x e is low =
    let inside : i < length (map g xs) = omega (arith, low, length-map xs g) in
    get_or-map f (map g xs) i (g x) e inside ∙ ap f (get_or-map g xs i x (g x) low ∙ ap g (sym is))

pub declared_next : (types s t : Scope) (n : ℕ) (k : Option Kind) (v : PlainVariable) (vs : List PlainVariable) → t ≡ declare v.declared.name (OfVariable n k) s → k ≡ kind_in types v →
    with_variables types t (n + 1) vs ≡ with_variables types s n (v ∷ vs)
declared_next types s t n k v vs scope kind =
    ap (λ x. with_variables types x (n + 1) vs) scope ∙ ap (λ x. with_variables types (declare v.declared.name (OfVariable n x) s) (n + 1) vs) kind
