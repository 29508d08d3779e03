-- Parameters: their sizes, their faults and how many tuples they have.
use Rattle.std.proofs.Common.{◌≡◌, ℕ, ◌+◌, ◌*◌, Bool, true, false, if◌then◌else◌, nat_eq, Option, Some, None, option_map, List, ◌∷◌, ◌++◌, refl, ap, sym, ◌∙◌, arith}
use Rattle.std.proofs.lemmas.Bool.Decides.{nat_tests}
use Rattle.std.proofs.Math.Nat.{mul_assoc, mul_comm}
use Rattle.std.proofs.lemmas.List.{append_assoc}
use Rattle.ioa_trees.specs.Trees.{PlainParameter, Constant, Typed}
use Rattle.ioa_trees.specs.EntryRules.{parameters_faults, slots, times, tuples, with_parameters}
use Rattle.ioa_trees.specs.Faults.{Fault, keep}
use Rattle.ioa_trees.specs.Scopes.{Scope}
use Rattle.ioa_trees.specs.Sizes.{behind, parameter_size}
use Rattle.ioa_typing.specs.KindViews.{capped}
use Rattle.ioa_entries.specs.EntryParts.{after_parameter, between, parameter_faults, rest_size, slot_of, values_of}
use Rattle.ioa_typing.proofs.Capped.{capped_times}
use Rattle.ioa_typing.proofs.Keeps.{keep_append}

not_first : (n : ℕ) → nat_eq (n + 1) 0 ≡ false
not_first n = grind (arith, nat_tests)

pub rest_sized : (n at : ℕ) (p : PlainParameter) (ps : List PlainParameter) → at + rest_size n (p ∷ ps) ≡ at + between n + parameter_size p + rest_size (n + 1) ps
rest_sized n at p ps = rw (not_first n) (go (nat_eq n 0))
  where
    go : (b : Bool) → at + (if b then parameter_size p + behind parameter_size ps else parameter_size p + 1 + behind parameter_size ps)
        ≡ at + (if b then 0 else 1) + parameter_size p + behind parameter_size ps
    go true = omega arith
    go false = omega arith

pub names_next : (s : Scope) (n : ℕ) (p : PlainParameter) (ps : List PlainParameter) → with_parameters s n (p ∷ ps) ≡ with_parameters (after_parameter s n p) (n + 1) ps
names_next s n (Constant q) ps = refl
names_next s n (Typed d) ps = refl

faults_next : (s : Scope) (c : Bool) (n at : ℕ) (p : PlainParameter) (ps : List PlainParameter) →
    parameters_faults s c n at (p ∷ ps) ≡ parameter_faults s c at p ++ parameters_faults (after_parameter s n p) c (n + 1) (at + parameter_size p + 1) ps
faults_next s c n at (Constant q) ps = ap (λ k. parameter_faults s c at (Constant q) ++ parameters_faults s c (n + 1) k ps) (omega arith)
faults_next s c n at (Typed d) ps = simp append_assoc refl

-- the faults of a parameter, and of those after it
pub parameter_kept : (s t : Scope) (c : Bool) (n at after : ℕ) (p : PlainParameter) (ps : List PlainParameter) (o z : Option Fault) → t ≡ after_parameter s n p → z ≡ keep o (parameter_faults s c at p) → after ≡ at + parameter_size p →
    keep z (parameters_faults t c (n + 1) (after + 1) ps) ≡ keep o (parameters_faults s c n at (p ∷ ps))
parameter_kept s t c n at after p ps o z scope noted place =
    ap (λ k. keep z (parameters_faults t c (n + 1) (k + 1) ps)) place
    ∙ ap (λ r. keep z (parameters_faults r c (n + 1) (at + parameter_size p + 1) ps)) scope
    ∙ ap (λ x. keep x (parameters_faults (after_parameter s n p) c (n + 1) (at + parameter_size p + 1) ps)) noted
    ∙ sym (keep_append o (parameter_faults s c at p) (parameters_faults (after_parameter s n p) c (n + 1) (at + parameter_size p + 1) ps))
    ∙ ap (keep o) (sym (faults_next s c n at p ps))

one_time : (m : Option ℕ) → times (Some 1) m ≡ m
one_time None = refl
one_time (Some m) = ap (λ k. Some k) (omega arith)

tuples_next : (s : Scope) (n : ℕ) (p : PlainParameter) (ps : List PlainParameter) → tuples s n (p ∷ ps) ≡ times (values_of s p) (tuples (after_parameter s n p) (n + 1) ps)
tuples_next s n (Constant q) ps = sym (one_time (tuples s (n + 1) ps))
tuples_next s n (Typed d) ps = refl

capped_twice : (a : ℕ) → capped (capped a) ≡ capped a
capped_twice a = omega arith

capped_left : (a b : ℕ) → capped (capped a * b) ≡ capped (a * b)
capped_left a b = sym (capped_times (capped a) b) ∙ ap (λ k. capped (k * capped b)) (capped_twice a) ∙ capped_times a b

three_capped : (a m r : ℕ) → capped (capped (a * capped m) * r) ≡ capped (a * (m * r))
three_capped a m r =
    capped_left (a * capped m) r
    ∙ ap (λ k. capped (k * r)) (mul_comm a (capped m))
    ∙ ap capped (mul_assoc (capped m) a r)
    ∙ capped_left m (a * r)
    ∙ ap capped (sym (mul_assoc m a r) ∙ ap (λ k. k * r) (mul_comm m a) ∙ mul_assoc a m r)

times_capped : (a m r : Option ℕ) → option_map capped (times (option_map capped (times a (option_map capped m))) r) ≡ option_map capped (times a (times m r))
times_capped None None None = refl
times_capped None None (Some r) = refl
times_capped None (Some m) None = refl
times_capped None (Some m) (Some r) = refl
times_capped (Some a) None None = refl
times_capped (Some a) None (Some r) = refl
times_capped (Some a) (Some m) None = refl
times_capped (Some a) (Some m) (Some r) = ap (λ k. Some k) (three_capped a m r)

-- so many tuples with one more parameter
pub tuples_kept : (s t : Scope) (n : ℕ) (p : PlainParameter) (ps : List PlainParameter) (a m z : Option ℕ) → t ≡ after_parameter s n p → m ≡ option_map capped (values_of s p) → z ≡ option_map capped (times a m) →
    option_map capped (times z (tuples t (n + 1) ps)) ≡ option_map capped (times a (tuples s n (p ∷ ps)))
tuples_kept s t n p ps a m z scope values product =
    ap (λ x. option_map capped (times x (tuples t (n + 1) ps))) (product ∙ ap (λ x. option_map capped (times a x)) values)
    ∙ ap (λ r. option_map capped (times (option_map capped (times a (option_map capped (values_of s p)))) (tuples r (n + 1) ps))) scope
    ∙ times_capped a (values_of s p) (tuples (after_parameter s n p) (n + 1) ps)
    ∙ ap (λ x. option_map capped (times a x)) (sym (tuples_next s n p ps))

pub capped_again : (m z : Option ℕ) → z ≡ option_map capped m → option_map capped z ≡ z
capped_again None z is = cc
capped_again (Some m) z is = ap (option_map capped) is ∙ ap (λ k. Some k) (capped_twice m) ∙ sym is

pub tuples_start : (m : Option ℕ) → option_map capped (times (Some 1) m) ≡ option_map capped m
tuples_start m = ap (option_map capped) (one_time m)

pub tuples_end : (a : Option ℕ) → option_map capped (times a (Some 1)) ≡ option_map capped a
tuples_end None = refl
tuples_end (Some a) = ap (λ k. Some (capped k)) (omega arith)

pub kept_between : (s : Scope) (c : Bool) (n at : ℕ) (ps : List PlainParameter) (o : Option Fault) → keep o (parameters_faults s c (n + 1) (at + between (n + 1)) ps) ≡ keep o (parameters_faults s c (n + 1) (at + 1) ps)
kept_between s c n at ps o = ap (λ b. keep o (parameters_faults s c (n + 1) (at + (if b then 0 else 1)) ps)) (not_first n)

pub add_zero : (n : ℕ) → n + 0 ≡ n
add_zero n = omega arith

pub slots_next : (s : Scope) (n : ℕ) (p : PlainParameter) (ps : List PlainParameter) → slots s n (p ∷ ps) ≡ slot_of s p ∷ slots (after_parameter s n p) (n + 1) ps
slots_next s n (Constant q) ps = refl
slots_next s n (Typed d) ps = refl
