-- What is declared one after the other.
use Rattle.std.proofs.Common.{◌≡◌, ℕ, ◌+◌, Option, List, [], ◌∷◌, ◌++◌, length, refl, ap, sym, ◌∙◌, arith}
use Rattle.std.proofs.lemmas.List.{append_assoc}
use Rattle.ioa_trees.specs.Trees.{PlainDeclared}
use Rattle.ioa_trees.specs.AutomatonRules.{formal_kinds, formals_faults, with_formals}
use Rattle.ioa_trees.specs.Faults.{Fault, keep}
use Rattle.ioa_trees.specs.Scopes.{Scope}
use Rattle.ioa_trees.specs.Sizes.{declared_size}
use Rattle.ioa_check.specs.AutomatonParts.{formal_faults, with_formal}
use Rattle.ioa_typing.proofs.Keeps.{keep_append}

pub one_longer : {A : Type 0} (xs ys : List A) (x : A) → ys ≡ xs ++ x ∷ [] → length ys ≡ length xs + 1
one_longer {A = A} xs ys x pushed = ap length pushed ∙ go xs
  where
    go : (zs : List A) → length (zs ++ x ∷ []) ≡ length zs + 1
    go [] = refl
    go (z ∷ zs) = let rest = go zs in omega (arith, rest)

pub formals_kept : (s t : Scope) (n m at after : ℕ) (d : PlainDeclared) (ds : List PlainDeclared) (o p : Option Fault) →
    p ≡ keep o (formal_faults s at d) → t ≡ with_formal s n d → m ≡ n + 1 → after ≡ at + declared_size d → keep p (formals_faults t m (after + 1) ds) ≡ keep o (formals_faults s n at (d ∷ ds))
formals_kept s t n m at after d ds o p noted scope number place =
    let tail : List Fault = formals_faults (with_formal s n d) (n + 1) (at + declared_size d + 1) ds in
    let joined : formal_faults s at d ++ tail ≡ formals_faults s n at (d ∷ ds) = simp append_assoc refl in
    ap (λ x. keep p (formals_faults x m (after + 1) ds)) scope
    ∙ ap (λ k. keep p (formals_faults (with_formal s n d) k (after + 1) ds)) number
    ∙ ap (λ k. keep p (formals_faults (with_formal s n d) (n + 1) (k + 1) ds)) place
    ∙ ap (λ x. keep x tail) noted
    ∙ sym (keep_append o (formal_faults s at d) tail)
    ∙ ap (keep o) joined

pub formals_named : (s t : Scope) (n m : ℕ) (d : PlainDeclared) (ds : List PlainDeclared) → t ≡ with_formal s n d → m ≡ n + 1 → with_formals t m ds ≡ with_formals s n (d ∷ ds)
formals_named s t n m d ds scope number = ap (λ x. with_formals x m ds) scope ∙ ap (λ k. with_formals (with_formal s n d) k ds) number

pub kinds_left : (s t : Scope) (n m : ℕ) (d : PlainDeclared) (ds : List PlainDeclared) → t ≡ with_formal s n d → m ≡ n + 1 → formal_kinds t m ds ≡ formal_kinds (with_formal s n d) (n + 1) ds
kinds_left s t n m d ds scope number = ap (λ x. formal_kinds x m ds) scope ∙ ap (λ k. formal_kinds (with_formal s n d) k ds) number
