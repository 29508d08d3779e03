-- Definitions, one after the other.
use Rattle.std.proofs.Common.{◌≡◌, ℕ, suc, ◌+◌, Option, List, [], ◌∷◌, ◌++◌, length, map, refl, ap, sym, ◌∙◌, arith}
use Rattle.std.proofs.lemmas.List.{append_assoc}
use Rattle.ioa_trees.specs.Trees.{Bytes, PlainTypeDefinition}
use Rattle.ioa_trees.specs.Faults.{Fault, keep}
use Rattle.ioa_trees.specs.Scopes.{Scope}
use Rattle.ioa_trees.specs.Sizes.{definition_size}
use Rattle.ioa_trees.specs.SourceRules.{definition_faults, definitions_faults, members_in, with_definition, with_definitions}
use Rattle.ioa_typing.proofs.Keeps.{keep_both}

pub definitions_kept : (s t : Scope) (n m at after : ℕ) (d : PlainTypeDefinition) (ds : List PlainTypeDefinition) (o p : Option Fault) →
    p ≡ keep o (definition_faults s n at d) → t ≡ with_definition s n d → m ≡ n + length (members_in d.body) → after ≡ at + definition_size d →
    keep p (definitions_faults t m after ds) ≡ keep o (definitions_faults s n at (d ∷ ds))
definitions_kept s t n m at after d ds o p noted scope number place =
    keep_both o p (keep p (definitions_faults t m after ds)) (definition_faults s n at d) (definitions_faults t m after ds) (definitions_faults (with_definition s n d) (n + length (members_in d.body)) (at + definition_size d) ds) noted
    (ap (λ x. definitions_faults x m after ds) scope ∙ ap (λ k. definitions_faults (with_definition s n d) k after ds) number ∙ ap (λ k. definitions_faults (with_definition s n d) (n + length (members_in d.body)) k ds) place)
    refl

pub definitions_named : (s t : Scope) (n m : ℕ) (d : PlainTypeDefinition) (ds : List PlainTypeDefinition) → t ≡ with_definition s n d → m ≡ n + length (members_in d.body) → with_definitions t m ds ≡ with_definitions s n (d ∷ ds)
definitions_named s t n m d ds scope number = ap (λ x. with_definitions x m ds) scope ∙ ap (λ k. with_definitions (with_definition s n d) k ds) number

length_both : {A : Type 0} (xs ys : List A) → length (xs ++ ys) ≡ length xs + length ys
length_both [] ys = omega arith
length_both (x ∷ xs) ys = let rest = length_both xs ys in omega (arith, rest)

pub length_same : {A B : Type 0} (f : A → B) (xs : List A) → length (map f xs) ≡ length xs
length_same f [] = refl
length_same f (x ∷ xs) = ap suc (length_same f xs)

-- how many members there are with those of one more definition
pub counted : {A : Type 0} (f : A → Bytes) (xs ys : List A) (qs : List Bytes) (n k : ℕ) → map f ys ≡ map f xs ++ qs → n ≡ length (map f xs) → k ≡ length ys → k ≡ n + length qs
counted f xs ys qs n k pushed before after =
    after ∙ sym (length_same f ys) ∙ ap length pushed ∙ length_both (map f xs) qs ∙ ap (λ i. i + length qs) (sym before)

pub pushed_all : (as' bs cs ds es : List Bytes) → bs ≡ as' ++ cs → as' ++ (cs ++ ds) ≡ es → bs ++ ds ≡ es
pushed_all as' bs cs ds es pushed all = ap (λ xs. xs ++ ds) pushed ∙ simp append_assoc all
