-- One parameter, and two: the tuple at a place by the value of each.
use Rattle.std.specs.Prelude.{◌≡◌, ℕ, ◌*◌, ◌/◌, ◌%◌, ◌<◌, List, [], ◌∷◌, refl}
use Rattle.std.proofs.Common.{arith, ap, sym, ◌∙◌, subst}
use Rattle.std.proofs.Math.Nat.{mul-one, div-one, mod-eq_of_lt}
use Rattle.std.proofs.lemmas.Nat.{div_below, mod_below}
use Rattle.terms.specs.Meaning.{slot}
use Rattle.terms.specs.Shapes.{count, member}
use Rattle.terms.specs.declared.scalar.Listed.{Listed}
use Rattle.terms.specs.declared.scalar.Scalar.{Scalar}
use Rattle.io_automata.specs.declared.automaton.Param.{Param}
use Rattle.io_automata.specs.declared.automaton.Param.TheVariants.{Const, Member, Between, Whole}
use Rattle.io_automata.specs.Tuples.{many, choices, tuple_at, picked}
use Rattle.outcomes.proofs.Counted.{many_first}
use Rattle.outcomes.proofs.Placed.{positive}

-- of one parameter there are as many tuples as it has values
pub many_one : (param : Param) → many (param ∷ []) ≡ choices param
many_one param = many_first param [] ∙ mul-one (choices param)

pub one_member : (listed : Listed) (at : ℕ) → at < many (Member listed ∷ []) → at < count listed
one_member listed at below = let same = many_one (Member listed) in omega (arith, below, same)

pub picked_one : (formals : List Scalar) (param : Param) (at : ℕ) → at < many (param ∷ []) → picked formals param at ∷ [] ≡ tuple_at formals (param ∷ []) at
picked_one formals (Const n) at below = refl
picked_one formals (Member listed) at below = ap (λ (n : ℕ). member listed n ∷ []) (sym (div-one at))
picked_one formals (Between low high) at below = absurd (omega (arith, below))
picked_one formals Whole at below = absurd (omega (arith, below))

pub picked_const : (formals : List Scalar) (first second : Param) (n at : ℕ) → first ≡ Const n → at < many (first ∷ second ∷ []) → at < many (second ∷ [])
picked_const formals first second n at is below = subst (λ param. at < many (param ∷ second ∷ [])) is below

pub two_const : (formals : List Scalar) (first second : Param) (n at : ℕ) (value : Scalar) → first ≡ Const n → value ≡ slot formals n → at < many (first ∷ second ∷ []) → value ∷ picked formals second at ∷ [] ≡ tuple_at formals (first ∷ second ∷ []) at
two_const formals first second n at value is value_is below =
    (λ i. value_is i ∷ picked_one formals second at (picked_const formals first second n at is below) i)
    ∙ sym (ap (λ param. tuple_at formals (param ∷ second ∷ []) at) is)

module _ (first second : Param) (at rest : ℕ) (rest_is : rest ≡ choices second) (below : at < many (first ∷ second ∷ [])) where
  row : rest ≡ many (second ∷ [])
  row = rest_is ∙ sym (many_one second)

  turned : at < choices first * rest
  turned = subst (λ (n : ℕ). at < choices first * n) (sym row) (subst (λ (n : ℕ). at < n) (many_first first (second ∷ [])) below)

  some : 0 < rest
  some = positive rest (choices first) at turned

  pub first_below : at / rest < many (first ∷ [])
  first_below = let less = div_below at rest (choices first) some turned in let same = many_one first in omega (arith, less, same)

  pub second_below : at % rest < many (second ∷ [])
  second_below = let less = mod_below at rest some in omega (arith, less, row)

pub two_picked : (formals : List Scalar) (first second : Param) (at rest : ℕ) → rest ≡ choices second → at < many (first ∷ second ∷ []) → picked formals first (at / rest) ∷ picked formals second (at % rest) ∷ [] ≡ tuple_at formals (first ∷ second ∷ []) at
two_picked formals (Const n) second at rest rest_is below =
    let less : at < rest = let same = many_one second in omega (arith, below, same, rest_is) in
    ap (λ (k : ℕ). slot formals n ∷ picked formals second k ∷ []) (mod-eq_of_lt less)
    ∙ ap (λ xs. slot formals n ∷ xs) (picked_one formals second at below)
two_picked formals (Member listed) second at rest rest_is below =
    let same : rest ≡ many (second ∷ []) = rest_is ∙ sym (many_one second) in
    ap (λ xs. member listed (at / rest) ∷ xs) (picked_one formals second (at % rest) (second_below (Member listed) second at rest rest_is below))
    ∙ ap (λ (n : ℕ). member listed (at / n) ∷ tuple_at formals (second ∷ []) (at % n)) same
two_picked formals (Between low high) second at rest rest_is below = absurd (omega (arith, below))
two_picked formals Whole second at rest rest_is below = absurd (omega (arith, below))
