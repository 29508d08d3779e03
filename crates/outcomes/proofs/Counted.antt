-- The number of tuples, one parameter after another.
use Rattle.std.specs.Prelude.{◌≡◌, ℕ, ◌+◌, ◌*◌, ◌<◌, ◌≤◌, List, ◌∷◌, length, drop, get_or, refl}
use Rattle.std.proofs.Common.{ap, sym, ◌∙◌, zero-mul}
use Rattle.std.proofs.Math.Nat.{mul_comm, mul_assoc, mul-one, one-mul}
use Rattle.std.proofs.lemmas.List.{drop_more, drop_all}
use Rattle.io_automata.specs.declared.automaton.Param.{Param}
use Rattle.io_automata.specs.declared.automaton.Param.TheVariants.{Const, Member, Between, Whole}
use Rattle.io_automata.specs.Tuples.{many, choices}

pub many_first : (param : Param) (params : List Param) → many (param ∷ params) ≡ choices param * many params
many_first (Const n) params = sym (one-mul (many params))
many_first (Member listed) params = refl
many_first (Between low high) params = sym (zero-mul (many params))
many_first Whole params = sym (zero-mul (many params))

-- one parameter more
pub counted_on : (params : List Param) (k count next all : ℕ) (d : Param) → k < length params → next ≡ choices (get_or params k d) * count → count * many (drop k params) ≡ all → next * many (drop (k + 1) params) ≡ all
counted_on params k count next all d below is before =
    ap (λ (n : ℕ). n * many (drop (k + 1) params)) (is ∙ mul_comm (choices (get_or params k d)) count)
    ∙ mul_assoc count (choices (get_or params k d)) (many (drop (k + 1) params))
    ∙ ap (λ (n : ℕ). count * n) (sym (many_first (get_or params k d) (drop (k + 1) params)))
    ∙ ap (λ ps. count * many ps) (sym (drop_more params k d below))
    ∙ before

-- no parameter is left
pub counted_all : (params : List Param) (k count all : ℕ) → length params ≤ k → count * many (drop k params) ≡ all → count ≡ all
counted_all params k count all past before = sym (mul-one count) ∙ sym (ap (λ ps. count * many ps) (drop_all k params past)) ∙ before
