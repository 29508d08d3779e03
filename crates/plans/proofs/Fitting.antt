-- Arguments that are not as many as the parameters.
use Rattle.std.specs.Prelude.{◌≡◌, suc, Bool, true, false, ◌&&◌, List, [], ◌∷◌, length, refl}
use Rattle.std.proofs.Common.{ap, ◌∙◌}
use Rattle.terms.specs.declared.scalar.Scalar.{Scalar}
use Rattle.io_automata.specs.declared.automaton.Param.{Param}
use Rattle.io_automata.specs.Signatures.{fits, fits_one}

false_last : (b : Bool) → false ≡ (b && false)
false_last true = refl
false_last false = refl

-- where they are not as many, they do not fit
pub uneven : (formals : List Scalar) (params : List Param) (args : List Scalar) → (length params ≡ length args → ⊥) → false ≡ fits formals params args
uneven formals [] [] h = absurd (h refl)
uneven formals [] (value ∷ args) h = refl
uneven formals (param ∷ params) [] h = refl
uneven formals (param ∷ params) (value ∷ args) h =
    let rest : false ≡ fits formals params args = uneven formals params args (λ e. h (ap suc e)) in
    false_last (fits_one formals param value) ∙ ap (λ b. fits_one formals param value && b) rest
