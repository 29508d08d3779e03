-- Parameters that are not as many don't meet.
use Rattle.std.specs.Prelude.{◌≡◌, suc, Bool, true, false, ◌&&◌, List, [], ◌∷◌, length, refl}
use Rattle.std.proofs.Common.{ap, ◌∙◌}
use Rattle.terms.specs.declared.scalar.Scalar.{Scalar}
use Rattle.io_automata.specs.declared.automaton.Param.{Param}
use Rattle.senders.specs.Meeting.{may_all_meet, may_meet}

false_last : (b : Bool) → false ≡ (b && false)
false_last true = refl
false_last false = refl

pub uneven : (formals others : List Scalar) (params more : List Param) → (length params ≡ length more → ⊥) → false ≡ may_all_meet formals params others more
uneven formals others [] [] h = absurd (h refl)
uneven formals others [] (other ∷ more) h = refl
uneven formals others (param ∷ params) [] h = refl
uneven formals others (param ∷ params) (other ∷ more) h =
    let rest : false ≡ may_all_meet formals params others more = uneven formals others params more (λ e. h (ap suc e)) in
    false_last (may_meet formals param others other) ∙ ap (λ b. may_meet formals param others other && b) rest
