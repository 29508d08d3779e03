-- Two values of formals may stand for each other exactly where they are the same.
use Rattle.std.proofs.Common.{◌≡◌, ℕ, Bool, true, false, List, sym, ◌∙◌, ap, subst}
use Rattle.terms.specs.Meaning.{slot}
use Rattle.terms.specs.Same.{scalar_is, scalar_refl}
use Rattle.terms.specs.contracts.scalar.ScalarPartialEq.TheImpl as scalar_eq
use Rattle.terms.specs.declared.scalar.Scalar.{Scalar}
use Rattle.io_automata.specs.Signatures.{fits_one}
use Rattle.io_automata.specs.declared.automaton.Param.TheVariants.{Const}

pub constants_share : (formals others : List Scalar) (m n : ℕ) → scalar_eq.ghosts.eq (slot formals m) (slot others n) ≡ true
    → (value : Scalar) × ((fits_one formals (Const m) value ≡ true) × (fits_one others (Const n) value ≡ true))
constants_share formals others m n h =
    let a = slot formals m in
    let b = slot others n in
    (a, (scalar_refl a, subst (λ v. scalar_eq.ghosts.eq b v ≡ true) (sym (scalar_is a b h)) (scalar_refl b)))

pub constants_differ : (formals others : List Scalar) (m n : ℕ) → scalar_eq.ghosts.eq (slot formals m) (slot others n) ≡ false
    → (value : Scalar) → fits_one formals (Const m) value ≡ true → fits_one others (Const n) value ≡ true → ⊥
constants_differ formals others m n h value p q =
    let same : slot formals m ≡ slot others n = scalar_is (slot formals m) value p ∙ sym (scalar_is (slot others n) value q) in
    let both : ◌≡◌ {A = Bool} true false = sym (scalar_refl (slot formals m)) ∙ ap (λ v. scalar_eq.ghosts.eq (slot formals m) v) same ∙ h in
    cc
