use Rattle.std.proofs.Common.{subst, ◌≡◌, true}
use Rattle.std.specs.Cmp.Lexicographic.{pointwise_decides}
use Rattle.terms.specs.Datum.{Datum}
use Rattle.terms.specs.Same.{same, same_is, same_refl}
use Rattle.undo_records.proofs.laws.same_state_law.Goals as goal

pub returns : goal.returns
returns c = pointwise_decides (λ d e. (same_is d e, λ is. subst (λ (x : Datum). same d x ≡ true) is (same_refl d)))
