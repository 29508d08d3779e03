use Rattle.std.proofs.Common.{eq-eqb, refl, sym}
use Rattle.std.proofs.lemmas.Bool.{and_from}
use Rattle.terms.specs.Named.{Named}
use Rattle.compose.proofs.compatibility.entries.is_shared.Goals as goal

pub returns-then-entry-other-clause-some : goal.returns-then-entry-other-clause-some
returns-then-entry-other-clause-some c = λ more.
    let shared = c.overlap.ensures.some more in
    let action : Named = record { name = c.args.entry.now.name; args = shared.0 } in (
      action,
      (
        and_from _ _ (eq-eqb _ _ refl) (rw c.as_slice-params.ensures.value at shared.1.0),
        and_from _ _ (eq-eqb _ _ (sym c.if-entry-other.true)) (rw c.as_slice-other_params.ensures.value at shared.1.1),
      ),
    )
