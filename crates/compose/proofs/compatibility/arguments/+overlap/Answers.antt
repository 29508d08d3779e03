use Rattle.std.proofs.Common.{◌∷◌}
use Rattle.std.proofs.lemmas.Bool.{and_from}
use Rattle.compose.proofs.compatibility.arguments.+overlap.Goals as goal

pub returns-then-agree-clause-some : goal.returns-then-agree-clause-some
returns-then-agree-clause-some t c = λ more.
    let arm = c.in-Some-Some in
    let first = c.agree.ensures.some c.if-agree.true in
    let rest = c.overlap.ensures.some more in (
      first.0 ∷ rest.0,
      (
        rw arm.ensures.cases.0 (and_from _ _ first.1.0 rest.1.0),
        rw arm.ensures'.cases.0 (and_from _ _ first.1.1 rest.1.1),
      ),
    )
