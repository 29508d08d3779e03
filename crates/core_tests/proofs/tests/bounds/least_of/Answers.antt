use Rattle.std.proofs.Common.{List, ◌∙◌, subst, ◌≡◌}
use Rattle.std.proofs.iter.Yields.{Copied-Drains}
use Rattle.event_keys.specs.declared.key.Bound.{Bound}
use Rattle.gvt.specs.Least.{IsLeast}
use Rattle.core_tests.proofs.tests.bounds.least_of.Goals as goal

pub returns : goal.returns
returns c =
    let given = c.least_bound.ensures in
    let all : given.0 ≡ c.args.bounds.now = Copied-Drains c.copied.result given.0 given.1 ∙ cc in
    subst (λ (l : List Bound). IsLeast l c.least_bound.result) all given.2
