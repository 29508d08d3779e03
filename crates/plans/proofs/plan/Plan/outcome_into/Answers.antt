use Rattle.std.proofs.Common.{◌≡◌, ◌%◌, List, OnOk, length, slice_get, subst, ap, ◌∙◌}
use Rattle.terms.specs.Named.{Named}
use Rattle.plans.specs.Plans.{composition}
use Rattle.plans.proofs.Tasks.{enabled_same, nothing_enabled}
use Rattle.plans.proofs.plan.Plan.outcome_into.Goals as goal

pub returns-in-Some-clause-ok : goal.returns-in-Some-clause-ok
returns-in-Some-clause-ok g c =
    let same = enabled_same (composition c.args.self.now) c.args.i c.args.task c.in-Some.task (g.C.Cells.values c.args.cells.now) c.in-Some.ensures.some in
    subst (λ (all : List Named). OnOk c.put_outcome.result (c.put_outcome.new.found ≡ slice_get all (c.args.choice % length all))) same c.put_outcome.ensures.ok

pub returns-in-None-clause-ok : goal.returns-in-None-clause-ok
returns-in-None-clause-ok g c =
    let none = nothing_enabled (composition c.args.self.now) c.args.i c.args.task (g.C.Cells.values c.args.cells.now) c.in-None.ensures.none in
    c.put_none.ensures ∙ ap (λ (all : List Named). slice_get all (c.args.choice % length all)) none
