use Rattle.std.proofs.Common.{◌≡◌, ◌%◌, None, List, length, slice_get, rules, refl, sym, ap, ◌∙◌}
use Rattle.terms.specs.Named.{Named}
use Rattle.plans.specs.Plans.{composition}
use Rattle.plans.proofs.Remembered.{noted_memo}
use Rattle.plans.proofs.Tasks.{enabled_same}
use Rattle.plans.proofs.plan.Plan.outcome_known.Goals as goal

pub returns-then-is_none-clause-memo : goal.returns-then-is_none-clause-memo
returns-then-is_none-clause-memo g c =
    let p = composition c.args.self.now in
    let state = g.C.Cells.values c.args.cells.now in
    let none : c.put_plain_outcome.new.found ≡ None = search rules in
    let same = enabled_same p c.args.ask.component c.args.ask.task c.in-Some.task state c.in-Some.ensures.some in
    noted_memo p c.args.ask.component state c.args.memo.now _ c.requires.memo c.args.ask.task c.args.ask.choice
    (sym none ∙ c.in_ok-put_plain_outcome.ensures.plain c.if-branch.true ∙ ap (λ (all : List Named). slice_get all (c.args.ask.choice % length all)) same) refl c.note.ensures
