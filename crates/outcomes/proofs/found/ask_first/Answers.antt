use Rattle.std.proofs.Common.{◌≡◌, ◌∷◌, ◌∙◌, ap, rules}
use Rattle.conditions.specs.Conditions.{left_after}
use Rattle.outcomes.proofs.Solved.{asked_first}
use Rattle.outcomes.proofs.found.ask_first.Goals as goal

pub returns-clause-passes : goal.returns-clause-passes
returns-clause-passes g c args =
    let state = g.C.Cells.values c.args.cells.now in
    let first = c.in-Some.first.now in
    let rest = c.in-Some.rest.now in
    let left = c.args.left.now in
    let stages : c.args.stages.now ≡ first ∷ rest = search rules in
    let new = c.in_ok-ask.ensures.left ∙ ap (λ s. left_after s state first.branches.items left) c.env_of.ensures in
    asked_first c.args.formals.now state first rest c.args.stages.now left c.ask.new.left args c.requires.stages new stages
