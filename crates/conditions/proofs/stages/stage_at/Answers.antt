use Rattle.std.proofs.Common.{◌≡◌, ◌∙◌, ◌++◌, ◌∷◌, [], ap, rules, arith}
use Rattle.conditions.specs.Held.{hold_at}
use Rattle.conditions.proofs.Staging.{branches_next, asked_next, count_more}
use Rattle.conditions.proofs.stages.stage_at.Goals as goal

pub loop-tests-preserved : goal.loop-tests-preserved
loop-tests-preserved c =
    let at = c.loop-tests in
    let branch = c.in_ok-branch_at.field-0 in
    let pushed : c.push.new.self.items ≡ at.at.items ++ branch ∷ [] = search rules in
    let many = count_more at.at.items c.push.new.self.items branch at.tests-index pushed at.invariant.many in
    record {
      are = branches_next c.args.k at.at.items c.push.new.self.items branch pushed at.invariant.are c.in_ok-branch_at.ensures.within c.in_ok-branch_at.ensures.binds;
      held = λ scope state. asked_next c.args.k at.tests-index c.args.branches.now c.tests-item.result at.at.items c.push.new.self.items branch pushed (search rules) c.tests-item.is scope state (c.in_ok-branch_at.ensures.held scope state ∙ ap (hold_at scope state c.args.k) c.as_slice.ensures.value) ∙ at.invariant.held scope state;
      many = omega (arith, many);
    }
