use Rattle.std.proofs.Common.{◌≡◌, ◌<◌, ◌∙◌, ap, sym, arith, length, get_or, rules}
use Rattle.conditions.specs.Conditions.{left_after, tests_hold}
use Rattle.conditions.specs.declared.condition.Branch.{Branch}
use Rattle.terms.specs.Scopes.{scope}
use Rattle.outcomes.proofs.Asked.{asked_next, passed_there, kept_length}
use Rattle.outcomes.proofs.asking.ask.Goals.{then-left-b+in_ok-left, else-left-b}
use Rattle.outcomes.proofs.asking.ask.Goals as goal

pub loop-b-preserved : goal.loop-b-preserved
loop-b-preserved g c =
    let state = g.C.Cells.values c.args.cells.now in
    let branches = c.args.stage.now.branches.items in
    let left = c.loop-b.left in
    let whole = left_after (scope c.args.env.now) state branches c.args.left.now in
    let many : length branches ≡ length left = c.requires.many ∙ (omega (arith, c.loop-b.invariant.many)) in
    let below : c.loop-b.b < length left = omega (arith, c.loop-b-test.true, c.loop-b.invariant.many) in
    elim c.if-left-b.branch [
      | then-left-b+in_ok-left w ↦ (
          let there : get_or branches c.loop-b.b w.index.result.now ≡ w.index.result.now = search rules in
          let asked : w.in_ok-left.field-0 ≡ tests_hold (scope c.args.env.now) state (get_or branches c.loop-b.b w.index.result.now).tests.items =
          w.in_ok-left.ensures ∙ ap (tests_hold (scope c.args.env.now) state) w.as_slice.ensures.value ∙ sym (ap (λ (x : Branch). tests_hold (scope c.args.env.now) state x.tests.items) there) in
          record {
            many = ap length w.left-is ∙ kept_length left c.loop-b.b w.in_ok-left.field-0 ∙ c.loop-b.invariant.many;
            asked = asked_next (scope c.args.env.now) state branches left c.if-left-b.left whole c.loop-b.b w.index.result.now w.in_ok-left.field-0 below many w.if-left-b.true asked w.left-is c.loop-b.invariant.asked;
          })
      | else-left-b w ↦ record {
        many = ap length w.left-is ∙ c.loop-b.invariant.many;
        asked = passed_there (scope c.args.env.now) state branches left c.if-left-b.left whole c.loop-b.b below many w.if-left-b.false w.left-is c.loop-b.invariant.asked;
      }
    ]
