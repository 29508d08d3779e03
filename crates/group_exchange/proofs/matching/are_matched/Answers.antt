use Rattle.std.proofs.Common.{sym, ◌∙◌}
use Rattle.group_exchange.proofs.Walked.{false_true, matched_more, matched_one}
use Rattle.group_exchange.proofs.matching.are_matched.Goals as goal

pub returns-then-not-has_taken : goal.returns-then-not-has_taken
returns-then-not-has_taken g c = (
  (λ no. absurd (false_true no)),
  (λ all.
      let one = matched_one g.T.Turns.turn_of c.args.components.now c.args.taken.now c.args.standing.now c.args.tray.now c.args.out.now c.loop-component.component-index c.component-item.result c.component-item.is c.loop-component-test.true all in
      sym c.if-not-has_taken.true ∙ c.has_taken.ensures.1 one.0),
)

pub returns-then-not-has_standing : goal.returns-then-not-has_standing
returns-then-not-has_standing g c = (
  (λ no. absurd (false_true no)),
  (λ all.
      let one = matched_one g.T.Turns.turn_of c.args.components.now c.args.taken.now c.args.standing.now c.args.tray.now c.args.out.now c.loop-component.component-index c.component-item.result c.component-item.is c.loop-component-test.true all in
      sym c.if-not-has_standing.true ∙ c.has_standing.ensures.1 one.1),
)

pub loop-component-preserved : goal.loop-component-preserved
loop-component-preserved g c =
    matched_more g.T.Turns.turn_of c.args.components.now c.args.taken.now c.args.standing.now c.args.tray.now c.args.out.now c.loop-component.component-index c.component-item.result c.component-item.is c.loop-component-test.true
    (c.has_taken.ensures.0 c.if-not-has_taken.false) (c.has_standing.ensures.0 c.if-not-has_standing.false) c.loop-component.invariant
