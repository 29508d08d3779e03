use Rattle.std.proofs.Common.{ap, arith, ◌∙◌}
use Rattle.lone_group.specs.Lone.{Alone}
use Rattle.lone_group.proofs.Stepping.{ahead_one, some_left}
use Rattle.lone_group.proofs.lone.LoneGroup.run_ahead.Goals as goal

pub step-requires-after_bounds : goal.step-requires-after_bounds
step-requires-after_bounds g c κs inside none =
    let l = c.self.inside in
    let len = c.len.ensures in
    let ok = l.due.ok.0 in
    let more = c.if-self-len.false in
    some_left l.due.items l.at (omega (arith, more, len, ok)) (ap (λ (a : Alone _). a.due) c.self.view_is ∙ none)

pub loop-count-preserved : goal.loop-count-preserved
loop-count-preserved g c =
    let below = c.loop-count-test.true in
    record {
      ahead = ahead_one c.args.self.now c.loop-count.self c.step.new.self c.loop-count.count c.loop-count.invariant.ahead c.in-Ok.ensures.ok;
      most = omega (arith, below);
    }
