use Rattle.std.proofs.Common.{◌+◌, arith, sym, subst}
use Rattle.trace.specs.StepFile.{GivesSteps}
use Rattle.trace.proofs.Sequel.{IsReadTo, steps_more}
use Rattle.trace.proofs.steps.read_steps.Goals as goal

pub loop-rest-preserved : goal.loop-rest-preserved
loop-rest-preserved c =
    let plan = c.args.plan.now in
    let later = c.split_line.result.1.now in
    let more = steps_more plan c.args.bytes.now c.loop-rest.rest.now c.split_line.result.0.now later c.loop-rest.line c.loop-rest.steps.items c.in-Ok.step c.loop-rest.invariant.read c.split_line.ensures.first c.in-Ok.ensures.ok in
    record {
      read = subst (IsReadTo (GivesSteps plan) c.args.bytes.now later (c.loop-rest.line + 1)) (sym c.in_ok-push-in-Ok.ensures.items) more;
      room = omega (arith, c.loop-rest.invariant.room, c.split_line.ensures.shorter);
    }
