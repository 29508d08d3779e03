use Rattle.std.proofs.Common.{rules}
use Rattle.std.specs.Prelude.{pos}
use Rattle.terms.specs.declared.scalar.Scalar.TheVariants.{Int}
use Rattle.trace.specs.Lines.{other_text}
use Rattle.trace.proofs.Adding.{puts_one_more, stops_at_one}
use Rattle.trace.proofs.long.put_others.Goals as goal

pub returns-in_err-written-clause-err : goal.returns-in_err-written-clause-err
returns-in_err-written-clause-err g c =
    let h = stops_at_one (other_text c.args.plan.now) c.args.arguments.now c.loop-argument.argument-index (Int (pos 0)) c.loop-argument-test.true c.loop-argument.invariant c.in_err-written.ensures.err in
    search (rules, h)

pub loop-argument-preserved : goal.loop-argument-preserved
loop-argument-preserved g c = puts_one_more (other_text c.args.plan.now) c.args.arguments.now c.loop-argument.argument-index (Int (pos 0)) c.loop-argument-test.true c.loop-argument.invariant c.in_ok-written.ensures.ok
