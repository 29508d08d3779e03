use Rattle.std.proofs.Common.{subst}
use Rattle.shares.specs.Waiting.{IsWaited}
use Rattle.shares.proofs.Covered.{waited_all, waited_more}
use Rattle.shares.proofs.waiting.await_turns.Goals as goal

pub loop-i-preserved : goal.loop-i-preserved
loop-i-preserved c =
    let groups = c.args.groups.now in
    let last = c.args.last.now in
    let own = c.args.own in
    let new = c.await_turn.new.waits.items in
    waited_more groups last own c.args.among.now c.loop-i.i-index c.loop-i.waits.items new c.loop-i-test.true c.in_ok-await_turn.ensures.kept
    (subst (IsWaited groups last own new) c.from.ensures c.in_ok-await_turn.ensures.waited)
    c.loop-i.invariant

pub returns : goal.returns
returns c = waited_all c.args.groups.now c.args.last.now c.args.own c.args.among.now c.loop-i.i-index c.loop-i.waits.items c.loop-i-test.false c.loop-i.invariant
