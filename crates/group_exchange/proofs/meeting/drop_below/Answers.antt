use Rattle.std.proofs.Common.{◌∙◌, sym}
use Rattle.antimessage.proofs.Below.{dropping_ends}
use Rattle.group_exchange.proofs.meeting.drop_below.Goals as goal

pub returns : goal.returns
returns c = dropping_ends c.args.bound c.args.bag.now c.loop-bound.bag (sym c.is_first_below.ensures ∙ c.loop-bound-test.false) c.loop-bound.invariant
