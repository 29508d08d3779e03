use Rattle.senders.proofs.Uneven.{uneven}
use Rattle.senders.proofs.meeting.may_all_meet.Goals as goal

pub returns-then-params-more : goal.returns-then-params-more
returns-then-params-more c = uneven c.args.formals.now c.args.others.now c.args.params.now c.args.more.now c.if-params-more.true
