use Rattle.std.proofs.Common.{◌≡◌, ◌==◌}
use Rattle.message_balance.specs.Balance.{count_standing, count_sent}
use Rattle.message_balance.proofs.sent.is_sent_balanced.Given as goal

abbrev pub invariant-loop-sent : goal.invariant-loop-sent
invariant-loop-sent l = (count_standing l.message l.standing == count_sent l.message l.sent) ≡ (count_standing l.message l.initial.standing == count_sent l.message l.initial.sent)

abbrev pub decreases-loop-sent : goal.decreases-loop-sent
decreases-loop-sent l = count_standing l.message l.standing
