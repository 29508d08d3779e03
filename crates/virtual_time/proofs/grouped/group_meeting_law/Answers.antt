use Rattle.virtual_time.proofs.Groups.Meetings.{high, low}
use Rattle.virtual_time.proofs.Groups.Moved.{moved_met, taken_apart, taken_fall}
use Rattle.virtual_time.proofs.grouped.group_meeting_law.Goals as goal

pub returns-clause-met : goal.returns-clause-met
returns-clause-met g c machine group count n e e' l l' law is lease match quiet still moved = moved_met machine law group n e is l lease match quiet still e' l' moved

pub returns-clause-falls : goal.returns-clause-falls
returns-clause-falls g c machine group count n i e l law is lease match own = taken_fall machine law group n e is l lease match i own

pub returns-clause-apart : goal.returns-clause-apart
returns-clause-apart g c machine group count n i e l law is lease match own k o h = taken_apart machine law group n e is l lease match i k o own h

pub returns-clause-between : goal.returns-clause-between
returns-clause-between g c machine group count n e l law is lease match = (low machine law group n e is l lease match, high machine law group n e is l lease match)
