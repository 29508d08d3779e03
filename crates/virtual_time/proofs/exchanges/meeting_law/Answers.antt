use Rattle.virtual_time.proofs.Exchange.Meetings.{low, high}
use Rattle.virtual_time.proofs.Exchange.Moved.{moved_met, taken_apart, taken_fall}
use Rattle.virtual_time.proofs.exchanges.meeting_law.Goals as goal

pub returns-clause-met : goal.returns-clause-met
returns-clause-met g c machine count i exchange new_exchange lease new_lease law is mine match quiet still moved = moved_met machine law i exchange is lease mine match quiet still new_exchange new_lease moved

pub returns-clause-falls : goal.returns-clause-falls
returns-clause-falls g c machine count i exchange lease law is mine match = taken_fall machine law i exchange is lease mine match

pub returns-clause-apart : goal.returns-clause-apart
returns-clause-apart g c machine count i exchange lease law is mine match = taken_apart machine law i exchange is lease mine match

pub returns-clause-between : goal.returns-clause-between
returns-clause-between g c machine count i exchange lease law is mine match = (low machine law i exchange is lease mine match, high machine law i exchange is lease mine match)
