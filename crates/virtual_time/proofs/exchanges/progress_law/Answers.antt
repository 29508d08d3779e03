use Rattle.virtual_time.proofs.Exchange.Progress.{progress, room_after}
use Rattle.virtual_time.proofs.exchanges.progress_law.Goals as goal

pub returns-clause-goes_on : goal.returns-clause-goes_on
returns-clause-goes_on g c machine count e e' leases law met commit = progress machine law count e e' leases met commit

pub returns-clause-room : goal.returns-clause-room
returns-clause-room g c machine window i b part some turn = room_after machine i b window part turn.outcome some turn.nothing
