use Rattle.virtual_time.proofs.Groups.Exists.{floor_has}
use Rattle.virtual_time.proofs.Groups.Progress.{progress}
use Rattle.virtual_time.proofs.grouped.group_progress_law.Goals as goal

pub returns-clause-goes_on : goal.returns-clause-goes_on
returns-clause-goes_on g c machine group groups count e e' leases law counted met commit = progress machine law group groups count counted e e' leases met commit

pub returns-clause-floor : goal.returns-clause-floor
returns-clause-floor g c machine group count n b parts law counted inside floor = floor_has machine law count counted group n parts b inside floor
