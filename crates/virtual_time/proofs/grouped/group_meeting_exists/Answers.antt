use Rattle.virtual_time.proofs.Groups.Exists.{meet_exists}
use Rattle.virtual_time.proofs.Groups.Extras.{meet_start}
use Rattle.virtual_time.proofs.Groups.Quiet.{always_meets}
use Rattle.virtual_time.proofs.grouped.group_meeting_exists.Goals as goal

pub returns-clause-met : goal.returns-clause-met
returns-clause-met g c machine group count n e l law counted inside is lease match quiet still = meet_exists machine law count counted group n inside e is l lease match quiet still

pub returns-clause-always : goal.returns-clause-always
returns-clause-always g c machine group count n calls shared law counted inside h = always_meets machine law group count counted n inside calls shared h

pub returns-clause-first : goal.returns-clause-first
returns-clause-first g c machine group count n law counted = meet_start machine law group count counted n
