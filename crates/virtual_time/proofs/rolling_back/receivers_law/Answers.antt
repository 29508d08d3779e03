use Rattle.virtual_time.proofs.Received.{received}
use Rattle.virtual_time.proofs.rolling_back.receivers_law.Goals as goal

pub returns-clause-one : goal.returns-clause-one
returns-clause-one g c machine i count action counted = received machine i action count counted

pub returns-clause-sent : goal.returns-clause-sent
returns-clause-sent g c machine i count k action counted = received machine i action count counted
