use Rattle.rollback.proofs.Returning.{run_none, run_more}
use Rattle.rollback.proofs.laws.run_law.Goals as goal

pub returns-clause-none : goal.returns-clause-none
returns-clause-none g c = λ m i r bag. run_none m i r bag

pub returns-clause-more : goal.returns-clause-more
returns-clause-more g c = λ m i count entry r q a b d run next sent. run_more m i entry r q a b d count run next sent
