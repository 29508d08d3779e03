use Rattle.rollback.proofs.Lowest.{next_low, next_from, next_most}
use Rattle.rollback.proofs.laws.next_law.Goals as goal

pub returns-clause-own : goal.returns-clause-own
returns-clause-own g c = λ m i r law. next_low m law i r

pub returns-clause-pending : goal.returns-clause-pending
returns-clause-pending g c = λ m i r law. next_from m law i r

pub returns-clause-most : goal.returns-clause-most
returns-clause-most g c = λ m i b r law. next_most m law i b r
