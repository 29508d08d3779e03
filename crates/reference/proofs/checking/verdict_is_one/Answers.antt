use Rattle.reference.proofs.Runs.{one_verdict}
use Rattle.reference.proofs.checking.verdict_is_one.Goals as goal

pub returns : goal.returns
returns c composition actions a b of_a of_b = one_verdict composition actions a b of_a of_b
