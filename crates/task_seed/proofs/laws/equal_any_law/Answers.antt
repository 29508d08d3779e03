use Rattle.task_seed.proofs.EitherKind.{equal_by_kind}
use Rattle.task_seed.proofs.laws.equal_any_law.Goals as goal

pub returns : goal.returns
returns c = equal_by_kind c.args.a.now c.args.b.now
