use Rattle.task_seed.specs.contracts.setup.SetupPartialEq.TheImpl as setup_eq
use Rattle.rollback.specs.Same.{same_held}
use Rattle.exchange.specs.SameLaws.{lease_decides}
use Rattle.exchange.proofs.laws.equal_lease_law.Goals as goal

pub returns : goal.returns
returns g c = lease_decides (same_held (setup_eq.ghosts g.row.T g.T.PartialEq setup_eq.no_dict).eq) c.args.a.now c.args.b.now
