use Rattle.task_seed.specs.contracts.setup.SetupPartialEq.TheImpl as setup_eq
use Rattle.exchange.specs.SameLaws.{exchange_decides}
use Rattle.exchange.proofs.laws.equal_exchange_law.Goals as goal

pub returns : goal.returns
returns g c = exchange_decides (setup_eq.ghosts g.row.T g.T.PartialEq setup_eq.no_dict).eq c.args.a.now c.args.b.now
