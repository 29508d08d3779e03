use Rattle.task_seed.specs.contracts.setup.SetupPartialEq.TheImpl as setup_eq
use Rattle.rollback.specs.SameLaws.{held_is, held_from}
use Rattle.rollback.proofs.laws.equal_law.Goals as goal

pub returns-clause-parts : goal.returns-clause-parts
returns-clause-parts g c = held_is (setup_eq.ghosts g.row.T g.T.PartialEq setup_eq.no_dict).eq c.args.a.now c.args.b.now

pub returns-clause-equal : goal.returns-clause-equal
returns-clause-equal g c = held_from (setup_eq.ghosts g.row.T g.T.PartialEq setup_eq.no_dict).eq c.args.a.now c.args.b.now
