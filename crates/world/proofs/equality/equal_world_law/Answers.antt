use Rattle.task_seed.specs.contracts.setup.SetupPartialEq.TheImpl as setup_eq
use Rattle.rollback.specs.SameLaws.{setup_equiv}
use Rattle.world.specs.SameLaws.{world_is, world_from, world_itself}
use Rattle.world.proofs.equality.equal_world_law.Goals as goal

pub returns-clause-parts : goal.returns-clause-parts
returns-clause-parts g c = world_is (setup_eq.ghosts g.row.T g.T.PartialEq setup_eq.no_dict).eq c.args.a.now c.args.b.now

pub returns-clause-equal : goal.returns-clause-equal
returns-clause-equal g c = world_from (setup_eq.ghosts g.row.T g.T.PartialEq setup_eq.no_dict).eq c.args.a.now c.args.b.now

pub returns-clause-same : goal.returns-clause-same
returns-clause-same g c =
    let turns = g.met.T.Eq g.world.𝓛 g.world.𝓜 g.world.𝓡 ((λ s x. x), (λ x. x), (λ x. x), λ x. x) in
    world_itself (setup_eq.ghosts g.row.T g.T.PartialEq setup_eq.no_dict).eq (setup_equiv turns.laws) c.args.a.now c.args.b.now
