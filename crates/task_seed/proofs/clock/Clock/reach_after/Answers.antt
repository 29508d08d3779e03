use Rattle.std.proofs.Common.{◌+◌, ap, subst}
use Rattle.task_seed.specs.Clocks.{Reaching}
use Rattle.task_seed.specs.declared.clock.Clock.{Clock}
use Rattle.task_seed.proofs.Reaching.{reaches_from}
use Rattle.task_seed.proofs.clock.Clock.reach_after.Goals as goal

pub returns-clause-ok : goal.returns-clause-ok
returns-clause-ok g c =
    let t = g.T.Turns.turn_of in let setup = c.args.setup.now in
    let old = c.args.self.now in let mid = c.make_room.new.self in let n = c.args.key.number + 1 in
    let kept = c.in_ok-make_room.ensures.kept in
    reaches_from t setup old.component old mid c.move_on.new.self n kept c.in_ok-make_room.ensures.ticks
    (subst (λ j. Reaching t setup j mid n c.move_on.new.self) (ap (λ (k : Clock). k.component) kept) c.move_on.ensures.reaching)
