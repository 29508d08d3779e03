use Rattle.std.proofs.Common.{Some, ap, ◌∙◌}
use Rattle.task_seed.specs.Setups.{system}
use Rattle.task_seed.specs.Turning.{with_task_below}
use Rattle.task_seed.proofs.Walking.{own_turn}
use Rattle.task_seed.proofs.clock.Clock.read_on.Goals as goal

pub returns-clause-own : goal.returns-clause-own
returns-clause-own g c own =
    let s = system g.T.Turns.turn_of c.args.setup.now in
    let i = c.args.self.now.component in
    let next = c.in_ok-next.next in
    record {
      component = own.component;
      read = λ some.
          ap Some (c.in_tasks.ensures ∙ ap (λ tasks. with_task_below tasks next.turn) c.requires.tasks) ∙ own_turn s i next.key.number next.turn some c.in_ok-next.ensures.turn;
    }
