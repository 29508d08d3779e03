use Rattle.std.proofs.Common.{◌≡◌, vec_len}
use Rattle.task_seed.specs.Setups.{system}
use Rattle.lone_group.specs.Drawn.{AreNext, first_of}
use Rattle.lone_group.proofs.drawn.draw.Given as goal

abbrev pub invariant-loop : goal.invariant-loop
invariant-loop g l = record {
  setup : l.agenda.setup ≡ l.initial.agenda.setup;
  due : AreNext (system g.T.Turns.turn_of l.initial.agenda.setup) l.due.items l.agenda.next;
  from : l.from ≡ first_of l.due.items l.agenda.next;
  count : vec_len l.due ≡ l.counter;
}
