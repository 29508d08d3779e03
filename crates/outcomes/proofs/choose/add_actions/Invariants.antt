use Rattle.std.proofs.Common.{◌≡◌, ◌++◌, ◌+◌, ◌-◌, ◌≤◌, length, map}
use Rattle.std.specs.List.{range_with_len}
use Rattle.io_automata.specs.Outcomes.{named}
use Rattle.io_automata.specs.Tuples.{tuple_at}
use Rattle.outcomes.proofs.choose.add_actions.Given as goal

abbrev pub invariant-loop-at : goal.invariant-loop-at
invariant-loop-at l = record {
  few : l.at ≤ l.fn.found.from + l.fn.found.count;
  past : l.fn.found.from ≤ l.at;
  long : length l.args.items ≡ length l.entry.params.items;
  made : l.actions.items ≡ l.initial.actions.items ++ map (λ at. named l.entry.name (tuple_at l.task.formals.now l.entry.params.items at)) (range_with_len l.fn.found.from (l.at - l.fn.found.from));
}
