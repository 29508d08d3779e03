use Rattle.std.proofs.Common.{◌≡◌, map}
use Rattle.std.specs.List.{range_with_len}
use Rattle.io_automata.specs.Automata.{items_in}
use Rattle.plans.specs.Plans.{composition}
use Rattle.senders.specs.Meeting.{senders_of}
use Rattle.senders.proofs.senders.lists_of_plan.Given as goal

abbrev pub invariant-loop-j : goal.invariant-loop-j
invariant-loop-j l = map items_in l.lists.items ≡ map (senders_of (composition l.plan)) (range_with_len 0 l.j)
