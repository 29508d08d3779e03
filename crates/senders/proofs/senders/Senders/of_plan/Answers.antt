use Rattle.std.proofs.Common.{map}
use Rattle.io_automata.specs.Automata.{items_in}
use Rattle.plans.specs.Plans.{composition}
use Rattle.senders.proofs.Made.{are_senders, no_other, only, rising}
use Rattle.senders.proofs.senders.Senders.of_plan.Goals as goal

pub returns-clause-all : goal.returns-clause-all
returns-clause-all c = are_senders (composition c.args.plan.now) (map items_in c.in_ok-lists.lists.items) c.in_ok-lists.ensures c.compatible.ensures.formed

pub returns-clause-once : goal.returns-clause-once
returns-clause-once c = rising (composition c.args.plan.now) (map items_in c.in_ok-lists.lists.items) c.in_ok-lists.ensures

pub returns-clause-other : goal.returns-clause-other
returns-clause-other c = no_other (composition c.args.plan.now) (map items_in c.in_ok-lists.lists.items) c.in_ok-lists.ensures

pub returns-clause-only : goal.returns-clause-only
returns-clause-only c = only (composition c.args.plan.now) (map items_in c.in_ok-lists.lists.items) c.in_ok-lists.ensures
