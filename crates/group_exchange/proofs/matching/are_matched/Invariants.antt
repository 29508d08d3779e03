use Rattle.std.proofs.Common.{drop}
use Rattle.group_exchange.specs.Compared.{AreMatched}
use Rattle.group_exchange.proofs.matching.are_matched.Given as goal

abbrev pub invariant-loop-component : goal.invariant-loop-component
invariant-loop-component g l =
    AreMatched g.T.Turns.turn_of (drop l.component-index l.fn.components) l.taken l.standing l.tray l.out → AreMatched g.T.Turns.turn_of l.fn.components l.taken l.standing l.tray l.out
