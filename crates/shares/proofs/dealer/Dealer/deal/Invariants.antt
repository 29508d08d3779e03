use Rattle.std.proofs.Common.{◌≡◌}
use Rattle.task_seed.specs.Setups.{system}
use Rattle.shares.specs.Hands.{IsHand}
use Rattle.shares.proofs.dealer.Dealer.deal.Given as goal

abbrev pub invariant-loop : goal.invariant-loop
invariant-loop g l = record {
  keeps : l.self ≡ record l.initial.self { next = l.self.next };
  hand : IsHand (system g.T.Turns.turn_of l.initial.self.setup) l.initial.self.senders l.initial.self.groups l.initial.self.count l.self.next l.hand;
  from : l.hand.from ≡ l.initial.self.next;
}
