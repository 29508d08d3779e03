use Rattle.std.proofs.Common.{◌≤◌, map, subst, ◌∙◌, ap}
use Rattle.task_seed.specs.Machines.{end_rank}
use Rattle.task_seed.specs.Setups.{system}
use Rattle.reference.specs.Queues.{rank_or_end}
use Rattle.shares.specs.Dealing.{Dealing}
use Rattle.shares.specs.Hands.{share_of}
use Rattle.shares.proofs.Dealt.{dealt}
use Rattle.shares.proofs.dealer.Dealer.hand_out.Goals as goal

pub returns-clause-deal : goal.returns-clause-deal
returns-clause-deal g c =
    let d = c.args.self.now in
    let s = system g.T.Turns.turn_of d.setup in
    let is = c.in_ok-deal.ensures in
    let next = c.next.ensures ∙ ap (λ (x : Dealing _). x.next) c.self.view_is in
    let low = subst (λ (x : Dealing _). rank_or_end x.next ≤ end_rank) c.self.view_is c.self.invariant.low in
    dealt s d.senders d.groups d.count d.next c.args.hand c.in_ok-deal.deal low c.requires is.due is.from (is.next ∙ next) (is.shares ∙ ap (λ k. map (share_of c.args.hand.from k) c.args.hand.owns.items) next)
