use Rattle.std.proofs.Common.{◌∙◌, ap}
use Rattle.task_seed.specs.Setups.{system}
use Rattle.shares.specs.Dealing.{Dealing}
use Rattle.shares.proofs.Dealt.{hand_empty}
use Rattle.shares.proofs.dealer.Dealer.empty.Goals as goal

pub returns-clause-hand : goal.returns-clause-hand
returns-clause-hand g c =
    let d = c.args.self.now in
    let s = system g.T.Turns.turn_of d.setup in
    let hand = c.in_ok-hand.hand in
    let is = c.in_ok-hand.ensures in
    let next = c.next.ensures ∙ ap (λ (x : Dealing _). x.next) c.self.view_is in
    let many = is.many ∙ ap (λ (x : Dealing _). x.count) c.self.view_is in
    hand_empty s d.senders d.groups d.count d.next hand (is.from ∙ next) is.due many is.owns
