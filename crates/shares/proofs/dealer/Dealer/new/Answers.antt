use Rattle.std.proofs.Common.{◌≡◌, length, rules}
use Rattle.task_seed.specs.Setups.{system}
use Rattle.shares.proofs.Dealt.{none_last}
use Rattle.shares.proofs.dealer.Dealer.new.Goals as goal

pub invariant_of-result : goal.invariant_of-result
invariant_of-result g c =
    let agenda = c.args.agenda in
    let s = system g.T.Turns.turn_of agenda.setup in
    let last = c.in_ok-last.last.items in
    let many : length last ≡ length s.composition = search rules in
    record {
      low = c.requires.low;
      every = c.requires.every;
      below = c.requires.below;
      many = many;
      lasts = none_last s agenda.next last c.requires.first;
    }
