use Rattle.std.proofs.Common.{◌∙◌, sym}
use Rattle.antimessage.proofs.Below.{dropping_ends}
use Rattle.antimessage.proofs.merge.drop_below.Goals as goal

pub returns : goal.returns
returns c =
    let ends = dropping_ends c.args.bound c.args.events.now.after c.loop-bound.events.after (sym c.next_is_below.ensures ∙ c.loop-bound-test.false) c.loop-bound.invariant.1 in
    λ i. record { before = c.loop-bound.invariant.0 i; after = ends i }
