use Rattle.std.proofs.Common.{◌<◌, List, arith, length, subst, sym}
use Rattle.event_keys.specs.Ranks.{rank}
use Rattle.shares.specs.declared.share.Wait.{Wait}
use Rattle.shares.specs.Waiting.{IsCovered}
use Rattle.shares.proofs.Covered.{raised, raised_kept, covered_later}
use Rattle.shares.proofs.waiting.raise.Goals as goal

pub returns-then-wait-group-clause-kept : goal.returns-then-wait-group-clause-kept
returns-then-wait-group-clause-kept c = λ group r was.
    let l = c.loop-place in
    let test = c.loop-place-test.true in
    let many = l.auto.waits in
    let within : l.place < length l.waits = omega (arith, test, many) in
    raised_kept l.waits l.place c.args.group _ c.later-last.result within c.if-wait-group.true c.later-last.ensures.first group r (subst (λ (ws : List Wait). IsCovered ws group r) (sym l.invariant) was)

pub returns-then-wait-group-clause-covered : goal.returns-then-wait-group-clause-covered
returns-then-wait-group-clause-covered c = λ _.
    let l = c.loop-place in
    let test = c.loop-place-test.true in
    let many = l.auto.waits in
    let within : l.place < length l.waits = omega (arith, test, many) in
    covered_later _ c.args.group (rank c.args.last) (rank c.later-last.result) c.later-last.ensures.second
    (raised l.waits l.place c.args.group _ c.later-last.result within c.if-wait-group.true c.later-last.ensures.first)
