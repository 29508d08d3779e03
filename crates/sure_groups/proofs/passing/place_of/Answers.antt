use Rattle.std.proofs.Common.{◌≡◌, ◌<◌, ◌≤◌, ◌⊎◌, inl, inr, ap, length, slice_index_or, arith}
use Rattle.event_keys.specs.Ranks.{rank}
use Rattle.sure_groups.specs.declared.input.Input.{Input}
use Rattle.sure_groups.specs.Inputs.{IsOneOf}
use Rattle.sure_groups.proofs.Falling.{at_place, in_take, lesser_from}
use Rattle.sure_groups.proofs.passing.place_of.Goals as goal

pub returns-then-is_less-clause-lesser : goal.returns-then-is_less-clause-lesser
returns-then-is_less-clause-lesser c falls y is =
    let xs = c.args.pending.now in
    let at = c.loop-at.at in
    let t = c.loop-at-test.true in
    let e = c.loop-at.auto.at-end in
    lesser_from xs at c.index-pending-at.result (rank c.args.key) (omega (arith, t, e)) (c.is_less.ensures.less c.if-is_less.true) falls y is

pub returns-then-not-is_less-clause-there : goal.returns-then-not-is_less-clause-there
returns-then-not-is_less-clause-there c _ =
    let xs = c.args.pending.now in
    let at = c.loop-at.at in
    let d = c.index-pending-at.result in
    let t = c.loop-at-test.true in
    let e = c.loop-at.auto.at-end in
    let low = c.is_less.ensures.not c.if-is_less.false in
    let high = c.is_less-in-loop-at.ensures.not c.if-not-is_less.true in
    (slice_index_or xs at d, at_place xs at d (omega (arith, t, e)), omega (arith, low, high))

pub loop-at-preserved : goal.loop-at-preserved
loop-at-preserved c y is =
    let xs = c.args.pending.now in
    let at = c.loop-at.at in
    let d = c.index-pending-at.result in
    let t = c.loop-at-test.true in
    let e = c.loop-at.auto.at-end in
    let less = c.is_less-in-loop-at.ensures.less c.if-not-is_less.false in go less (in_take xs at d (omega (arith, t, e)) y is)
  where
    go : rank c.args.key < rank (slice_index_or c.args.pending.now c.loop-at.at c.index-pending-at.result).key → IsOneOf (Rattle.std.proofs.Common.take c.loop-at.at c.args.pending.now) y ⊎ (y ≡ slice_index_or c.args.pending.now c.loop-at.at c.index-pending-at.result) → rank c.args.key < rank y.key
    go less (inl before) = c.loop-at.invariant y before
    go less (inr same) = let k = ap (λ (i : Input). rank i.key) same in omega (arith, less, k)
