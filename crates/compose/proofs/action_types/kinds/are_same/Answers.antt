use Rattle.std.proofs.Common.{Some, arith, map}
use Rattle.ioa_entries.specs.EntryViews.{slot_tree}
use Rattle.ioa_typing.specs.KindViews.{option_tree}
use Rattle.compose.specs.Types.{slot_kind}
use Rattle.compose.proofs.SlotTypes.{same_at_end}
use Rattle.compose.proofs.action_types.kinds.are_same.Goals as goal

pub returns : goal.returns
returns c =
    same_at_end (λ p. slot_tree (Some p))
    (slot_kind (map (λ k. option_tree (Some k)) c.args.a.now.formals.now))
    (slot_kind (map (λ k. option_tree (Some k)) c.args.b.now.formals.now))
    c.as_slice-slots.result.now c.as_slice-others.result.now c.loop-place.place _
    c.loop-place-test.false (omega arith) c.loop-place.invariant.within c.loop-place.invariant.left
