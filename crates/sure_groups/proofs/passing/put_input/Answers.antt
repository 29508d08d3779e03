use Rattle.std.proofs.Common.{◌<◌, drop, refl, sym, subst, take}
use Rattle.event_keys.specs.Ranks.{rank}
use Rattle.sure_groups.specs.Inputs.{AreFalling, IsOneOf}
use Rattle.sure_groups.specs.declared.input.Input.{Input as Seen}
use Rattle.sure_groups.proofs.Falling.{put_kept, put_only, put_order, put_there}
use Rattle.sure_groups.proofs.passing.put_input.Goals as goal

pub returns-clause-order : goal.returns-clause-order
returns-clause-order c falls =
    let xs = c.args.pending.now.items in
    let at = c.in-Some.at in
    let same = c.deref.ensures.value in
    let greater = subst (λ l. (y : Seen) → IsOneOf (take at l) y → rank c.args.input.key < rank y.key) same c.in-Some.ensures.greater in
    let lesser = subst (λ l. AreFalling l → (y : Seen) → IsOneOf (drop at l) y → rank y.key < rank c.args.input.key) same c.in-Some.ensures.lesser in
    subst AreFalling (sym c.in_ok-insert.ensures.items) (put_order xs at c.args.input falls greater (lesser falls))

pub returns-clause-kept : goal.returns-clause-kept
returns-clause-kept c y h = subst (λ l. IsOneOf l y) (sym c.in_ok-insert.ensures.items) (put_kept c.args.pending.now.items c.in-Some.at c.args.input y h)

pub returns-clause-only : goal.returns-clause-only
returns-clause-only c y h = put_only c.args.pending.now.items c.in-Some.at c.args.input y (subst (λ l. IsOneOf l y) c.in_ok-insert.ensures.items h)

pub returns-clause-there : goal.returns-clause-there
returns-clause-there c = (c.args.input, subst (λ l. IsOneOf l c.args.input) (sym c.in_ok-insert.ensures.items) (put_there c.args.pending.now.items c.in-Some.at c.args.input), refl)
