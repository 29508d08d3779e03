use Rattle.std.proofs.Common.{◌≡◌, ◌∙◌, sym, ap, subst, ◌++◌, reverse, false}
use Rattle.raw_events.specs.Around.{Around, first_is_at_most}
use Rattle.event_keys.specs.declared.message.Signed.{Signed}
use Rattle.antimessage.specs.Counts.{signed_cmp}
use Rattle.antimessage.specs.Bags.{insert}
use Rattle.antimessage.proofs.Placed.{AtMost, placing_ends, placing_ends_passed}
use Rattle.antimessage.proofs.merge.put.Goals as goal

pub returns-clause-placed : goal.returns-clause-placed
returns-clause-placed c =
    let stops : first_is_at_most signed_cmp c.args.cell c.loop-events.events.after ≡ false =
    ap (λ (w : Signed). first_is_at_most signed_cmp w c.loop-events.events.after) (sym c.value.ensures) ∙ sym c.next_is_at_most.ensures ∙ c.loop-events-test.false in
    subst (λ (a : Around Signed). reverse a.before ++ a.after ≡ reverse c.args.events.now.before ++ insert c.args.cell c.args.events.now.after) (sym c.push_last.ensures)
    (placing_ends c.args.cell c.args.events.now.before c.args.events.now.after c.loop-events.events.before c.loop-events.events.after stops c.loop-events.invariant)

pub returns-clause-passed : goal.returns-clause-passed
returns-clause-passed c =
    subst (λ (a : Around Signed). AtMost c.args.cell c.args.events.now.before → AtMost c.args.cell a.before) (sym c.push_last.ensures)
    (placing_ends_passed c.args.cell c.args.events.now.before c.args.events.now.after c.loop-events.events.before c.loop-events.events.after c.loop-events.invariant)
