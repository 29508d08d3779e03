use Rattle.antimessage.specs.Order.{KeyFits}
use Rattle.std.proofs.Common.{◌≡◌, Some, ◌∷◌, List, sym, ap, subst, ◌∙◌, arith}
use Rattle.std.specs.Arc.{arc_value}
use Rattle.event_keys.specs.declared.message.Signed.{Signed}
use Rattle.event_keys.specs.declared.message.Sign.TheVariants.{Minus}
use Rattle.raw_events.specs.Around.{tail}
use Rattle.plans.specs.Plans.{composition}
use Rattle.plans.specs.RestingLaws.{woken_resting}
use Rattle.task_seed.specs.ClockLaws.{reached_before}
use Rattle.task_seed.specs.Clocks.{HasReached}
use Rattle.task_seed.specs.Setups.{system, plan_of}
use Rattle.virtual_time.specs.Entries.{number}
use Rattle.task_seed.specs.Machines.{machine}
use Rattle.virtual_time.specs.Records.{roll_back_of, unsent}
use Rattle.message_balance.specs.declared.done.Done.TheVariants.{Turn, Input}
use Rattle.rollback.specs.ComponentView.{ComponentView, machine_of, last_of}
use Rattle.rollback.specs.ComponentInvariant.{entries_of, record_of}
use Rattle.rollback.specs.Post.{IsPosted}
use Rattle.rollback.proofs.Keeping.{kept_back_input, kept_back_turn}
use Rattle.rollback.proofs.Stepping.{back_input_record, back_turn_sent, head_tail}
use Rattle.rollback.proofs.component.Component.roll_back.Goals as goal

pub invariant_of-self-in-Input : goal.invariant_of-self-in-Input
invariant_of-self-in-Input g c =
    let f = c.self.inside in
    let s = system g.T.Turns.turn_of (arc_value f.setup) in
    let x = c.in-Input.cell in
    let there : f.done.before ≡ Input x ∷ tail f.done.before
    = head_tail (Input x) f.done.before (ap Some (sym c.in-Input.is ∙ c.into_value.ensures) ∙ sym c.in-Some.is ∙ c.take_last.ensures.taken) in (
      rw (c.undo.ensures.state, c.take_last.ensures.rest, c.insert_sorted.ensures)
          (kept_back_input s f.number f.first f.store f.done f.pending f.owed f.coming x (tail f.done.before) c.self.invariant.0 there),
      rw c.take_last.ensures.rest (subst (λ ds. HasReached g.T.Turns.turn_of (arc_value f.setup) f.number f.clock (number f.first (entries_of ds))) there c.self.invariant.1),
      woken_resting (composition (plan_of (arc_value f.setup))) f.number c.undo.new.self.current c.wake.new.self c.wake.ensures,
    )

pub returns-in-Input-clause-record : goal.returns-in-Input-clause-record
returns-in-Input-clause-record g c =
    let f = c.self.inside in
    let s = system g.T.Turns.turn_of (arc_value f.setup) in
    let x = c.in-Input.cell in
    let there : f.done.before ≡ Input x ∷ tail f.done.before
    = head_tail (Input x) f.done.before (ap Some (sym c.in-Input.is ∙ c.into_value.ensures) ∙ sym c.in-Some.is ∙ c.take_last.ensures.taken) in
    let is : record_of c.undo.new.self f.first c.take_last.new.self c.insert_sorted.new.self f.owed ≡ roll_back_of (machine s) (record_of f.store f.first f.done f.pending f.owed)
    = rw (c.undo.ensures.state, c.take_last.ensures.rest, c.insert_sorted.ensures)
    (back_input_record s f.number f.first f.store f.done f.pending f.owed f.coming c.self.invariant.0 x (tail f.done.before) there) in
    subst (λ (h : ComponentView _). ◌≡◌ {A = ComponentView _} (record { setup = arc_value f.setup; number = f.number; base = f.base; history = record_of c.undo.new.self f.first c.take_last.new.self c.insert_sorted.new.self f.owed }) (record h { history = roll_back_of (machine_of g.T.Turns.turn_of h.setup) h.history })) c.self.view_is
    (ap (λ r. record { setup = arc_value f.setup; number = f.number; base = f.base; history = r }) is)

pub returns-in-Turn-clause-sent : goal.returns-in-Turn-clause-sent
returns-in-Turn-clause-sent g c =
    let f = c.self.inside in
    let s = system g.T.Turns.turn_of (arc_value f.setup) in
    let turned = c.in-Turn.turned in
    let minuses = c.in-Turn.antimessages in
    let there : f.done.before ≡ Turn turned minuses ∷ tail f.done.before
    = head_tail (Turn turned minuses) f.done.before (ap Some (sym c.in-Turn.is ∙ c.into_value.ensures) ∙ sym c.in-Some.is ∙ c.take_last.ensures.taken) in
    let sent = back_turn_sent s f.number f.first f.store f.done f.pending f.owed f.coming c.self.invariant.0 turned minuses (tail f.done.before) c.args.out.now there
    (subst (λ t. KeyFits t.key) c.value.ensures c.fits.ensures.numbers) c.receivers_law.ensures.once c.receivers_law.ensures.all c.post_all.ensures.order in
    subst (λ (h : ComponentView _). IsPosted Minus (unsent (machine_of g.T.Turns.turn_of h.setup) h.number (last_of h.history.done)) c.args.out.now c.post_all.new.out) c.self.view_is
    (subst (λ (bag : List Signed). IsPosted Minus (unsent (machine s) f.number (last_of (record_of f.store f.first f.done f.pending f.owed).done)) c.args.out.now bag) (sym c.post_all.ensures.posted) sent)

pub invariant_of-self-in-Turn : goal.invariant_of-self-in-Turn
invariant_of-self-in-Turn g c =
    let f = c.self.inside in
    let s = system g.T.Turns.turn_of (arc_value f.setup) in
    let turned = c.in-Turn.turned in
    let minuses = c.in-Turn.antimessages in
    let there : f.done.before ≡ Turn turned minuses ∷ tail f.done.before
    = head_tail (Turn turned minuses) f.done.before (ap Some (sym c.in-Turn.is ∙ c.into_value.ensures) ∙ sym c.in-Some.is ∙ c.take_last.ensures.taken) in (
      rw (c.undo.ensures.state, c.take_last.ensures.rest, c.value.ensures)
          (kept_back_turn s f.number f.first f.store f.done f.pending f.owed f.coming turned minuses (tail f.done.before) c.self.invariant.0 there),
      rw c.take_last.ensures.rest (reached_before g.T.Turns.turn_of (arc_value f.setup) f.number f.clock (number f.first (entries_of (tail f.done.before))) _ (omega arith)
          (subst (λ ds. HasReached g.T.Turns.turn_of (arc_value f.setup) f.number f.clock (number f.first (entries_of ds))) there c.self.invariant.1)),
      woken_resting (composition (plan_of (arc_value f.setup))) f.number c.undo.new.self.current c.wake.new.self c.wake.ensures,
    )
