use Rattle.std.proofs.Common.{◌≡◌, true, ◌∷◌, List, sym, ap, subst, ◌∙◌}
use Rattle.std.specs.Prelude.{IfSome}
use Rattle.std.specs.Arc.{arc_value}
use Rattle.event_keys.specs.declared.message.Signed.{Signed}
use Rattle.raw_events.specs.Around.{head, tail}
use Rattle.plans.specs.Plans.{composition}
use Rattle.plans.specs.RestingLaws.{woken_resting}
use Rattle.io_automata.specs.Steps.{applied}
use Rattle.task_seed.specs.Setups.{system, plan_of}
use Rattle.task_seed.specs.Machines.{machine}
use Rattle.virtual_time.specs.Records.{next_of}
use Rattle.message_balance.specs.declared.done.Done.TheVariants.{Input}
use Rattle.rollback.specs.ComponentView.{ComponentView, machine_of, is_receiving}
use Rattle.rollback.specs.ComponentInvariant.{record_of}
use Rattle.rollback.proofs.Keeping.{kept_input}
use Rattle.rollback.proofs.Stepping.{receiving_by, receiving_is}
use Rattle.rollback.proofs.component.Component.process_input.Goals as goal

pub invariant_of-self-2 : goal.invariant_of-self-2
invariant_of-self-2 g c =
    let f = c.self.inside in
    let s = system g.T.Turns.turn_of (arc_value f.setup) in
    let comes : is_receiving (next_of (machine s) f.number (record_of f.store f.first f.done f.pending f.owed)) ≡ true
    = subst (λ (h : ComponentView _). is_receiving (next_of (machine_of g.T.Turns.turn_of h.setup) h.number h.history) ≡ true) (sym c.self.view_is) c.requires in
    let found = receiving_is s f.number f.first f.store f.done f.pending f.owed f.coming c.self.invariant.0 comes in
    let x = found.0 in
    let there : f.pending.after ≡ x ∷ found.1 = found.2 in
    let before = receiving_by s f.number f.first f.store f.done f.pending f.owed f.coming c.self.invariant.0 ∙ comes in
    let plan : composition c.plan.result.now ≡ s.composition = ap composition c.plan.ensures ∙ ap (λ u. composition (plan_of u)) c.deref.ensures in
    let state : c.take_input.new.store ≡ record { current = applied s.composition f.number x.message.action f.store.current; below = f.store.current ∷ f.store.below }
    = subst (λ p. c.take_input.new.store ≡ record { current = applied p f.number x.message.action f.store.current; below = f.store.current ∷ f.store.below }) plan
    (subst (λ (l : List Signed). IfSome (head l) (λ (y : Signed). c.take_input.new.store ≡ record { current = applied (composition c.plan.result.now) f.number y.message.action f.store.current; below = f.store.current ∷ f.store.below })) there c.in_ok-take_input.ensures.state) in
    let done : c.take_input.new.done ≡ record f.done { before = Input x ∷ f.done.before }
    = subst (λ (l : List Signed). IfSome (head l) (λ (y : Signed). c.take_input.new.done ≡ record f.done { before = Input y ∷ f.done.before })) there c.in_ok-take_input.ensures.done in
    let pending : c.take_input.new.pending ≡ record f.pending { after = found.1 }
    = c.in_ok-take_input.ensures.pending ∙ ap (λ (l : List Signed). record f.pending { after = tail l }) there in
    (rw (state, done, pending) (kept_input s f.number f.first f.store f.done f.pending f.owed f.coming x found.1 c.self.invariant.0 there before), rw done c.self.invariant.1, woken_resting (composition (plan_of (arc_value f.setup))) f.number c.take_input.new.store.current c.wake.new.self c.wake.ensures)
