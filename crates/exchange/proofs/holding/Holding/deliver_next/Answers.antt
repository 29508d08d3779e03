use Rattle.std.proofs.Common.{◌≡◌, [], ◌∷◌, length, refl, sym, ap, subst, ◌∙◌}
use Rattle.raw_events.specs.Around.{first_where, without_where}
use Rattle.antimessage.specs.Bags.{is_to}
use Rattle.antimessage.specs.Counts.{Each}
use Rattle.event_keys.specs.declared.message.Signed.{Signed}
use Rattle.virtual_time.specs.Machine.{Lawful, HasCount}
use Rattle.plans.specs.Plans.{composition}
use Rattle.task_seed.specs.Setups.{plan_of}
use Rattle.rollback.specs.Flight.{item_of}
use Rattle.rollback.specs.ComponentView.{ComponentView, machine_of, comes}
use Rattle.exchange.specs.LeaseView.{LeaseView, IsValidLease, IsDelivered}
use Rattle.exchange.proofs.Delivering.{none_to, first_to, deliver_kept}
use Rattle.exchange.proofs.holding.Holding.deliver_next.Goals as goal

pub invariant_of-self : goal.invariant_of-self
invariant_of-self g c =
    let f = c.self.inside in
    let i = f.component.number in
    let empty : f.tray ≡ [] = none_to i f.tray c.self.invariant.arrived (ap (λ n. first_where (is_to n) f.tray) (sym c.number.ensures.number) ∙ sym c.in_default.ensures.taken) in
    let left : c.take.new.self ≡ f.tray = c.in_default.ensures.rest ∙ ap (without_where (is_to c.number.result)) empty ∙ sym empty in
    subst (λ t. IsValidLease (machine_of g.T.Turns.turn_of f.component.setup) (length (composition (plan_of f.component.setup))) (record { component = f.component; tray = t; out = f.out; copies = f.copies; floor = f.floor; window = f.window })) (sym left) c.self.invariant

pub returns-in_default-clause-none : goal.returns-in_default-clause-none
returns-in_default-clause-none g c = λ no.
    let f = c.self.inside in
    let i = f.component.number in
    let empty : f.tray ≡ [] = none_to i f.tray c.self.invariant.arrived (ap (λ n. first_where (is_to n) f.tray) (sym c.number.ensures.number) ∙ sym c.in_default.ensures.taken) in
    let left : c.take.new.self ≡ f.tray = c.in_default.ensures.rest ∙ ap (without_where (is_to c.number.result)) empty ∙ sym empty in
    (ap (λ (h : LeaseView _). h.tray) (sym c.self.view_is) ∙ empty, ap (λ t. record { component = f.component; tray = t; out = f.out; copies = f.copies; floor = f.floor; window = f.window }) left ∙ c.self.view_is)

pub deliver-taken_back-requires-after_bounds : goal.deliver-taken_back-requires-after_bounds
deliver-taken_back-requires-after_bounds g c = λ _ _.
    let f = c.self.inside in
    let i = f.component.number in
    let s = c.in-Some.cell in
    let there : f.tray ≡ s ∷ without_where (is_to i) f.tray
    = first_to i f.tray s c.self.invariant.arrived (ap (λ n. first_where (is_to n) f.tray) (sym c.number.ensures.number) ∙ sym c.in-Some.ensures.taken) in
    (subst (λ ys. Each (λ y. y.message.to ≡ i) ys) there c.self.invariant.arrived).0

pub invariant_of-self-2 : goal.invariant_of-self-2
invariant_of-self-2 g c =
    let t = g.T.Turns.turn_of in
    let f = c.self.inside in
    let i = f.component.number in
    let m = machine_of t f.component.setup in
    let law : Lawful m = subst (λ p. Lawful (machine_of t p)) c.setup.ensures c.machine_is_lawful.ensures.lawful in
    let n = length (composition (plan_of f.component.setup)) in
    let counted : HasCount m n = subst (λ p. HasCount (machine_of t p) (length (composition (plan_of p)))) c.setup.ensures c.machine_is_lawful.ensures.counted in
    let s = c.in-Some.cell in
    let there : f.tray ≡ s ∷ without_where (is_to i) f.tray
    = first_to i f.tray s c.self.invariant.arrived (ap (λ n. first_where (is_to n) f.tray) (sym c.number.ensures.number) ∙ sym c.in-Some.ensures.taken) in
    let left : c.take.new.self ≡ without_where (is_to i) f.tray = c.in-Some.ensures.rest ∙ ap (λ n. without_where (is_to n) f.tray) c.number.ensures.number in
    subst (λ (x : ComponentView _). IsValidLease (machine_of t x.setup) (length (composition (plan_of x.setup))) (record { component = x; tray = c.take.new.self; out = c.deliver-taken_back.new.out; copies = f.copies; floor = f.floor; window = f.window })) (sym c.deliver-taken_back.ensures.record)
    (subst (λ tray. IsValidLease m n (record { component = record f.component { history = comes m s.sign (item_of s) f.component.history }; tray = tray; out = c.deliver-taken_back.new.out; copies = f.copies; floor = f.floor; window = f.window })) (sym left)
    (deliver_kept m law n counted (record { component = f.component; tray = f.tray; out = f.out; copies = f.copies; floor = f.floor; window = f.window }) c.self.invariant (c.exchange_is_sound.ensures.alone m) (c.lease_law.ensures.message m) (c.lease_law.ensures.antimessage m) s (without_where (is_to i) f.tray) there s.sign refl c.deliver-taken_back.new.out
    c.deliver-taken_back.ensures.sent))

pub returns-clause-delivered : goal.returns-clause-delivered
returns-clause-delivered g c = λ yes.
    let t = g.T.Turns.turn_of in
    let f = c.self.inside in
    let i = f.component.number in
    let m = machine_of t f.component.setup in
    let s = c.in-Some.cell in
    let there : f.tray ≡ s ∷ without_where (is_to i) f.tray
    = first_to i f.tray s c.self.invariant.arrived (ap (λ n. first_where (is_to n) f.tray) (sym c.number.ensures.number) ∙ sym c.in-Some.ensures.taken) in
    let left : c.take.new.self ≡ without_where (is_to i) f.tray = c.in-Some.ensures.rest ∙ ap (λ n. without_where (is_to n) f.tray) c.number.ensures.number in
    let came : c.deliver-taken_back.new.self.history ≡ comes m s.sign (item_of s) f.component.history = ap (λ (x : ComponentView _). x.history) c.deliver-taken_back.ensures.record in
    subst (λ (old : LeaseView _). (x : Signed) × IsDelivered (machine_of t old.component.setup) old (record { component = c.deliver-taken_back.new.self; tray = c.take.new.self; out = c.deliver-taken_back.new.out; copies = f.copies; floor = f.floor; window = f.window }) x) c.self.view_is (
      s,
      record {
        tray = there ∙ ap (λ l. s ∷ l) (sym left);
        history = came;
        sent = c.deliver-taken_back.ensures.sent;
        rest = ap (λ x. record { component = x; tray = c.take.new.self; out = c.deliver-taken_back.new.out; copies = f.copies; floor = f.floor; window = f.window }) (c.deliver-taken_back.ensures.record ∙ sym (ap (λ q. record f.component { history = q }) came));
      },
    )
