use Rattle.std.proofs.Common.{◌≡◌, length, refl, sym, subst}
use Rattle.event_keys.specs.Ranks.{rank}
use Rattle.virtual_time.specs.Machine.{Lawful, HasCount}
use Rattle.plans.specs.Plans.{composition}
use Rattle.task_seed.specs.Setups.{plan_of}
use Rattle.virtual_time.specs.Entries.{entry_key}
use Rattle.virtual_time.specs.Records.{next_of}
use Rattle.rollback.specs.ComponentView.{ComponentView, machine_of}
use Rattle.exchange.specs.LeaseView.{IsValidLease}
use Rattle.exchange.proofs.Leasing.{next_kept}
use Rattle.exchange.proofs.holding.Holding.process_next.Goals as goal

pub invariant_of-self-2 : goal.invariant_of-self-2
invariant_of-self-2 g c =
    let t = g.T.Turns.turn_of in
    let f = c.self.inside in
    let m = machine_of t f.component.setup in
    let law : Lawful m = subst (λ p. Lawful (machine_of t p)) c.setup.ensures c.machine_is_lawful.ensures.lawful in
    let n = length (composition (plan_of f.component.setup)) in
    let counted : HasCount m n = subst (λ p. HasCount (machine_of t p) (length (composition (plan_of p)))) c.setup.ensures c.machine_is_lawful.ensures.counted in
    let next = next_of m f.component.number f.component.history in
    subst (λ (x : ComponentView _). IsValidLease (machine_of t x.setup) (length (composition (plan_of x.setup))) (record { component = x; tray = f.tray; out = c.process_copied.new.out; copies = c.process_copied.new.copies; floor = f.floor; window = f.window })) (sym c.in_ok-key.ensures.record)
    (next_kept m law n counted (record { component = f.component; tray = f.tray; out = f.out; copies = f.copies; floor = f.floor; window = f.window }) c.self.invariant (c.exchange_is_sound.ensures.alone m) (c.lease_law.ensures.process m)
    (λ entry. entry_key entry ≡ rank c.in_ok-key.key) next refl c.in_ok-key.ensures.key c.process_copied.new.out c.process_copied.new.copies c.in_ok-key.ensures.sent c.in_ok-key.ensures.of_sender c.in_ok-key.ensures.of_receiver)
