use Rattle.std.proofs.Common.{length, subst}
use Rattle.std.specs.Arc.{arc_value}
use Rattle.task_seed.specs.Machines.{machine}
use Rattle.task_seed.specs.Setups.{system}
use Rattle.virtual_time.specs.Machine.{Lawful}
use Rattle.group_exchange.specs.ExchangeView.{ExchangeView, group_at}
use Rattle.group_exchange.specs.Seen.{HasFewInInboxes}
use Rattle.group_exchange.proofs.Windowed.{few_waiting}
use Rattle.group_exchange.proofs.exchange.Exchange.soundness_law.Goals as goal

pub returns-clause-few : goal.returns-clause-few
returns-clause-few g c =
    let t = g.T.Turns.turn_of in
    let f = c.self.inside in
    let s = system t (arc_value f.setup) in
    let e : ExchangeView _ = record { setup = arc_value f.setup; groups = f.groups.items; stubs = f.stubs.items; passages = f.passages.items; bound = f.bound; held = f.held.items; given = f.given; window = f.window } in
    let law : Lawful (machine s) = subst (λ p. Lawful (machine (system t p))) c.deref.ensures c.machine_is_lawful.ensures.lawful in
    subst (λ (x : ExchangeView _). HasFewInInboxes t x) c.self.view_is (few_waiting (machine s) (length s.composition) e law (c.group_window_law.ensures.inboxes (machine s) (group_at f.groups.items)) c.self.invariant.1.sound c.self.invariant.2)
