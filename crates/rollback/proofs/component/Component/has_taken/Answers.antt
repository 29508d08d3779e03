use Rattle.std.proofs.Common.{◌≡◌, true, subst}
use Rattle.std.specs.Prelude.{◌↔◌}
use Rattle.std.specs.Arc.{arc_value}
use Rattle.task_seed.specs.Setups.{system}
use Rattle.message_balance.specs.declared.received.Received.{Received}
use Rattle.rollback.specs.ComponentView.{ComponentView, machine_of}
use Rattle.rollback.specs.Matched.{IsTaken}
use Rattle.rollback.proofs.Taken.{taken_is}
use Rattle.rollback.proofs.component.Component.has_taken.Goals as goal

pub returns : goal.returns
returns g c =
    let f = c.self.inside in
    let t : Received = record { taken = c.args.taken; tray = c.args.tray; done = record { ref_ptr = c.args.self.ref_ptr; now = f.done }; pending = record { ref_ptr = c.args.self.ref_ptr; now = f.pending }; owed = record { ref_ptr = c.args.self.ref_ptr; now = f.owed } } in
    subst (λ (h : ComponentView _). (c.is_matched.result ≡ true) ↔ IsTaken (machine_of g.T.Turns.turn_of h.setup) h.number h.history c.args.taken.now c.args.tray.now) c.self.view_is
    (taken_is (system g.T.Turns.turn_of (arc_value f.setup)) f.number f.first f.store f.coming t c.is_matched.result c.is_matched.ensures c.self.invariant.0 c.order_law.ensures c.order_law-2.ensures)
