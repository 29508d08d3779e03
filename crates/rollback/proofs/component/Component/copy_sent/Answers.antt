use Rattle.std.proofs.Common.{subst}
use Rattle.std.specs.Prelude.{OnOk}
use Rattle.std.specs.Arc.{arc_value}
use Rattle.event_keys.specs.declared.message.Sign.TheVariants.{Plus}
use Rattle.virtual_time.specs.Records.{sent_all, unsent}
use Rattle.message_balance.specs.Balance.{all_of}
use Rattle.rollback.specs.ComponentInvariant.{entries_of}
use Rattle.rollback.specs.ComponentView.{ComponentView, machine_of}
use Rattle.rollback.specs.Post.{IsPosted}
use Rattle.rollback.proofs.Resent.{on_all_resent}
use Rattle.rollback.proofs.component.Component.copy_sent.Goals as goal

pub returns : goal.returns
returns g c =
    let t = g.T.Turns.turn_of in
    let f = c.self.inside in
    subst (λ (h : ComponentView _). OnOk c.copy_entries.result (IsPosted Plus (sent_all (machine_of t h.setup) h.number h.history.done) c.args.sent.now c.copy_entries.new.sent)) c.self.view_is
    (on_all_resent (machine_of t (arc_value f.setup)) f.number f.done c.args.sent.now c.copy_entries.new.sent c.copy_entries.result c.self.invariant.0.ahead
    (subst (λ p. OnOk c.copy_entries.result (IsPosted Plus (unsent (machine_of t p) f.number (entries_of (all_of f.done))) c.args.sent.now c.copy_entries.new.sent)) c.deref.ensures c.copy_entries.ensures))
