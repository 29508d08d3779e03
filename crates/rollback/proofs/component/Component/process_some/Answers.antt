use Rattle.std.proofs.Common.{◌≡◌, ◌+◌, sym, ap, subst, ◌∙◌}
use Rattle.std.specs.Prelude.{IsSomeAnd}
use Rattle.event_keys.specs.declared.message.Sign.TheVariants.{Plus}
use Rattle.event_keys.specs.Ranks.{rank}
use Rattle.virtual_time.specs.Entries.{entry_key}
use Rattle.virtual_time.specs.Records.{next_of}
use Rattle.rollback.specs.ComponentView.{ComponentView, machine_of, processed, sent_next}
use Rattle.rollback.specs.Post.{IsPosted}
use Rattle.rollback.specs.Runs.{IsRun}
use Rattle.rollback.proofs.Returning.{run_next}
use Rattle.rollback.proofs.component.Component.process_some.Goals as goal

pub loop-entries-preserved : goal.loop-entries-preserved
loop-entries-preserved g c =
    let t = g.T.Turns.turn_of in
    let h = c.loop-entries.self in
    let own = c.args.self.now in
    let m = machine_of t own.setup in
    let same : h ≡ record own { history = h.history } = c.loop-entries.invariant.rest in
    let made : c.process.new.self ≡ record own { history = processed (next_of m own.number h.history) h.history }
    = c.in-Ok.ensures.record ∙ (λ v. record (same v) { history = processed (next_of (machine_of t (same v).setup) (same v).number h.history) h.history }) in
    let came : c.process.new.self.history ≡ processed (next_of m own.number h.history) h.history = ap (λ (x : ComponentView _). x.history) made in
    record {
      rest = made ∙ sym (ap (λ r. record own { history = r }) came);
      run = subst (λ r. IsRun m own.number own.history r c.args.out.now c.process.new.out (c.loop-entries.entries + 1)) (sym came)
          (run_next m own.number (λ entry. entry_key entry ≡ rank c.in-Ok.field-0) own.history h.history c.args.out.now c.loop-entries.out c.process.new.out c.loop-entries.entries c.loop-entries.invariant.run
          (subst (λ (x : ComponentView _). IsSomeAnd (next_of (machine_of t x.setup) x.number h.history) (λ entry. entry_key entry ≡ rank c.in-Ok.field-0)) same c.in-Ok.ensures.key)
          (subst (λ (x : ComponentView _). IsPosted Plus (sent_next (machine_of t x.setup) x.number (next_of (machine_of t x.setup) x.number h.history)) c.loop-entries.out c.process.new.out) same c.in-Ok.ensures.sent));
    }
