use Rattle.std.proofs.Common.{◌≡◌, true, sym, ap, subst, ◌∙◌}
use Rattle.std.specs.Arc.{arc_value}
use Rattle.task_seed.specs.Setups.{system}
use Rattle.exchange.specs.LeaseView.{LeaseView}
use Rattle.exchange.specs.ExchangeView.{ExchangeView}
use Rattle.exchange.proofs.Knowing.{same_setup, same_system}
use Rattle.exchange.proofs.exchange.Exchange.has_setup.Goals as goal

pub returns-clause-same : goal.returns-clause-same
returns-clause-same g c told =
    let t = g.T.Turns.turn_of in
    let p = arc_value c.self.inside.setup in
    let q = c.lease.inside.component.setup in
    let yes : same_setup g.T.PartialEq.eq c.deref.result.now c.setup-setup.result.now ≡ true = subst (λ x. same_setup g.T.PartialEq.eq x c.setup-setup.result.now ≡ true) (c.deref-2.ensures ∙ sym c.deref.ensures) (sym c.eq.ensures ∙ told) in
    let law = c.equal_setup_law.ensures in
    let same : system t p ≡ system t q = ap (system t) (sym c.deref.ensures) ∙ same_system (system t c.deref.result.now) (system t c.setup-setup.result.now) (law.composition yes) (law.turns yes) (law.horizon yes) ∙ ap (system t) c.setup-setup.ensures in
    sym (ap (λ (x : ExchangeView _). system t x.setup) c.self.view_is) ∙ same ∙ ap (λ (y : LeaseView _). system t y.component.setup) c.lease.view_is
