use Rattle.std.proofs.Common.{refl, sym, ap, subst, ◌∙◌}
use Rattle.rollback.specs.ComponentView.{machine_of}
use Rattle.exchange.specs.LeaseView.{LeaseView, AllDelivered, IsCount, IsDelivered}
use Rattle.exchange.proofs.Delivering.{rest_after, count_after}
use Rattle.exchange.proofs.holding.Holding.deliver_all.Goals as goal

pub loop-count-preserved : goal.loop-count-preserved
loop-count-preserved g c =
    let t = g.T.Turns.turn_of in
    let own = c.args.self.now in
    let old = c.loop-count.self in
    let mid = c.deliver_next.new.self in
    let found = c.loop-count-test.ensures.delivered refl in
    let same = c.loop-count.invariant.setup in
    let is : IsDelivered (machine_of t own.component.setup) old mid found.0 = subst (λ p. IsDelivered (machine_of t p) old mid found.0) same found.1 in
    record {
      setup = ap (λ (h : LeaseView _). h.component.setup) found.1.rest ∙ same;
      rest = rest_after (machine_of t own.component.setup) own old mid found.0 is c.loop-count.invariant.rest;
      count = subst (IsCount own.tray mid.tray) (sym c.saturating_add-count.ensures) (count_after (machine_of t own.component.setup) own old mid found.0 is c.loop-count.count c.loop-count.invariant.count);
    }

pub returns-clause-delivered : goal.returns-clause-delivered
returns-clause-delivered g c =
    let m = machine_of g.T.Turns.turn_of c.args.self.now.component.setup in
    let old = c.loop-count.self in
    let none = c.loop-count-test.ensures.none refl in
    subst (AllDelivered m c.args.self.now c.args.self.now.tray) (sym none.1) (c.loop-count.invariant.rest old (subst (λ ys. AllDelivered m old ys old) (sym none.0) refl))
