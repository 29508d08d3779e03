use Rattle.std.proofs.Common.{◌≡◌, ◌==◌, true, sym, ap, subst, ◌∙◌}
use Rattle.event_keys.specs.Ranks.{rank_of_bound}
use Rattle.rollback.specs.ComponentView.{machine_of}
use Rattle.exchange.specs.LeaseView.{LeaseView}
use Rattle.exchange.specs.Known.{IsKnown}
use Rattle.exchange.proofs.Knowing.{same_number}
use Rattle.exchange.proofs.judging.is_known.Goals as goal

pub returns : goal.returns
returns g c =
    let t = g.T.Turns.turn_of in
    let f = c.lease.inside in
    let stub = c.args.stub.now in
    let h : LeaseView _ = record { component = f.component; tray = f.tray; out = f.out; copies = f.copies; floor = f.floor; window = f.window } in
    let m = machine_of t f.component.setup in
    let base = same_number (rank_of_bound f.component.base) (rank_of_bound stub.base)
    (ap (λ x. rank_of_bound x == rank_of_bound stub.base) (sym c.base.ensures) ∙ sym c.is_same_bound.ensures ∙ c.if-not-is_same_bound.false) in
    let floor = same_number (rank_of_bound f.floor) (rank_of_bound stub.floor) (sym c.is_same_bound-2.ensures ∙ c.if-not-is_same_bound-2.false) in
    let taken = c.has_taken.ensures.0 c.if-not-has_taken.false in
    subst (λ (x : LeaseView _). (c.has_standing.result ≡ true → IsKnown (machine_of t x.component.setup) stub x) × (IsKnown (machine_of t x.component.setup) stub x → c.has_standing.result ≡ true)) c.lease.view_is
    ((λ yes. record { base = base; floor = floor; taken = taken; standing = c.has_standing.ensures.0 yes }), (λ k. c.has_standing.ensures.1 k.standing))
