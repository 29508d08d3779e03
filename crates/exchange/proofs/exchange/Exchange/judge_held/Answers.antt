use Rattle.std.proofs.Common.{◌≡◌, true, false, Some, refl, sym, ap, subst, subst₂, ◌∙◌}
use Rattle.std.specs.Arc.{arc_value}
use Rattle.std.specs.List.{slice_get}
use Rattle.virtual_time.specs.Exchange.Leases.{Matches}
use Rattle.task_seed.specs.Setups.{system}
use Rattle.rollback.specs.ComponentView.{machine_of}
use Rattle.exchange.specs.LeaseView.{LeaseView, lease_of}
use Rattle.exchange.specs.ExchangeView.{ExchangeView, stub_or_start}
use Rattle.exchange.specs.Known.{IsKnown}
use Rattle.std.proofs.lemmas.Option.{slice_get-get_or}
use Rattle.exchange.proofs.Knowing.{to_match, from_match, false_true}
use Rattle.exchange.proofs.exchange.Exchange.judge_held.Goals as goal

pub returns-then-is_known-clause-ok : goal.returns-then-is_known-clause-ok
returns-then-is_known-clause-ok g c =
    let t = g.T.Turns.turn_of in
    let f = c.self.inside in
    let l = c.lease.inside in
    let p = arc_value f.setup in
    let q = l.component.setup in
    let stub = c.in-Some.stub.now in
    let h : LeaseView _ = record { component = l.component; tray = l.tray; out = l.out; copies = l.copies; floor = l.floor; window = l.window } in
    let same : system t p ≡ system t q = ap (λ (x : ExchangeView _). system t x.setup) c.self.view_is ∙ c.requires.same ∙ sym (ap (λ (y : LeaseView _). system t y.component.setup) c.lease.view_is) in
    let lookup = c.in-Some.ensures.lookup in
    let found : slice_get f.stubs.items l.component.number ≡ Some stub
    = ap (λ n. slice_get f.stubs.items n) (sym (c.from.ensures ∙ c.number.ensures.number)) ∙ ap (λ xs. slice_get xs c.from.result) (sym c.deref.ensures.value)
    ∙ slice_get-get_or c.deref.result.now c.from.result stub lookup.3.0 ∙ ap (λ x. Some x) (sym (lookup.3.1 stub)) in
    let known : IsKnown (machine_of t q) stub h = subst (λ (x : LeaseView _). IsKnown (machine_of t x.component.setup) stub x) (sym c.lease.view_is) (c.is_known.ensures.0 c.if-is_known.true) in
    let matched = to_match (system t p) (system t q) same f.stubs.items stub h found known in
    subst₂ (λ (x : ExchangeView _) (y : LeaseView _). (true ≡ true → Matches (machine_of t x.setup) y.component.number (stub_or_start (machine_of t x.setup) y.component.number (slice_get x.stubs y.component.number)) (lease_of y)) × (Matches (machine_of t x.setup) y.component.number (stub_or_start (machine_of t x.setup) y.component.number (slice_get x.stubs y.component.number)) (lease_of y) → true ≡ true)) c.self.view_is c.lease.view_is
    ((λ _. matched), (λ _. refl))

pub returns-else-is_known-clause-ok : goal.returns-else-is_known-clause-ok
returns-else-is_known-clause-ok g c =
    let t = g.T.Turns.turn_of in
    let f = c.self.inside in
    let l = c.lease.inside in
    let p = arc_value f.setup in
    let q = l.component.setup in
    let stub = c.in-Some.stub.now in
    let h : LeaseView _ = record { component = l.component; tray = l.tray; out = l.out; copies = l.copies; floor = l.floor; window = l.window } in
    let same : system t p ≡ system t q = ap (λ (x : ExchangeView _). system t x.setup) c.self.view_is ∙ c.requires.same ∙ sym (ap (λ (y : LeaseView _). system t y.component.setup) c.lease.view_is) in
    let lookup = c.in-Some.ensures.lookup in
    let found : slice_get f.stubs.items l.component.number ≡ Some stub
    = ap (λ n. slice_get f.stubs.items n) (sym (c.from.ensures ∙ c.number.ensures.number)) ∙ ap (λ xs. slice_get xs c.from.result) (sym c.deref.ensures.value)
    ∙ slice_get-get_or c.deref.result.now c.from.result stub lookup.3.0 ∙ ap (λ x. Some x) (sym (lookup.3.1 stub)) in
    subst₂ (λ (x : ExchangeView _) (y : LeaseView _). (false ≡ true → Matches (machine_of t x.setup) y.component.number (stub_or_start (machine_of t x.setup) y.component.number (slice_get x.stubs y.component.number)) (lease_of y)) × (Matches (machine_of t x.setup) y.component.number (stub_or_start (machine_of t x.setup) y.component.number (slice_get x.stubs y.component.number)) (lease_of y) → false ≡ true)) c.self.view_is c.lease.view_is (
      (λ no_way. absurd (false_true no_way)),
      (λ w. sym c.if-is_known.false ∙ c.is_known.ensures.1 (subst (λ (x : LeaseView _). IsKnown (machine_of t x.component.setup) stub x) c.lease.view_is (from_match (system t p) (system t q) same f.stubs.items stub h found w))),
    )
