use Rattle.std.proofs.Common.{◌≡◌, ◌<◌, [], length, refl, sym, ap, subst, subst₂, ◌∙◌}
use Rattle.std.specs.Prelude.{slice_get, Some}
use Rattle.std.specs.Arc.{arc_value}
use Rattle.std.specs.Vec.{with_items}
use Rattle.std.proofs.lemmas.List.{with_items_is}
use Rattle.event_keys.specs.Ranks.{rank_of_bound}
use Rattle.virtual_time.specs.Entries.{below}
use Rattle.virtual_time.specs.Machine.{Lawful}
use Rattle.virtual_time.specs.Records.{cut_of, turns_among}
use Rattle.virtual_time.specs.Reference.{Falls}
use Rattle.virtual_time.specs.Exchange.Leases.{IsFloor, Matches}
use Rattle.virtual_time.specs.Exchange.Meetings.{Met}
use Rattle.plans.specs.Plans.{composition}
use Rattle.task_seed.specs.Setups.{system, plan_of}
use Rattle.task_seed.specs.Turning.{System}
use Rattle.task_seed.specs.Machines.{machine}
use Rattle.task_seed.specs.Taken.{turns_of}
use Rattle.rollback.specs.ComponentView.{ComponentView, machine_of}
use Rattle.raw_events.specs.Onto.{onto}
use Rattle.exchange.specs.declared.stub.Stub.{Stub}
use Rattle.exchange.specs.LeaseView.{LeaseView, IsValidLease, lease_of, part_of}
use Rattle.exchange.specs.Held.{HasPut}
use Rattle.exchange.specs.Moving.{IsPassedOn}
use Rattle.exchange.specs.ExchangeView.{ExchangeView, IsValidExchange, stub_or_start, exchange_of}
use Rattle.exchange.specs.Windows.{HasWindow, IsInWindow}
use Rattle.exchange.proofs.Accepting.{accepted}
use Rattle.exchange.proofs.Windowed.{met_within}
use Rattle.exchange.proofs.Receiving.{To}
use Rattle.exchange.proofs.Below.{onto_back}
use Rattle.exchange.proofs.Lists.{length_set}
use Rattle.exchange.proofs.exchange.Exchange.join.Goals as goal

pub put_into-requires-clause-falls : goal.put_into-requires-clause-falls
put_into-requires-clause-falls g c =
    let t = g.T.Turns.turn_of in
    let f = c.self.inside in
    let l = c.lease.inside in
    let i = l.component.number in
    let s = system t (arc_value f.setup) in
    let m = machine s in
    let e : ExchangeView _ = record { setup = arc_value f.setup; stubs = f.stubs.items; bound = f.bound; held = f.held.items; given = f.given; window = f.window } in
    let h : LeaseView _ = record { component = l.component; tray = l.tray; out = l.out; copies = l.copies; floor = l.floor; window = l.window } in
    let same : s ≡ system t l.component.setup = ap (λ (x : ExchangeView _). system t x.setup) c.self.view_is ∙ c.requires.same ∙ sym (ap (λ (x : LeaseView _). system t x.component.setup) c.lease.view_is) in
    let law : Lawful m = subst (λ p. Lawful (machine (system t p))) c.deref.ensures c.machine_is_lawful.ensures.lawful in
    let is : IsValidExchange s e = c.self.invariant.1 in
    let holds : IsValidLease m (length s.composition) h = subst (λ x. IsValidLease (machine x) (length x.composition) h) (sym same) c.lease.invariant in
    let match : Matches m i (stub_or_start m i (slice_get f.stubs.items i)) (lease_of h)
    = subst₂ (λ (x : ExchangeView _) (y : LeaseView _). Matches (machine_of t x.setup) y.component.number (stub_or_start (machine_of t x.setup) y.component.number (slice_get x.stubs y.component.number)) (lease_of y)) (sym c.self.view_is) (sym c.lease.view_is) c.requires.matches in
    let dropped : turns_of c.drop_below-turns.result.after ≡ turns_among (below (rank_of_bound f.bound) l.component.history.done)
    = ap (λ ts. onto ts []) c.drop_below-turns.ensures.turns ∙ onto_back (turns_among (below (rank_of_bound f.bound) l.component.history.done)) [] in
    subst Falls (sym dropped) (c.meeting_law.ensures.falls m (length s.composition) i (exchange_of m e) (lease_of h) law is.sound holds.lease match)

pub pass_on-lease-inside-requires-clause-arrived : goal.pass_on-lease-inside-requires-clause-arrived
pass_on-lease-inside-requires-clause-arrived g c = λ _ _.
    subst (λ (x : ComponentView _). To x.number c.lease.inside.tray) (sym c.drop_below-turns.ensures.record) c.lease.invariant.arrived

pub pass_on-lease-inside-requires-clause-inbox : goal.pass_on-lease-inside-requires-clause-inbox
pass_on-lease-inside-requires-clause-inbox g c = λ _ _.
    let all : (stub : Stub) → slice_get c.deref_mut-2.result.now c.lease.inside.component.number ≡ Some stub → To c.lease.inside.component.number stub.inbox
    = λ stub there. (c.self.invariant.1.stubs c.lease.inside.component.number stub (ap (λ xs. slice_get xs c.lease.inside.component.number) (sym c.deref_mut-2.ensures.value) ∙ there)).inbox in
    subst (λ (x : ComponentView _). (stub : Stub) → slice_get c.deref_mut-2.result.now x.number ≡ Some stub → To x.number stub.inbox) (sym c.drop_below-turns.ensures.record) all

pub invariant_of-self : goal.invariant_of-self
invariant_of-self g c =
    let t = g.T.Turns.turn_of in
    let f = c.self.inside in
    let l = c.lease.inside in
    let i = l.component.number in
    let s = system t (arc_value f.setup) in
    let m = machine s in
    let e : ExchangeView _ = record { setup = arc_value f.setup; stubs = f.stubs.items; bound = f.bound; held = f.held.items; given = f.given; window = f.window } in
    let h : LeaseView _ = record { component = l.component; tray = l.tray; out = l.out; copies = l.copies; floor = l.floor; window = l.window } in
    let same : s ≡ system t l.component.setup = ap (λ (x : ExchangeView _). system t x.setup) c.self.view_is ∙ c.requires.same ∙ sym (ap (λ (x : LeaseView _). system t x.component.setup) c.lease.view_is) in
    let law : Lawful m = subst (λ p. Lawful (machine (system t p))) c.deref.ensures c.machine_is_lawful.ensures.lawful in
    let is : IsValidExchange s e = c.self.invariant.1 in
    let holds : IsValidLease m (length s.composition) h = subst (λ x. IsValidLease (machine x) (length x.composition) h) (sym same) c.lease.invariant in
    let match : Matches m i (stub_or_start m i (slice_get f.stubs.items i)) (lease_of h)
    = subst₂ (λ (x : ExchangeView _) (y : LeaseView _). Matches (machine_of t x.setup) y.component.number (stub_or_start (machine_of t x.setup) y.component.number (slice_get x.stubs y.component.number)) (lease_of y)) (sym c.self.view_is) (sym c.lease.view_is) c.requires.matches in
    let dropped : turns_of c.drop_below-turns.result.after ≡ turns_among (below (rank_of_bound f.bound) l.component.history.done)
    = ap (λ ts. onto ts []) c.drop_below-turns.ensures.turns ∙ onto_back (turns_among (below (rank_of_bound f.bound) l.component.history.done)) [] in
    let cut = cut_of m i (rank_of_bound f.bound) l.component.history in
    let own : c.drop_below-turns.new.self ≡ record l.component { base = f.bound; history = cut }
    = c.drop_below-turns.ensures.record ∙ ap (λ x. record l.component { base = f.bound; history = cut_of (machine x) i (rank_of_bound f.bound) l.component.history }) (sym same) in
    let on = c.pass_on-lease-inside in
    let passed : IsPassedOn i f.bound on.result l.out l.copies.of_sender l.copies.of_receiver l.tray on.new.tray f.stubs.items on.new.stubs
    = subst₂ (λ n stubs. IsPassedOn n f.bound on.result l.out l.copies.of_sender l.copies.of_receiver l.tray on.new.tray stubs on.new.stubs) (ap (λ (x : ComponentView _). x.number) own) c.deref_mut-2.ensures.value on.ensures.passed in
    let lowest : IsFloor m i (rank_of_bound on.result) (part_of i cut on.new.tray)
    = subst (λ x. IsFloor (machine x) i (rank_of_bound on.result) (part_of i cut on.new.tray)) (sym same)
    (subst (λ (x : ComponentView _). IsFloor (machine_of t x.setup) x.number (rank_of_bound on.result) (part_of x.number x.history on.new.tray)) own on.ensures.floor) in
    let arrived : To i on.new.tray = subst (λ (x : ComponentView _). To x.number on.new.tray) own on.ensures.arrived in
    let put : HasPut i c.drop_below-turns.result.after f.held.items c.put_into.new.queues = subst₂ (λ n queues. HasPut n c.drop_below-turns.result.after queues c.put_into.new.queues) (c.number.ensures.number ∙ ap (λ (x : ComponentView _). x.number) own) c.deref_mut.ensures.value c.put_into.ensures in
    let all = accepted s law e is h holds on.result on.new.tray on.new.stubs passed c.flight_law.ensures.to cut c.put_into.new.queues c.drop_below-turns.result.after c.flight_law.ensures.appended match
    (c.meeting_law.ensures.met m) (c.exchange_is_sound.ensures.meet m) (c.meeting_law.ensures.falls m) (c.meeting_law.ensures.apart m) c.merging_law.ensures.falls c.merging_law.ensures.outcomes
    refl lowest dropped put arrived in
    let items : (with_items f.stubs on.new.stubs).items ≡ on.new.stubs = with_items_is f.stubs on.new.stubs (on.ensures.passed.many ∙ c.deref_mut-2.ensures.len) in
    let lists : (with_items f.held c.put_into.new.queues).items ≡ c.put_into.new.queues = with_items_is f.held c.put_into.new.queues (ap length c.put_into.ensures.all ∙ length_set c.deref_mut.result.now c.number.result c.put_into.ensures.after ∙ c.deref_mut.ensures.len) in
    let settled : LeaseView _ = record h { component = record l.component { base = f.bound; history = cut }; tray = on.new.tray; out = []; copies = record { of_sender = []; of_receiver = [] }; floor = on.result } in
    let there : i < length s.composition
    = subst₂ (λ n k. n < k) (c.number.ensures.number ∙ ap (λ (x : ComponentView _). x.number) own) (ap (λ (x : ComponentView _). length (composition (plan_of x.setup))) own ∙ ap (λ (x : System). length x.composition) (sym same)) c.number.ensures.there in
    let window : f.window ≡ l.window = ap (λ (x : ExchangeView _). x.window) c.self.view_is ∙ c.requires.window ∙ sym (ap (λ (x : LeaseView _). x.window) c.lease.view_is) in
    let mine : IsInWindow (length s.composition) h
    = subst (λ (x : System). IsInWindow (length x.composition) h) (sym same) (subst (λ (x : LeaseView _). IsInWindow (length (composition (plan_of x.component.setup))) x) (sym c.lease.view_is) c.requires.within) in
    let within = met_within m law (c.window_law.ensures.meet m) (length s.composition) e (record e { stubs = on.new.stubs; held = c.put_into.new.queues }) h settled is.sound holds.lease match all.met there window refl c.self.invariant.2 mine in (
      c.self.invariant.0,
      subst₂ (λ stubs queues. IsValidExchange s (record e { stubs = stubs; held = queues })) (sym items) (sym lists) all.shared,
      subst₂ (λ stubs queues. HasWindow m (length s.composition) (record e { stubs = stubs; held = queues })) (sym items) (sym lists) within,
    )

pub invariant_of-lease : goal.invariant_of-lease
invariant_of-lease g c =
    let t = g.T.Turns.turn_of in
    let f = c.self.inside in
    let l = c.lease.inside in
    let i = l.component.number in
    let s = system t (arc_value f.setup) in
    let m = machine s in
    let e : ExchangeView _ = record { setup = arc_value f.setup; stubs = f.stubs.items; bound = f.bound; held = f.held.items; given = f.given; window = f.window } in
    let h : LeaseView _ = record { component = l.component; tray = l.tray; out = l.out; copies = l.copies; floor = l.floor; window = l.window } in
    let same : s ≡ system t l.component.setup = ap (λ (x : ExchangeView _). system t x.setup) c.self.view_is ∙ c.requires.same ∙ sym (ap (λ (x : LeaseView _). system t x.component.setup) c.lease.view_is) in
    let law : Lawful m = subst (λ p. Lawful (machine (system t p))) c.deref.ensures c.machine_is_lawful.ensures.lawful in
    let is : IsValidExchange s e = c.self.invariant.1 in
    let holds : IsValidLease m (length s.composition) h = subst (λ x. IsValidLease (machine x) (length x.composition) h) (sym same) c.lease.invariant in
    let match : Matches m i (stub_or_start m i (slice_get f.stubs.items i)) (lease_of h)
    = subst₂ (λ (x : ExchangeView _) (y : LeaseView _). Matches (machine_of t x.setup) y.component.number (stub_or_start (machine_of t x.setup) y.component.number (slice_get x.stubs y.component.number)) (lease_of y)) (sym c.self.view_is) (sym c.lease.view_is) c.requires.matches in
    let dropped : turns_of c.drop_below-turns.result.after ≡ turns_among (below (rank_of_bound f.bound) l.component.history.done)
    = ap (λ ts. onto ts []) c.drop_below-turns.ensures.turns ∙ onto_back (turns_among (below (rank_of_bound f.bound) l.component.history.done)) [] in
    let cut = cut_of m i (rank_of_bound f.bound) l.component.history in
    let own : c.drop_below-turns.new.self ≡ record l.component { base = f.bound; history = cut }
    = c.drop_below-turns.ensures.record ∙ ap (λ x. record l.component { base = f.bound; history = cut_of (machine x) i (rank_of_bound f.bound) l.component.history }) (sym same) in
    let on = c.pass_on-lease-inside in
    let passed : IsPassedOn i f.bound on.result l.out l.copies.of_sender l.copies.of_receiver l.tray on.new.tray f.stubs.items on.new.stubs
    = subst₂ (λ n stubs. IsPassedOn n f.bound on.result l.out l.copies.of_sender l.copies.of_receiver l.tray on.new.tray stubs on.new.stubs) (ap (λ (x : ComponentView _). x.number) own) c.deref_mut-2.ensures.value on.ensures.passed in
    let lowest : IsFloor m i (rank_of_bound on.result) (part_of i cut on.new.tray)
    = subst (λ x. IsFloor (machine x) i (rank_of_bound on.result) (part_of i cut on.new.tray)) (sym same)
    (subst (λ (x : ComponentView _). IsFloor (machine_of t x.setup) x.number (rank_of_bound on.result) (part_of x.number x.history on.new.tray)) own on.ensures.floor) in
    let arrived : To i on.new.tray = subst (λ (x : ComponentView _). To x.number on.new.tray) own on.ensures.arrived in
    let put : HasPut i c.drop_below-turns.result.after f.held.items c.put_into.new.queues = subst₂ (λ n queues. HasPut n c.drop_below-turns.result.after queues c.put_into.new.queues) (c.number.ensures.number ∙ ap (λ (x : ComponentView _). x.number) own) c.deref_mut.ensures.value c.put_into.ensures in
    let all = accepted s law e is h holds on.result on.new.tray on.new.stubs passed c.flight_law.ensures.to cut c.put_into.new.queues c.drop_below-turns.result.after c.flight_law.ensures.appended match
    (c.meeting_law.ensures.met m) (c.exchange_is_sound.ensures.meet m) (c.meeting_law.ensures.falls m) (c.meeting_law.ensures.apart m) c.merging_law.ensures.falls c.merging_law.ensures.outcomes
    refl lowest dropped put arrived in
    let settled : LeaseView _ = record h { component = record l.component { base = f.bound; history = cut }; tray = on.new.tray; out = []; copies = record { of_sender = []; of_receiver = [] }; floor = on.result } in
    let final : LeaseView _ = record { component = c.drop_below-turns.new.self; tray = on.new.tray; out = on.new.out; copies = on.new.copies; floor = on.result; window = l.window } in
    let ends : settled ≡ final = λ v. record { component = sym own v; tray = on.new.tray; out = sym on.ensures.out v; copies = sym on.ensures.copies v; floor = on.result; window = l.window } in
    subst (λ (x : LeaseView _). IsValidLease (machine_of t x.component.setup) (length (composition (plan_of x.component.setup))) x) ends (subst (λ x. IsValidLease (machine x) (length x.composition) settled) same all.holding)

pub returns-clause-met : goal.returns-clause-met
returns-clause-met g c =
    let t = g.T.Turns.turn_of in
    let f = c.self.inside in
    let l = c.lease.inside in
    let i = l.component.number in
    let s = system t (arc_value f.setup) in
    let m = machine s in
    let e : ExchangeView _ = record { setup = arc_value f.setup; stubs = f.stubs.items; bound = f.bound; held = f.held.items; given = f.given; window = f.window } in
    let h : LeaseView _ = record { component = l.component; tray = l.tray; out = l.out; copies = l.copies; floor = l.floor; window = l.window } in
    let same : s ≡ system t l.component.setup = ap (λ (x : ExchangeView _). system t x.setup) c.self.view_is ∙ c.requires.same ∙ sym (ap (λ (x : LeaseView _). system t x.component.setup) c.lease.view_is) in
    let law : Lawful m = subst (λ p. Lawful (machine (system t p))) c.deref.ensures c.machine_is_lawful.ensures.lawful in
    let is : IsValidExchange s e = c.self.invariant.1 in
    let holds : IsValidLease m (length s.composition) h = subst (λ x. IsValidLease (machine x) (length x.composition) h) (sym same) c.lease.invariant in
    let match : Matches m i (stub_or_start m i (slice_get f.stubs.items i)) (lease_of h)
    = subst₂ (λ (x : ExchangeView _) (y : LeaseView _). Matches (machine_of t x.setup) y.component.number (stub_or_start (machine_of t x.setup) y.component.number (slice_get x.stubs y.component.number)) (lease_of y)) (sym c.self.view_is) (sym c.lease.view_is) c.requires.matches in
    let dropped : turns_of c.drop_below-turns.result.after ≡ turns_among (below (rank_of_bound f.bound) l.component.history.done)
    = ap (λ ts. onto ts []) c.drop_below-turns.ensures.turns ∙ onto_back (turns_among (below (rank_of_bound f.bound) l.component.history.done)) [] in
    let cut = cut_of m i (rank_of_bound f.bound) l.component.history in
    let own : c.drop_below-turns.new.self ≡ record l.component { base = f.bound; history = cut }
    = c.drop_below-turns.ensures.record ∙ ap (λ x. record l.component { base = f.bound; history = cut_of (machine x) i (rank_of_bound f.bound) l.component.history }) (sym same) in
    let on = c.pass_on-lease-inside in
    let passed : IsPassedOn i f.bound on.result l.out l.copies.of_sender l.copies.of_receiver l.tray on.new.tray f.stubs.items on.new.stubs
    = subst₂ (λ n stubs. IsPassedOn n f.bound on.result l.out l.copies.of_sender l.copies.of_receiver l.tray on.new.tray stubs on.new.stubs) (ap (λ (x : ComponentView _). x.number) own) c.deref_mut-2.ensures.value on.ensures.passed in
    let lowest : IsFloor m i (rank_of_bound on.result) (part_of i cut on.new.tray)
    = subst (λ x. IsFloor (machine x) i (rank_of_bound on.result) (part_of i cut on.new.tray)) (sym same)
    (subst (λ (x : ComponentView _). IsFloor (machine_of t x.setup) x.number (rank_of_bound on.result) (part_of x.number x.history on.new.tray)) own on.ensures.floor) in
    let arrived : To i on.new.tray = subst (λ (x : ComponentView _). To x.number on.new.tray) own on.ensures.arrived in
    let put : HasPut i c.drop_below-turns.result.after f.held.items c.put_into.new.queues = subst₂ (λ n queues. HasPut n c.drop_below-turns.result.after queues c.put_into.new.queues) (c.number.ensures.number ∙ ap (λ (x : ComponentView _). x.number) own) c.deref_mut.ensures.value c.put_into.ensures in
    let all = accepted s law e is h holds on.result on.new.tray on.new.stubs passed c.flight_law.ensures.to cut c.put_into.new.queues c.drop_below-turns.result.after c.flight_law.ensures.appended match
    (c.meeting_law.ensures.met m) (c.exchange_is_sound.ensures.meet m) (c.meeting_law.ensures.falls m) (c.meeting_law.ensures.apart m) c.merging_law.ensures.falls c.merging_law.ensures.outcomes
    refl lowest dropped put arrived in
    let items : (with_items f.stubs on.new.stubs).items ≡ on.new.stubs = with_items_is f.stubs on.new.stubs (on.ensures.passed.many ∙ c.deref_mut-2.ensures.len) in
    let settled : LeaseView _ = record h { component = record l.component { base = f.bound; history = cut }; tray = on.new.tray; out = []; copies = record { of_sender = []; of_receiver = [] }; floor = on.result } in
    let final : LeaseView _ = record { component = c.drop_below-turns.new.self; tray = on.new.tray; out = on.new.out; copies = on.new.copies; floor = on.result; window = l.window } in
    let ends : settled ≡ final = λ v. record { component = sym own v; tray = on.new.tray; out = sym on.ensures.out v; copies = sym on.ensures.copies v; floor = on.result; window = l.window } in
    let lists : (with_items f.held c.put_into.new.queues).items ≡ c.put_into.new.queues = with_items_is f.held c.put_into.new.queues (ap length c.put_into.ensures.all ∙ length_set c.deref_mut.result.now c.number.result c.put_into.ensures.after ∙ c.deref_mut.ensures.len) in
    let met = subst₂ (λ stubs (x : LeaseView _). Met m i (exchange_of m e) (lease_of h) (exchange_of m (record e { stubs = stubs; held = (with_items f.held c.put_into.new.queues).items })) (lease_of x)) (sym items) ends
    (subst (λ queues. Met m i (exchange_of m e) (lease_of h) (exchange_of m (record e { stubs = on.new.stubs; held = queues })) (lease_of settled)) (sym lists) all.met) in
    subst₂ (λ (x : ExchangeView _) (y : LeaseView _). Met (machine_of t x.setup) y.component.number (exchange_of (machine_of t x.setup) x) (lease_of y) (exchange_of (machine_of t x.setup) (record e { stubs = (with_items f.stubs on.new.stubs).items; held = (with_items f.held c.put_into.new.queues).items })) (lease_of final)) c.self.view_is c.lease.view_is met
