use Rattle.std.proofs.Common.{◌≡◌, ℕ, Some, length, map, refl, sym, ap, subst, subst₂, ◌∙◌, arith}
use Rattle.std.specs.Arc.{arc_value}
use Rattle.std.specs.Prelude.{IfSome, slice_get}
use Rattle.std.specs.Vec.{with_items}
use Rattle.std.proofs.lemmas.List.{with_items_is}
use Rattle.virtual_time.specs.Machine.{HasCount, Lawful}
use Rattle.virtual_time.specs.Groups.Meetings.{Met}
use Rattle.plans.specs.Plans.{composition}
use Rattle.task_seed.specs.Setups.{system, plan_of}
use Rattle.task_seed.specs.Machines.{machine}
use Rattle.rollback.specs.ComponentView.{machine_of}
use Rattle.groups.specs.Dropping.{cut_all}
use Rattle.groups.specs.GroupView.{GroupView, lease_of}
use Rattle.group_exchange.specs.LeaseView.{IsValidLease, KeepsMembers}
use Rattle.group_exchange.specs.Moving.{AreCopies}
use Rattle.group_exchange.specs.ExchangeView.{ExchangeView, IsValidExchange, exchange_of, group_at, without_inbox}
use Rattle.group_exchange.specs.Seen.{IsKnown, IsMeeting}
use Rattle.group_exchange.specs.Windows.{HasWindow, KeepsToWindow}
use Rattle.group_exchange.proofs.Windowed.{among_of, met_lease_within, met_within, valid_anew}
use Rattle.group_exchange.proofs.Core.{on_err}
use Rattle.group_exchange.proofs.Joining.{came_inside, can_put, joined, listed_before, meeting, nothing_below}
use Rattle.group_exchange.proofs.exchange.Exchange.join.Goals as goal

pub take_in-requires-clause-there : goal.take_in-requires-clause-there
take_in-requires-clause-there g c = λ _ _.
    let t = g.T.Turns.turn_of in
    let f = c.self.inside in
    let e : ExchangeView _ = record { setup = arc_value f.setup; groups = f.groups.items; stubs = f.stubs.items; passages = f.passages.items; bound = f.bound; held = f.held.items; given = f.given; window = f.window } in
    let s = system t (arc_value f.setup) in
    let m = machine s in
    let G = group_at f.groups.items in
    let law : Lawful m = subst (λ p. Lawful (machine (system t p))) c.deref.ensures c.machine_is_lawful.ensures.lawful in
    let v = c.lease.inside.group in
    let v_is : v ≡ c.args.lease.now = c.lease.view_is ∙ c.in_ok-copies.ensures.same in
    let of_setup : system t v.setup ≡ s = ap (λ (x : GroupView _). system t x.setup) v_is ∙ sym c.requires.own ∙ sym (ap (λ (x : ExchangeView _). system t x.setup) c.self.view_is) in
    let is : IsValidExchange s e = c.self.invariant.1 in
    let valid : IsValidLease m (length s.composition) v = subst (λ x. IsValidLease (machine x) (length x.composition) v) of_setup c.lease.invariant.0 in
    let known : IsKnown m G (length f.stubs.items) (exchange_of m e) v
    = subst₂ (λ (x : ExchangeView _) (y : GroupView _). IsKnown (machine_of t x.setup) (group_at x.groups) (length x.stubs) (exchange_of (machine_of t x.setup) x) y) (sym c.self.view_is) (sym v_is) c.requires.known in
    listed_before t s law e is v valid known (record v { base = f.bound; components = cut_all t f.bound v.components }) refl (length c.deref_mut.result.now) (ap length c.deref_mut.ensures.value)

pub take_in-requires-clause-puttable : goal.take_in-requires-clause-puttable
take_in-requires-clause-puttable g c = λ _ _ lists given.
    let t = g.T.Turns.turn_of in
    let f = c.self.inside in
    let e : ExchangeView _ = record { setup = arc_value f.setup; groups = f.groups.items; stubs = f.stubs.items; passages = f.passages.items; bound = f.bound; held = f.held.items; given = f.given; window = f.window } in
    let s = system t (arc_value f.setup) in
    let m = machine s in
    let G = group_at f.groups.items in
    let law : Lawful m = subst (λ p. Lawful (machine (system t p))) c.deref.ensures c.machine_is_lawful.ensures.lawful in
    let v = c.lease.inside.group in
    let v_is : v ≡ c.args.lease.now = c.lease.view_is ∙ c.in_ok-copies.ensures.same in
    let of_setup : system t v.setup ≡ s = ap (λ (x : GroupView _). system t x.setup) v_is ∙ sym c.requires.own ∙ sym (ap (λ (x : ExchangeView _). system t x.setup) c.self.view_is) in
    let is : IsValidExchange s e = c.self.invariant.1 in
    let valid : IsValidLease m (length s.composition) v = subst (λ x. IsValidLease (machine x) (length x.composition) v) of_setup c.lease.invariant.0 in
    let known : IsKnown m G (length f.stubs.items) (exchange_of m e) v
    = subst₂ (λ (x : ExchangeView _) (y : GroupView _). IsKnown (machine_of t x.setup) (group_at x.groups) (length x.stubs) (exchange_of (machine_of t x.setup) x) y) (sym c.self.view_is) (sym v_is) c.requires.known in
    can_put t s law e is v valid known (record v { base = f.bound; components = cut_all t f.bound v.components }) refl c.soundness_law.ensures.members lists given (c.group_meeting_law.ensures.falls m G) (cut_all t f.bound v.components) refl lists refl

pub take_in-requires-clause-nothing : goal.take_in-requires-clause-nothing
take_in-requires-clause-nothing g c = λ _ _.
    let t = g.T.Turns.turn_of in
    let f = c.self.inside in
    let e : ExchangeView _ = record { setup = arc_value f.setup; groups = f.groups.items; stubs = f.stubs.items; passages = f.passages.items; bound = f.bound; held = f.held.items; given = f.given; window = f.window } in
    let s = system t (arc_value f.setup) in
    let m = machine s in
    let G = group_at f.groups.items in
    let law : Lawful m = subst (λ p. Lawful (machine (system t p))) c.deref.ensures c.machine_is_lawful.ensures.lawful in
    let v = c.lease.inside.group in
    let v_is : v ≡ c.args.lease.now = c.lease.view_is ∙ c.in_ok-copies.ensures.same in
    let of_setup : system t v.setup ≡ s = ap (λ (x : GroupView _). system t x.setup) v_is ∙ sym c.requires.own ∙ sym (ap (λ (x : ExchangeView _). system t x.setup) c.self.view_is) in
    let is : IsValidExchange s e = c.self.invariant.1 in
    let valid : IsValidLease m (length s.composition) v = subst (λ x. IsValidLease (machine x) (length x.composition) v) of_setup c.lease.invariant.0 in
    let known : IsKnown m G (length f.stubs.items) (exchange_of m e) v
    = subst₂ (λ (x : ExchangeView _) (y : GroupView _). IsKnown (machine_of t x.setup) (group_at x.groups) (length x.stubs) (exchange_of (machine_of t x.setup) x) y) (sym c.self.view_is) (sym v_is) c.requires.known in
    nothing_below t s law e is v valid known (record v { base = f.bound; components = cut_all t f.bound v.components }) refl c.soundness_law.ensures.members of_setup

pub pass_on-requires-clause-inside : goal.pass_on-requires-clause-inside
pass_on-requires-clause-inside g c = λ _ _.
    let t = g.T.Turns.turn_of in
    let f = c.self.inside in
    let e : ExchangeView _ = record { setup = arc_value f.setup; groups = f.groups.items; stubs = f.stubs.items; passages = f.passages.items; bound = f.bound; held = f.held.items; given = f.given; window = f.window } in
    let s = system t (arc_value f.setup) in
    let m = machine s in
    let G = group_at f.groups.items in
    let law : Lawful m = subst (λ p. Lawful (machine (system t p))) c.deref.ensures c.machine_is_lawful.ensures.lawful in
    let v = c.lease.inside.group in
    let v_is : v ≡ c.args.lease.now = c.lease.view_is ∙ c.in_ok-copies.ensures.same in
    let of_setup : system t v.setup ≡ s = ap (λ (x : GroupView _). system t x.setup) v_is ∙ sym c.requires.own ∙ sym (ap (λ (x : ExchangeView _). system t x.setup) c.self.view_is) in
    let is : IsValidExchange s e = c.self.invariant.1 in
    let valid : IsValidLease m (length s.composition) v = subst (λ x. IsValidLease (machine x) (length x.composition) v) of_setup c.lease.invariant.0 in
    let known : IsKnown m G (length f.stubs.items) (exchange_of m e) v
    = subst₂ (λ (x : ExchangeView _) (y : GroupView _). IsKnown (machine_of t x.setup) (group_at x.groups) (length x.stubs) (exchange_of (machine_of t x.setup) x) y) (sym c.self.view_is) (sym v_is) c.requires.known in
    let dropped : c.take_in.new.group ≡ record v { base = f.bound; components = cut_all t f.bound v.components } = c.in_ok-take_in.ensures.group in
    came_inside t s law e is v valid known c.take_in.new.group dropped c.deref_mut-2.result.now c.deref_mut-2.ensures.value

pub returns-in_err-take_in-clause-kept : goal.returns-in_err-take_in-clause-kept
returns-in_err-take_in-clause-kept g c =
    let f = c.self.inside in
    let e : ExchangeView _ = record { setup = arc_value f.setup; groups = f.groups.items; stubs = f.stubs.items; passages = f.passages.items; bound = f.bound; held = f.held.items; given = f.given; window = f.window } in
    let queues = c.take_in.new.queues in
    let v_is : c.lease.inside.group ≡ c.args.lease.now = c.lease.view_is ∙ c.in_ok-copies.ensures.same in
    let kept = c.in_err-take_in.ensures.kept in
    let items : (with_items f.held queues).items ≡ f.held.items = with_items_is f.held queues (ap length kept.0 ∙ c.deref_mut.ensures.len) ∙ kept.0 ∙ c.deref_mut.ensures.value in
    on_err c.from_residual-in_err-take_in.result (ap (λ l. record e { held = l }) items ∙ c.self.view_is, kept.1 ∙ v_is)

pub invariant_of-self-2 : goal.invariant_of-self-2
invariant_of-self-2 g c =
    let t = g.T.Turns.turn_of in
    let f = c.self.inside in
    let e : ExchangeView _ = record { setup = arc_value f.setup; groups = f.groups.items; stubs = f.stubs.items; passages = f.passages.items; bound = f.bound; held = f.held.items; given = f.given; window = f.window } in
    let s = system t (arc_value f.setup) in
    let m = machine s in
    let G = group_at f.groups.items in
    let law : Lawful m = subst (λ p. Lawful (machine (system t p))) c.deref.ensures c.machine_is_lawful.ensures.lawful in
    let v = c.lease.inside.group in
    let v_is : v ≡ c.args.lease.now = c.lease.view_is ∙ c.in_ok-copies.ensures.same in
    let of_setup : system t v.setup ≡ s = ap (λ (x : GroupView _). system t x.setup) v_is ∙ sym c.requires.own ∙ sym (ap (λ (x : ExchangeView _). system t x.setup) c.self.view_is) in
    let is : IsValidExchange s e = c.self.invariant.1 in
    let valid : IsValidLease m (length s.composition) v = subst (λ x. IsValidLease (machine x) (length x.composition) v) of_setup c.lease.invariant.0 in
    let known : IsKnown m G (length f.stubs.items) (exchange_of m e) v
    = subst₂ (λ (x : ExchangeView _) (y : GroupView _). IsKnown (machine_of t x.setup) (group_at x.groups) (length x.stubs) (exchange_of (machine_of t x.setup) x) y) (sym c.self.view_is) (sym v_is) c.requires.known in
    let dropped : c.take_in.new.group ≡ record v { base = f.bound; components = cut_all t f.bound v.components } = c.in_ok-take_in.ensures.group in
    let counted : HasCount m (length s.composition) = subst (λ p. HasCount (machine (system t p)) (length (composition (plan_of p)))) c.deref.ensures c.machine_is_lawful.ensures.counted in
    let taken = c.in_ok-take_in.ensures.taken in
    let copied = subst (λ (x : GroupView _). AreCopies x.out c.in_ok-copies.copies) (sym v_is) c.in_ok-copies.ensures.copies in
    let all = joined t s law e is v valid known c.take_in.new.group dropped c.soundness_law.ensures.members taken.lists taken.given (c.group_meeting_law.ensures.falls m G) of_setup c.in_ok-copies.copies copied
    c.deref-2.result.now c.deref-2.ensures.value c.deref_mut-2.result.now c.deref_mut-2.ensures.value c.pass_on.new.stubs c.pass_on.new.group c.pass_on.ensures.passed c.pass_on.ensures.group c.pass_on.ensures.floor
    (cut_all t f.bound v.components) (sym (ap (λ (x : GroupView _). x.components) dropped)) taken.lists refl c.deref_mut.result.now c.deref_mut.ensures.value c.take_in.new.queues taken.put
    c.merging_law.ensures.falls c.merging_law.ensures.outcomes c.flight_law.ensures.appended counted (c.group_meeting_law.ensures.apart m G) (c.group_meeting_law.ensures.met m G) (c.group_exchange_is_sound.ensures.meet m G) in
    let items : (with_items f.stubs c.pass_on.new.stubs).items ≡ c.pass_on.new.stubs = with_items_is f.stubs c.pass_on.new.stubs (c.pass_on.ensures.passed.many ∙ c.deref_mut-2.ensures.len) in
    let lists : (with_items f.held c.take_in.new.queues).items ≡ c.take_in.new.queues = with_items_is f.held c.take_in.new.queues (all.long ∙ sym (ap length c.deref_mut.ensures.value) ∙ c.deref_mut.ensures.len) in
    let window : IfSome e.window (λ w. v.window ≡ Some w) = subst₂ (λ (x : ExchangeView _) (y : GroupView _). IfSome x.window (λ w. y.window ≡ Some w)) (sym c.self.view_is) (sym v_is) c.requires.window in
    let lease_window : KeepsToWindow m (length s.composition) v = subst (λ x. KeepsToWindow (machine x) (length x.composition) v) of_setup c.lease.invariant.2 in
    let there = known.there in
    let few = is.few in
    let among = among_of f.groups.items (length s.composition) v.number is.partition.every (omega (arith, there, few)) in
    let sound = c.soundness_law.ensures.members in
    let within = met_within m law (length s.composition) e c.pass_on.new.stubs c.take_in.new.queues v c.pass_on.new.group (c.group_window_law.ensures.meet m G) is.sound (valid.lease G known.members) known.match among known.members all.met sound.place sound.apart window c.self.invariant.2 lease_window in (
      c.self.invariant.0,
      subst₂ (λ stubs queues. IsValidExchange s (record e { stubs = stubs; held = queues })) (sym items) (sym lists) all.shared,
      subst₂ (λ stubs queues. HasWindow m (length s.composition) (record e { stubs = stubs; held = queues })) (sym items) (sym lists) within,
    )

pub invariant_of-lease-2 : goal.invariant_of-lease-2
invariant_of-lease-2 g c =
    let t = g.T.Turns.turn_of in
    let f = c.self.inside in
    let e : ExchangeView _ = record { setup = arc_value f.setup; groups = f.groups.items; stubs = f.stubs.items; passages = f.passages.items; bound = f.bound; held = f.held.items; given = f.given; window = f.window } in
    let s = system t (arc_value f.setup) in
    let m = machine s in
    let G = group_at f.groups.items in
    let law : Lawful m = subst (λ p. Lawful (machine (system t p))) c.deref.ensures c.machine_is_lawful.ensures.lawful in
    let v = c.lease.inside.group in
    let v_is : v ≡ c.args.lease.now = c.lease.view_is ∙ c.in_ok-copies.ensures.same in
    let of_setup : system t v.setup ≡ s = ap (λ (x : GroupView _). system t x.setup) v_is ∙ sym c.requires.own ∙ sym (ap (λ (x : ExchangeView _). system t x.setup) c.self.view_is) in
    let is : IsValidExchange s e = c.self.invariant.1 in
    let valid : IsValidLease m (length s.composition) v = subst (λ x. IsValidLease (machine x) (length x.composition) v) of_setup c.lease.invariant.0 in
    let known : IsKnown m G (length f.stubs.items) (exchange_of m e) v
    = subst₂ (λ (x : ExchangeView _) (y : GroupView _). IsKnown (machine_of t x.setup) (group_at x.groups) (length x.stubs) (exchange_of (machine_of t x.setup) x) y) (sym c.self.view_is) (sym v_is) c.requires.known in
    let dropped : c.take_in.new.group ≡ record v { base = f.bound; components = cut_all t f.bound v.components } = c.in_ok-take_in.ensures.group in
    let counted : HasCount m (length s.composition) = subst (λ p. HasCount (machine (system t p)) (length (composition (plan_of p)))) c.deref.ensures c.machine_is_lawful.ensures.counted in
    let taken = c.in_ok-take_in.ensures.taken in
    let copied = subst (λ (x : GroupView _). AreCopies x.out c.in_ok-copies.copies) (sym v_is) c.in_ok-copies.ensures.copies in
    let all = joined t s law e is v valid known c.take_in.new.group dropped c.soundness_law.ensures.members taken.lists taken.given (c.group_meeting_law.ensures.falls m G) of_setup c.in_ok-copies.copies copied
    c.deref-2.result.now c.deref-2.ensures.value c.deref_mut-2.result.now c.deref_mut-2.ensures.value c.pass_on.new.stubs c.pass_on.new.group c.pass_on.ensures.passed c.pass_on.ensures.group c.pass_on.ensures.floor
    (cut_all t f.bound v.components) (sym (ap (λ (x : GroupView _). x.components) dropped)) taken.lists refl c.deref_mut.result.now c.deref_mut.ensures.value c.take_in.new.queues taken.put
    c.merging_law.ensures.falls c.merging_law.ensures.outcomes c.flight_law.ensures.appended counted (c.group_meeting_law.ensures.apart m G) (c.group_meeting_law.ensures.met m G) (c.group_exchange_is_sound.ensures.meet m G) in
    let same : s ≡ system t c.pass_on.new.group.setup = sym of_setup ∙ sym (ap (system t) all.keeps.0) in
    let window : IfSome e.window (λ w. v.window ≡ Some w) = subst₂ (λ (x : ExchangeView _) (y : GroupView _). IfSome x.window (λ w. y.window ≡ Some w)) (sym c.self.view_is) (sym v_is) c.requires.window in
    let lease_window : KeepsToWindow m (length s.composition) v = subst (λ x. KeepsToWindow (machine x) (length x.composition) v) of_setup c.lease.invariant.2 in
    let there = known.there in
    let few = is.few in
    let among = among_of f.groups.items (length s.composition) v.number is.partition.every (omega (arith, there, few)) in
    let sound = c.soundness_law.ensures.members in
    let new : GroupView _ = record c.pass_on.new.group { window = f.window } in
    let after = c.soundness_law-2.ensures.members in
    let within = met_lease_within m law (length s.composition) e c.pass_on.new.stubs c.take_in.new.queues v new (c.group_window_law.ensures.meet m G) is.sound (valid.lease G known.members) known.match among known.members all.met sound.place sound.apart window all.keeps.1 refl all.keeps.2 after.place after.apart c.self.invariant.2 lease_window in (
      subst (λ (y : GroupView _). IsValidLease (machine_of t y.setup) (length (composition (plan_of y.setup))) y) (sym c.set_window.ensures)
          (subst (λ x. IsValidLease (machine x) (length x.composition) new) same (valid_anew m (length s.composition) c.pass_on.new.group f.window all.lease)),
      tt,
      subst (λ (y : GroupView _). KeepsToWindow (machine_of t y.setup) (length (composition (plan_of y.setup))) y) (sym c.set_window.ensures) (subst (λ x. KeepsToWindow (machine x) (length x.composition) new) same within),
    )

pub returns-clause-meeting : goal.returns-clause-meeting
returns-clause-meeting g c =
    let t = g.T.Turns.turn_of in
    let f = c.self.inside in
    let e : ExchangeView _ = record { setup = arc_value f.setup; groups = f.groups.items; stubs = f.stubs.items; passages = f.passages.items; bound = f.bound; held = f.held.items; given = f.given; window = f.window } in
    let s = system t (arc_value f.setup) in
    let m = machine s in
    let G = group_at f.groups.items in
    let law : Lawful m = subst (λ p. Lawful (machine (system t p))) c.deref.ensures c.machine_is_lawful.ensures.lawful in
    let v = c.lease.inside.group in
    let v_is : v ≡ c.args.lease.now = c.lease.view_is ∙ c.in_ok-copies.ensures.same in
    let of_setup : system t v.setup ≡ s = ap (λ (x : GroupView _). system t x.setup) v_is ∙ sym c.requires.own ∙ sym (ap (λ (x : ExchangeView _). system t x.setup) c.self.view_is) in
    let is : IsValidExchange s e = c.self.invariant.1 in
    let valid : IsValidLease m (length s.composition) v = subst (λ x. IsValidLease (machine x) (length x.composition) v) of_setup c.lease.invariant.0 in
    let known : IsKnown m G (length f.stubs.items) (exchange_of m e) v
    = subst₂ (λ (x : ExchangeView _) (y : GroupView _). IsKnown (machine_of t x.setup) (group_at x.groups) (length x.stubs) (exchange_of (machine_of t x.setup) x) y) (sym c.self.view_is) (sym v_is) c.requires.known in
    let dropped : c.take_in.new.group ≡ record v { base = f.bound; components = cut_all t f.bound v.components } = c.in_ok-take_in.ensures.group in
    let counted : HasCount m (length s.composition) = subst (λ p. HasCount (machine (system t p)) (length (composition (plan_of p)))) c.deref.ensures c.machine_is_lawful.ensures.counted in
    let taken = c.in_ok-take_in.ensures.taken in
    let copied = subst (λ (x : GroupView _). AreCopies x.out c.in_ok-copies.copies) (sym v_is) c.in_ok-copies.ensures.copies in
    let all = joined t s law e is v valid known c.take_in.new.group dropped c.soundness_law.ensures.members taken.lists taken.given (c.group_meeting_law.ensures.falls m G) of_setup c.in_ok-copies.copies copied
    c.deref-2.result.now c.deref-2.ensures.value c.deref_mut-2.result.now c.deref_mut-2.ensures.value c.pass_on.new.stubs c.pass_on.new.group c.pass_on.ensures.passed c.pass_on.ensures.group c.pass_on.ensures.floor
    (cut_all t f.bound v.components) (sym (ap (λ (x : GroupView _). x.components) dropped)) taken.lists refl c.deref_mut.result.now c.deref_mut.ensures.value c.take_in.new.queues taken.put
    c.merging_law.ensures.falls c.merging_law.ensures.outcomes c.flight_law.ensures.appended counted (c.group_meeting_law.ensures.apart m G) (c.group_meeting_law.ensures.met m G) (c.group_exchange_is_sound.ensures.meet m G) in
    let items : (with_items f.stubs c.pass_on.new.stubs).items ≡ c.pass_on.new.stubs = with_items_is f.stubs c.pass_on.new.stubs (c.pass_on.ensures.passed.many ∙ c.deref_mut-2.ensures.len) in
    let lists : (with_items f.held c.take_in.new.queues).items ≡ c.take_in.new.queues = with_items_is f.held c.take_in.new.queues (all.long ∙ sym (ap length c.deref_mut.ensures.value) ∙ c.deref_mut.ensures.len) in
    let new = c.set_window.new.self in
    let same : record c.pass_on.new.group { window = f.window } ≡ new = sym c.set_window.ensures in
    let after : ExchangeView _ = record e { stubs = (with_items f.stubs c.pass_on.new.stubs).items; held = (with_items f.held c.take_in.new.queues).items } in
    let met = subst (λ (y : GroupView _). Met m G v.number (exchange_of m e) (lease_of m v) (exchange_of m after) (lease_of m y)) same
    (subst₂ (λ stubs queues. Met m G v.number (exchange_of m e) (lease_of m v) (exchange_of m (record e { stubs = stubs; held = queues })) (lease_of m c.pass_on.new.group)) (sym items) (sym lists) all.met) in
    let others = subst (λ stubs. (h : ℕ) → (h ≡ v.number → ⊥) → slice_get (map without_inbox stubs) h ≡ slice_get (map without_inbox e.stubs) h) (sym items) all.others in
    let keeps = subst (λ (y : GroupView _). KeepsMembers v y) same all.keeps in
    subst₂ (λ (x : ExchangeView _) (y : GroupView _). IsMeeting t x y after new) c.self.view_is v_is
    (meeting t e v after.stubs after.held new law (c.exchange_is_core.ensures.world m) (c.group_exchange_is_core.ensures.meet m G) (c.group_exchange_is_sound.ensures.meet m G) is.sound known met others (ap length items ∙ all.many) keeps (ap (λ (y : GroupView _). y.window) c.set_window.ensures))

pub returns-clause-same : goal.returns-clause-same
returns-clause-same g c =
    let t = g.T.Turns.turn_of in
    let f = c.self.inside in
    let e : ExchangeView _ = record { setup = arc_value f.setup; groups = f.groups.items; stubs = f.stubs.items; passages = f.passages.items; bound = f.bound; held = f.held.items; given = f.given; window = f.window } in
    let s = system t (arc_value f.setup) in
    let m = machine s in
    let G = group_at f.groups.items in
    let law : Lawful m = subst (λ p. Lawful (machine (system t p))) c.deref.ensures c.machine_is_lawful.ensures.lawful in
    let v = c.lease.inside.group in
    let v_is : v ≡ c.args.lease.now = c.lease.view_is ∙ c.in_ok-copies.ensures.same in
    let of_setup : system t v.setup ≡ s = ap (λ (x : GroupView _). system t x.setup) v_is ∙ sym c.requires.own ∙ sym (ap (λ (x : ExchangeView _). system t x.setup) c.self.view_is) in
    let is : IsValidExchange s e = c.self.invariant.1 in
    let valid : IsValidLease m (length s.composition) v = subst (λ x. IsValidLease (machine x) (length x.composition) v) of_setup c.lease.invariant.0 in
    let known : IsKnown m G (length f.stubs.items) (exchange_of m e) v
    = subst₂ (λ (x : ExchangeView _) (y : GroupView _). IsKnown (machine_of t x.setup) (group_at x.groups) (length x.stubs) (exchange_of (machine_of t x.setup) x) y) (sym c.self.view_is) (sym v_is) c.requires.known in
    let dropped : c.take_in.new.group ≡ record v { base = f.bound; components = cut_all t f.bound v.components } = c.in_ok-take_in.ensures.group in
    let counted : HasCount m (length s.composition) = subst (λ p. HasCount (machine (system t p)) (length (composition (plan_of p)))) c.deref.ensures c.machine_is_lawful.ensures.counted in
    let taken = c.in_ok-take_in.ensures.taken in
    let copied = subst (λ (x : GroupView _). AreCopies x.out c.in_ok-copies.copies) (sym v_is) c.in_ok-copies.ensures.copies in
    let all = joined t s law e is v valid known c.take_in.new.group dropped c.soundness_law.ensures.members taken.lists taken.given (c.group_meeting_law.ensures.falls m G) of_setup c.in_ok-copies.copies copied
    c.deref-2.result.now c.deref-2.ensures.value c.deref_mut-2.result.now c.deref_mut-2.ensures.value c.pass_on.new.stubs c.pass_on.new.group c.pass_on.ensures.passed c.pass_on.ensures.group c.pass_on.ensures.floor
    (cut_all t f.bound v.components) (sym (ap (λ (x : GroupView _). x.components) dropped)) taken.lists refl c.deref_mut.result.now c.deref_mut.ensures.value c.take_in.new.queues taken.put
    c.merging_law.ensures.falls c.merging_law.ensures.outcomes c.flight_law.ensures.appended counted (c.group_meeting_law.ensures.apart m G) (c.group_meeting_law.ensures.met m G) (c.group_exchange_is_sound.ensures.meet m G) in
    subst₂ (λ (y : GroupView _) (z : GroupView _). KeepsMembers y z) v_is (sym c.set_window.ensures) all.keeps
