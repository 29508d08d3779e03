use Rattle.std.proofs.Common.{◌≡◌, ◌<◌, ◌+◌, ◌^◌, ℕ, map, length, refl, sym, ap, subst, ◌∙◌, arith}
use Rattle.std.specs.Arc.{arc_value}
use Rattle.std.specs.Vec.{with_items}
use Rattle.std.proofs.lemmas.List.{length-map, with_items_is}
use Rattle.event_keys.specs.Ranks.{rank_of_bound}
use Rattle.virtual_time.specs.Machine.{Lawful, HasCount}
use Rattle.virtual_time.specs.Reference.{Falls}
use Rattle.virtual_time.specs.Groups.Meetings.{IsChunk}
use Rattle.plans.specs.Plans.{composition}
use Rattle.task_seed.specs.Setups.{system, plan_of}
use Rattle.task_seed.specs.Machines.{machine}
use Rattle.rollback.specs.ComponentView.{machine_of}
use Rattle.gvt.specs.Least.{IsLeast}
use Rattle.group_exchange.specs.ExchangeView.{ExchangeView, IsValidExchange, exchange_of, group_at}
use Rattle.group_exchange.specs.Chunks.{base_of, first_below, first_from, IsGiven}
use Rattle.group_exchange.specs.Held.{IsCutBelow, put_all, all_below, all_from}
use Rattle.group_exchange.specs.Windows.{HasWindow}
use Rattle.group_exchange.proofs.Windowed.{chunk_within}
use Rattle.group_exchange.proofs.Chunking.{after, chunk, kept, few, taken_in_order}
use Rattle.group_exchange.proofs.Lists.{cut_below}
use Rattle.group_exchange.proofs.exchange.Exchange.give_apart.Goals as goal

pub take_apart-requires-clause-falls : goal.take_apart-requires-clause-falls
take_apart-requires-clause-falls g c =
    let t = g.T.Turns.turn_of in
    let f = c.self.inside in
    let p = arc_value f.setup in
    let s = system t p in
    let bound = c.least_base-bound.result in
    let b = rank_of_bound bound in
    let e : ExchangeView _ = record { setup = p; groups = f.groups.items; stubs = f.stubs.items; passages = f.passages.items; bound = f.bound; held = f.held.items; given = f.given; window = f.window } in
    let is = c.self.invariant.1 in
    let least : IsLeast (map base_of f.stubs.items) bound = subst (λ l. IsLeast (map base_of l) bound) c.deref-3.ensures.value c.least_base-bound.ensures in
    let end = c.is_bounded.ensures in
    subst (λ l. Falls (put_all (all_below b l))) (sym c.deref_mut.ensures.value) (taken_in_order s e is bound least end)

pub take_apart-requires-clause-few : goal.take_apart-requires-clause-few
take_apart-requires-clause-few g c =
    let t = g.T.Turns.turn_of in
    let f = c.self.inside in
    let p = arc_value f.setup in
    let s = system t p in
    let bound = c.least_base-bound.result in
    let b = rank_of_bound bound in
    let e : ExchangeView _ = record { setup = p; groups = f.groups.items; stubs = f.stubs.items; passages = f.passages.items; bound = f.bound; held = f.held.items; given = f.given; window = f.window } in
    let is = c.self.invariant.1 in
    let law : Lawful (machine s) = subst (λ x. Lawful (machine (system t x))) c.deref.ensures c.machine_is_lawful.ensures.lawful in
    let counted : HasCount (machine s) (length s.composition) = subst (λ x. HasCount (machine (system t x)) (length (composition (plan_of x)))) c.deref.ensures c.machine_is_lawful.ensures.counted in
    let least : IsLeast (map base_of f.stubs.items) bound = subst (λ l. IsLeast (map base_of l) bound) c.deref-3.ensures.value c.least_base-bound.ensures in
    let end = c.is_bounded.ensures in
    let given = c.group_exchange_is_sound.ensures.chunk (machine s) (group_at f.groups.items) (length s.composition) (exchange_of (machine s) e) (exchange_of (machine s) (after s e is bound least end)) b (put_all (all_below b f.held.items)) law counted is.sound (chunk s e is bound least end) in
    let many : length s.composition < 65536 = subst (λ n. n < 65536) (c.components.ensures ∙ ap (λ plan. length (composition plan)) c.plan.ensures ∙ ap (λ x. length (composition (plan_of x))) c.deref-2.ensures) c.is_few.ensures in
    let fits = few s e is bound least end counted many (λ i n. c.reference_is_counted.ensures.before (machine s) b i n law) (λ i n. c.reference_is_counted.ensures.from (machine s) (rank_of_bound f.bound) i n law is.sound.end) (c.reference_is_counted.ensures.sum (machine s) (length s.composition) b law counted end) given.1 given.2 given.3 in
    let same = ap (λ l. length (put_all (all_below b l))) c.deref_mut.ensures.value in
    omega (arith, fits, same)

pub overflow_add-self : goal.overflow_add-self
overflow_add-self g c =
    let t = g.T.Turns.turn_of in
    let f = c.self.inside in
    let p = arc_value f.setup in
    let s = system t p in
    let bound = c.least_base-bound.result in
    let b = rank_of_bound bound in
    let e : ExchangeView _ = record { setup = p; groups = f.groups.items; stubs = f.stubs.items; passages = f.passages.items; bound = f.bound; held = f.held.items; given = f.given; window = f.window } in
    let is = c.self.invariant.1 in
    let law : Lawful (machine s) = subst (λ x. Lawful (machine (system t x))) c.deref.ensures c.machine_is_lawful.ensures.lawful in
    let counted : HasCount (machine s) (length s.composition) = subst (λ x. HasCount (machine (system t x)) (length (composition (plan_of x)))) c.deref.ensures c.machine_is_lawful.ensures.counted in
    let least : IsLeast (map base_of f.stubs.items) bound = subst (λ l. IsLeast (map base_of l) bound) c.deref-3.ensures.value c.least_base-bound.ensures in
    let end = c.is_bounded.ensures in
    let given = c.group_exchange_is_sound.ensures.chunk (machine s) (group_at f.groups.items) (length s.composition) (exchange_of (machine s) e) (exchange_of (machine s) (after s e is bound least end)) b (put_all (all_below b f.held.items)) law counted is.sound (chunk s e is bound least end) in
    let many : length s.composition < 65536 = subst (λ n. n < 65536) (c.components.ensures ∙ ap (λ plan. length (composition plan)) c.plan.ensures ∙ ap (λ x. length (composition (plan_of x))) c.deref-2.ensures) c.is_few.ensures in
    let fits = few s e is bound least end counted many (λ i n. c.reference_is_counted.ensures.before (machine s) b i n law) (λ i n. c.reference_is_counted.ensures.from (machine s) (rank_of_bound f.bound) i n law is.sound.end) (c.reference_is_counted.ensures.sum (machine s) (length s.composition) b law counted end) given.1 given.2 given.3 in
    let count = c.take_apart.ensures.count ∙ ap (λ l. length (put_all (all_below b l))) c.deref_mut.ensures.value in
    omega (arith, fits, count)

pub invariant_of-self : goal.invariant_of-self
invariant_of-self g c =
    let t = g.T.Turns.turn_of in
    let f = c.self.inside in
    let p = arc_value f.setup in
    let s = system t p in
    let bound = c.least_base-bound.result in
    let b = rank_of_bound bound in
    let e : ExchangeView _ = record { setup = p; groups = f.groups.items; stubs = f.stubs.items; passages = f.passages.items; bound = f.bound; held = f.held.items; given = f.given; window = f.window } in
    let is = c.self.invariant.1 in
    let law : Lawful (machine s) = subst (λ x. Lawful (machine (system t x))) c.deref.ensures c.machine_is_lawful.ensures.lawful in
    let counted : HasCount (machine s) (length s.composition) = subst (λ x. HasCount (machine (system t x)) (length (composition (plan_of x)))) c.deref.ensures c.machine_is_lawful.ensures.counted in
    let least : IsLeast (map base_of f.stubs.items) bound = subst (λ l. IsLeast (map base_of l) bound) c.deref-3.ensures.value c.least_base-bound.ensures in
    let end = c.is_bounded.ensures in
    let given = c.group_exchange_is_sound.ensures.chunk (machine s) (group_at f.groups.items) (length s.composition) (exchange_of (machine s) e) (exchange_of (machine s) (after s e is bound least end)) b (put_all (all_below b f.held.items)) law counted is.sound (chunk s e is bound least end) in
    let made = kept s e is bound least end given.0 in
    let new = c.take_apart.new.queues in
    let items : (with_items f.held new).items ≡ all_from b f.held.items = with_items_is f.held new (ap length c.take_apart.ensures.rest ∙ length-map c.deref_mut.result.now (first_from b) ∙ c.deref_mut.ensures.len) ∙ c.take_apart.ensures.rest ∙ ap (all_from b) c.deref_mut.ensures.value in
    let count : c.take_apart.result ≡ length (put_all (all_below b f.held.items)) = c.take_apart.ensures.count ∙ ap (λ l. length (put_all (all_below b l))) c.deref_mut.ensures.value in (
      c.self.invariant.0,
      subst (λ l. IsValidExchange s (record e { held = l; given = f.given + c.take_apart.result })) (sym items)
          (subst (λ n. IsValidExchange s (record e { held = all_from b f.held.items; given = f.given + n })) (sym count) made),
      subst (λ l. HasWindow (machine s) (length s.composition) (record e { held = l; given = f.given + c.take_apart.result })) (sym items)
          (subst (λ n. HasWindow (machine s) (length s.composition) (record e { held = all_from b f.held.items; given = f.given + n })) (sym count)
          (chunk_within (machine s) (length s.composition) b (put_all (all_below b f.held.items)) e (after s e is bound least end) (c.group_window_law.ensures.chunk (machine s) (group_at f.groups.items)) refl refl (chunk s e is bound least end) c.self.invariant.2)),
    )

pub invariant_of-parcel : goal.invariant_of-parcel
invariant_of-parcel g c =
    let t = g.T.Turns.turn_of in
    let f = c.self.inside in
    let p = arc_value f.setup in
    let s = system t p in
    let bound = c.least_base-bound.result in
    let b = rank_of_bound bound in
    let e : ExchangeView _ = record { setup = p; groups = f.groups.items; stubs = f.stubs.items; passages = f.passages.items; bound = f.bound; held = f.held.items; given = f.given; window = f.window } in
    let is = c.self.invariant.1 in
    let law : Lawful (machine s) = subst (λ x. Lawful (machine (system t x))) c.deref.ensures c.machine_is_lawful.ensures.lawful in
    let counted : HasCount (machine s) (length s.composition) = subst (λ x. HasCount (machine (system t x)) (length (composition (plan_of x)))) c.deref.ensures c.machine_is_lawful.ensures.counted in
    let least : IsLeast (map base_of f.stubs.items) bound = subst (λ l. IsLeast (map base_of l) bound) c.deref-3.ensures.value c.least_base-bound.ensures in
    let end = c.is_bounded.ensures in
    let same : length c.deref_mut.result.now ≡ length c.deref_mut-2.result.now
    = ap length c.deref_mut.ensures.value ∙ is.lists ∙ ap (λ (x : ExchangeView _). length (composition (plan_of x.setup))) c.self.view_is ∙ sym c.requires.many ∙ sym (ap length c.parcel.view_is) ∙ sym (ap length c.deref_mut-2.ensures.value) in
    let into = c.take_apart.new.into in
    let parcel : (with_items c.parcel.inside.queues into).items ≡ all_below b f.held.items
    = with_items_is c.parcel.inside.queues into (ap length c.take_apart.ensures.taken ∙ length-map c.deref_mut.result.now (first_below b) ∙ same ∙ c.deref_mut-2.ensures.len) ∙ c.take_apart.ensures.taken ∙ ap (all_below b) c.deref_mut.ensures.value in
    let few : length (put_all (all_below b f.held.items)) < 2 ^ 64 = let many = c.take_apart.ensures.count in let there = ap (λ l. length (put_all (all_below b l))) c.deref_mut.ensures.value in let short = c.take_apart.type_inv in omega (arith, many, there, short) in
    subst (IsCutBelow b) (sym parcel) (cut_below b f.held.items is.order (taken_in_order s e is bound least end) few)

pub returns-clause-chunk : goal.returns-clause-chunk
returns-clause-chunk g c =
    let t = g.T.Turns.turn_of in
    let f = c.self.inside in
    let p = arc_value f.setup in
    let s = system t p in
    let bound = c.least_base-bound.result in
    let b = rank_of_bound bound in
    let e : ExchangeView _ = record { setup = p; groups = f.groups.items; stubs = f.stubs.items; passages = f.passages.items; bound = f.bound; held = f.held.items; given = f.given; window = f.window } in
    let is = c.self.invariant.1 in
    let law : Lawful (machine s) = subst (λ x. Lawful (machine (system t x))) c.deref.ensures c.machine_is_lawful.ensures.lawful in
    let counted : HasCount (machine s) (length s.composition) = subst (λ x. HasCount (machine (system t x)) (length (composition (plan_of x)))) c.deref.ensures c.machine_is_lawful.ensures.counted in
    let least : IsLeast (map base_of f.stubs.items) bound = subst (λ l. IsLeast (map base_of l) bound) c.deref-3.ensures.value c.least_base-bound.ensures in
    let end = c.is_bounded.ensures in
    let given = c.group_exchange_is_sound.ensures.chunk (machine s) (group_at f.groups.items) (length s.composition) (exchange_of (machine s) e) (exchange_of (machine s) (after s e is bound least end)) b (put_all (all_below b f.held.items)) law counted is.sound (chunk s e is bound least end) in
    let same : length c.deref_mut.result.now ≡ length c.deref_mut-2.result.now
    = ap length c.deref_mut.ensures.value ∙ is.lists ∙ ap (λ (x : ExchangeView _). length (composition (plan_of x.setup))) c.self.view_is ∙ sym c.requires.many ∙ sym (ap length c.parcel.view_is) ∙ sym (ap length c.deref_mut-2.ensures.value) in
    let into = c.take_apart.new.into in
    let parcel : (with_items c.parcel.inside.queues into).items ≡ all_below b f.held.items
    = with_items_is c.parcel.inside.queues into (ap length c.take_apart.ensures.taken ∙ length-map c.deref_mut.result.now (first_below b) ∙ same ∙ c.deref_mut-2.ensures.len) ∙ c.take_apart.ensures.taken ∙ ap (all_below b) c.deref_mut.ensures.value in
    let new = c.take_apart.new.queues in
    let items : (with_items f.held new).items ≡ all_from b f.held.items = with_items_is f.held new (ap length c.take_apart.ensures.rest ∙ length-map c.deref_mut.result.now (first_from b) ∙ c.deref_mut.ensures.len) ∙ c.take_apart.ensures.rest ∙ ap (all_from b) c.deref_mut.ensures.value in
    let count : c.take_apart.result ≡ length (put_all (all_below b f.held.items)) = c.take_apart.ensures.count ∙ ap (λ l. length (put_all (all_below b l))) c.deref_mut.ensures.value in
    let turns : put_all (with_items c.parcel.inside.queues into).items ≡ put_all (all_below b f.held.items) = ap put_all parcel in
    let made = chunk s e is bound least end in
    subst (λ (old : ExchangeView _). (x : ℕ) × IsChunk (machine_of t old.setup) (group_at old.groups) (length (composition (plan_of old.setup))) (exchange_of (machine_of t old.setup) old) x (exchange_of (machine_of t old.setup) (record e { held = (with_items f.held new).items; given = f.given + c.take_apart.result })) (put_all (with_items c.parcel.inside.queues into).items) × IsGiven (machine_of t old.setup) f.given x (put_all (with_items c.parcel.inside.queues into).items)) c.self.view_is (
      b,
      subst (λ l. IsChunk (machine s) (group_at f.groups.items) (length s.composition) (exchange_of (machine s) e) b (exchange_of (machine s) (record e { held = (with_items f.held new).items; given = f.given + c.take_apart.result })) l) (sym turns)
          (subst (λ l. IsChunk (machine s) (group_at f.groups.items) (length s.composition) (exchange_of (machine s) e) b (exchange_of (machine s) (record e { held = l; given = f.given + c.take_apart.result })) (put_all (all_below b f.held.items))) (sym items)
          (subst (λ n. IsChunk (machine s) (group_at f.groups.items) (length s.composition) (exchange_of (machine s) e) b (exchange_of (machine s) (record e { held = all_from b f.held.items; given = f.given + n })) (put_all (all_below b f.held.items))) (sym count) made)),
      subst (λ l. IsGiven (machine s) f.given b l) (sym turns) (record { old = given.1; before = given.2; next = given.3 }),
    )
