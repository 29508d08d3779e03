use Rattle.std.proofs.Common.{◌≡◌, ◌<◌, ◌+◌, ℕ, map, length, refl, sym, ap, subst, ◌∙◌, arith}
use Rattle.std.specs.Arc.{arc_value}
use Rattle.std.specs.Vec.{with_items}
use Rattle.std.proofs.lemmas.List.{length-map, with_items_is}
use Rattle.event_keys.specs.Ranks.{rank_of_bound}
use Rattle.virtual_time.specs.Machine.{Lawful, HasCount}
use Rattle.virtual_time.specs.Reference.{Falls}
use Rattle.virtual_time.specs.Groups.Meetings.{IsChunk}
use Rattle.plans.specs.Plans.{composition}
use Rattle.task_seed.specs.Setups.{system, plan_of}
use Rattle.task_seed.specs.Machines.{machine}
use Rattle.task_seed.specs.Taken.{turns_of}
use Rattle.rollback.specs.ComponentView.{machine_of}
use Rattle.gvt.specs.Least.{IsLeast}
use Rattle.group_exchange.specs.ExchangeView.{ExchangeView, IsValidExchange, exchange_of, group_at}
use Rattle.group_exchange.specs.Chunks.{base_of, first_from, IsGiven}
use Rattle.group_exchange.specs.Held.{AreInOrder, put_all, all_below, all_from}
use Rattle.group_exchange.specs.Windows.{HasWindow}
use Rattle.group_exchange.proofs.Windowed.{chunk_within}
use Rattle.group_exchange.proofs.Chunking.{after, chunk, kept, few, taken_in_order}
use Rattle.group_exchange.proofs.exchange.Exchange.give.Goals as goal

pub take_all_below-taken-requires-clause-order : goal.take_all_below-taken-requires-clause-order
take_all_below-taken-requires-clause-order g c =
    let t = g.T.Turns.turn_of in
    let f = c.self.inside in
    let p = arc_value f.setup in
    let s = system t p in
    let e : ExchangeView _ = record { setup = p; groups = f.groups.items; stubs = f.stubs.items; passages = f.passages.items; bound = f.bound; held = f.held.items; given = f.given; window = f.window } in
    let is = c.self.invariant.1 in
    subst AreInOrder (sym c.deref_mut.ensures.value) is.order

pub take_all_below-taken-requires-clause-falls : goal.take_all_below-taken-requires-clause-falls
take_all_below-taken-requires-clause-falls g c =
    let t = g.T.Turns.turn_of in
    let f = c.self.inside in
    let p = arc_value f.setup in
    let s = system t p in
    let bound = c.least_base-bound.result in
    let b = rank_of_bound bound in
    let e : ExchangeView _ = record { setup = p; groups = f.groups.items; stubs = f.stubs.items; passages = f.passages.items; bound = f.bound; held = f.held.items; given = f.given; window = f.window } in
    let is = c.self.invariant.1 in
    let least : IsLeast (map base_of f.stubs.items) bound = subst (λ l. IsLeast (map base_of l) bound) c.deref-3.ensures.value c.least_base-bound.ensures in
    let end = c.is_bounded.ensures in
    subst (λ l. Falls (put_all (all_below b l))) (sym c.deref_mut.ensures.value) (taken_in_order s e is bound least end)

pub take_all_below-taken-requires-clause-few : goal.take_all_below-taken-requires-clause-few
take_all_below-taken-requires-clause-few g c =
    let t = g.T.Turns.turn_of in
    let f = c.self.inside in
    let p = arc_value f.setup in
    let s = system t p in
    let bound = c.least_base-bound.result in
    let b = rank_of_bound bound in
    let e : ExchangeView _ = record { setup = p; groups = f.groups.items; stubs = f.stubs.items; passages = f.passages.items; bound = f.bound; held = f.held.items; given = f.given; window = f.window } in
    let is = c.self.invariant.1 in
    let law : Lawful (machine s) = subst (λ x. Lawful (machine (system t x))) c.deref.ensures c.machine_is_lawful.ensures.lawful in
    let counted : HasCount (machine s) (length s.composition) = subst (λ x. HasCount (machine (system t x)) (length (composition (plan_of x)))) c.deref.ensures c.machine_is_lawful.ensures.counted in
    let least : IsLeast (map base_of f.stubs.items) bound = subst (λ l. IsLeast (map base_of l) bound) c.deref-3.ensures.value c.least_base-bound.ensures in
    let end = c.is_bounded.ensures in
    let given = c.group_exchange_is_sound.ensures.chunk (machine s) (group_at f.groups.items) (length s.composition) (exchange_of (machine s) e) (exchange_of (machine s) (after s e is bound least end)) b (put_all (all_below b f.held.items)) law counted is.sound (chunk s e is bound least end) in
    let many : length s.composition < 65536 = subst (λ n. n < 65536) (c.components.ensures ∙ ap (λ plan. length (composition plan)) c.plan.ensures ∙ ap (λ x. length (composition (plan_of x))) c.deref-2.ensures) c.is_few.ensures in
    let fits = few s e is bound least end counted many (λ i n. c.reference_is_counted.ensures.before (machine s) b i n law) (λ i n. c.reference_is_counted.ensures.from (machine s) (rank_of_bound f.bound) i n law is.sound.end) (c.reference_is_counted.ensures.sum (machine s) (length s.composition) b law counted end) given.1 given.2 given.3 in
    let same = ap (λ l. length (put_all (all_below b l))) c.deref_mut.ensures.value in
    omega (arith, fits, same)

pub overflow_add-self : goal.overflow_add-self
overflow_add-self g c =
    let t = g.T.Turns.turn_of in
    let f = c.self.inside in
    let p = arc_value f.setup in
    let s = system t p in
    let bound = c.least_base-bound.result in
    let b = rank_of_bound bound in
    let e : ExchangeView _ = record { setup = p; groups = f.groups.items; stubs = f.stubs.items; passages = f.passages.items; bound = f.bound; held = f.held.items; given = f.given; window = f.window } in
    let is = c.self.invariant.1 in
    let law : Lawful (machine s) = subst (λ x. Lawful (machine (system t x))) c.deref.ensures c.machine_is_lawful.ensures.lawful in
    let counted : HasCount (machine s) (length s.composition) = subst (λ x. HasCount (machine (system t x)) (length (composition (plan_of x)))) c.deref.ensures c.machine_is_lawful.ensures.counted in
    let least : IsLeast (map base_of f.stubs.items) bound = subst (λ l. IsLeast (map base_of l) bound) c.deref-3.ensures.value c.least_base-bound.ensures in
    let end = c.is_bounded.ensures in
    let given = c.group_exchange_is_sound.ensures.chunk (machine s) (group_at f.groups.items) (length s.composition) (exchange_of (machine s) e) (exchange_of (machine s) (after s e is bound least end)) b (put_all (all_below b f.held.items)) law counted is.sound (chunk s e is bound least end) in
    let many : length s.composition < 65536 = subst (λ n. n < 65536) (c.components.ensures ∙ ap (λ plan. length (composition plan)) c.plan.ensures ∙ ap (λ x. length (composition (plan_of x))) c.deref-2.ensures) c.is_few.ensures in
    let fits = few s e is bound least end counted many (λ i n. c.reference_is_counted.ensures.before (machine s) b i n law) (λ i n. c.reference_is_counted.ensures.from (machine s) (rank_of_bound f.bound) i n law is.sound.end) (c.reference_is_counted.ensures.sum (machine s) (length s.composition) b law counted end) given.1 given.2 given.3 in
    let count = c.take_all_below-taken.ensures.count ∙ ap (λ l. length (put_all (all_below b l))) c.deref_mut.ensures.value in
    omega (arith, fits, count)

pub invariant_of-self : goal.invariant_of-self
invariant_of-self g c =
    let t = g.T.Turns.turn_of in
    let f = c.self.inside in
    let p = arc_value f.setup in
    let s = system t p in
    let bound = c.least_base-bound.result in
    let b = rank_of_bound bound in
    let e : ExchangeView _ = record { setup = p; groups = f.groups.items; stubs = f.stubs.items; passages = f.passages.items; bound = f.bound; held = f.held.items; given = f.given; window = f.window } in
    let is = c.self.invariant.1 in
    let law : Lawful (machine s) = subst (λ x. Lawful (machine (system t x))) c.deref.ensures c.machine_is_lawful.ensures.lawful in
    let counted : HasCount (machine s) (length s.composition) = subst (λ x. HasCount (machine (system t x)) (length (composition (plan_of x)))) c.deref.ensures c.machine_is_lawful.ensures.counted in
    let least : IsLeast (map base_of f.stubs.items) bound = subst (λ l. IsLeast (map base_of l) bound) c.deref-3.ensures.value c.least_base-bound.ensures in
    let end = c.is_bounded.ensures in
    let given = c.group_exchange_is_sound.ensures.chunk (machine s) (group_at f.groups.items) (length s.composition) (exchange_of (machine s) e) (exchange_of (machine s) (after s e is bound least end)) b (put_all (all_below b f.held.items)) law counted is.sound (chunk s e is bound least end) in
    let made = kept s e is bound least end given.0 in
    let new = c.take_all_below-taken.new.queues in
    let items : (with_items f.held new).items ≡ all_from b f.held.items = with_items_is f.held new (ap length c.take_all_below-taken.ensures.rest ∙ length-map c.deref_mut.result.now (first_from b) ∙ c.deref_mut.ensures.len) ∙ c.take_all_below-taken.ensures.rest ∙ ap (all_from b) c.deref_mut.ensures.value in
    let count : c.take_all_below-taken.result.count ≡ length (put_all (all_below b f.held.items)) = c.take_all_below-taken.ensures.count ∙ ap (λ l. length (put_all (all_below b l))) c.deref_mut.ensures.value in (
      c.self.invariant.0,
      subst (λ l. IsValidExchange s (record e { held = l; given = f.given + c.take_all_below-taken.result.count })) (sym items)
          (subst (λ n. IsValidExchange s (record e { held = all_from b f.held.items; given = f.given + n })) (sym count) made),
      subst (λ l. HasWindow (machine s) (length s.composition) (record e { held = l; given = f.given + c.take_all_below-taken.result.count })) (sym items)
          (subst (λ n. HasWindow (machine s) (length s.composition) (record e { held = all_from b f.held.items; given = f.given + n })) (sym count)
          (chunk_within (machine s) (length s.composition) b (put_all (all_below b f.held.items)) e (after s e is bound least end) (c.group_window_law.ensures.chunk (machine s) (group_at f.groups.items)) refl refl (chunk s e is bound least end) c.self.invariant.2)),
    )

pub returns-clause-chunk : goal.returns-clause-chunk
returns-clause-chunk g c =
    let t = g.T.Turns.turn_of in
    let f = c.self.inside in
    let p = arc_value f.setup in
    let s = system t p in
    let bound = c.least_base-bound.result in
    let b = rank_of_bound bound in
    let e : ExchangeView _ = record { setup = p; groups = f.groups.items; stubs = f.stubs.items; passages = f.passages.items; bound = f.bound; held = f.held.items; given = f.given; window = f.window } in
    let is = c.self.invariant.1 in
    let law : Lawful (machine s) = subst (λ x. Lawful (machine (system t x))) c.deref.ensures c.machine_is_lawful.ensures.lawful in
    let counted : HasCount (machine s) (length s.composition) = subst (λ x. HasCount (machine (system t x)) (length (composition (plan_of x)))) c.deref.ensures c.machine_is_lawful.ensures.counted in
    let least : IsLeast (map base_of f.stubs.items) bound = subst (λ l. IsLeast (map base_of l) bound) c.deref-3.ensures.value c.least_base-bound.ensures in
    let end = c.is_bounded.ensures in
    let given = c.group_exchange_is_sound.ensures.chunk (machine s) (group_at f.groups.items) (length s.composition) (exchange_of (machine s) e) (exchange_of (machine s) (after s e is bound least end)) b (put_all (all_below b f.held.items)) law counted is.sound (chunk s e is bound least end) in
    let new = c.take_all_below-taken.new.queues in
    let items : (with_items f.held new).items ≡ all_from b f.held.items = with_items_is f.held new (ap length c.take_all_below-taken.ensures.rest ∙ length-map c.deref_mut.result.now (first_from b) ∙ c.deref_mut.ensures.len) ∙ c.take_all_below-taken.ensures.rest ∙ ap (all_from b) c.deref_mut.ensures.value in
    let count : c.take_all_below-taken.result.count ≡ length (put_all (all_below b f.held.items)) = c.take_all_below-taken.ensures.count ∙ ap (λ l. length (put_all (all_below b l))) c.deref_mut.ensures.value in
    let turns : turns_of c.into_turns.result.after ≡ put_all (all_below b f.held.items) = ap turns_of c.into_turns.ensures.turns ∙ c.take_all_below-taken.ensures.turns ∙ ap (λ l. put_all (all_below b l)) c.deref_mut.ensures.value in
    let made = chunk s e is bound least end in
    subst (λ (old : ExchangeView _). (x : ℕ) × IsChunk (machine_of t old.setup) (group_at old.groups) (length (composition (plan_of old.setup))) (exchange_of (machine_of t old.setup) old) x (exchange_of (machine_of t old.setup) (record e { held = (with_items f.held new).items; given = f.given + c.take_all_below-taken.result.count })) (turns_of c.into_turns.result.after) × IsGiven (machine_of t old.setup) f.given x (turns_of c.into_turns.result.after)) c.self.view_is (
      b,
      subst (λ l. IsChunk (machine s) (group_at f.groups.items) (length s.composition) (exchange_of (machine s) e) b (exchange_of (machine s) (record e { held = (with_items f.held new).items; given = f.given + c.take_all_below-taken.result.count })) l) (sym turns)
          (subst (λ l. IsChunk (machine s) (group_at f.groups.items) (length s.composition) (exchange_of (machine s) e) b (exchange_of (machine s) (record e { held = l; given = f.given + c.take_all_below-taken.result.count })) (put_all (all_below b f.held.items))) (sym items)
          (subst (λ n. IsChunk (machine s) (group_at f.groups.items) (length s.composition) (exchange_of (machine s) e) b (exchange_of (machine s) (record e { held = all_from b f.held.items; given = f.given + n })) (put_all (all_below b f.held.items))) (sym count) made)),
      subst (λ l. IsGiven (machine s) f.given b l) (sym turns) (record { old = given.1; before = given.2; next = given.3 }),
    )
