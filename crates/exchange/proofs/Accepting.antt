-- What a meeting moves is what the theory says, and all stays sound.
use Rattle.std.proofs.Common.{◌≡◌, ℕ, ◌+◌, ◌-◌, ◌<◌, ◌≤◌, ◌==◌, ◌⊎◌, inl, inr, cond, Option, None, Some, List, [], filter, length, refl, ap, sym, subst, ◌∙◌, arith}
use Rattle.std.specs.Prelude.{nat_lt, slice_get, IfSome}
use Rattle.std.proofs.lemmas.Bool.{eq-eqb, ne_eqb, cases_eq, cases_lt}
use Rattle.std.proofs.lemmas.Option.{slice_get_past}
use Rattle.std.specs.Option.{option_or}
use Rattle.terms.specs.Datum.{Datum}
use Rattle.terms.specs.Named.{Named}
use Rattle.event_keys.specs.declared.key.Bound.{Bound}
use Rattle.event_keys.specs.declared.message.Sign.{Sign}
use Rattle.event_keys.specs.declared.message.Sign.TheVariants.{Plus, Minus}
use Rattle.event_keys.specs.declared.message.Signed.{Signed}
use Rattle.event_keys.specs.declared.outcome.Turned.{Turned}
use Rattle.event_keys.specs.Ranks.{rank_of_bound}
use Rattle.antimessage.specs.Bags.{insert_all, is_to}
use Rattle.antimessage.specs.Counts.{Each}
use Rattle.antimessage.specs.Order.{IsInOrder}
use Rattle.virtual_time.specs.Bags.{times}
use Rattle.virtual_time.specs.Entries.{below}
use Rattle.virtual_time.specs.Machine.{Machine, Lawful}
use Rattle.virtual_time.specs.Records.{Record, cut_of, turns_among}
use Rattle.virtual_time.specs.Reference.{Falls, Turn, outcome_at}
use Rattle.virtual_time.specs.Exchange.Leases.{IsFloor, IsLease, Lease, Matches}
use Rattle.virtual_time.specs.Exchange.Meetings.{Met}
use Rattle.virtual_time.specs.Exchange.Merged.{put_turns}
use Rattle.virtual_time.specs.Exchange.Moved.{IsMoved}
use Rattle.virtual_time.specs.Exchange.Stubs.{Stub as StubSeen, Exchange as ExchangeSeen, IsSound}
use Rattle.rollback.specs.Flight.{in_flight}
use Rattle.task_seed.specs.Turning.{System, key_of}
use Rattle.task_seed.specs.Machines.{machine}
use Rattle.task_seed.specs.Taken.{turns_of}
use Rattle.exchange.specs.declared.stub.Stub.{Stub}
use Rattle.exchange.specs.LeaseView.{LeaseView, IsValidLease, lease_of, part_of}
use Rattle.exchange.specs.Moving.{among, HasCome, IsArrived, IsPassedOn}
use Rattle.exchange.specs.Held.{put_all, AreInOrder, AreOwned, HasPut}
use Rattle.exchange.specs.ExchangeView.{ExchangeView, IsValidExchange, IsStub, stub_of, stub_or_start, exchange_of}
use Rattle.exchange.proofs.Committing.{slice_get_none}
use Rattle.exchange.proofs.Lists.{length_set, order_at, put_at}
use Rattle.exchange.proofs.Owned.{done_own, IsOf, owned_at}
use Rattle.exchange.proofs.Receiving.{none_else, to_alone, To}

abbrev pub AppendedLaw : Type 0
AppendedLaw =
    (s : System) (sign : Sign) (j k : ℕ) (a : Named) (more bag : List Signed) → times (machine s) (in_flight sign j (insert_all more bag)) k a ≡ times (machine s) (in_flight sign j more) k a + times (machine s) (in_flight sign j bag) k a

abbrev pub ToLaw : Type 0
ToLaw = (sign : Sign) (j l : ℕ) (bag : List Signed) → in_flight sign j (filter (is_to l) bag) ≡ cond (j == l) (in_flight sign j bag) []

-- the theory's laws on meetings
module _ (m : Machine (List Datum) Named) where
  abbrev pub MetLaw : Type 0
  MetLaw =
      (count i : ℕ) (exchange new_exchange : ExchangeSeen Named) (lease new_lease : Lease (List Datum) Named) → Lawful m → IsSound m count exchange → IsLease m i lease → Matches m i (exchange.stub i) lease
      → ((j : ℕ) → count ≤ j → (exchange.stub j).plus ≡ []) → ((j : ℕ) → count ≤ j → lease.out_plus j ≡ []) → IsMoved m i exchange lease new_exchange new_lease → Met m i exchange lease new_exchange new_lease

  abbrev pub SoundLaw : Type 0
  SoundLaw =
      (count i : ℕ) (exchange new_exchange : ExchangeSeen Named) (lease new_lease : Lease (List Datum) Named) → Lawful m → IsSound m count exchange → IsLease m i lease → Matches m i (exchange.stub i) lease
      → Met m i exchange lease new_exchange new_lease → IsSound m count new_exchange × IsLease m i new_lease

  abbrev pub FallsLaw : Type 0
  FallsLaw =
      (count i : ℕ) (exchange : ExchangeSeen Named) (lease : Lease (List Datum) Named) → Lawful m → IsSound m count exchange → IsLease m i lease → Matches m i (exchange.stub i) lease
      → Falls (turns_among (below exchange.bound lease.part.done))

  abbrev pub ApartLaw : Type 0
  ApartLaw =
      (count i : ℕ) (exchange : ExchangeSeen Named) (lease : Lease (List Datum) Named) → Lawful m → IsSound m count exchange → IsLease m i lease → Matches m i (exchange.stub i) lease
      → (k : ℕ) (outcome : Option Named) → outcome_at k (turns_among (below exchange.bound lease.part.done)) ≡ Some outcome → outcome_at k exchange.held ≡ None

abbrev pub MergedFalls : Type 0
MergedFalls =
    (turns held : List (Turn Named)) → Falls turns → Falls held → ((k : ℕ) (outcome : Option Named) → outcome_at k turns ≡ Some outcome → outcome_at k held ≡ None) → Falls (put_turns turns held)

abbrev pub MergedOutcomes : Type 0
MergedOutcomes =
    (turns held : List (Turn Named)) → Falls turns → Falls held → ((k : ℕ) (outcome : Option Named) → outcome_at k turns ≡ Some outcome → outcome_at k held ≡ None)
    → (k : ℕ) → outcome_at k (put_turns turns held) ≡ option_or (outcome_at k turns) (outcome_at k held)

abbrev inbox_of : Option Stub → List Signed
inbox_of None = []
inbox_of (Some stub) = stub.inbox

module _ (s : System) (to : ToLaw) where
  -- of what is to component i all is there, and nothing else
  pub filtered_here : (sign : Sign) (i k : ℕ) (a : Named) (xs : List Signed) → among s sign i (filter (is_to i) xs) k a ≡ among s sign i xs k a
  filtered_here sign i k a xs =
      let all : in_flight sign i (filter (is_to i) xs) ≡ in_flight sign i xs = to sign i i xs ∙ rw (eq-eqb i i refl) refl in
      ap (λ l. times (machine s) l k a) all

  pub filtered_else : (sign : Sign) (i l k : ℕ) (a : Named) (xs : List Signed) → (l ≡ i → ⊥) → among s sign l (filter (is_to i) xs) k a ≡ 0
  filtered_else sign i l k a xs ne =
      let none : in_flight sign l (filter (is_to i) xs) ≡ [] = to sign l i xs ∙ rw (ne_eqb l i ne) refl in
      ap (λ ys. times (machine s) ys k a) none

  -- what came to the stub of component i, all of whose inbox is to it
  module _ (law : Lawful (machine s)) (i : ℕ) (out copies : List Signed) (old new : Stub) (come : HasCome (filter (is_to i) out) (filter (is_to i) copies) old new) where
    abbrev IsApart : Stub → Type 0
    IsApart stub = (k : ℕ) (a : Named) → (among s Plus i stub.inbox k a ≡ 0) ⊎ (among s Minus i stub.inbox k a ≡ 0)

    nothing_came : (sign : Sign) (k : ℕ) (a : Named) → filter (is_to i) out ≡ [] → among s sign i out k a ≡ 0
    nothing_came sign k a none = sym (filtered_here sign i k a out) ∙ ap (λ xs. among s sign i xs k a) none

    pub rest_there : new ≡ record old { inbox = new.inbox; copies = new.copies }
    rest_there = go come
      where
        go : HasCome (filter (is_to i) out) (filter (is_to i) copies) old new → new ≡ record old { inbox = new.inbox; copies = new.copies }
        go (inl is) = is.rest
        go (inr none) = none.2 ∙ (λ v. record old { inbox = (sym none.2 v).inbox; copies = (sym none.2 v).copies })

    pub order_there : IsInOrder old.inbox → IsInOrder new.inbox
    order_there was = go come
      where
        go : HasCome (filter (is_to i) out) (filter (is_to i) copies) old new → IsInOrder new.inbox
        go (inl is) = is.order
        go (inr none) = subst (λ (x : Stub). IsInOrder x.inbox) (sym none.2) was

    pub still_to : To i old.inbox → To i new.inbox
    still_to t = go come
      where
        arrived : IsArrived (filter (is_to i) out) (filter (is_to i) copies) old new → (sign : Sign) (l k : ℕ) (a : Named) → (l ≡ i → ⊥) → among s sign l new.inbox k a ≡ 0
        arrived is Plus l k a ne =
            let m = is.messages s l k a in
            let f = filtered_else Plus i l k a out ne in
            let o : among s Plus l old.inbox k a ≡ 0 = ap (λ ys. times (machine s) ys k a) (none_else Plus i l old.inbox ne t) in
            omega (arith, m, f, o)
        arrived is Minus l k a ne =
            let m = is.antimessages s l k a in
            let f = filtered_else Minus i l k a out ne in
            let o : among s Minus l old.inbox k a ≡ 0 = ap (λ ys. times (machine s) ys k a) (none_else Minus i l old.inbox ne t) in
            omega (arith, m, f, o)

        go : HasCome (filter (is_to i) out) (filter (is_to i) copies) old new → To i new.inbox
        go (inl is) = to_alone s law i new.inbox (arrived is)
        go (inr none) = subst (λ (x : Stub). To i x.inbox) (sym none.2) t

    pub messages_there : IsApart old → (k : ℕ) (a : Named) → among s Plus i new.inbox k a ≡ (among s Plus i old.inbox k a + among s Plus i out k a) - (among s Minus i old.inbox k a + among s Minus i out k a)
    messages_there apart k a = go come
      where
        stays : among s Plus i new.inbox k a ≡ among s Plus i old.inbox k a → among s Plus i out k a ≡ 0 → among s Minus i out k a ≡ 0 → (among s Plus i old.inbox k a ≡ 0) ⊎ (among s Minus i old.inbox k a ≡ 0)
            → among s Plus i new.inbox k a ≡ (among s Plus i old.inbox k a + among s Plus i out k a) - (among s Minus i old.inbox k a + among s Minus i out k a)
        stays same p n (inl no_messages) = omega (arith, same, p, n, no_messages)
        stays same p n (inr no_antimessages) = omega (arith, same, p, n, no_antimessages)

        go : HasCome (filter (is_to i) out) (filter (is_to i) copies) old new → among s Plus i new.inbox k a ≡ (among s Plus i old.inbox k a + among s Plus i out k a) - (among s Minus i old.inbox k a + among s Minus i out k a)
        go (inl is) =
            let m = is.messages s i k a in
            let p = filtered_here Plus i k a out in
            let n = filtered_here Minus i k a out in
            omega (arith, m, p, n)
        go (inr none) = stays (ap (λ (x : Stub). among s Plus i x.inbox k a) none.2) (nothing_came Plus k a none.0) (nothing_came Minus k a none.0) (apart k a)

    pub antimessages_there : IsApart old → (k : ℕ) (a : Named) → among s Minus i new.inbox k a ≡ (among s Minus i old.inbox k a + among s Minus i out k a) - (among s Plus i old.inbox k a + among s Plus i out k a)
    antimessages_there apart k a = go come
      where
        stays : among s Minus i new.inbox k a ≡ among s Minus i old.inbox k a → among s Plus i out k a ≡ 0 → among s Minus i out k a ≡ 0 → (among s Plus i old.inbox k a ≡ 0) ⊎ (among s Minus i old.inbox k a ≡ 0)
            → among s Minus i new.inbox k a ≡ (among s Minus i old.inbox k a + among s Minus i out k a) - (among s Plus i old.inbox k a + among s Plus i out k a)
        stays same p n (inl no_messages) = omega (arith, same, p, n, no_messages)
        stays same p n (inr no_antimessages) = omega (arith, same, p, n, no_antimessages)

        go : HasCome (filter (is_to i) out) (filter (is_to i) copies) old new → among s Minus i new.inbox k a ≡ (among s Minus i old.inbox k a + among s Minus i out k a) - (among s Plus i old.inbox k a + among s Plus i out k a)
        go (inl is) =
            let m = is.antimessages s i k a in
            let p = filtered_here Plus i k a out in
            let n = filtered_here Minus i k a out in
            omega (arith, m, p, n)
        go (inr none) = stays (ap (λ (x : Stub). among s Minus i x.inbox k a) none.2) (nothing_came Plus k a none.0) (nothing_came Minus k a none.0) (apart k a)

    pub apart_there : IsApart old → IsApart new
    apart_there apart k a = go (cases_lt (among s Plus i old.inbox k a + among s Plus i out k a) (among s Minus i old.inbox k a + among s Minus i out k a)) (messages_there apart k a) (antimessages_there apart k a)
      where
        go : {x y p q : ℕ} → (x < y) ⊎ (y ≤ x) → p ≡ x - y → q ≡ y - x → (p ≡ 0) ⊎ (q ≡ 0)
        go (inl l) e f = inl (omega (arith, l, e))
        go (inr l) e f = inr (omega (arith, l, f))

    -- each message that is there has its copy, where each that was there and each that came had one
    pub copied_there : ((k : ℕ) (a : Named) → among s Plus i old.copies k a ≡ among s Plus i old.inbox k a) → in_flight Plus i copies ≡ in_flight Plus i out → (k : ℕ) (a : Named) → among s Plus i new.copies k a ≡ among s Plus i new.inbox k a
    copied_there was came k a = go come
      where
        go : HasCome (filter (is_to i) out) (filter (is_to i) copies) old new → among s Plus i new.copies k a ≡ among s Plus i new.inbox k a
        go (inl is) =
            let c = is.copied s i k a in
            let m = is.messages s i k a in
            let f = filtered_here Plus i k a copies in
            let p = filtered_here Plus i k a out in
            let o = was k a in
            let d : among s Plus i copies k a ≡ among s Plus i out k a = ap (λ l. times (machine s) l k a) came in
            omega (arith, c, m, f, p, o, d)
        go (inr none) = ap (λ (x : Stub). among s Plus i x.copies k a) none.2 ∙ was k a ∙ ap (λ (x : Stub). among s Plus i x.inbox k a) (sym none.2)

module _ {P Q : Type 0} (s : System) (law : Lawful (machine s)) (e : ExchangeView P) (is : IsValidExchange s e) (h : LeaseView Q) (holds : IsValidLease (machine s) (length s.composition) h) (floor : Bound) (tray : List Signed) (stubs : List Stub)
    (passed : IsPassedOn h.component.number e.bound floor h.out h.copies.of_sender h.copies.of_receiver h.tray tray e.stubs stubs) (to : ToLaw) where
  abbrev m : Machine (List Datum) Named
  m = machine s

  abbrev i : ℕ
  i = h.component.number

  abbrev g : ℕ
  g = rank_of_bound e.bound

  abbrev inbox_at : ℕ → List Signed
  inbox_at j = cond (j == i) passed.arrived.inbox (inbox_of (slice_get stubs j))

  inbox_here : inbox_at i ≡ passed.arrived.inbox
  inbox_here = rw (eq-eqb i i refl) refl

  -- the stubs on the way
  abbrev was : Stub
  was = passed.was

  abbrev arrived : Stub
  arrived = passed.arrived

  was_is : IsStub s g i was
  was_is = is.stubs i was passed.there

  stub_was : stub_or_start m i (slice_get e.stubs i) ≡ stub_of m i was
  stub_was = ap (stub_or_start m i) passed.there

  stub_now : stub_or_start m i (slice_get stubs i) ≡ stub_of m i (record passed.kept { floor = floor })
  stub_now = ap (stub_or_start m i) passed.here

  sent_inbox : passed.sent.inbox ≡ was.inbox
  sent_inbox = ap (λ (x : Stub). x.inbox) passed.is_sent.rest

  sent_copies : passed.sent.copies ≡ was.copies
  sent_copies = ap (λ (x : Stub). x.copies) passed.is_sent.rest

  sent_apart : (k : ℕ) (a : Named) → (among s Plus i passed.sent.inbox k a ≡ 0) ⊎ (among s Minus i passed.sent.inbox k a ≡ 0)
  sent_apart k a = subst (λ xs. (among s Plus i xs k a ≡ 0) ⊎ (among s Minus i xs k a ≡ 0)) (sym sent_inbox) (was_is.apart k a)

  arrived_rest : arrived ≡ record passed.sent { inbox = arrived.inbox; copies = arrived.copies }
  arrived_rest = rest_there s to law i h.out h.copies.of_receiver passed.sent arrived passed.has_come

  messages_here : (k : ℕ) (a : Named) → among s Plus i arrived.inbox k a ≡ (among s Plus i was.inbox k a + among s Plus i h.out k a) - (among s Minus i was.inbox k a + among s Minus i h.out k a)
  messages_here k a = subst (λ xs. among s Plus i arrived.inbox k a ≡ (among s Plus i xs k a + among s Plus i h.out k a) - (among s Minus i xs k a + among s Minus i h.out k a)) sent_inbox
      (messages_there s to law i h.out h.copies.of_receiver passed.sent arrived passed.has_come sent_apart k a)

  antimessages_here : (k : ℕ) (a : Named) → among s Minus i arrived.inbox k a ≡ (among s Minus i was.inbox k a + among s Minus i h.out k a) - (among s Plus i was.inbox k a + among s Plus i h.out k a)
  antimessages_here k a = subst (λ xs. among s Minus i arrived.inbox k a ≡ (among s Minus i xs k a + among s Minus i h.out k a) - (among s Plus i xs k a + among s Plus i h.out k a)) sent_inbox
      (antimessages_there s to law i h.out h.copies.of_receiver passed.sent arrived passed.has_come sent_apart k a)

  copies_here : (k : ℕ) (a : Named) → among s Plus i arrived.copies k a ≡ among s Plus i arrived.inbox k a
  copies_here = copied_there s to law i h.out h.copies.of_receiver passed.sent arrived passed.has_come
      (λ k a. ap (λ xs. among s Plus i xs k a) sent_copies ∙ was_is.copied k a ∙ sym (ap (λ xs. among s Plus i xs k a) sent_inbox)) (holds.of_receiver i)

  -- where there is no stub now there was none
  none_was : (j : ℕ) → slice_get stubs j ≡ None → slice_get e.stubs j ≡ None
  none_was j q = let past = slice_get_none stubs j q in let many = passed.many in slice_get_past e.stubs j (omega (arith, past, many))

  none_out : (sign : Sign) (j : ℕ) → slice_get stubs j ≡ None → in_flight sign j h.out ≡ []
  none_out sign j q = let past = slice_get_none stubs j q in let many = passed.many in let all = is.many in holds.inside sign j (omega (arith, past, many, all))

  inbox_else : (j : ℕ) → (j ≡ i → ⊥) → inbox_at j ≡ inbox_of (slice_get stubs j)
  inbox_else j ne = rw (ne_eqb j i ne) refl

  messages : (j k : ℕ) (a : Named)
      → times m (in_flight Plus j (inbox_at j)) k a ≡ (times m (stub_or_start m j (slice_get e.stubs j)).plus k a + times m (in_flight Plus j h.out) k a) - (times m (stub_or_start m j (slice_get e.stubs j)).minus k a + times m (in_flight Minus j h.out) k a)
  messages j k a = go (cases_eq j i)
    where
      After : ℕ → StubSeen Named → ℕ
      After n st = (times m st.plus k a + times m (in_flight Plus n h.out) k a) - (times m st.minus k a + times m (in_flight Minus n h.out) k a)

      own : times m (in_flight Plus i (inbox_at i)) k a ≡ After i (stub_or_start m i (slice_get e.stubs i))
      own = ap (λ xs. times m (in_flight Plus i xs) k a) inbox_here ∙ messages_here k a ∙ ap (After i) (sym stub_was)

      other : (j ≡ i → ⊥) → (n : Option Stub) → slice_get stubs j ≡ n → times m (in_flight Plus j (inbox_of n)) k a ≡ After j (stub_or_start m j (slice_get e.stubs j))
      other ne None q =
          let nobody = ap (stub_or_start m j) (none_was j q) in
          let p : times m (stub_or_start m j (slice_get e.stubs j)).plus k a ≡ 0 = ap (λ (st : StubSeen Named). times m st.plus k a) nobody in
          let o : times m (in_flight Plus j h.out) k a ≡ 0 = ap (λ l. times m l k a) (none_out Plus j q) in
          omega (arith, p, o)
      other ne (Some x) q =
          let r = passed.others j x ne q in
          messages_there s to law j h.out h.copies.of_receiver r.was x r.come (is.stubs j r.was r.there).apart k a ∙ ap (After j) (sym (ap (stub_or_start m j) r.there))

      go : (j ≡ i) ⊎ (j ≡ i → ⊥) → times m (in_flight Plus j (inbox_at j)) k a ≡ After j (stub_or_start m j (slice_get e.stubs j))
      go (inl q) = subst (λ n. times m (in_flight Plus n (inbox_at n)) k a ≡ After n (stub_or_start m n (slice_get e.stubs n))) (sym q) own
      go (inr ne) = ap (λ xs. times m (in_flight Plus j xs) k a) (inbox_else j ne) ∙ other ne (slice_get stubs j) refl

  antimessages : (j k : ℕ) (a : Named)
      → times m (in_flight Minus j (inbox_at j)) k a ≡ (times m (stub_or_start m j (slice_get e.stubs j)).minus k a + times m (in_flight Minus j h.out) k a) - (times m (stub_or_start m j (slice_get e.stubs j)).plus k a + times m (in_flight Plus j h.out) k a)
  antimessages j k a = go (cases_eq j i)
    where
      After : ℕ → StubSeen Named → ℕ
      After n st = (times m st.minus k a + times m (in_flight Minus n h.out) k a) - (times m st.plus k a + times m (in_flight Plus n h.out) k a)

      own : times m (in_flight Minus i (inbox_at i)) k a ≡ After i (stub_or_start m i (slice_get e.stubs i))
      own = ap (λ xs. times m (in_flight Minus i xs) k a) inbox_here ∙ antimessages_here k a ∙ ap (After i) (sym stub_was)

      other : (j ≡ i → ⊥) → (n : Option Stub) → slice_get stubs j ≡ n → times m (in_flight Minus j (inbox_of n)) k a ≡ After j (stub_or_start m j (slice_get e.stubs j))
      other ne None q =
          let nobody = ap (stub_or_start m j) (none_was j q) in
          let p : times m (stub_or_start m j (slice_get e.stubs j)).minus k a ≡ 0 = ap (λ (st : StubSeen Named). times m st.minus k a) nobody in
          let o : times m (in_flight Minus j h.out) k a ≡ 0 = ap (λ l. times m l k a) (none_out Minus j q) in
          omega (arith, p, o)
      other ne (Some x) q =
          let r = passed.others j x ne q in
          antimessages_there s to law j h.out h.copies.of_receiver r.was x r.come (is.stubs j r.was r.there).apart k a ∙ ap (After j) (sym (ap (stub_or_start m j) r.there))

      go : (j ≡ i) ⊎ (j ≡ i → ⊥) → times m (in_flight Minus j (inbox_at j)) k a ≡ After j (stub_or_start m j (slice_get e.stubs j))
      go (inl q) = subst (λ n. times m (in_flight Minus n (inbox_at n)) k a ≡ After n (stub_or_start m n (slice_get e.stubs n))) (sym q) own
      go (inr ne) = ap (λ xs. times m (in_flight Minus j xs) k a) (inbox_else j ne) ∙ other ne (slice_get stubs j) refl

  -- the stubs of the others
  others : (j : ℕ) → (j ≡ i → ⊥) → stub_or_start m j (slice_get stubs j)
      ≡ record {
        base = (stub_or_start m j (slice_get e.stubs j)).base;
        floor = (stub_or_start m j (slice_get e.stubs j)).floor;
        taken = (stub_or_start m j (slice_get e.stubs j)).taken;
        standing = (stub_or_start m j (slice_get e.stubs j)).standing;
        plus = in_flight Plus j (inbox_at j);
        minus = in_flight Minus j (inbox_at j);
      }
  others j ne = go (slice_get stubs j) refl ∙ ap (λ xs. with_inbox (stub_or_start m j (slice_get e.stubs j)) xs) (sym (inbox_else j ne))
    where
      with_inbox : StubSeen Named → List Signed → StubSeen Named
      with_inbox st xs = record { base = st.base; floor = st.floor; taken = st.taken; standing = st.standing; plus = in_flight Plus j xs; minus = in_flight Minus j xs }

      go : (n : Option Stub) → slice_get stubs j ≡ n → stub_or_start m j n ≡ with_inbox (stub_or_start m j (slice_get e.stubs j)) (inbox_of n)
      go None q = ap (λ o. with_inbox (stub_or_start m j o) []) (sym (none_was j q))
      go (Some x) q =
          let r = passed.others j x ne q in
          ap (λ (y : Stub). with_inbox (stub_of m j y) x.inbox) (rest_there s to law j h.out h.copies.of_receiver r.was x r.come) ∙ ap (λ o. with_inbox (stub_or_start m j o) x.inbox) (sym r.there)

  handed_taken : (k : ℕ) (a : Named) → among s Plus i passed.handed.taken k a ≡ (among s Plus i was.taken k a + times m (in_flight Plus i (inbox_at i)) k a) - times m (in_flight Minus i (inbox_at i)) k a
  handed_taken k a =
      let t = passed.is_handed.taken s i k a in
      let c = copies_here k a in
      let p : times m (in_flight Plus i (inbox_at i)) k a ≡ among s Plus i arrived.inbox k a = ap (λ xs. times m (in_flight Plus i xs) k a) inbox_here in
      let n : times m (in_flight Minus i (inbox_at i)) k a ≡ among s Minus i arrived.inbox k a = ap (λ xs. times m (in_flight Minus i xs) k a) inbox_here in
      let w : among s Plus i arrived.taken k a ≡ among s Plus i was.taken k a = ap (λ (x : Stub). among s Plus i x.taken k a) arrived_rest ∙ ap (λ (x : Stub). among s Plus i x.taken k a) passed.is_sent.rest in
      omega (arith, t, c, p, n, w)

  taken : (k : ℕ) (a : Named) → (stub_or_start m i (slice_get stubs i)).taken k a
      ≡ cond (nat_lt k g) 0 (((stub_or_start m i (slice_get e.stubs i)).taken k a + times m (in_flight Plus i (inbox_at i)) k a) - times m (in_flight Minus i (inbox_at i)) k a)
  taken k a =
      ap (λ (st : StubSeen Named). st.taken k a) stub_now ∙ passed.is_kept.taken s i k a ∙ ap (cond (nat_lt k g) 0) (handed_taken k a)
      ∙ ap (λ (st : StubSeen Named). cond (nat_lt k g) 0 ((st.taken k a + times m (in_flight Plus i (inbox_at i)) k a) - times m (in_flight Minus i (inbox_at i)) k a)) (sym stub_was)

  handed_standing : (k : ℕ) (a : Named) (j : ℕ) → among s Plus j passed.handed.standing k a ≡ (among s Plus j was.standing k a + among s Plus j h.out k a) - among s Minus j h.out k a
  handed_standing k a j =
      let t = passed.is_sent.standing s j k a in
      let c : among s Plus j h.copies.of_sender k a ≡ among s Plus j h.out k a = ap (λ l. times m l k a) (holds.of_sender j) in
      let w : among s Plus j passed.handed.standing k a ≡ among s Plus j passed.sent.standing k a = ap (λ (x : Stub). among s Plus j x.standing k a) passed.is_handed.rest ∙ ap (λ (x : Stub). among s Plus j x.standing k a) arrived_rest in
      omega (arith, t, c, w)

  standing : (k : ℕ) (a : Named) (j : ℕ) → (stub_or_start m i (slice_get stubs i)).standing k a j
      ≡ cond (nat_lt k g) 0 (((stub_or_start m i (slice_get e.stubs i)).standing k a j + times m (in_flight Plus j h.out) k a) - times m (in_flight Minus j h.out) k a)
  standing k a j =
      ap (λ (st : StubSeen Named). st.standing k a j) stub_now ∙ passed.is_kept.standing s j k a ∙ ap (cond (nat_lt k g) 0) (handed_standing k a j)
      ∙ ap (λ (st : StubSeen Named). cond (nat_lt k g) 0 ((st.standing k a j + times m (in_flight Plus j h.out) k a) - times m (in_flight Minus j h.out) k a)) (sym stub_was)

  kept_inbox : passed.kept.inbox ≡ []
  kept_inbox = ap (λ (x : Stub). x.inbox) passed.is_kept.rest ∙ ap (λ (x : Stub). x.inbox) passed.is_handed.rest

  kept_base : rank_of_bound passed.kept.base ≡ g
  kept_base = ap (λ (x : Stub). rank_of_bound x.base) passed.is_kept.rest

  module _ (history : Record (List Datum) Named) (held : List (List Turned)) (turns : List Turned) (appended : AppendedLaw) where
    abbrev pub after : ExchangeView P
    after = record e { stubs = stubs; held = held }

    abbrev pub settled : LeaseView Q
    settled = record h { component = record h.component { base = e.bound; history = history }; tray = tray; out = []; copies = record { of_sender = []; of_receiver = [] }; floor = floor }

    pub moved : history ≡ cut_of m i g h.component.history → IsFloor m i (rank_of_bound floor) (part_of i history tray) → Falls (put_all held)
        → ((k : ℕ) → outcome_at k (put_all held) ≡ option_or (outcome_at k (turns_among (below g h.component.history.done))) (outcome_at k (put_all e.held)))
        → IsMoved m i (exchange_of m e) (lease_of h) (exchange_of m after) (lease_of settled)
    moved cut lowest falls outcomes =
        record {
          p = λ j. in_flight Plus j (inbox_at j);
          m = λ j. in_flight Minus j (inbox_at j);
          messages = messages;
          antimessages = antimessages;
          others = others;
          stub_base = ap (λ (st : StubSeen Named). st.base) stub_now ∙ kept_base;
          stub_floor = ap (λ (st : StubSeen Named). st.floor) stub_now;
          taken = taken;
          standing = standing;
          inbox_plus = ap (λ (st : StubSeen Named). st.plus) stub_now ∙ ap (in_flight Plus i) kept_inbox;
          inbox_minus = ap (λ (st : StubSeen Named). st.minus) stub_now ∙ ap (in_flight Minus i) kept_inbox;
          bound = refl;
          given = refl;
          base = refl;
          first = ap (λ (r : Record (List Datum) Named). r.first) cut;
          state = ap (λ (r : Record (List Datum) Named). r.base) cut;
          done = ap (λ (r : Record (List Datum) Named). r.done) cut;
          pending = ap (λ (r : Record (List Datum) Named). r.pending) cut;
          owed = ap (λ (r : Record (List Datum) Named). r.owed) cut;
          tray_plus = λ k a. in_tray Plus k a;
          tray_minus = λ k a. in_tray Minus k a;
          out_plus = λ j. refl;
          out_minus = λ j. refl;
          floor = lowest;
          falls = falls;
          turns = outcomes;
        }
      where
        in_tray : (sign : Sign) (k : ℕ) (a : Named) → times m (in_flight sign i tray) k a ≡ times m (in_flight sign i h.tray) k a + times m (in_flight sign i (inbox_at i)) k a
        in_tray sign k a =
            let t : times m (in_flight sign i tray) k a ≡ times m (in_flight sign i (insert_all arrived.inbox h.tray)) k a = ap (λ xs. times m (in_flight sign i xs) k a) passed.in_tray in
            let b = appended s sign i k a arrived.inbox h.tray in
            let x : times m (in_flight sign i (inbox_at i)) k a ≡ times m (in_flight sign i arrived.inbox) k a = ap (λ xs. times m (in_flight sign i xs) k a) inbox_here in
            omega (arith, t, b, x)

    -- beyond the components nobody has anything in an inbox or from the lease
    pub quiet : (j : ℕ) → length s.composition ≤ j → (stub_or_start m j (slice_get e.stubs j)).plus ≡ []
    quiet j past = let many = is.many in ap (λ o. (stub_or_start m j o).plus) (slice_get_past e.stubs j (omega (arith, past, many)))

    -- the exchange by its type
    pub shared_kept : IsSound m (length s.composition) (exchange_of m after) → length held ≡ length e.held → AreInOrder held → AreOwned 0 held → IsValidExchange s after
    shared_kept sound lists order owners = record { sound = sound; many = passed.many ∙ is.many; lists = lists ∙ is.lists; order = order; owners = owners; stubs = λ j stub q. each j stub q (cases_eq j i) }
      where
        own : IsStub s g i (record passed.kept { floor = floor })
        own = record {
          inbox = subst (To i) (sym kept_inbox) tt;
          order = subst IsInOrder (sym kept_inbox) (record { sorted = tt; fits = tt });
          apart = λ k a. inl (ap (λ xs. times m (in_flight Plus i xs) k a) kept_inbox);
          copied = λ k a. ap (λ xs. times m (in_flight Plus i xs) k a) (kept_copies ∙ sym kept_inbox);
          passed = same_passed ∙ was_is.passed;
          ahead = same_ahead ∙ was_is.ahead ∙ ap (key_of s i) (sym same_passed);
          small = subst (λ o. IfSome o (λ key. key.number < 4294967296)) (sym same_ahead) was_is.small;
          few = subst (λ n. n ≤ 4294967296) (sym same_passed) was_is.few;
        } where
          kept_copies : passed.kept.copies ≡ []
          kept_copies = ap (λ (x : Stub). x.copies) passed.is_kept.rest ∙ ap (λ (x : Stub). x.copies) passed.is_handed.rest

          same_passed : passed.kept.passed ≡ was.passed
          same_passed = ap (λ (x : Stub). x.passed) passed.is_kept.rest ∙ ap (λ (x : Stub). x.passed) passed.is_handed.rest ∙ ap (λ (x : Stub). x.passed) arrived_rest ∙ ap (λ (x : Stub). x.passed) passed.is_sent.rest

          same_ahead : passed.kept.ahead ≡ was.ahead
          same_ahead = ap (λ (x : Stub). x.ahead) passed.is_kept.rest ∙ ap (λ (x : Stub). x.ahead) passed.is_handed.rest ∙ ap (λ (x : Stub). x.ahead) arrived_rest ∙ ap (λ (x : Stub). x.ahead) passed.is_sent.rest

        each : (j : ℕ) (stub : Stub) → slice_get stubs j ≡ Some stub → (j ≡ i) ⊎ (j ≡ i → ⊥) → IsStub s g j stub
        each j stub q (inl same) =
            let both : Some stub ≡ Some (record passed.kept { floor = floor }) = sym q ∙ ap (slice_get stubs) same ∙ passed.here in
            let one : record passed.kept { floor = floor } ≡ stub = cc in
            subst (λ n. IsStub s g n stub) (sym same) (subst (IsStub s g i) one own)
        each j stub q (inr ne) =
            let r = passed.others j stub ne q in
            let old = is.stubs j r.was r.there in
            let rest = rest_there s to law j h.out h.copies.of_receiver r.was stub r.come in
            let same_passed : stub.passed ≡ r.was.passed = ap (λ (x : Stub). x.passed) rest in
            let same_ahead : stub.ahead ≡ r.was.ahead = ap (λ (x : Stub). x.ahead) rest in
            record {
              inbox = still_to s to law j h.out h.copies.of_receiver r.was stub r.come old.inbox;
              order = order_there s to law j h.out h.copies.of_receiver r.was stub r.come old.order;
              apart = apart_there s to law j h.out h.copies.of_receiver r.was stub r.come old.apart;
              copied = copied_there s to law j h.out h.copies.of_receiver r.was stub r.come old.copied (holds.of_receiver j);
              passed = same_passed ∙ old.passed;
              ahead = same_ahead ∙ old.ahead ∙ ap (key_of s j) (sym same_passed);
              small = subst (λ o. IfSome o (λ key. key.number < 4294967296)) (sym same_ahead) old.small;
              few = subst (λ n. n ≤ 4294967296) (sym same_passed) old.few;
            }

    -- the lease by its type
    pub holding_kept : IsLease m i (lease_of settled) → Matches m i (stub_or_start m i (slice_get stubs i)) (lease_of settled) → To i tray → IsValidLease m (length s.composition) settled
    holding_kept lease match arrived_all =
        record { lease = lease; stub = stub_or_start m i (slice_get stubs i); match = match; arrived = arrived_all; of_sender = λ j. refl; of_receiver = λ j. refl; inside = λ sign j past. refl }

    -- an accepted meeting
    pub record IsAccepted : Type 0 where
      pub met : Met m i (exchange_of m e) (lease_of h) (exchange_of m after) (lease_of settled)
      pub shared : IsValidExchange s after
      pub holding : IsValidLease m (length s.composition) settled

    abbrev taken_in : List (Turn Named)
    taken_in = turns_among (below g h.component.history.done)

    pub accepted : Matches m i (stub_or_start m i (slice_get e.stubs i)) (lease_of h) → MetLaw m → SoundLaw m → FallsLaw m → ApartLaw m → MergedFalls → MergedOutcomes
        → history ≡ cut_of m i g h.component.history → IsFloor m i (rank_of_bound floor) (part_of i history tray) → turns_of turns ≡ taken_in → HasPut i turns e.held held → To i tray → IsAccepted
    accepted match met_law sound_law falls_law apart_law merged_falls merged_outcomes cut lowest turns_are is_put arrived_all =
        let n = length s.composition in
        let x = exchange_of m e in
        let l = lease_of h in
        let falls = falls_law n i x l law is.sound holds.lease match in
        let apart = apart_law n i x l law is.sound holds.lease match in
        let held_falls = is.sound.held.1.falls in
        let merged : Falls (put_turns (turns_of turns) (put_all e.held)) = subst (λ ts. Falls (put_turns ts (put_all e.held))) (sym turns_are) (merged_falls taken_in (put_all e.held) falls held_falls apart) in
        let put = put_at e.held i is_put.before is_put.after (turns_of turns) is_put.there is_put.put merged in
        let both : put_all held ≡ put_turns taken_in (put_all e.held) = ap put_all is_put.all ∙ put ∙ ap (λ ts. put_turns ts (put_all e.held)) turns_are in
        let order : AreInOrder held = subst AreInOrder (sym is_put.all) (order_at e.held i is_put.before is_put.after (turns_of turns) is_put.there is_put.put merged is.order) in
        let own : Each (IsOf i) (turns_of turns) = subst (Each (IsOf i)) (sym turns_are) (done_own m law i g (rank_of_bound h.component.base) h.component.history.first h.component.history.base h.component.history.done holds.lease.proper.done) in
        let owners : AreOwned 0 held = subst (AreOwned 0) (sym is_put.all) (owned_at e.held i is_put.before is_put.after (turns_of turns) is_put.there is_put.put own is.owners) in
        let lists : length held ≡ length e.held = ap length is_put.all ∙ length_set e.held i is_put.after in
        let all = moved cut lowest (subst Falls (sym both) (merged_falls taken_in (put_all e.held) falls held_falls apart))
        (λ k. ap (outcome_at k) both ∙ merged_outcomes taken_in (put_all e.held) falls held_falls apart k) in
        let met = met_law n i x (exchange_of m after) l (lease_of settled) law is.sound holds.lease match quiet (holds.inside Plus) all in
        let sound = sound_law n i x (exchange_of m after) l (lease_of settled) law is.sound holds.lease match met in
        record { met = met; shared = shared_kept sound.0 lists order owners; holding = holding_kept sound.1 met.matches arrived_all }
