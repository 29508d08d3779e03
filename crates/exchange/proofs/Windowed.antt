-- A window holds from the start, and whatever is called keeps it.
use Rattle.std.proofs.Common.{◌≡◌, ℕ, zero, suc, ◌+◌, ◌-◌, ◌*◌, ◌<◌, ◌≤◌, ◌==◌, ◌⊎◌, inl, inr, cond, true, Option, None, Some, List, [], ◌∷◌, All, map, length, refl, ap, sym, subst, ◌∙◌, arith}
use Rattle.std.specs.Prelude.{IfSome, OnErr, OnOk, Result, Ok, Err}
use Rattle.std.specs.List.{range_with_len}
use Rattle.std.proofs.lemmas.Bool.{eq-eqb, ne_eqb, cases_eq, ltb-true}
use Rattle.std.proofs.lemmas.List.Elements.{All-cons, All-nil}
use Rattle.terms.specs.Datum.{Datum}
use Rattle.terms.specs.Named.{Named}
use Rattle.event_keys.specs.declared.message.Sign.{Sign}
use Rattle.event_keys.specs.declared.message.Sign.TheVariants.{Plus, Minus}
use Rattle.event_keys.specs.declared.message.Signed.{Signed}
use Rattle.virtual_time.specs.Machine.{Lawful, Machine}
use Rattle.virtual_time.specs.Bags.{times}
use Rattle.virtual_time.specs.Entries.{Entry, Input, Item, Own}
use Rattle.virtual_time.specs.Records.{Record, after_entry, antimessage_comes, message_comes, next_of}
use Rattle.virtual_time.specs.Reference.{Turn}
use Rattle.virtual_time.specs.Worlds.{record_of}
use Rattle.virtual_time.specs.Exchange.Leases.{IsLease, Lease, Matches, start_lease}
use Rattle.virtual_time.specs.Exchange.Meetings.{IsChunk, IsCommit, Met}
use Rattle.virtual_time.specs.Exchange.Stubs.{Exchange, IsSound, Stub, start_exchange}
use Rattle.virtual_time.specs.Exchange.Windows.{HasRoom, IsExchangeWithin, IsStubWithin, IsWithin, inboxes, own_turns}
use Rattle.plans.specs.Plans.{composition}
use Rattle.task_seed.specs.declared.setup.Setup.{Setup}
use Rattle.task_seed.specs.declared.turns.Turn.{Turn as TurnValue}
use Rattle.task_seed.specs.Setups.{plan_of}
use Rattle.rollback.specs.Flight.{in_flight, item_of}
use Rattle.rollback.specs.ComponentView.{comes, processed}
use Rattle.rollback.specs.Room.{has_room}
use Rattle.exchange.specs.declared.window.Window.{Window}
use Rattle.exchange.specs.Core.{StaysKnown}
use Rattle.exchange.specs.LeaseView.{AllDelivered, IsAhead, LeaseView, lease_of, lets_through}
use Rattle.exchange.specs.ExchangeView.{ExchangeView, exchange_of}
use Rattle.exchange.specs.Seen.{StaysInWindow}
use Rattle.exchange.specs.Start.{start_within}
use Rattle.exchange.specs.Windows.{HasFewWaiting, HasWindow, IsInWindow, IsLeaseWithin, KeepsToWindow, KeepsWindow}

module _ {P : Type 0} where
  pub keeps_same : (h : LeaseView P) → KeepsWindow h h
  keeps_same h = record { keeps = λ count in_it. in_it }

  pub keeps_both : (a b c : LeaseView P) → KeepsWindow a b → KeepsWindow b c → KeepsWindow a c
  keeps_both a b c one two = record { keeps = λ count in_it. two.keeps count (one.keeps count in_it) }

  -- it stays of its setup
  pub setup_ahead : (m : Machine (List Datum) Named) (old new : LeaseView P) (n : ℕ) → IsAhead m old new n → old.component.setup ≡ new.component.setup
  setup_ahead m old new n ahead = sym (ap (λ (h : LeaseView P). h.component.setup) ahead.rest)

  -- what is the same keeps it
  pub keeps_equal : (a b : LeaseView P) → b ≡ a → KeepsWindow a b
  keeps_equal a b e = subst (λ x. KeepsWindow a x) (sym e) (keeps_same a)

-- what the theory says of each call
module _ (m : Machine (List Datum) Named) where
  abbrev pub StartLaw : Type 0
  StartLaw = (window count : ℕ) → Lawful m → IsExchangeWithin m window count (start_exchange m) × ((i : ℕ) → IsWithin window count (record_of (start_lease m i).part))

  abbrev pub CommitLaw : Type 0
  CommitLaw = (window count : ℕ) (exchange new_exchange : Exchange Named) → IsExchangeWithin m window count exchange → IsCommit m exchange new_exchange → IsExchangeWithin m window count new_exchange

  abbrev pub ChunkLaw : Type 0
  ChunkLaw =
      (window count b : ℕ) (exchange new_exchange : Exchange Named) (turns : List (Turn Named)) → IsExchangeWithin m window count exchange → IsChunk m count exchange b new_exchange turns → IsExchangeWithin m window count new_exchange

  abbrev pub MeetLaw : Type 0
  MeetLaw =
      (window count i : ℕ) (exchange new_exchange : Exchange Named) (lease new_lease : Lease (List Datum) Named) → Lawful m → IsSound m count exchange → IsLease m i lease → Matches m i (exchange.stub i) lease
      → Met m i exchange lease new_exchange new_lease → i < count → IsExchangeWithin m window count exchange → IsWithin window count (record_of lease.part) → IsExchangeWithin m window count new_exchange × IsWithin window count (record_of new_lease.part)

  abbrev pub ProcessLaw : Type 0
  ProcessLaw =
      (window count i : ℕ) (entry : Entry Named) (own_record : Record (List Datum) Named) → Lawful m → next_of m i own_record ≡ Some entry → HasRoom window own_record entry → IsWithin window count own_record → IsWithin window count (after_entry entry own_record)

  abbrev pub MessageLaw : Type 0
  MessageLaw = (message : Item Named) (own_record : Record (List Datum) Named) → Lawful m → own_turns (message_comes m message own_record).done ≤ own_turns own_record.done

  abbrev pub AntimessageLaw : Type 0
  AntimessageLaw = (message : Item Named) (own_record : Record (List Datum) Named) → Lawful m → own_turns (antimessage_comes m message own_record).done ≤ own_turns own_record.done

  abbrev pub SettledLaw : Type 0
  SettledLaw =
      (window count i : ℕ) (exchange : Exchange Named) (lease : Lease (List Datum) Named) → Lawful m → IsExchangeWithin m window count exchange → IsLease m i lease → Matches m i (exchange.stub i) lease → lease.part.plus ≡ [] → lease.part.minus ≡ []
      → own_turns lease.part.done ≤ window → IsWithin window count (record_of lease.part)

  abbrev pub InboxesLaw : Type 0
  InboxesLaw = (window count : ℕ) (exchange : Exchange Named) → Lawful m → IsSound m count exchange → IsExchangeWithin m window count exchange → inboxes exchange count ≤ 2 * (window * (count - 1)) * count

-- what matches a stub goes on doing so where it stays known
still_matches : (m : Machine (List Datum) Named) (i : ℕ) (st : Stub Named) (l l' : Lease (List Datum) Named) → StaysKnown m i l l' → Matches m i st l → Matches m i st l'
still_matches m i st l l' known match = known (record { stub = λ j. st; bound = 0; held = []; given = 0 }) match

module _ (m : Machine (List Datum) Named) {P : Type 0} where
  -- a lease that ran ahead keeps to its window
  pub ahead_within : (count n : ℕ) (old new : LeaseView P) → IsAhead m old new n → StaysKnown m old.component.number (lease_of old) (lease_of new) → KeepsWindow old new → KeepsToWindow m count old → KeepsToWindow m count new
  ahead_within count n old new ahead known keeps was = subst (λ w. IfSome w (IsLeaseWithin m count new)) (sym same) (go old.window refl was)
    where
      same : new.window ≡ old.window
      same = ap (λ (h : LeaseView P). h.window) ahead.rest

      number : new.component.number ≡ old.component.number
      number = ap (λ (h : LeaseView P). h.component.number) ahead.rest

      go : (w : Option Window) → old.window ≡ w → IfSome w (IsLeaseWithin m count old) → IfSome w (IsLeaseWithin m count new)
      go None is w = tt
      go (Some window) is w =
          let there : IfSome old.window (λ x. IsWithin x.turns count old.component.history) = subst (λ o. IfSome o (λ (x : Window). IsWithin x.turns count old.component.history)) (sym is) w.here in
          record {
            here = subst (λ o. IfSome o (λ (x : Window). IsWithin x.turns count new.component.history)) (same ∙ is) (keeps.keeps count there);
            stub = w.stub;
            match = subst (λ i. Matches m i w.stub (lease_of new)) (sym number) (still_matches m old.component.number w.stub (lease_of old) (lease_of new) known w.match);
            within = subst (λ i. IsStubWithin m window.turns count i w.stub) (sym number) w.within;
          }

module _ (m : Machine (List Datum) Named) (law : Lawful m) where
  -- where there is room for an entry, the theory says so too
  room : (window : ℕ) (r : Record (List Datum) Named) (entry : Entry Named) → has_room window r.done (Some entry) ≡ true → HasRoom window r entry
  room window r (Own k o) h = ltb-true (own_turns r.done) window h
  room window r (Input x) h = tt

  -- an entry is done for which there is room
  within_next : ProcessLaw m → (window count i : ℕ) (r : Record (List Datum) Named) (next : Option (Entry Named)) → next_of m i r ≡ next → has_room window r.done next ≡ true → IsWithin window count r → IsWithin window count (processed next r)
  within_next process_law window count i r None is has within = within
  within_next process_law window count i r (Some entry) is has within = process_law window count i entry r law is (room window r entry has) within

  -- no delivery adds an own turn
  come_turns : MessageLaw m → AntimessageLaw m → (sign : Sign) (x : Item Named) (r : Record (List Datum) Named) → own_turns (comes m sign x r).done ≤ own_turns r.done
  come_turns message_law antimessage_law Plus x r = message_law x r law
  come_turns message_law antimessage_law Minus x r = antimessage_law x r law

  -- an exchange whose stub of component i this is, and whose others are as at the start
  abbrev only : ℕ → Stub Named → Exchange Named
  only i st =
      record {
        stub = λ j. cond (j == i) (record { base = st.base; floor = st.floor; taken = st.taken; standing = st.standing; plus = []; minus = [] }) ((start_exchange m).stub j);
        bound = 0;
        held = [];
        given = 0;
      }

  only_within : StartLaw m → (window count i : ℕ) (st : Stub Named) → IsStubWithin m window count i st → IsExchangeWithin m window count (only i st)
  only_within start_law window count i st within = record { stubs = λ j. stubs j (cases_eq j i); apart = λ j k a. apart j k a (cases_eq j i) }
    where
      start : IsExchangeWithin m window count (start_exchange m)
      start = (start_law window count law).0

      own : IsStubWithin m window count i (record { base = st.base; floor = st.floor; taken = st.taken; standing = st.standing; plus = []; minus = [] })
      own = record { sent = within.sent; turns = within.turns; standing = within.standing; silent = within.silent; took = within.took; few = within.few; taken = within.taken }

      stubs : (j : ℕ) → (j ≡ i) ⊎ (j ≡ i → ⊥) → IsStubWithin m window count j ((only i st).stub j)
      stubs j (inl e) = rw (eq-eqb j i e) (subst (λ n. IsStubWithin m window count n (record { base = st.base; floor = st.floor; taken = st.taken; standing = st.standing; plus = []; minus = [] })) (sym e) own)
      stubs j (inr ne) = rw (ne_eqb j i ne) (start.stubs j)

      apart : (j k : ℕ) (a : Named) → (j ≡ i) ⊎ (j ≡ i → ⊥) → (times m ((only i st).stub j).plus k a ≡ 0) ⊎ (times m ((only i st).stub j).minus k a ≡ 0)
      apart j k a (inl e) = rw (eq-eqb j i e) (inl refl)
      apart j k a (inr ne) = rw (ne_eqb j i ne) (start.apart j k a)

  only_matches : (i : ℕ) (st : Stub Named) (l : Lease (List Datum) Named) → Matches m i st l → Matches m i ((only i st).stub i) l
  only_matches i st l match = rw (eq-eqb i i refl) (record { base = match.base; floor = match.floor; taken = match.taken; standing = match.standing })

  module _ {P : Type 0} where
    pub keeps_next : ProcessLaw m → (i : ℕ) (old new : LeaseView P) → lets_through old.window old.component.history.done (next_of m i old.component.history) ≡ true → new.window ≡ old.window
        → new.component.history ≡ processed (next_of m i old.component.history) old.component.history → KeepsWindow old new
    keeps_next process_law i old new has same done = record { keeps = λ count within. subst (λ w. IfSome w (λ window. IsWithin window.turns count new.component.history)) (sym same) (go count old.window has within) }
      where
        go : (count : ℕ) (w : Option Window) → lets_through w old.component.history.done (next_of m i old.component.history) ≡ true → IfSome w (λ window. IsWithin window.turns count old.component.history) → IfSome w (λ window. IsWithin window.turns count new.component.history)
        go count None room_there within = tt
        go count (Some window) room_there within =
            subst (IsWithin window.turns count) (sym done) (within_next process_law window.turns count i old.component.history (next_of m i old.component.history) refl room_there within)

    -- the same of a result, where a refusal changes nothing
    pub keeps_done : {K E : Type 0} → ProcessLaw m → (i : ℕ) (old new : LeaseView P) (result : Result K E) → lets_through old.window old.component.history.done (next_of m i old.component.history) ≡ true → new.window ≡ old.window
        → OnOk result (new.component.history ≡ processed (next_of m i old.component.history) old.component.history) → OnErr result (new ≡ old) → KeepsWindow old new
    keeps_done process_law i old new (Ok key) has same done kept = keeps_next process_law i old new has same done
    keeps_done process_law i old new (Err refused) has same done kept = keeps_equal old new kept

    -- nor do several
    all_turns : MessageLaw m → AntimessageLaw m → (ss : List Signed) (old new : LeaseView P) → AllDelivered m old ss new → own_turns new.component.history.done ≤ own_turns old.component.history.done
    all_turns message_law antimessage_law [] old new all = let same : own_turns new.component.history.done ≡ own_turns old.component.history.done = ap (λ (h : LeaseView P). own_turns h.component.history.done) all in omega (arith, same)
    all_turns message_law antimessage_law (s ∷ ss) old new all =
        let rest = all_turns message_law antimessage_law ss all.0 new all.2 in
        let one = come_turns message_law antimessage_law s.sign (item_of s) old.component.history in
        let is : own_turns all.0.component.history.done ≡ own_turns (comes m s.sign (item_of s) old.component.history).done = ap (λ (r : Record (List Datum) Named). own_turns r.done) all.1.history in
        omega (arith, rest, one, is)

    pub all_same : (ss : List Signed) (old new : LeaseView P) → AllDelivered m old ss new → (new.window ≡ old.window) × (new.component.number ≡ old.component.number) × (new.component.setup ≡ old.component.setup)
    all_same [] old new all = (ap (λ (h : LeaseView P). h.window) all, ap (λ (h : LeaseView P). h.component.number) all, ap (λ (h : LeaseView P). h.component.setup) all)
    all_same (s ∷ ss) old new all =
        let rest = all_same ss all.0 new all.2 in (
          rest.0 ∙ ap (λ (h : LeaseView P). h.window) all.1.rest,
          rest.1 ∙ ap (λ (h : LeaseView P). h.component.number) all.1.rest,
          rest.2 ∙ ap (λ (h : LeaseView P). h.component.setup) all.1.rest,
        )

    -- a lease that settled keeps to its window
    pub settled_within : StartLaw m → SettledLaw m → MessageLaw m → AntimessageLaw m → (count : ℕ) (old new : LeaseView P) → AllDelivered m old old.tray new → new.tray ≡ [] → IsLease m new.component.number (lease_of new)
        → StaysKnown m old.component.number (lease_of old) (lease_of new) → KeepsToWindow m count old → KeepsToWindow m count new
    settled_within start_law settled_law message_law antimessage_law count old new all empty lease known was = subst (λ w. IfSome w (IsLeaseWithin m count new)) (sym same.0) (go old.window was)
      where
        same : (new.window ≡ old.window) × (new.component.number ≡ old.component.number) × (new.component.setup ≡ old.component.setup)
        same = all_same old.tray old new all

        go : (w : Option Window) → IfSome w (IsLeaseWithin m count old) → IfSome w (IsLeaseWithin m count new)
        go None w = tt
        go (Some window) w =
            let i = new.component.number in
            let match : Matches m i w.stub (lease_of new) = subst (λ j. Matches m j w.stub (lease_of new)) (sym same.1) (still_matches m old.component.number w.stub (lease_of old) (lease_of new) known w.match) in
            let within : IsStubWithin m window.turns count i w.stub = subst (λ j. IsStubWithin m window.turns count j w.stub) (sym same.1) w.within in
            let few = w.here.turns in
            let fewer = all_turns message_law antimessage_law old.tray old new all in
            record {
              here = settled_law window.turns count i (only i w.stub) (lease_of new) law (only_within start_law window.turns count i w.stub within) lease (only_matches i w.stub (lease_of new) match) (ap (in_flight Plus i) empty) (ap (in_flight Minus i) empty) (omega (arith, few, fewer));
              stub = w.stub;
              match = match;
              within = within;
            }

    -- a commit, a chunk and a meeting keep the exchange to its window
    pub commit_within : CommitLaw m → (count : ℕ) (old new : ExchangeView P) → new.window ≡ old.window → IsCommit m (exchange_of m old) (exchange_of m new) → HasWindow m count old → HasWindow m count new
    commit_within commit_law count old new same commit was = subst (λ w. IfSome w (λ (x : Window). IsExchangeWithin m x.turns count (exchange_of m new))) (sym same) (go old.window was)
      where
        go : (w : Option Window) → IfSome w (λ x. IsExchangeWithin m x.turns count (exchange_of m old)) → IfSome w (λ x. IsExchangeWithin m x.turns count (exchange_of m new))
        go None w = tt
        go (Some window) w = commit_law window.turns count (exchange_of m old) (exchange_of m new) w commit

    pub chunk_within : ChunkLaw m → (count b : ℕ) (turns : List (Turn Named)) (old new : ExchangeView P) → new.window ≡ old.window → IsChunk m count (exchange_of m old) b (exchange_of m new) turns → HasWindow m count old → HasWindow m count new
    chunk_within chunk_law count b turns old new same chunk was = subst (λ w. IfSome w (λ (x : Window). IsExchangeWithin m x.turns count (exchange_of m new))) (sym same) (go old.window was)
      where
        go : (w : Option Window) → IfSome w (λ x. IsExchangeWithin m x.turns count (exchange_of m old)) → IfSome w (λ x. IsExchangeWithin m x.turns count (exchange_of m new))
        go None w = tt
        go (Some window) w = chunk_law window.turns count b (exchange_of m old) (exchange_of m new) turns w chunk

  module _ {P Q : Type 0} (meet_law : MeetLaw m) (count : ℕ) (e e' : ExchangeView P) (h h' : LeaseView Q) (sound : IsSound m count (exchange_of m e)) (lease : IsLease m h.component.number (lease_of h))
      (match : Matches m h.component.number ((exchange_of m e).stub h.component.number) (lease_of h)) (met : Met m h.component.number (exchange_of m e) (lease_of h) (exchange_of m e') (lease_of h')) (there : h.component.number < count) (same : e.window ≡ h.window) where
    both : (window : Window) → IsExchangeWithin m window.turns count (exchange_of m e) → IsWithin window.turns count h.component.history
        → IsExchangeWithin m window.turns count (exchange_of m e') × IsWithin window.turns count h'.component.history
    both window within mine = meet_law window.turns count h.component.number (exchange_of m e) (exchange_of m e') (lease_of h) (lease_of h') law sound lease match met there within mine

    pub met_within : e'.window ≡ e.window → HasWindow m count e → IsInWindow count h → HasWindow m count e'
    met_within stays was mine =
        subst (λ w. IfSome w (λ (x : Window). IsExchangeWithin m x.turns count (exchange_of m e'))) (sym stays) (go e.window was (subst (λ w. IfSome w (λ (x : Window). IsWithin x.turns count h.component.history)) (sym same) mine))
      where
        go : (w : Option Window) → IfSome w (λ x. IsExchangeWithin m x.turns count (exchange_of m e)) → IfSome w (λ x. IsWithin x.turns count h.component.history) → IfSome w (λ x. IsExchangeWithin m x.turns count (exchange_of m e'))
        go None w l = tt
        go (Some window) w l = (both window w l).0

    -- and the lease
    pub met_lease_within : h'.component.number ≡ h.component.number → h'.window ≡ h.window → HasWindow m count e → IsInWindow count h → KeepsToWindow m count h'
    met_lease_within number stays was mine =
        subst (λ w. IfSome w (IsLeaseWithin m count h')) (sym (stays ∙ sym same)) (go e.window was (subst (λ w. IfSome w (λ (x : Window). IsWithin x.turns count h.component.history)) (sym same) mine))
      where
        go : (w : Option Window) → IfSome w (λ x. IsExchangeWithin m x.turns count (exchange_of m e)) → IfSome w (λ x. IsWithin x.turns count h.component.history) → IfSome w (IsLeaseWithin m count h')
        go None w l = tt
        go (Some window) w l =
            let after = both window w l in
            let i = h.component.number in
            record {
              here = after.1;
              stub = (exchange_of m e').stub i;
              match = subst (λ j. Matches m j ((exchange_of m e').stub i) (lease_of h')) (sym number) met.matches;
              within = subst (λ j. IsStubWithin m window.turns count j ((exchange_of m e').stub i)) (sym number) (after.0.stubs i);
            }

  module _ {P : Type 0} (start_law : StartLaw m) (count : ℕ) where
    -- the start
    pub shared_within : (e : ExchangeView P) → exchange_of m e ≡ start_exchange m → HasWindow m count e
    shared_within e is = go e.window
      where
        go : (w : Option Window) → IfSome w (λ x. IsExchangeWithin m x.turns count (exchange_of m e))
        go None = tt
        go (Some window) = subst (IsExchangeWithin m window.turns count) (sym is) (start_law window.turns count law).0

    pub lease_within : (h : LeaseView P) (i : ℕ) → h.component.number ≡ i → lease_of h ≡ start_lease m i → Matches m i ((start_exchange m).stub i) (start_lease m i) → KeepsToWindow m count h
    lease_within h i number is match = go h.window
      where
        go : (w : Option Window) → IfSome w (IsLeaseWithin m count h)
        go None = tt
        go (Some window) =
            let start = start_law window.turns count law in
            record {
              here = subst (λ (l : Lease (List Datum) Named). IsWithin window.turns count (record_of l.part)) (sym is) (start.1 i);
              stub = (start_exchange m).stub i;
              match = subst (λ j. Matches m j ((start_exchange m).stub i) (lease_of h)) (sym number) (subst (λ l. Matches m i ((start_exchange m).stub i) l) (sym is) match);
              within = subst (λ j. IsStubWithin m window.turns count j ((start_exchange m).stub i)) (sym number) (start.0.stubs i);
            }

  -- what waits in all inboxes
  pub few_waiting : {P : Type 0} → InboxesLaw m → (count : ℕ) (e : ExchangeView P) → IsSound m count (exchange_of m e) → HasWindow m count e → HasFewWaiting m count e
  few_waiting inboxes_law count e sound was = go e.window was
    where
      go : (w : Option Window) → IfSome w (λ x. IsExchangeWithin m x.turns count (exchange_of m e)) → IfSome w (λ x. inboxes (exchange_of m e) count ≤ 2 * (x.turns * (count - 1)) * count)
      go None w = tt
      go (Some window) w = inboxes_law window.turns count (exchange_of m e) law sound w

-- a lease that keeps to its window is in it
pub few_done : {P : Type 0} (m : Machine (List Datum) Named) (count : ℕ) (h : LeaseView P) → KeepsToWindow m count h → IsInWindow count h
few_done m count h was = go h.window was
  where
    go : (w : Option Window) → IfSome w (IsLeaseWithin m count h) → IfSome w (λ x. IsWithin x.turns count h.component.history)
    go None w = tt
    go (Some window) w = w.here

-- all leases at the start are in it
module _ {T : Type 0} (turn_of : T → ℕ → ℕ → Option TurnValue) (setup : Setup T) (window : Option Window) where
  abbrev Stays : LeaseView (Setup T) → Type 0
  Stays h = StaysInWindow h

  pub started_within : (a n : ℕ) → All Stays (map (start_within turn_of setup window) (range_with_len a n))
  started_within a zero = All-nil Stays
  started_within a (suc n) = All-cons Stays (start_within turn_of setup window a) _ (first window) (started_within (a + 1) n)
    where
      first : (w : Option Window) → IfSome w (λ x. IsWithin x.turns (length (composition (plan_of setup))) (start_within turn_of setup window a).component.history)
      first None = tt
      first (Some x) =
          let none : 0 ≤ x.turns = omega arith in
          let few : 0 + 0 ≤ x.turns * (length (composition (plan_of setup)) - 1) = omega arith in
          record { turns = none; inputs = few }
