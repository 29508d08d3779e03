-- What a lease does by itself keeps what it has by its type.
use Rattle.std.proofs.Common.{◌≡◌, ℕ, ◌≤◌, ◌==◌, ◌⊎◌, inl, inr, cond, Option, None, Some, List, [], ◌∷◌, refl, ap, sym, subst, ◌∙◌}
use Rattle.std.proofs.lemmas.Bool.{eq-eqb, ne_eqb, cases_eq}
use Rattle.std.specs.Prelude.{IsSomeAnd}
use Rattle.terms.specs.Datum.{Datum}
use Rattle.terms.specs.Named.{Named}
use Rattle.event_keys.specs.declared.message.Sign.{Sign}
use Rattle.event_keys.specs.declared.message.Sign.TheVariants.{Plus, Minus}
use Rattle.event_keys.specs.declared.message.Signed.{Signed}
use Rattle.virtual_time.specs.Machine.{Machine, Lawful, HasCount}
use Rattle.virtual_time.specs.Entries.{Entry, Own, Input, Item}
use Rattle.virtual_time.specs.Records.{Record, after_entry, next_of, sent_by}
use Rattle.virtual_time.specs.Worlds.{World, Step, Process, process, put_back, record_of, same}
use Rattle.virtual_time.specs.Exchange.Stubs.{Stub, Exchange}
use Rattle.virtual_time.specs.Exchange.Leases.{Lease, IsLease, Matches, Does, alone, lease_after, lease_of as lease_in}
use Rattle.rollback.specs.declared.copied.Copies.{Copies}
use Rattle.rollback.specs.Flight.{in_flight}
use Rattle.rollback.specs.ComponentView.{processed, sent_next}
use Rattle.rollback.specs.Post.{IsPosted}
use Rattle.exchange.specs.LeaseView.{LeaseView, IsValidLease, lease_of}

module _ (m : Machine (List Datum) Named) (law : Lawful m) where
  -- a lease's own steps keep what it has and its match
  abbrev pub AloneLaw : Type 0
  AloneLaw =
      (i : ℕ) (exchange : Exchange Named) (lease : Lease (List Datum) Named) (steps : List (Step Named)) (next_world : World (List Datum) Named) → Lawful m → IsLease m i lease
      → Matches m i (exchange.stub i) lease → Does m i (alone m i lease) steps next_world → IsLease m i (lease_in i lease.floor next_world) × Matches m i (exchange.stub i) (lease_in i lease.floor next_world)

  -- a step of its own is that of its record
  abbrev pub ProcessLaw : Type 0
  ProcessLaw =
      (i : ℕ) (lease : Lease (List Datum) Named) (entry : Entry Named) → next_of m i (record_of lease.part) ≡ Some entry
      → lease_in i lease.floor (process m i (alone m i lease)) ≡ lease_after i lease (after_entry entry (record_of lease.part)) (sent_by m i entry) same

  -- a lease with another record and another flight, alone
  abbrev pub PutLaw : Type 0
  PutLaw =
      (i : ℕ) (lease : Lease (List Datum) Named) (own_record : Record (List Datum) Named) (plus minus : ℕ → List (Item Named) → List (Item Named))
      → alone m i (lease_after i lease own_record plus minus) ≡ put_back i own_record plus minus (alone m i lease)

  pub kept : AloneLaw → (i : ℕ) (st : Stub Named) (l l' : Lease (List Datum) Named) (steps : List (Step Named)) (w : World (List Datum) Named) → IsLease m i l → Matches m i st l
      → Does m i (alone m i l) steps w → lease_in i l.floor w ≡ l' → IsLease m i l' × Matches m i st l'
  kept alone_law i st l l' steps w is match does e =
      subst (λ x. IsLease m i x × Matches m i st x) e (alone_law i (record { stub = λ j. st; bound = 0; held = []; given = 0 }) l steps w law is match does)

  -- nobody sends to itself
  pub not_to_self : (i : ℕ) (e : Entry Named) (xs : List (Item Named)) → sent_by m i e i xs ≡ xs
  not_to_self i (Own k None) xs = refl
  not_to_self i (Own k (Some a)) xs = rw (law.others i a) refl
  not_to_self i (Input x) xs = refl

  module _ {P : Type 0} (count : ℕ) (counted : HasCount m count) (h : LeaseView P) where
    -- beyond the components nobody is sent anything
    not_beyond : (i j : ℕ) (e : Entry Named) → count ≤ j → sent_by m i e j [] ≡ []
    not_beyond i j (Own k None) past = refl
    not_beyond i j (Own k (Some a)) past = rw (counted.deaf i a j past) refl
    not_beyond i j (Input x) past = refl

    abbrev i : ℕ
    i = h.component.number

    abbrev r : Record (List Datum) Named
    r = h.component.history

    -- the holding with this record and these outgoing messages
    abbrev pub with : Record (List Datum) Named → List Signed → Copies → LeaseView P
    with q out copies = record h { component = record h.component { history = q }; out = out; copies = copies }

    module _ (is : IsValidLease m count h) (entry : Entry Named) (out : List Signed) (copies : Copies) (sent : IsPosted Plus (sent_by m i entry) h.out out)
        (sender : IsPosted Plus (sent_by m i entry) h.copies.of_sender copies.of_sender) (receiver : IsPosted Plus (sent_by m i entry) h.copies.of_receiver copies.of_receiver) where
      plus_to : (j : ℕ) → (j ≡ i) ⊎ (j ≡ i → ⊥) → cond (j == i) [] (sent_by m i entry j (in_flight Plus j h.out)) ≡ in_flight Plus j out
      plus_to j (inl e) =
          subst (λ n. cond (n == i) [] (sent_by m i entry n (in_flight Plus n h.out)) ≡ in_flight Plus n out) (sym e)
          (rw (eq-eqb i i refl) (sym (sent.there i ∙ not_to_self i entry (in_flight Plus i h.out) ∙ is.lease.self_plus)))
      plus_to j (inr ne) = rw (ne_eqb j i ne) (sym (sent.there j))

      minus_to : (j : ℕ) → (j ≡ i) ⊎ (j ≡ i → ⊥) → cond (j == i) [] (in_flight Minus j h.out) ≡ in_flight Minus j out
      minus_to j (inl e) =
          subst (λ n. cond (n == i) [] (in_flight Minus n h.out) ≡ in_flight Minus n out) (sym e) (rw (eq-eqb i i refl) (sym (sent.other i ∙ is.lease.self_minus)))
      minus_to j (inr ne) = rw (ne_eqb j i ne) (sym (sent.other j))

      processed_is : lease_after i (lease_of h) (after_entry entry r) (sent_by m i entry) same ≡ lease_of (with (after_entry entry r) out copies)
      processed_is =
          let q = after_entry entry r in
          λ v. record {
            base = (lease_of h).base;
            floor = (lease_of h).floor;
            part = record { base = q.base; first = q.first; done = q.done; pending = q.pending; owed = q.owed; plus = not_to_self i entry (in_flight Plus i h.tray) v; minus = in_flight Minus i h.tray };
            out_plus = λ j. plus_to j (cases_eq j i) v;
            out_minus = λ j. minus_to j (cases_eq j i) v;
          }

      -- an entry processed
      pub process_kept : AloneLaw → ProcessLaw → next_of m i r ≡ Some entry → IsValidLease m count (with (after_entry entry r) out copies)
      process_kept alone_law process_law next =
          let both = kept alone_law i is.stub (lease_of h) (lease_of (with (after_entry entry r) out copies)) (Process i ∷ []) (process m i (alone m i (lease_of h))) is.lease is.match (refl, refl) (process_law i (lease_of h) entry next ∙ processed_is) in
          record {
            lease = both.0;
            stub = is.stub;
            match = both.1;
            arrived = is.arrived;
            of_sender = λ j. sender.there j ∙ ap (sent_by m i entry j) (is.of_sender j) ∙ sym (sent.there j);
            of_receiver = λ j. receiver.there j ∙ ap (sent_by m i entry j) (is.of_receiver j) ∙ sym (sent.there j);
            inside = inside;
          }
        where
          inside : (sign : Sign) (j : ℕ) → count ≤ j → in_flight sign j out ≡ []
          inside Plus j past = sent.there j ∙ ap (sent_by m i entry j) (is.inside Plus j past) ∙ not_beyond i j entry past
          inside Minus j past = sent.other j ∙ is.inside Minus j past

    -- the next entry processed
    pub next_kept : IsValidLease m count h → AloneLaw → ProcessLaw → (P : Entry Named → Type 0) (o : Option (Entry Named)) → next_of m i r ≡ o → IsSomeAnd o P → (out : List Signed) (copies : Copies) → IsPosted Plus (sent_next m i o) h.out out
        → IsPosted Plus (sent_next m i o) h.copies.of_sender copies.of_sender → IsPosted Plus (sent_next m i o) h.copies.of_receiver copies.of_receiver → IsValidLease m count (with (processed o r) out copies)
    next_kept is alone_law process_law P None e none out copies sent sender receiver = absurd none
    next_kept is alone_law process_law P (Some entry) e some out copies sent sender receiver = process_kept is entry out copies sent sender receiver alone_law process_law e
