-- What a lease does alone: it processes, and what is in its tray comes, one after the other.
use Rattle.std.proofs.Common.{◌≡◌, ℕ, zero, suc, ◌++◌, ◌==◌, ◌⊎◌, inl, inr, cond, Option, Some, List, [], ◌∷◌, length, refl, ap, sym, subst, ◌∙◌}
use Rattle.std.specs.Prelude.{replicate}
use Rattle.std.proofs.lemmas.Bool.{eq-eqb, ne_eqb, cases_eq}
use Rattle.terms.specs.Datum.{Datum}
use Rattle.terms.specs.Named.{Named}
use Rattle.event_keys.specs.declared.message.Sign.TheVariants.{Plus, Minus}
use Rattle.event_keys.specs.declared.message.Signed.{Signed}
use Rattle.event_keys.specs.Ranks.{rank_of_bound}
use Rattle.virtual_time.specs.Machine.{HasCount, Lawful, Machine}
use Rattle.virtual_time.specs.Entries.{Entry, Item}
use Rattle.virtual_time.specs.Records.{Processes, Record, after_entry, next_of, sent_all, sent_by}
use Rattle.virtual_time.specs.Worlds.{Commit, DeliverAntimessage, DeliverMessage, Meet, Process, RollBack, Step, World, process, process_entry, put_back, record_of, same}
use Rattle.virtual_time.specs.Exchange.Leases.{Does, Lease, alone, lease_after}
use Rattle.rollback.specs.Flight.{in_flight, item_of}
use Rattle.rollback.specs.ComponentView.{comes}
use Rattle.exchange.specs.Core.{Moves, StaysKnown, deliveries, delivery}
use Rattle.exchange.specs.LeaseView.{AllDelivered, LeaseView, IsAhead, IsDelivered, IsValidLease, lease_of}
use Rattle.exchange.proofs.Core.{MovesLaw, WorldLaw, own_known, own_moves}
use Rattle.exchange.proofs.Leasing.{AloneLaw, PutLaw, not_to_self}
use Rattle.exchange.proofs.Delivering.{AntimessageLaw, MessageLaw, after, deliver_does, deliver_kept}

module _ {S A : Type 0} (m : Machine S A) (i : ℕ) where
  -- two lists of steps, one after the other
  pub does_both : (ss ts : List (Step A)) (u w v : World S A) → Does m i u ss w → Does m i w ts v → Does m i u (ss ++ ts) v
  does_both [] ts u w v p q = subst (λ (x : World S A). Does m i x ts v) p q
  does_both (Process j ∷ ss) ts u w v p q = (p.0, does_both ss ts _ w v p.1 q)
  does_both (DeliverMessage j x ∷ ss) ts u w v p q = (p.0, p.1, does_both ss ts _ w v p.2 q)
  does_both (DeliverAntimessage j x ∷ ss) ts u w v p q = (p.0, p.1, does_both ss ts _ w v p.2 q)
  does_both (RollBack j ∷ ss) ts u w v p q = absurd p
  does_both (Meet j x ∷ ss) ts u w v p q = absurd p
  does_both (Commit b ∷ ss) ts u w v p q = absurd p

  one_more : {X : Type 0} (n : ℕ) (x : X) → replicate n x ++ x ∷ [] ≡ replicate (suc n) x
  one_more zero x = refl
  one_more (suc n) x = ap (λ xs. x ∷ xs) (one_more n x)

  -- a lease with another record and another flight, alone
  abbrev pub PutFor : Type 0
  PutFor = (l : Lease S A) (r : Record S A) (plus minus : ℕ → List (Item A) → List (Item A)) → alone m i (lease_after i l r plus minus) ≡ put_back i r plus minus (alone m i l)

  module _ (put_law : PutFor) (l : Lease S A) (self_plus : l.out_plus i ≡ []) (self_minus : l.out_minus i ≡ []) where
    -- the lease once these entries are done
    abbrev pub ahead_by : List (Entry A) → Record S A → Lease S A
    ahead_by es r = lease_after i l r (sent_all m i es) same

    at_first : ahead_by [] (record_of l.part) ≡ l
    at_first =
        λ v. record { base = l.base; floor = l.floor; part = l.part; out_plus = λ j. plus_is j (cases_eq j i) v; out_minus = λ j. minus_is j (cases_eq j i) v }
      where
        plus_is : (j : ℕ) → (j ≡ i) ⊎ (j ≡ i → ⊥) → cond (j == i) [] (l.out_plus j) ≡ l.out_plus j
        plus_is j (inl e) = rw (eq-eqb j i e) (sym (ap l.out_plus e ∙ self_plus))
        plus_is j (inr ne) = rw (ne_eqb j i ne) refl

        minus_is : (j : ℕ) → (j ≡ i) ⊎ (j ≡ i → ⊥) → cond (j == i) [] (l.out_minus j) ≡ l.out_minus j
        minus_is j (inl e) = rw (eq-eqb j i e) (sym (ap l.out_minus e ∙ self_minus))
        minus_is j (inr ne) = rw (ne_eqb j i ne) refl

    next_ahead : (e : Entry A) (es : List (Entry A)) (mid : Record S A) → lease_after i (ahead_by es mid) (after_entry e mid) (sent_by m i e) same ≡ ahead_by (e ∷ es) (after_entry e mid)
    next_ahead e es mid =
        let r = after_entry e mid in
        let done = ahead_by (e ∷ es) r in
        λ v. record { base = l.base; floor = l.floor; part = done.part; out_plus = λ j. plus_is j (cases_eq j i) v; out_minus = λ j. minus_is j (cases_eq j i) v }
      where
        plus_is : (j : ℕ) → (j ≡ i) ⊎ (j ≡ i → ⊥) → cond (j == i) [] (sent_by m i e j (cond (j == i) [] (sent_all m i es j (l.out_plus j)))) ≡ cond (j == i) [] (sent_all m i (e ∷ es) j (l.out_plus j))
        plus_is j (inl q) = rw (eq-eqb j i q) refl
        plus_is j (inr ne) = rw (ne_eqb j i ne) refl

        minus_is : (j : ℕ) → (j ≡ i) ⊎ (j ≡ i → ⊥) → cond (j == i) [] (cond (j == i) [] (l.out_minus j)) ≡ cond (j == i) [] (l.out_minus j)
        minus_is j (inl q) = rw (eq-eqb j i q) refl
        minus_is j (inr ne) = rw (ne_eqb j i ne) refl

    one_done : (e : Entry A) (es : List (Entry A)) (mid : Record S A) → next_of m i mid ≡ Some e → alone m i (ahead_by (e ∷ es) (after_entry e mid)) ≡ process m i (alone m i (ahead_by es mid))
    one_done e es mid next =
        let k = ahead_by es mid in
        let own : record_of ((alone m i k).part i) ≡ mid = rw (eq-eqb i i refl) refl in
        ap (alone m i) (sym (next_ahead e es mid)) ∙ put_law k (after_entry e mid) (sent_by m i e) same
        ∙ ap (λ (r : Record S A). put_back i (after_entry e r) (sent_by m i e) same (alone m i k)) (sym own)
        ∙ ap (λ (o : Option (Entry A)). process_entry m i o (alone m i k)) (sym (ap (next_of m i) own ∙ next))

    pub does_entries : (es : List (Entry A)) (r : Record S A) → Processes m i (record_of l.part) es r → Does m i (alone m i l) (replicate (length es) (Process i)) (alone m i (ahead_by es r))
    does_entries [] r p = ap (alone m i) (ap (ahead_by []) p ∙ at_first)
    does_entries (e ∷ es) r p =
        let mid = p.0 in
        let before = does_entries es mid p.1 in
        let last : Does m i (alone m i (ahead_by es mid)) (Process i ∷ []) (alone m i (ahead_by (e ∷ es) r)) = (refl, ap (λ x. alone m i (ahead_by (e ∷ es) x)) p.3 ∙ one_done e es mid p.2) in
        subst (λ ss. Does m i (alone m i l) ss (alone m i (ahead_by (e ∷ es) r))) (one_more (length es) (Process i))
        (does_both (replicate (length es) (Process i)) (Process i ∷ []) (alone m i l) (alone m i (ahead_by es mid)) (alone m i (ahead_by (e ∷ es) r)) before last)

module _ (m : Machine (List Datum) Named) (law : Lawful m) where
  none_to_self : (i : ℕ) (es : List (Entry Named)) (xs : List (Item Named)) → sent_all m i es i xs ≡ xs
  none_to_self i [] xs = refl
  none_to_self i (e ∷ es) xs = not_to_self m law i e (sent_all m i es i xs) ∙ none_to_self i es xs

  module _ {P : Type 0} (count : ℕ) (put_law : PutLaw m law) (old new : LeaseView P) (is : IsValidLease m count old) (n : ℕ) (ahead : IsAhead m old new n) where
    abbrev i : ℕ
    i = old.component.number

    abbrev l : Lease (List Datum) Named
    l = lease_of old

    abbrev es : List (Entry Named)
    es = ahead.run.entries

    abbrev q : Record (List Datum) Named
    q = new.component.history

    abbrev then : Lease (List Datum) Named
    then = ahead_by m i (put_law i) l is.lease.self_plus is.lease.self_minus es q

    plus_is : (j : ℕ) → (j ≡ i) ⊎ (j ≡ i → ⊥) → cond (j == i) [] (sent_all m i es j (in_flight Plus j old.out)) ≡ in_flight Plus j new.out
    plus_is j (inl e) =
        rw (eq-eqb j i e) (sym (subst (λ k. in_flight Plus k new.out ≡ []) (sym e) (ahead.run.sent.there i ∙ none_to_self i es (in_flight Plus i old.out) ∙ is.lease.self_plus)))
    plus_is j (inr ne) = rw (ne_eqb j i ne) (sym (ahead.run.sent.there j))

    minus_is : (j : ℕ) → (j ≡ i) ⊎ (j ≡ i → ⊥) → cond (j == i) [] (in_flight Minus j old.out) ≡ in_flight Minus j new.out
    minus_is j (inl e) = rw (eq-eqb j i e) (sym (subst (λ k. in_flight Minus k new.out ≡ []) (sym e) (ahead.run.sent.other i ∙ is.lease.self_minus)))
    minus_is j (inr ne) = rw (ne_eqb j i ne) (sym (ahead.run.sent.other j))

    then_is : then ≡ lease_of new
    then_is =
        subst (λ (x : LeaseView P). then ≡ lease_of x) (sym ahead.rest)
        (λ v. record {
          base = l.base;
          floor = l.floor;
          part = record { base = q.base; first = q.first; done = q.done; pending = q.pending; owed = q.owed; plus = none_to_self i es (in_flight Plus i old.tray) v; minus = in_flight Minus i old.tray };
          out_plus = λ j. plus_is j (cases_eq j i) v;
          out_minus = λ j. minus_is j (cases_eq j i) v;
        })

    -- as many entries as were processed
    does_ahead : Does m i (alone m i l) (replicate n (Process i)) (alone m i (lease_of new))
    does_ahead =
        subst (λ k. Does m i (alone m i l) (replicate k (Process i)) (alone m i (lease_of new))) ahead.run.many
        (subst (λ x. Does m i (alone m i l) (replicate (length es) (Process i)) (alone m i x)) then_is (does_entries m i (put_law i) l is.lease.self_plus is.lease.self_minus es q ahead.run.processes))

    -- what it is of the whole world
    module _ (alone_law : AloneLaw m law) (self_plus : in_flight Plus new.component.number new.out ≡ []) (self_minus : in_flight Minus new.component.number new.out ≡ []) where
      one_number : new.component.number ≡ i
      one_number = ap (λ (h : LeaseView P). h.component.number) ahead.rest

      one_floor : rank_of_bound new.floor ≡ rank_of_bound old.floor
      one_floor = ap (λ (h : LeaseView P). rank_of_bound h.floor) ahead.rest

      no_plus : in_flight Plus i new.out ≡ []
      no_plus = subst (λ k. in_flight Plus k new.out ≡ []) one_number self_plus

      no_minus : in_flight Minus i new.out ≡ []
      no_minus = subst (λ k. in_flight Minus k new.out ≡ []) one_number self_minus

      pub ahead_moves : WorldLaw m law → MovesLaw m law → Moves m i (replicate n (Process i)) l (lease_of new)
      ahead_moves world_law moves_law = own_moves m law i l (lease_of new) one_floor no_plus no_minus (replicate n (Process i)) does_ahead world_law moves_law alone_law

      pub ahead_known : StaysKnown m i l (lease_of new)
      ahead_known = own_known m law i l (lease_of new) one_floor no_plus no_minus (replicate n (Process i)) does_ahead alone_law is.lease

  module _ {P : Type 0} (count : ℕ) (counted : HasCount m count) (alone_law : AloneLaw m law) (put_law : PutLaw m law) (message_law : MessageLaw m law) (antimessage_law : AntimessageLaw m law) where
    -- one that came from the tray
    module _ (old mid : LeaseView P) (is : IsValidLease m count old) (s : Signed) (came : IsDelivered m old mid s) where
      abbrev own : ℕ
      own = old.component.number

      abbrev seen : LeaseView P
      seen = after m law count counted old is (comes m s.sign (item_of s) old.component.history) mid.tray mid.out

      mid_seen : mid ≡ seen
      mid_seen = came.rest ∙ ap (λ q. after m law count counted old is q mid.tray mid.out) came.history

      mid_is : IsValidLease m count mid
      mid_is = subst (λ (h : LeaseView P). IsValidLease m count h) (sym mid_seen) (deliver_kept m law count counted old is alone_law message_law antimessage_law s mid.tray came.tray s.sign refl mid.out came.sent)

      does_one : Does m own (alone m own (lease_of old)) (delivery own s.sign (item_of s) ∷ []) (alone m own (lease_of mid))
      does_one =
          subst (λ (h : LeaseView P). Does m own (alone m own (lease_of old)) (delivery own s.sign (item_of s) ∷ []) (alone m own (lease_of h))) (sym mid_seen)
          (deliver_does m law count counted old is alone_law message_law antimessage_law s mid.tray came.tray put_law s.sign refl mid.out came.sent)

    -- all that came from it
    does_all : (ss : List Signed) (old new : LeaseView P) → IsValidLease m count old → AllDelivered m old ss new
        → Does m old.component.number (alone m old.component.number (lease_of old)) (deliveries old.component.number ss) (alone m old.component.number (lease_of new))
    does_all [] old new is all = ap (λ (h : LeaseView P). alone m old.component.number (lease_of h)) all
    does_all (s ∷ ss) old new is all =
        let i = old.component.number in
        let mid = all.0 in
        does_both m i (delivery i s.sign (item_of s) ∷ []) (deliveries i ss) (alone m i (lease_of old)) (alone m i (lease_of mid)) (alone m i (lease_of new)) (does_one old mid is s all.1)
        (subst (λ k. Does m k (alone m k (lease_of mid)) (deliveries k ss) (alone m k (lease_of new))) (ap (λ (h : LeaseView P). h.component.number) all.1.rest) (does_all ss mid new (mid_is old mid is s all.1) all.2))

    all_number : (ss : List Signed) (old new : LeaseView P) → AllDelivered m old ss new → new.component.number ≡ old.component.number
    all_number [] old new all = ap (λ (h : LeaseView P). h.component.number) all
    all_number (s ∷ ss) old new all = all_number ss all.0 new all.2 ∙ ap (λ (h : LeaseView P). h.component.number) all.1.rest

    all_floor : (ss : List Signed) (old new : LeaseView P) → AllDelivered m old ss new → rank_of_bound new.floor ≡ rank_of_bound old.floor
    all_floor [] old new all = ap (λ (h : LeaseView P). rank_of_bound h.floor) all
    all_floor (s ∷ ss) old new all = all_floor ss all.0 new all.2 ∙ ap (λ (h : LeaseView P). rank_of_bound h.floor) all.1.rest

    -- what it is of the whole world
    module _ (ss : List Signed) (old new : LeaseView P) (is : IsValidLease m count old) (self_plus : in_flight Plus new.component.number new.out ≡ []) (self_minus : in_flight Minus new.component.number new.out ≡ []) (all : AllDelivered m old ss new) where
      none_out_plus : in_flight Plus old.component.number new.out ≡ []
      none_out_plus = subst (λ k. in_flight Plus k new.out ≡ []) (all_number ss old new all) self_plus

      none_out_minus : in_flight Minus old.component.number new.out ≡ []
      none_out_minus = subst (λ k. in_flight Minus k new.out ≡ []) (all_number ss old new all) self_minus

      pub all_moves : WorldLaw m law → MovesLaw m law → Moves m old.component.number (deliveries old.component.number ss) (lease_of old) (lease_of new)
      all_moves world_law moves_law =
          let i = old.component.number in
          own_moves m law i (lease_of old) (lease_of new) (all_floor ss old new all) none_out_plus none_out_minus (deliveries i ss) (does_all ss old new is all) world_law moves_law alone_law

      pub all_known : StaysKnown m old.component.number (lease_of old) (lease_of new)
      all_known =
          let i = old.component.number in
          own_known m law i (lease_of old) (lease_of new) (all_floor ss old new all) none_out_plus none_out_minus (deliveries i ss) (does_all ss old new is all) alone_law is.lease
