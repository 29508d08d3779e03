-- Nothing is on its way to a component beyond the components.
use Rattle.std.proofs.Common.{◌≡◌, ℕ, ◌≤◌, ◌==◌, ◌⊎◌, inl, inr, cond, Option, None, Some, List, [], ◌∷◌, refl, ap, sym, subst, ◌∙◌, arith}
use Rattle.std.proofs.lemmas.Bool.{eq-eqb, ne_eqb, cases_eq}
use Rattle.virtual_time.specs.Machine.{HasCount, Lawful, Machine}
use Rattle.virtual_time.specs.Entries.{Entry, Item}
use Rattle.virtual_time.specs.Bags.{times}
use Rattle.virtual_time.specs.Records.{Record, after_entry, antimessage_comes, back_by_antimessage, back_by_message, message_comes, next_of, sent_by, unsent}
use Rattle.virtual_time.specs.Worlds.{Commit, DeliverAntimessage, DeliverMessage, Meet, Part, Process, RollBack, Step, World, deliver_antimessage, deliver_message, process, process_entry, put_back, record_of, same, taken_at, with_record}
use Rattle.virtual_time.specs.Exchange.Stubs.{Exchange, Stub}
use Rattle.virtual_time.specs.Exchange.Leases.{Does, Lease, alone, lease_of}
use Rattle.virtual_time.specs.Exchange.Wholes.{put_lease}
use Rattle.virtual_time.specs.Exchange.Calls.{Call, CallAlone, CallChunk, CallCommit, CallMeet, Called, Calls, IsQuiet, Shared, start_shared}
use Rattle.virtual_time.proofs.Counts.{hit_self}
use Rattle.virtual_time.proofs.Lists.{put_other}
use Rattle.virtual_time.proofs.Timed.{by_deaf}
use Rattle.virtual_time.proofs.Exchange.Called.{each_lease}

module _ {S A : Type 0} (machine : Machine S A) (law : Lawful machine) (count : ℕ) (counted : HasCount machine count) where
  -- a bag that has nothing is empty
  pub empty_is : (xs : List (Item A)) → ((k : ℕ) (a : A) → times machine xs k a ≡ 0) → xs ≡ []
  empty_is [] h = refl
  empty_is (x ∷ xs) h = let z = h x.key x.action in let s = hit_self machine law x in absurd (omega arith)

  pub put_quiet : (i j : ℕ) (r : Record S A) (plus minus : ℕ → List (Item A) → List (Item A)) (u : World S A) → (j ≡ i → ⊥) → plus j [] ≡ [] → (u.part j).plus ≡ [] → ((put_back i r plus minus u).part j).plus ≡ []
  put_quiet i j r plus minus u ne p h = ap (λ (c : Part S A). plus j c.plus) (put_other i (with_record (u.part i) r) u.part j ne) ∙ ap (plus j) h ∙ p

  pub process_quiet : (i j : ℕ) (e : Option (Entry A)) (u : World S A) → (j ≡ i → ⊥) → count ≤ j → (u.part j).plus ≡ [] → ((process_entry machine i e u).part j).plus ≡ []
  process_quiet i j None u ne l h = h
  process_quiet i j (Some e) u ne l h = put_quiet i j (after_entry e (record_of (u.part i))) (sent_by machine i e) same u ne (by_deaf machine count counted i e j [] l) h

  pub taken_none : (i j : ℕ) (x : Item A) → (j ≡ i → ⊥) → taken_at machine i x j [] ≡ []
  taken_none i j x ne = rw (ne_eqb j i ne)

  does_quiet : (i j : ℕ) (u : World S A) (ss : List (Step A)) (w : World S A) → (j ≡ i → ⊥) → count ≤ j → (u.part j).plus ≡ [] → Does machine i u ss w → (w.part j).plus ≡ []
  does_quiet i j u [] w ne l h d = ap (λ (x : World S A). (x.part j).plus) d ∙ h
  does_quiet i j u (Process n ∷ ss) w ne l h d = does_quiet i j (process machine i u) ss w ne l (process_quiet i j (next_of machine i (record_of (u.part i))) u ne l h) d.1
  does_quiet i j u (DeliverMessage n x ∷ ss) w ne l h d =
      does_quiet i j (deliver_message machine i x u) ss w ne l
      (put_quiet i j (message_comes machine x (record_of (u.part i))) (taken_at machine i x) (unsent machine i (back_by_message machine x (record_of (u.part i)))) u ne (taken_none i j x ne) h) d.2
  does_quiet i j u (DeliverAntimessage n x ∷ ss) w ne l h d =
      does_quiet i j (deliver_antimessage machine i x u) ss w ne l
      (put_quiet i j (antimessage_comes machine x (record_of (u.part i))) same (λ k xs. taken_at machine i x k (unsent machine i (back_by_antimessage machine x (record_of (u.part i))) k xs)) u ne refl h) d.2
  does_quiet i j u (RollBack n ∷ ss) w ne l h d = absurd d
  does_quiet i j u (Meet n x ∷ ss) w ne l h d = absurd d
  does_quiet i j u (Commit b ∷ ss) w ne l h d = absurd d

  alone_quiet : (i j : ℕ) (l : Lease S A) → (j ≡ i → ⊥) → l.out_plus j ≡ [] → ((alone machine i l).part j).plus ≡ []
  alone_quiet i j l ne h = rw (ne_eqb j i ne) h

  bags : (i : ℕ) (l : Lease S A) (u : Shared S A) → ((j : ℕ) → count ≤ j → l.out_plus j ≡ []) → ((n j : ℕ) → count ≤ j → (u.lease n).out_plus j ≡ []) → (n j : ℕ) → count ≤ j → (put_lease i l u.lease n).out_plus j ≡ []
  bags i l u here all n j c = each_lease machine law (λ k x. x.out_plus j ≡ []) i l u.lease (here j c) (λ k ne. all k j c) n

  call_quiet : (u : Shared S A) (c : Call A) (v : Shared S A) → IsQuiet count u → Called machine count u c v → IsQuiet count v
  call_quiet u (CallMeet i) v q h =
      let met = h.2 in
      subst (λ (x : Shared S A). IsQuiet count x) (sym h.3)
      (record {
        inbox = λ j c. inbox j c (cases_eq j i);
        bag = bags i h.1 u (λ j c. met.out_plus j) q.bag;
      })
    where
      inbox : (j : ℕ) → count ≤ j → (j ≡ i) ⊎ (j ≡ i → ⊥) → (h.0.stub j).plus ≡ []
      inbox j c (inl e) = subst (λ (n : ℕ). (h.0.stub n).plus ≡ []) (sym e) h.2.inbox_plus
      inbox j c (inr ne) =
          ap (λ (st : Stub A). st.plus) (h.2.others j ne)
          ∙ empty_is (h.2.p j) (λ k a.
          let b = h.2.by_plus j k a in
          let x : times machine (u.exchange.stub j).plus k a ≡ 0 = ap (λ (xs : List (Item A)). times machine xs k a) (q.inbox j c) in
          let y : times machine ((u.lease i).out_plus j) k a ≡ 0 = ap (λ (xs : List (Item A)). times machine xs k a) (q.bag i j c) in
          omega arith)
  call_quiet u CallCommit v q h =
      subst (λ (x : Shared S A). IsQuiet count x) (sym h.2)
      (record { inbox = λ j c. ap (λ (e : Exchange A). (e.stub j).plus) h.1.rest ∙ q.inbox j c; bag = q.bag })
  call_quiet u CallChunk v q h =
      subst (λ (x : Shared S A). IsQuiet count x) (sym h.4)
      (record { inbox = λ j c. ap (λ (e : Exchange A). (e.stub j).plus) h.3.rest ∙ q.inbox j c; bag = q.bag })
  call_quiet u (CallAlone i steps) v q h =
      subst (λ (x : Shared S A). IsQuiet count x) (sym h.2)
      (record { inbox = q.inbox; bag = bags i (lease_of i (u.lease i).floor h.0) u (λ j c. out j c (cases_eq j i)) q.bag })
    where
      out : (j : ℕ) → count ≤ j → (j ≡ i) ⊎ (j ≡ i → ⊥) → cond (j == i) [] (h.0.part j).plus ≡ []
      out j c (inl e) = rw (eq-eqb j i e)
      out j c (inr ne) = rw (ne_eqb j i ne) (does_quiet i j (alone machine i (u.lease i)) steps h.0 ne c (alone_quiet i j (u.lease i) ne (q.bag i j c)) h.1)

  pub calls_quiet : (calls : List (Call A)) (u v : Shared S A) → IsQuiet count u → Calls machine count u calls v → IsQuiet count v
  calls_quiet [] u v q h = subst (λ (x : Shared S A). IsQuiet count x) (sym h) q
  calls_quiet (c ∷ cs) u v q h = calls_quiet cs h.0 v (call_quiet u c h.0 q h.1) h.2

  pub start_quiet : IsQuiet count (start_shared machine)
  start_quiet = record { inbox = λ j c. refl; bag = λ i j c. refl }
