-- Nothing is on its way to a component beyond the components; so after any list of calls each group of some of them can meet.
use Rattle.std.proofs.Common.{◌≡◌, ℕ, ◌<◌, ◌≤◌, ◌==◌, ◌⊎◌, inl, inr, cond, List, [], ◌∷◌, refl, ap, sym, subst, ◌∙◌, arith}
use Rattle.std.proofs.lemmas.Bool.{eq-eqb, ne_eqb, cases_eq}
use Rattle.virtual_time.specs.Machine.{HasCount, Lawful, Machine}
use Rattle.virtual_time.specs.Entries.{Item}
use Rattle.virtual_time.specs.Bags.{times}
use Rattle.virtual_time.specs.Records.{antimessage_comes, back_by_antimessage, back_by_message, message_comes, next_of, unsent}
use Rattle.virtual_time.specs.Worlds.{Commit, DeliverAntimessage, DeliverMessage, Meet, Process, RollBack, Step, World, deliver_antimessage, deliver_message, meet, process, record_of, same, taken_at}
use Rattle.virtual_time.specs.Exchange.Calls.{Call, CallAlone, CallChunk, CallCommit, CallMeet}
use Rattle.virtual_time.specs.Groups.Stubs.{Exchange}
use Rattle.virtual_time.specs.Groups.Leases.{Does, Lease, alone, lease_of}
use Rattle.virtual_time.specs.Groups.Wholes.{put_lease}
use Rattle.virtual_time.specs.Groups.Calls.{Called, Calls, IsQuiet, Shared, start_shared}
use Rattle.virtual_time.proofs.Exchange.Quiet.{empty_is, process_quiet, put_quiet, taken_none}
use Rattle.virtual_time.proofs.Groups.Called.{calls_kept, each_lease, start_is_shared}
use Rattle.virtual_time.proofs.Groups.Exists.{meet_exists}

module _ {S A : Type 0} (machine : Machine S A) (law : Lawful machine) (group : ℕ → ℕ) (count : ℕ) (counted : HasCount machine count) where
  does_quiet : (g j : ℕ) (u : World S A) (ss : List (Step A)) (w : World S A) → (group j ≡ g → ⊥) → count ≤ j → (u.part j).plus ≡ [] → Does machine group g u ss w → (w.part j).plus ≡ []
  does_quiet g j u [] w ne l h d = ap (λ (x : World S A). (x.part j).plus) d ∙ h
  does_quiet g j u (Process i ∷ ss) w ne l h d =
      does_quiet g j (process machine i u) ss w ne l (process_quiet machine law count counted i j (next_of machine i (record_of (u.part i))) u (λ e. ne (ap group e ∙ d.0)) l h) d.1
  does_quiet g j u (DeliverMessage i x ∷ ss) w ne l h d =
      does_quiet g j (deliver_message machine i x u) ss w ne l
      (put_quiet machine law count counted i j (message_comes machine x (record_of (u.part i))) (taken_at machine i x) (unsent machine i (back_by_message machine x (record_of (u.part i)))) u (λ e. ne (ap group e ∙ d.0)) (taken_none machine law count counted i j x (λ e. ne (ap group e ∙ d.0))) h) d.2
  does_quiet g j u (DeliverAntimessage i x ∷ ss) w ne l h d =
      does_quiet g j (deliver_antimessage machine i x u) ss w ne l
      (put_quiet machine law count counted i j (antimessage_comes machine x (record_of (u.part i))) same (λ k xs. taken_at machine i x k (unsent machine i (back_by_antimessage machine x (record_of (u.part i))) k xs)) u (λ e. ne (ap group e ∙ d.0)) refl h) d.2
  does_quiet g j u (Meet i x ∷ ss) w ne l h d =
      does_quiet g j (meet machine i x u) ss w ne l
      (put_quiet machine law count counted i j (record_of (u.part i)) (taken_at machine i x) (taken_at machine i x) u (λ e. ne (ap group e ∙ d.0)) (taken_none machine law count counted i j x (λ e. ne (ap group e ∙ d.0))) h) d.3
  does_quiet g j u (RollBack i ∷ ss) w ne l h d = absurd d
  does_quiet g j u (Commit b ∷ ss) w ne l h d = absurd d

  bags : (g : ℕ) (l : Lease S A) (u : Shared S A) → ((j : ℕ) → count ≤ j → l.out_plus j ≡ []) → ((n j : ℕ) → count ≤ j → (u.lease n).out_plus j ≡ []) → (n j : ℕ) → count ≤ j → (put_lease g l u.lease n).out_plus j ≡ []
  bags g l u here all n j c = each_lease machine law group count counted (λ k x. x.out_plus j ≡ []) g l u.lease (here j c) (λ k ne. all k j c) n

  call_quiet : (u : Shared S A) (c : Call A) (v : Shared S A) → IsQuiet count u → Called machine group count u c v → IsQuiet count v
  call_quiet u (CallMeet g) v q h =
      subst (λ (x : Shared S A). IsQuiet count x) (sym h.3)
      (record {
        inbox = λ j c. inbox j c (cases_eq (group j) g);
        bag = bags g h.1 u (λ j c. h.2.out_plus j) q.bag;
      })
    where
      inbox : (j : ℕ) → count ≤ j → (group j ≡ g) ⊎ (group j ≡ g → ⊥) → h.0.plus j ≡ []
      inbox j c (inl e) = h.2.inbox_plus j e
      inbox j c (inr ne) =
          h.2.others_plus j ne
          ∙ empty_is machine law count counted (h.2.p j) (λ k a.
          let b = h.2.by_plus j k a in
          let x : times machine (u.exchange.plus j) k a ≡ 0 = ap (λ (xs : List (Item A)). times machine xs k a) (q.inbox j c) in
          let y : times machine ((u.lease g).out_plus j) k a ≡ 0 = ap (λ (xs : List (Item A)). times machine xs k a) (q.bag g j c) in
          omega arith)
  call_quiet u CallCommit v q h =
      subst (λ (x : Shared S A). IsQuiet count x) (sym h.2)
      (record { inbox = λ j c. ap (λ (e : Exchange A). e.plus j) h.1.rest ∙ q.inbox j c; bag = q.bag })
  call_quiet u CallChunk v q h =
      subst (λ (x : Shared S A). IsQuiet count x) (sym h.4)
      (record { inbox = λ j c. ap (λ (e : Exchange A). e.plus j) h.3.rest ∙ q.inbox j c; bag = q.bag })
  call_quiet u (CallAlone g steps) v q h =
      subst (λ (x : Shared S A). IsQuiet count x) (sym h.2)
      (record { inbox = q.inbox; bag = bags g (lease_of group g (u.lease g) h.0) u (λ j c. out j c (cases_eq (group j) g)) q.bag })
    where
      out : (j : ℕ) → count ≤ j → (group j ≡ g) ⊎ (group j ≡ g → ⊥) → cond (group j == g) [] (h.0.part j).plus ≡ []
      out j c (inl e) = rw (eq-eqb (group j) g e)
      out j c (inr ne) = rw (ne_eqb (group j) g ne) (does_quiet g j (alone machine group g (u.lease g)) steps h.0 ne c (rw (ne_eqb (group j) g ne) (q.bag g j c)) h.1)

  pub calls_quiet : (calls : List (Call A)) (u v : Shared S A) → IsQuiet count u → Calls machine group count u calls v → IsQuiet count v
  calls_quiet [] u v q h = subst (λ (x : Shared S A). IsQuiet count x) (sym h) q
  calls_quiet (c ∷ cs) u v q h = calls_quiet cs h.0 v (call_quiet u c h.0 q h.1) h.2

  pub start_quiet : IsQuiet count (start_shared machine group count)
  start_quiet = record { inbox = λ j c. refl; bag = λ g j c. refl }

  -- after any list of calls a group of some of the components can meet
  pub always_meets : (g : ℕ) → ((i : ℕ) → group i ≡ g → i < count) → (calls : List (Call A)) (u : Shared S A) → Calls machine group count (start_shared machine group count) calls u → (v : Shared S A) × Called machine group count u (CallMeet g) v
  always_meets g inside calls u h =
      let is = calls_kept machine law group count counted calls (start_shared machine group count) u (start_is_shared machine law group count counted) h in
      let q = calls_quiet calls (start_shared machine group count) u start_quiet h in
      let r = meet_exists machine law count counted group g inside u.exchange is.sound (u.lease g) (is.leases g) (is.match g) q.inbox (q.bag g) in
      (record { exchange = r.0; lease = put_lease g r.1 u.lease }, (r.0, r.1, r.2, refl))
