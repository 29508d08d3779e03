-- Calls within a window keep it.
use Rattle.std.proofs.Common.{◌≡◌, ℕ, ◌≤◌, inl, inr, List, [], ◌∷◌, ap, sym, subst, ◌∙◌, arith}
use Rattle.virtual_time.specs.Machine.{HasCount, Lawful, Machine}
use Rattle.virtual_time.specs.Records.{Record, after_entry, antimessage_comes, back_by_antimessage, back_by_message, message_comes, unsent}
use Rattle.virtual_time.specs.Worlds.{Commit, DeliverAntimessage, DeliverMessage, Meet, Part, Process, RollBack, Step, World, deliver_antimessage, deliver_message, record_of, same, taken_at}
use Rattle.virtual_time.specs.Exchange.Stubs.{Exchange}
use Rattle.virtual_time.specs.Exchange.Leases.{Does, Lease, alone, lease_of}
use Rattle.virtual_time.specs.Exchange.Wholes.{put_lease}
use Rattle.virtual_time.specs.Exchange.Windows.{IsExchangeWithin, IsWithin, own_turns}
use Rattle.virtual_time.specs.Exchange.Calls.{Call, CallAlone, CallChunk, CallCommit, CallMeet, Called, IsShared, Shared, start_shared}
use Rattle.virtual_time.specs.Exchange.WindowCalls.{AreDeliveries, CallsWithin, IsAhead, IsCallWithin, IsWindowed}
use Rattle.virtual_time.proofs.Tied.{alone_walks, record_put}
use Rattle.virtual_time.proofs.Exchange.Runs.{does_lease}
use Rattle.virtual_time.proofs.Exchange.Called.{call_kept, each_lease, start_is_shared}
use Rattle.virtual_time.proofs.Exchange.Leased.{here, process_leased}
use Rattle.virtual_time.proofs.Exchange.Windowed.{antimessage_turns, meet_lease, meet_within, message_turns, process_within, settled_inputs, start_lease_within, start_within}

module _ {S A : Type 0} (machine : Machine S A) (law : Lawful machine) where
  -- deliveries add no own turn
  deliveries_few : (i : ℕ) (u : World S A) (ss : List (Step A)) (w : World S A) → AreDeliveries ss → Does machine i u ss w → own_turns (w.part i).done ≤ own_turns (u.part i).done
  deliveries_few i u [] w all h = let e : own_turns (w.part i).done ≡ own_turns (u.part i).done = ap (λ (x : World S A). own_turns (x.part i).done) h in omega arith
  deliveries_few i u (DeliverMessage j x ∷ ss) w all h =
      let r = deliveries_few i (deliver_message machine i x u) ss w all h.2 in
      let p : own_turns ((deliver_message machine i x u).part i).done ≡ own_turns (message_comes machine x (record_of (u.part i))).done
      = ap (λ (q : Record S A). own_turns q.done) (record_put machine i (message_comes machine x (record_of (u.part i))) (taken_at machine i x) (unsent machine i (back_by_message machine x (record_of (u.part i)))) u) in
      let t = message_turns machine law x (record_of (u.part i)) in
      omega arith
  deliveries_few i u (DeliverAntimessage j x ∷ ss) w all h =
      let r = deliveries_few i (deliver_antimessage machine i x u) ss w all h.2 in
      let p : own_turns ((deliver_antimessage machine i x u).part i).done ≡ own_turns (antimessage_comes machine x (record_of (u.part i))).done
      = ap (λ (q : Record S A). own_turns q.done) (record_put machine i (antimessage_comes machine x (record_of (u.part i))) same (λ l xs. taken_at machine i x l (unsent machine i (back_by_antimessage machine x (record_of (u.part i))) l xs)) u) in
      let t = antimessage_turns machine law x (record_of (u.part i)) in
      omega arith
  deliveries_few i u (Process j ∷ ss) w all h = absurd all
  deliveries_few i u (RollBack j ∷ ss) w all h = absurd all
  deliveries_few i u (Meet j x ∷ ss) w all h = absurd all
  deliveries_few i u (Commit b ∷ ss) w all h = absurd all

  others : (v count i : ℕ) (u : Shared S A) (l : Lease S A) → ((j : ℕ) → IsWithin v count (record_of (u.lease j).part)) → IsWithin v count (record_of l.part) → (j : ℕ) → IsWithin v count (record_of (put_lease i l u.lease j).part)
  others v count i u l all mine = each_lease machine law (λ j x. IsWithin v count (record_of x.part)) i l u.lease mine (λ j ne. all j)

  -- a lease that did one entry
  ahead_within : (v count i : ℕ) (u : Shared S A) (steps : List (Step A)) (w : World S A) → IsWithin v count (record_of (u.lease i).part) → IsAhead machine v i u steps → Does machine i (alone machine i (u.lease i)) steps w
      → IsWithin v count (record_of (lease_of i (u.lease i).floor w).part)
  ahead_within v count i u steps w mine ahead h =
      let d : Does machine i (alone machine i (u.lease i)) (Process i ∷ []) w = subst (λ (ss : List (Step A)). Does machine i (alone machine i (u.lease i)) ss w) ahead.step h in
      let e : record_of (lease_of i (u.lease i).floor w).part ≡ after_entry ahead.entry (record_of (u.lease i).part)
      = ap (λ (x : World S A). record_of (lease_of i (u.lease i).floor x).part) d.1
      ∙ ap (λ (l : Lease S A). record_of l.part) (process_leased machine i (u.lease i) ahead.entry ahead.next) in
      subst (λ (r : Record S A). IsWithin v count r) (sym e) (process_within machine law v count i ahead.entry (record_of (u.lease i).part) ahead.next ahead.room mine)

  call_within : (v count : ℕ) → HasCount machine count → (u : Shared S A) (c : Call A) (w : Shared S A) → IsWindowed machine v count u → IsCallWithin machine v count u c → Called machine count u c w → IsWindowed machine v count w
  call_within v count counted u (CallMeet i) w is low h =
      let s = is.shared in
      let met = h.2 in
      subst (λ (x : Shared S A). IsWindowed machine v count x) (sym h.3)
      (record {
        shared = subst (λ (x : Shared S A). IsShared machine count x) h.3 (call_kept machine law count counted u (CallMeet i) w s h);
        exchange = meet_within machine law v count i u.exchange s.sound (u.lease i) (s.leases i) (s.match i) h.0 h.1 met low is.exchange (is.leases i);
        leases = others v count i u h.1 is.leases (meet_lease machine law v count i u.exchange s.sound (u.lease i) (s.leases i) (s.match i) h.0 h.1 met low is.exchange (is.leases i));
      })
  call_within v count counted u CallCommit w is low h =
      let x = is.exchange in
      subst (λ (y : Shared S A). IsWindowed machine v count y) (sym h.2)
      (record {
        shared = subst (λ (y : Shared S A). IsShared machine count y) h.2 (call_kept machine law count counted u CallCommit w is.shared h);
        exchange = subst (λ (d : Exchange A). IsExchangeWithin machine v count d) (sym h.1.rest) (record { stubs = x.stubs; apart = x.apart });
        leases = is.leases;
      })
  call_within v count counted u CallChunk w is low h =
      let x = is.exchange in
      subst (λ (y : Shared S A). IsWindowed machine v count y) (sym h.4)
      (record {
        shared = subst (λ (y : Shared S A). IsShared machine count y) h.4 (call_kept machine law count counted u CallChunk w is.shared h);
        exchange = subst (λ (d : Exchange A). IsExchangeWithin machine v count d) (sym h.3.rest) (record { stubs = x.stubs; apart = x.apart });
        leases = is.leases;
      })
  call_within v count counted u (CallAlone i steps) w is (inl ahead) h =
      subst (λ (y : Shared S A). IsWindowed machine v count y) (sym h.2)
      (record {
        shared = subst (λ (y : Shared S A). IsShared machine count y) h.2 (call_kept machine law count counted u (CallAlone i steps) w is.shared h);
        exchange = is.exchange;
        leases = others v count i u (lease_of i (u.lease i).floor h.0) is.leases (ahead_within v count i u steps h.0 (is.leases i) ahead h.1);
      })
  call_within v count counted u (CallAlone i steps) w is (inr settled) h =
      let s = is.shared in
      let k : IsShared machine count (record { exchange = u.exchange; lease = put_lease i (lease_of i (u.lease i).floor h.0) u.lease }) = subst (λ (y : Shared S A). IsShared machine count y) h.2 (call_kept machine law count counted u (CallAlone i steps) w s h) in
      let lease = does_lease machine law i (u.exchange.stub i) (u.lease i) (s.leases i) (s.match i) steps h.0 (alone_walks machine i (alone machine i (u.lease i)) steps h.0 h.1) in
      let few = deliveries_few i (alone machine i (u.lease i)) steps h.0 settled.deliveries h.1 in
      let at : own_turns ((alone machine i (u.lease i)).part i).done ≡ own_turns (u.lease i).part.done = ap (λ (c : Part S A). own_turns c.done) (here machine i (u.lease i)) in
      let mine = (is.leases i).turns in
      let turns : own_turns (lease_of i (u.lease i).floor h.0).part.done ≤ v = omega arith in
      subst (λ (y : Shared S A). IsWindowed machine v count y) (sym h.2)
      (record {
        shared = k;
        exchange = is.exchange;
        leases = others v count i u (lease_of i (u.lease i).floor h.0) is.leases
            (record { turns = turns; inputs = settled_inputs machine law v count i (u.exchange.stub i) (lease_of i (u.lease i).floor h.0) lease.0 lease.1 (is.exchange.stubs i) (settled.plus h.0 h.1) (settled.minus h.0 h.1) });
      })

  pub calls_within : (v count : ℕ) → HasCount machine count → (calls : List (Call A)) (u w : Shared S A) → IsWindowed machine v count u → CallsWithin machine v count u calls w → IsWindowed machine v count w
  calls_within v count counted [] u w is h = subst (λ (x : Shared S A). IsWindowed machine v count x) (sym h) is
  calls_within v count counted (c ∷ cs) u w is h = calls_within v count counted cs h.0 w (call_within v count counted u c h.0 is h.1 h.2) h.3

  pub start_windowed : (v count : ℕ) → IsWindowed machine v count (start_shared machine)
  start_windowed v count = record { shared = start_is_shared machine law count; exchange = start_within machine law v count; leases = λ i. start_lease_within machine law v count i }
