-- Calls of groups within a window keep it.
use Rattle.std.proofs.Common.{◌≡◌, ℕ, ◌<◌, ◌≤◌, ◌⊎◌, inl, inr, Bool, cond, List, [], ◌∷◌, refl, ap, sym, subst, ◌∙◌, arith}
use Rattle.std.proofs.lemmas.Bool.{eq-eqb, ne_eqb, cases_eq}
use Rattle.virtual_time.specs.Machine.{HasCount, Lawful, Machine}
use Rattle.virtual_time.specs.Entries.{Item}
use Rattle.virtual_time.specs.Records.{Record, after_entry, antimessage_comes, back_by_antimessage, back_by_message, message_comes, sent_by, unsent}
use Rattle.virtual_time.specs.Worlds.{Commit, DeliverAntimessage, DeliverMessage, Meet, Part, Process, RollBack, Step, World, deliver_antimessage, deliver_message, meet, put, put_back, record_of, same, taken_at, with_record}
use Rattle.virtual_time.specs.Exchange.Windows.{IsWithin, own_turns}
use Rattle.virtual_time.specs.Exchange.Calls.{Call, CallAlone, CallChunk, CallCommit, CallMeet}
use Rattle.virtual_time.specs.Groups.Stubs.{Exchange}
use Rattle.virtual_time.specs.Groups.Leases.{Does, IsLease, Lease, Matches, alone, lease_after, lease_of}
use Rattle.virtual_time.specs.Groups.Wholes.{part_in, put_lease}
use Rattle.virtual_time.specs.Groups.Windows.{IsExchangeWithin}
use Rattle.virtual_time.specs.Groups.Calls.{Called, IsShared, Shared, start_shared}
use Rattle.virtual_time.specs.Groups.WindowCalls.{AreDeliveries, CallsWithin, IsAhead, IsCallWithin, IsSettled, IsWindowed}
use Rattle.virtual_time.proofs.Tied.{record_put}
use Rattle.virtual_time.proofs.Lists.{put_other}
use Rattle.virtual_time.proofs.Exchange.Windowed.{antimessage_turns, message_turns, process_within}
use Rattle.virtual_time.proofs.Groups.Alone.{alone_walks, does_lease}
use Rattle.virtual_time.proofs.Groups.Called.{call_kept, start_is_shared}
use Rattle.virtual_time.proofs.Groups.Leased.{process_leased}
use Rattle.virtual_time.proofs.Groups.Windowed.{meet_lease, meet_within, settled_inputs, start_within}

module _ {S A : Type 0} (machine : Machine S A) (law : Lawful machine) (group : ℕ → ℕ) where
  -- a record that is put back where it has no more own turns adds none anywhere
  put_few : (i : ℕ) (r : Record S A) (plus minus : ℕ → List (Item A) → List (Item A)) (u : World S A) → own_turns r.done ≤ own_turns (u.part i).done → (j : ℕ) → own_turns ((put_back i r plus minus u).part j).done ≤ own_turns (u.part j).done
  put_few i r plus minus u few j = go (cases_eq j i)
    where
      go : (j ≡ i) ⊎ (j ≡ i → ⊥) → own_turns ((put_back i r plus minus u).part j).done ≤ own_turns (u.part j).done
      go (inl e) =
          subst (λ (n : ℕ). own_turns ((put_back i r plus minus u).part n).done ≤ own_turns (u.part n).done) (sym e)
          (let p : own_turns ((put_back i r plus minus u).part i).done ≡ own_turns r.done = ap (λ (q : Record S A). own_turns q.done) (record_put machine i r plus minus u) in omega arith)
      go (inr ne) =
          let p : own_turns (put i (with_record (u.part i) r) u.part j).done ≡ own_turns (u.part j).done = ap (λ (c : Part S A). own_turns c.done) (put_other i (with_record (u.part i) r) u.part j ne) in
          omega arith

  -- deliveries and meetings add no own turn
  deliveries_few : (g : ℕ) (u : World S A) (ss : List (Step A)) (w : World S A) → AreDeliveries ss → Does machine group g u ss w → (j : ℕ) → own_turns (w.part j).done ≤ own_turns (u.part j).done
  deliveries_few g u [] w all h j = let e : own_turns (w.part j).done ≡ own_turns (u.part j).done = ap (λ (x : World S A). own_turns (x.part j).done) h in omega arith
  deliveries_few g u (DeliverMessage i x ∷ ss) w all h j =
      let r = deliveries_few g (deliver_message machine i x u) ss w all h.2 j in
      let p = put_few i (message_comes machine x (record_of (u.part i))) (taken_at machine i x) (unsent machine i (back_by_message machine x (record_of (u.part i)))) u (message_turns machine law x (record_of (u.part i))) j in
      omega arith
  deliveries_few g u (DeliverAntimessage i x ∷ ss) w all h j =
      let r = deliveries_few g (deliver_antimessage machine i x u) ss w all h.2 j in
      let p = put_few i (antimessage_comes machine x (record_of (u.part i))) same (λ l xs. taken_at machine i x l (unsent machine i (back_by_antimessage machine x (record_of (u.part i))) l xs)) u (antimessage_turns machine law x (record_of (u.part i))) j in
      omega arith
  deliveries_few g u (Meet i x ∷ ss) w all h j =
      let r = deliveries_few g (meet machine i x u) ss w all h.3 j in
      let p = put_few i (record_of (u.part i)) (taken_at machine i x) (taken_at machine i x) u (omega arith) j in
      omega arith
  deliveries_few g u (Process i ∷ ss) w all h j = absurd all
  deliveries_few g u (RollBack i ∷ ss) w all h j = absurd all
  deliveries_few g u (Commit b ∷ ss) w all h j = absurd all

  module _ (v count : ℕ) where
    -- of the part that a component has in its group's lease
    mine : (P : Part S A → Type 0) (ls : ℕ → Lease S A) (g i : ℕ) → group i ≡ g → P (part_in group ls i) → P ((ls g).part i)
    mine P ls g i own p = subst (λ (h : ℕ). P ((ls h).part i)) own p

    others : (g : ℕ) (ls : ℕ → Lease S A) (l : Lease S A) → ((i : ℕ) → i < count → IsWithin v count (record_of (part_in group ls i))) → ((i : ℕ) → group i ≡ g → i < count → IsWithin v count (record_of (l.part i)))
        → (i : ℕ) → i < count → IsWithin v count (record_of (part_in group (put_lease g l ls) i))
    others g ls l all new i low = go (cases_eq (group i) g)
      where
        go : (group i ≡ g) ⊎ (group i ≡ g → ⊥) → IsWithin v count (record_of (part_in group (put_lease g l ls) i))
        go (inl own) = subst (λ (b : Bool). IsWithin v count (record_of ((cond b l (ls (group i))).part i))) (sym (eq-eqb (group i) g own)) (new i own low)
        go (inr ne) = subst (λ (b : Bool). IsWithin v count (record_of ((cond b l (ls (group i))).part i))) (sym (ne_eqb (group i) g ne)) (all i low)

    -- a lease of which one component did one entry
    ahead_within : (g : ℕ) (u : Shared S A) (steps : List (Step A)) (w : World S A) → ((i : ℕ) → group i ≡ g → i < count → IsWithin v count (record_of ((u.lease g).part i))) → IsAhead machine group v g u steps
        → Does machine group g (alone machine group g (u.lease g)) steps w → (i : ℕ) → group i ≡ g → i < count → IsWithin v count (record_of ((lease_of group g (u.lease g) w).part i))
    ahead_within g u steps w all ahead h i own low =
        subst (λ (l : Lease S A). IsWithin v count (record_of (l.part i))) (sym led) (subst (λ (b : Bool). IsWithin v count (record_of (cond b (changed (put n (with_record ((u.lease g).part n) r) (u.lease g).part i)) ((u.lease g).part i)))) (sym (eq-eqb (group i) g own)) (go (cases_eq i n)))
      where
        n : ℕ
        n = ahead.who

        r : Record S A
        r = after_entry ahead.entry (record_of ((u.lease g).part n))

        d : Does machine group g (alone machine group g (u.lease g)) (Process n ∷ []) w
        d = subst (λ (ss : List (Step A)). Does machine group g (alone machine group g (u.lease g)) ss w) ahead.step h

        changed : Part S A → Part S A
        changed c = record { base = c.base; first = c.first; done = c.done; pending = c.pending; owed = c.owed; plus = sent_by machine n ahead.entry i c.plus; minus = same i c.minus }

        led : lease_of group g (u.lease g) w ≡ lease_after group g n (u.lease g) r (sent_by machine n ahead.entry) same
        led = ap (lease_of group g (u.lease g)) d.1 ∙ process_leased machine group g n ahead.of_group (u.lease g) ahead.entry ahead.next

        go : (i ≡ n) ⊎ (i ≡ n → ⊥) → IsWithin v count (record_of (put n (with_record ((u.lease g).part n) r) (u.lease g).part i))
        go (inl e) =
            subst (λ (b : Bool). IsWithin v count (record_of (cond b (with_record ((u.lease g).part n) r) ((u.lease g).part i)))) (sym (eq-eqb i n e))
            (process_within machine law v count n ahead.entry (record_of ((u.lease g).part n)) ahead.next ahead.room (all n ahead.of_group (subst (λ (m : ℕ). m < count) e low)))
        go (inr ne) = subst (λ (b : Bool). IsWithin v count (record_of (cond b (with_record ((u.lease g).part n) r) ((u.lease g).part i)))) (sym (ne_eqb i n ne)) (all i own low)

    module _ (counted : HasCount machine count) where
      call_within : (u : Shared S A) (c : Call A) (w : Shared S A) → IsWindowed machine group v count u → IsCallWithin machine group v count u c → Called machine group count u c w → IsWindowed machine group v count w
      call_within u (CallMeet g) w is inside h =
          let s = is.shared in
          let met = h.2 in
          let all : (i : ℕ) → group i ≡ g → IsWithin v count (record_of ((u.lease g).part i)) = λ i own. mine (λ c. IsWithin v count (record_of c)) u.lease g i own (is.leases i (inside i own)) in
          subst (λ (x : Shared S A). IsWindowed machine group v count x) (sym h.3)
          (record {
            shared = subst (λ (x : Shared S A). IsShared machine group count x) h.3 (call_kept machine law group count counted u (CallMeet g) w s h);
            exchange = meet_within machine law group v count g inside u.exchange s.sound (u.lease g) (s.leases g) (s.match g) h.0 h.1 met is.exchange all;
            leases = others g u.lease h.1 is.leases (λ i own low. meet_lease machine law group v count g inside u.exchange s.sound (u.lease g) (s.leases g) (s.match g) h.0 h.1 met is.exchange all i own);
          })
      call_within u CallCommit w is inside h =
          let x = is.exchange in
          subst (λ (y : Shared S A). IsWindowed machine group v count y) (sym h.2)
          (record {
            shared = subst (λ (y : Shared S A). IsShared machine group count y) h.2 (call_kept machine law group count counted u CallCommit w is.shared h);
            exchange = subst (λ (d : Exchange A). IsExchangeWithin machine group v count d) (sym h.1.rest) (record { stubs = x.stubs; apart = x.apart });
            leases = is.leases;
          })
      call_within u CallChunk w is inside h =
          let x = is.exchange in
          subst (λ (y : Shared S A). IsWindowed machine group v count y) (sym h.4)
          (record {
            shared = subst (λ (y : Shared S A). IsShared machine group count y) h.4 (call_kept machine law group count counted u CallChunk w is.shared h);
            exchange = subst (λ (d : Exchange A). IsExchangeWithin machine group v count d) (sym h.3.rest) (record { stubs = x.stubs; apart = x.apart });
            leases = is.leases;
          })
      call_within u (CallAlone g steps) w is (inside, how) h = go how
        where
          s : IsShared machine group count u
          s = is.shared

          l : Lease S A
          l = lease_of group g (u.lease g) h.0

          kept : IsShared machine group count (record { exchange = u.exchange; lease = put_lease g l u.lease })
          kept = subst (λ (y : Shared S A). IsShared machine group count y) h.2 (call_kept machine law group count counted u (CallAlone g steps) w s h)

          all : (i : ℕ) → group i ≡ g → IsWithin v count (record_of ((u.lease g).part i))
          all i own = mine (λ c. IsWithin v count (record_of c)) u.lease g i own (is.leases i (inside i own))

          go : IsAhead machine group v g u steps ⊎ IsSettled machine group g u steps → IsWindowed machine group v count w
          go (inl ahead) =
              subst (λ (y : Shared S A). IsWindowed machine group v count y) (sym h.2)
              (record { shared = kept; exchange = is.exchange; leases = others g u.lease l is.leases (ahead_within g u steps h.0 (λ i own low. all i own) ahead h.1) })
          go (inr settled) =
              subst (λ (y : Shared S A). IsWindowed machine group v count y) (sym h.2)
              (record { shared = kept; exchange = is.exchange; leases = others g u.lease l is.leases (λ i own low. record { turns = turns i own; inputs = settled_inputs machine law group v count g inside (u.exchange.stub g) l new.0 new.1 (is.exchange.stubs g) turns i own (plus i own) (minus i own) }) })
            where
              new : IsLease machine group g l × Matches machine group g (u.exchange.stub g) l
              new = does_lease machine law group g (u.exchange.stub g) (u.lease g) (s.leases g) (s.match g) steps h.0 (alone_walks machine group g (alone machine group g (u.lease g)) steps h.0 h.1)

              part_at : (P : Part S A → Type 0) (i : ℕ) → group i ≡ g → P (h.0.part i) → P (l.part i)
              part_at P i own p = subst (λ (b : Bool). P (cond b (h.0.part i) ((u.lease g).part i))) (sym (eq-eqb (group i) g own)) p

              turns : (i : ℕ) → group i ≡ g → own_turns (l.part i).done ≤ v
              turns i own =
                  part_at (λ c. own_turns c.done ≤ v) i own
                  (let few = deliveries_few g (alone machine group g (u.lease g)) steps h.0 settled.deliveries h.1 i in
                  let at : own_turns ((alone machine group g (u.lease g)).part i).done ≡ own_turns ((u.lease g).part i).done = rw (eq-eqb (group i) g own) refl in
                  let t = (all i own).turns in
                  omega arith)

              plus : (i : ℕ) → group i ≡ g → (l.part i).plus ≡ []
              plus i own = part_at (λ c. c.plus ≡ []) i own (settled.plus h.0 h.1 i own)

              minus : (i : ℕ) → group i ≡ g → (l.part i).minus ≡ []
              minus i own = part_at (λ c. c.minus ≡ []) i own (settled.minus h.0 h.1 i own)

      pub calls_within : (calls : List (Call A)) (u w : Shared S A) → IsWindowed machine group v count u → CallsWithin machine group v count u calls w → IsWindowed machine group v count w
      calls_within [] u w is h = subst (λ (x : Shared S A). IsWindowed machine group v count x) (sym h) is
      calls_within (c ∷ cs) u w is h = calls_within cs h.0 w (call_within u c h.0 is h.1 h.2) h.3

      pub start_windowed : IsWindowed machine group v count (start_shared machine group count)
      start_windowed =
          record {
            shared = start_is_shared machine law group count counted;
            exchange = start_within machine law group v count;
            leases = λ i low. record { turns = omega arith; inputs = omega arith };
          }
