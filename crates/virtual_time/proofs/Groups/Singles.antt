-- With groups of one component each definition is that of components.
use Rattle.std.proofs.Common.{◌≡◌, ℕ, ◌+◌, ◌<◌, ◌==◌, ◌&&◌, ◌⊎◌, inl, inr, Bool, true, false, cond, Option, List, [], ◌∷◌, length, refl, ap, sym, subst, ◌∙◌, arith, leb}
use Rattle.std.proofs.lemmas.Bool.{eq-eqb, ne_eqb, cases_eq}
use Rattle.virtual_time.specs.Machine.{Lawful, Machine}
use Rattle.virtual_time.specs.Entries.{Entry, below, from, number, replay, turn_at}
use Rattle.virtual_time.specs.Bags.{AllFrom, inputs, sends, times}
use Rattle.virtual_time.specs.Rules.{IsProper}
use Rattle.virtual_time.specs.Reference.{Turn, outcome_at, point}
use Rattle.virtual_time.specs.Worlds.{Commit, DeliverAntimessage, DeliverMessage, IsPast, Meet, Part, Process, RollBack, Step, World, deliver_antimessage, deliver_message, process, start_part}
use Rattle.virtual_time.specs.Exchange.Stubs.{Exchange, HasRun, IsHeld, IsSound, Stub, reference_sends}
use Rattle.virtual_time.specs.Exchange.Leases.{Does, IsFloor, IsLease, Lease, Matches, alone, apart, lease_of}
use Rattle.virtual_time.specs.Exchange.Meetings.{IsChunk, IsClear, IsCommit, Met, turns_from}
use Rattle.virtual_time.specs.Exchange.Wholes.{IsWholeWorld}
use Rattle.virtual_time.specs.Groups.Stubs
use Rattle.virtual_time.specs.Groups.Leases
use Rattle.virtual_time.specs.Groups.Meetings
use Rattle.virtual_time.specs.Groups.Wholes
use Rattle.virtual_time.specs.Groups.Singles.{MeetsNothing, ones, single_exchange, single_lease, single_stub}
use Rattle.virtual_time.proofs.Exchange.Committed.{sends_self}

pub ones_are : (group : ℕ → ℕ) → ((j : ℕ) → group j ≡ j) → group ≡ ones
ones_are group h = λ v j. h j v

module _ {S A : Type 0} (machine : Machine S A) where
  abbrev whole : ℕ → Lease S A → ℕ → Part S A
  whole i l = (single_lease machine i l).part

  -- of a lease with one part
  pub part_is : (i : ℕ) (l : Lease S A) → whole i l i ≡ l.part
  part_is i l = rw (eq-eqb i i refl)

  pub to : (P : ℕ → Part S A → Type 0) (i : ℕ) (l : Lease S A) → P i l.part → (j : ℕ) → j ≡ i → P j (whole i l j)
  to P i l h j e = subst (λ (n : ℕ). P n (whole i l n)) (sym e) (subst (λ (c : Part S A). P i c) (sym (part_is i l)) h)

  pub back : (P : ℕ → Part S A → Type 0) (i : ℕ) (l : Lease S A) → P i (whole i l i) → P i l.part
  back P i l h = subst (λ (c : Part S A). P i c) (part_is i l) h

  pub none_within : (k j n : ℕ) → (machine.owner k ≡ j → n ≡ 0) → Stubs.within machine ones k j n ≡ 0
  none_within k j n h = go (cases_eq (machine.owner k) j)
    where
      go : (machine.owner k ≡ j) ⊎ (machine.owner k ≡ j → ⊥) → Stubs.within machine ones k j n ≡ 0
      go (inl e) = rw (eq-eqb (machine.owner k) j e) (h e)
      go (inr ne) = rw (ne_eqb (machine.owner k) j ne)

  pub all_between : (k j n : ℕ) → (machine.owner k ≡ j → n ≡ 0) → Stubs.between machine ones k j n ≡ n
  all_between k j n h = go (cases_eq (machine.owner k) j)
    where
      go : (machine.owner k ≡ j) ⊎ (machine.owner k ≡ j → ⊥) → Stubs.between machine ones k j n ≡ n
      go (inl e) = rw (eq-eqb (machine.owner k) j e) (sym (h e))
      go (inr ne) = rw (ne_eqb (machine.owner k) j ne)

  -- A lease
  pub lease_to : (i : ℕ) (l : Lease S A) → IsLease machine i l → Leases.IsLease machine ones i (single_lease machine i l)
  lease_to i l h =
      record {
        end = h.end;
        low = h.low;
        proper = to (λ j c. IsProper machine l.base j c) i l h.proper;
        first = to (λ j c. c.first ≡ (point machine l.base).next j) i l h.first;
        grounded = to (λ j c. c.base ≡ (point machine l.base).state j) i l h.grounded;
        past = to (λ j c. IsPast machine l.floor j c) i l h.past;
        owed = to (λ j c. AllFrom l.floor c.owed) i l h.owed;
        out_plus = h.out_plus;
        out_minus = h.out_minus;
        self_plus = λ j e. ap l.out_plus e ∙ h.self_plus;
        self_minus = λ j e. ap l.out_minus e ∙ h.self_minus;
        mine_plus = h.mine_plus;
        mine_minus = h.mine_minus;
      }

  pub lease_back : (i : ℕ) (l : Lease S A) → Leases.IsLease machine ones i (single_lease machine i l) → IsLease machine i l
  lease_back i l h =
      record {
        end = h.end;
        low = h.low;
        proper = back (λ j c. IsProper machine l.base j c) i l (h.proper i refl);
        first = back (λ j c. c.first ≡ (point machine l.base).next j) i l (h.first i refl);
        grounded = back (λ j c. c.base ≡ (point machine l.base).state j) i l (h.grounded i refl);
        past = back (λ j c. IsPast machine l.floor j c) i l (h.past i refl);
        owed = back (λ j c. AllFrom l.floor c.owed) i l (h.owed i refl);
        out_plus = h.out_plus;
        out_minus = h.out_minus;
        self_plus = h.self_plus i refl;
        self_minus = h.self_minus i refl;
        mine_plus = h.mine_plus;
        mine_minus = h.mine_minus;
      }

  -- Its floor
  pub floor_to : (i b : ℕ) (l : Lease S A) → Lawful machine → IsFloor machine i b l.part → Leases.IsFloor machine ones i b (whole i l)
  floor_to i b l law h =
      record {
        end = let t = h.low.turn in let u = law.bounded i (number l.part.first l.part.done) in omega arith;
        low = to (λ j c. IsPast machine b j c) i l h.low;
        most = λ d end past. h.most d (back (λ j c. IsPast machine d j c) i l (past i refl));
      }

  pub floor_back : (i b : ℕ) (l : Lease S A) → Lawful machine → Leases.IsFloor machine ones i b (whole i l) → IsFloor machine i b l.part
  floor_back i b l law h =
      record {
        low = back (λ j c. IsPast machine b j c) i l (h.low i refl);
        most = λ d past. h.most d (let t = past.turn in let u = law.bounded i (number l.part.first l.part.done) in omega arith) (to (λ j c. IsPast machine d j c) i l past);
      }

  -- Its open world
  pub alone_is : (i : ℕ) (l : Lease S A) → Leases.alone machine ones i (single_lease machine i l) ≡ alone machine i l
  alone_is i l = λ v. record { part = λ j. each j (j == i) v; bound = l.base; committed = (alone machine i l).committed }
    where
      idle : ℕ → Part S A
      idle j = record { base = (point machine l.base).state j; first = (point machine l.base).next j; done = []; pending = []; owed = []; plus = l.out_plus j; minus = l.out_minus j }

      each : (j : ℕ) (b : Bool) → cond b (cond b l.part (start_part machine j)) (idle j) ≡ cond b l.part (idle j)
      each j true = refl
      each j false = refl

  pub apart_is : (i : ℕ) (st : Stub A) → Leases.apart machine ones i (single_stub st) ≡ apart machine i st
  apart_is i st = refl

  pub lease_of_is : (i : ℕ) (l : Lease S A) (w : World S A) → Leases.lease_of ones i (single_lease machine i l) w ≡ single_lease machine i (lease_of i l.floor w)
  lease_of_is i l w = λ v. record { base = w.bound; floor = l.floor; part = λ j. each j (cases_eq j i) v; out_plus = λ j. cond (j == i) [] (w.part j).plus; out_minus = λ j. cond (j == i) [] (w.part j).minus }
    where
      each : (j : ℕ) → (j ≡ i) ⊎ (j ≡ i → ⊥) → cond (j == i) (w.part j) (cond (j == i) l.part (start_part machine j)) ≡ cond (j == i) (w.part i) (start_part machine j)
      each j (inl e) = rw (eq-eqb j i e) (ap w.part e)
      each j (inr ne) = rw (ne_eqb j i ne)

  -- What it does, where it meets nothing
  pub does_to : (i : ℕ) (u : World S A) (ss : List (Step A)) (v : World S A) → Does machine i u ss v → Leases.Does machine ones i u ss v × MeetsNothing ss
  does_to i u [] v h = (h, tt)
  does_to i u (Process j ∷ ss) v h =
      let r = does_to i (process machine i u) ss v h.1 in
      ((h.0, subst (λ (n : ℕ). Leases.Does machine ones i (process machine n u) ss v) (sym h.0) r.0), r.1)
  does_to i u (DeliverMessage j x ∷ ss) v h =
      let r = does_to i (deliver_message machine i x u) ss v h.2 in
      ((h.0, subst (λ (n : ℕ). 0 < times machine (u.part n).plus x.key x.action) (sym h.0) h.1, subst (λ (n : ℕ). Leases.Does machine ones i (deliver_message machine n x u) ss v) (sym h.0) r.0), r.1)
  does_to i u (DeliverAntimessage j x ∷ ss) v h =
      let r = does_to i (deliver_antimessage machine i x u) ss v h.2 in
      ((h.0, subst (λ (n : ℕ). 0 < times machine (u.part n).minus x.key x.action) (sym h.0) h.1, subst (λ (n : ℕ). Leases.Does machine ones i (deliver_antimessage machine n x u) ss v) (sym h.0) r.0), r.1)
  does_to i u (RollBack j ∷ ss) v h = absurd h
  does_to i u (Meet j x ∷ ss) v h = absurd h
  does_to i u (Commit b ∷ ss) v h = absurd h

  pub does_back : (i : ℕ) (u : World S A) (ss : List (Step A)) (v : World S A) → Leases.Does machine ones i u ss v → MeetsNothing ss → Does machine i u ss v
  does_back i u [] v h n = h
  does_back i u (Process j ∷ ss) v h n = (h.0, does_back i (process machine i u) ss v (subst (λ (n : ℕ). Leases.Does machine ones i (process machine n u) ss v) h.0 h.1) n)
  does_back i u (DeliverMessage j x ∷ ss) v h n =
      (h.0, subst (λ (n : ℕ). 0 < times machine (u.part n).plus x.key x.action) h.0 h.1, does_back i (deliver_message machine i x u) ss v (subst (λ (n : ℕ). Leases.Does machine ones i (deliver_message machine n x u) ss v) h.0 h.2) n)
  does_back i u (DeliverAntimessage j x ∷ ss) v h n =
      (h.0, subst (λ (n : ℕ). 0 < times machine (u.part n).minus x.key x.action) h.0 h.1, does_back i (deliver_antimessage machine i x u) ss v (subst (λ (n : ℕ). Leases.Does machine ones i (deliver_antimessage machine n x u) ss v) h.0 h.2) n)
  does_back i u (RollBack j ∷ ss) v h n = absurd h
  does_back i u (Meet j x ∷ ss) v h n = absurd n
  does_back i u (Commit b ∷ ss) v h n = absurd h

  -- What is clear, a commit, a chunk
  pub clear_to : (e : Exchange A) (b : ℕ) → IsClear machine e b → Meetings.IsClear machine (single_exchange e) b
  clear_to e b h = record { end = h.end; floor = h.floor; plus = h.plus; minus = h.minus }

  pub clear_back : (e : Exchange A) (b : ℕ) → Meetings.IsClear machine (single_exchange e) b → IsClear machine e b
  clear_back e b h = record { end = h.end; floor = h.floor; plus = h.plus; minus = h.minus }

  -- exchanges are equal where those of groups are
  pub whole_stub : Stubs.Exchange A → ℕ → Stub A
  whole_stub e j = record { base = (e.stub j).base; floor = (e.stub j).floor; taken = (e.stub j).taken j; standing = (e.stub j).standing; plus = e.plus j; minus = e.minus j }

  pub exchange_back : (e f : Exchange A) → single_exchange e ≡ single_exchange f → e ≡ f
  unfolding whole_stub
  exchange_back e f h = ap (λ (x : Stubs.Exchange A). record { stub = whole_stub x; bound = x.bound; held = x.held; given = x.given }) h

  pub commit_to : (e f : Exchange A) → IsCommit machine e f → Meetings.IsCommit machine (single_exchange e) (single_exchange f)
  commit_to e f h = record { clear = clear_to e f.bound h.clear; most = λ b c. h.most b (clear_back e b c); rest = ap single_exchange h.rest }

  pub commit_back : (e f : Exchange A) → Meetings.IsCommit machine (single_exchange e) (single_exchange f) → IsCommit machine e f
  commit_back e f h =
      record { clear = clear_back e f.bound h.clear; most = λ b c. h.most b (clear_to e b c); rest = exchange_back f (record { stub = e.stub; bound = f.bound; held = e.held; given = e.given }) h.rest }

  pub chunk_to : (count : ℕ) (e : Exchange A) (b : ℕ) (f : Exchange A) (ts : List (Turn A)) → IsChunk machine count e b f ts → Meetings.IsChunk machine ones count (single_exchange e) b (single_exchange f) ts
  chunk_to count e b f ts h = record { end = h.end; low = h.low; most = h.most; turns = h.turns; rest = ap single_exchange h.rest }

  pub chunk_back : (count : ℕ) (e : Exchange A) (b : ℕ) (f : Exchange A) (ts : List (Turn A)) → Meetings.IsChunk machine ones count (single_exchange e) b (single_exchange f) ts → IsChunk machine count e b f ts
  chunk_back count e b f ts h =
      record { end = h.end; low = h.low; most = h.most; turns = h.turns; rest = exchange_back f (record { stub = e.stub; bound = e.bound; held = turns_from b e.held; given = e.given + length ts }) h.rest }

  -- The whole world
  pub whole_to : (e : Exchange A) (ls : ℕ → Lease S A) (w : World S A) → IsWholeWorld machine e ls w → Wholes.IsWholeWorld machine ones (single_exchange e) (λ j. single_lease machine j (ls j)) w
  whole_to e ls w h =
      record {
        bound = h.bound;
        committed = h.committed;
        base = λ j. to (λ n c. (w.part n).base ≡ replay machine n c.base (below e.bound c.done)) j (ls j) (h.base j) j refl;
        first = λ j. to (λ n c. (w.part n).first ≡ number c.first (below e.bound c.done)) j (ls j) (h.first j) j refl;
        done = λ j. to (λ n c. (w.part n).done ≡ from e.bound c.done) j (ls j) (h.done j) j refl;
        pending = λ j. to (λ n c. (w.part n).pending ≡ c.pending) j (ls j) (h.pending j) j refl;
        owed = λ j. to (λ n c. (w.part n).owed ≡ c.owed) j (ls j) (h.owed j) j refl;
        plus = λ j k a. to (λ n c. times machine (w.part n).plus k a ≡ times machine c.plus k a + times machine (e.stub n).plus k a + times machine ((ls (machine.owner k)).out_plus n) k a) j (ls j) (h.plus j k a) j refl;
        minus = λ j k a. to (λ n c. times machine (w.part n).minus k a ≡ times machine c.minus k a + times machine (e.stub n).minus k a + times machine ((ls (machine.owner k)).out_minus n) k a) j (ls j) (h.minus j k a) j refl;
      }

  pub whole_back : (e : Exchange A) (ls : ℕ → Lease S A) (w : World S A) → Wholes.IsWholeWorld machine ones (single_exchange e) (λ j. single_lease machine j (ls j)) w → IsWholeWorld machine e ls w
  whole_back e ls w h =
      record {
        bound = h.bound;
        committed = h.committed;
        base = λ j. back (λ n c. (w.part n).base ≡ replay machine n c.base (below e.bound c.done)) j (ls j) (h.base j);
        first = λ j. back (λ n c. (w.part n).first ≡ number c.first (below e.bound c.done)) j (ls j) (h.first j);
        done = λ j. back (λ n c. (w.part n).done ≡ from e.bound c.done) j (ls j) (h.done j);
        pending = λ j. back (λ n c. (w.part n).pending ≡ c.pending) j (ls j) (h.pending j);
        owed = λ j. back (λ n c. (w.part n).owed ≡ c.owed) j (ls j) (h.owed j);
        plus = λ j k a. back (λ n c. times machine (w.part n).plus k a ≡ times machine c.plus k a + times machine (e.stub n).plus k a + times machine ((ls (machine.owner k)).out_plus n) k a) j (ls j) (h.plus j k a);
        minus = λ j k a. back (λ n c. times machine (w.part n).minus k a ≡ times machine c.minus k a + times machine (e.stub n).minus k a + times machine ((ls (machine.owner k)).out_minus n) k a) j (ls j) (h.minus j k a);
      }

  -- What lawfulness gives: nobody receives its own messages
  module _ (law : Lawful machine) where
    pub self_sends : (fs : List (Entry A)) (k : ℕ) (a : A) (j : ℕ) → machine.owner k ≡ j → sends machine fs k a j ≡ 0
    self_sends fs k a j own = subst (λ (n : ℕ). sends machine fs k a n ≡ 0) own (sends_self machine law fs k a)

    self_reference : (k : ℕ) (a : A) (j : ℕ) → machine.owner k ≡ j → reference_sends machine k a j ≡ 0
    self_reference k a j own = subst (λ (n : ℕ). reference_sends machine k a n ≡ 0) own (rw (law.others (machine.owner k) a))

    pub matches_to : (i : ℕ) (st : Stub A) (l : Lease S A) → Matches machine i st l → Leases.Matches machine ones i (single_stub st) (single_lease machine i l)
    matches_to i st l h =
        record {
          base = h.base;
          floor = h.floor;
          taken = λ n k a e.
              let z = none_within k n (sends machine (whole i l (machine.owner k)).done k a n) (self_sends (whole i l (machine.owner k)).done k a n) in
              let m = to (λ j c. st.taken k a + times machine c.owed k a + times machine c.minus k a ≡ inputs machine c.done k a + times machine c.pending k a + times machine c.plus k a) i l (h.taken k a) n e in
              omega arith;
          standing = λ k a j own.
              let z = all_between k j (sends machine (whole i l (machine.owner k)).done k a j) (self_sends (whole i l (machine.owner k)).done k a j) in
              let m = to (λ n c. st.standing k a j + times machine (l.out_plus j) k a ≡ sends machine c.done k a j + times machine (l.out_minus j) k a) i l (h.standing k a j own) (machine.owner k) own in
              omega arith;
        }

    pub matches_back : (i : ℕ) (st : Stub A) (l : Lease S A) → Leases.Matches machine ones i (single_stub st) (single_lease machine i l) → Matches machine i st l
    matches_back i st l h =
        record {
          base = h.base;
          floor = h.floor;
          taken = λ k a.
              let z = none_within k i (sends machine (whole i l (machine.owner k)).done k a i) (self_sends (whole i l (machine.owner k)).done k a i) in
              let m = h.taken i k a refl in
              back (λ j c. st.taken k a + times machine c.owed k a + times machine c.minus k a ≡ inputs machine c.done k a + times machine c.pending k a + times machine c.plus k a) i l (omega arith);
          standing = λ k a j own.
              let z = all_between k j (sends machine (whole i l (machine.owner k)).done k a j) (self_sends (whole i l (machine.owner k)).done k a j) in
              let m = h.standing k a j own in
              let n : st.standing k a j + times machine (l.out_plus j) k a ≡ sends machine (whole i l (machine.owner k)).done k a j + times machine (l.out_minus j) k a = omega arith in
              back (λ n c. st.standing k a j + times machine (l.out_plus j) k a ≡ sends machine c.done k a j + times machine (l.out_minus j) k a) i l
              (subst (λ (n : ℕ). st.standing k a j + times machine (l.out_plus j) k a ≡ sends machine (whole i l n).done k a j + times machine (l.out_minus j) k a) own n);
        }

    -- A stub's run, and a sound exchange
    pub run_to : (i : ℕ) (st : Stub A) → HasRun machine i st → Stubs.HasRun machine ones i (single_stub st)
    run_to i st h =
        record {
          es = λ j. h.es;
          done = λ j e. rw e h.done;
          next = λ j e. rw e h.next;
          ins = λ j k a e low high. let z = none_within k j (sends machine h.es k a j) (self_sends h.es k a j) in let m = h.ins k a low high in omega arith;
          outs = λ k a j own low high. all_between k j (sends machine h.es k a j) (self_sends h.es k a j) ∙ h.outs k a j own low high;
        }

    pub run_back : (i : ℕ) (st : Stub A) → Stubs.HasRun machine ones i (single_stub st) → HasRun machine i st
    run_back i st h =
        record {
          es = h.es i;
          done = h.done i refl;
          next = h.next i refl;
          ins = λ k a low high. let z = none_within k i (sends machine (h.es (machine.owner k)) k a i) (self_sends (h.es (machine.owner k)) k a i) in let m = h.ins i k a refl low high in omega arith;
          outs = λ k a j own low high.
              subst (λ (n : ℕ). sends machine (h.es n) k a j ≡ st.standing k a j) own (sym (all_between k j (sends machine (h.es (machine.owner k)) k a j) (self_sends (h.es (machine.owner k)) k a j)) ∙ h.outs k a j own low high);
        }

    pub held_to : (count : ℕ) (e : Exchange A) (b : ℕ) → IsHeld machine count e b → Stubs.IsHeld machine ones count (single_exchange e) b
    held_to count e b h = record { end = h.end; low = h.low; counted = h.counted; given = h.given; falls = h.falls; turns = h.turns }

    pub held_back : (count : ℕ) (e : Exchange A) (b : ℕ) → Stubs.IsHeld machine ones count (single_exchange e) b → IsHeld machine count e b
    held_back count e b h = record { end = h.end; low = h.low; counted = h.counted; given = h.given; falls = h.falls; turns = h.turns }

    pub sound_to : (count : ℕ) (e : Exchange A) → IsSound machine count e → Stubs.IsSound machine ones count (single_exchange e)
    sound_to count e h =
        record {
          end = h.end;
          base = h.base;
          floor = h.floor;
          plus = h.plus;
          minus = h.minus;
          even = h.even;
          settled = λ j k a low high. h.settled j k a low high ∙ sym (all_between k j (reference_sends machine k a j) (self_reference k a j));
          sent = λ j k a low high. h.sent j k a low high ∙ sym (all_between k j (reference_sends machine k a j) (self_reference k a j));
          runs = λ j. run_to j (e.stub j) (h.runs j);
          one_taken = h.one_taken;
          one_standing = h.one_standing;
          low_taken = h.low_taken;
          low_standing = h.low_standing;
          held = (h.held.0, held_to count e h.held.0 h.held.1);
        }

    pub sound_back : (count : ℕ) (e : Exchange A) → Stubs.IsSound machine ones count (single_exchange e) → IsSound machine count e
    sound_back count e h =
        record {
          end = h.end;
          base = h.base;
          floor = h.floor;
          plus = h.plus;
          minus = h.minus;
          even = h.even;
          settled = λ j k a low high. h.settled j k a low high ∙ all_between k j (reference_sends machine k a j) (self_reference k a j);
          sent = λ j k a low high. h.sent j k a low high ∙ all_between k j (reference_sends machine k a j) (self_reference k a j);
          runs = λ j. run_back j (e.stub j) (h.runs j);
          one_taken = h.one_taken;
          one_standing = h.one_standing;
          low_taken = h.low_taken;
          low_standing = h.low_standing;
          held = (h.held.0, held_back count e h.held.0 h.held.1);
        }

    -- A meeting
    taken_in : (i : ℕ) (l : Lease S A) (b k : ℕ) (v : Bool) (y : Option (Option A))
        → cond (v && (machine.owner k == i)) (turn_at k (below b (whole i l (machine.owner k)).done)) y ≡ cond (v && (machine.owner k == i)) (turn_at k (below b l.part.done)) y
    taken_in i l b k v y = go (cases_eq (machine.owner k) i)
      where
        skip : (u : Bool) (x z : Option (Option A)) → cond (u && false) x y ≡ cond (u && false) z y
        skip true x z = refl
        skip false x z = refl

        go : (machine.owner k ≡ i) ⊎ (machine.owner k ≡ i → ⊥) → cond (v && (machine.owner k == i)) (turn_at k (below b (whole i l (machine.owner k)).done)) y ≡ cond (v && (machine.owner k == i)) (turn_at k (below b l.part.done)) y
        go (inl own) = to (λ n c. cond (v && (machine.owner k == i)) (turn_at k (below b c.done)) y ≡ cond (v && (machine.owner k == i)) (turn_at k (below b l.part.done)) y) i l refl (machine.owner k) own
        go (inr ne) = rw (ne_eqb (machine.owner k) i ne) (skip v (turn_at k (below b (start_part machine (machine.owner k)).done)) (turn_at k (below b l.part.done)))

    pub met_to : (i : ℕ) (e : Exchange A) (l : Lease S A) (e' : Exchange A) (l' : Lease S A) → Met machine i e l e' l' → Meetings.Met machine ones i (single_exchange e) (single_lease machine i l) (single_exchange e') (single_lease machine i l')
    met_to i e l e' l' h =
        record {
          p = h.p;
          m = h.m;
          gone = h.gone;
          by_plus = h.by_plus;
          by_minus = h.by_minus;
          apart = h.apart;
          p_low = h.p_low;
          m_low = h.m_low;
          others = λ j ne. ap single_stub (h.others j ne);
          others_plus = λ j ne. ap (λ (st : Stub A). st.plus) (h.others j ne);
          others_minus = λ j ne. ap (λ (st : Stub A). st.minus) (h.others j ne);
          bound = h.bound;
          given = h.given;
          base = h.base;
          first = both (λ j c d. d.first ≡ number c.first (below e.bound c.done)) h.first;
          state = both (λ j c d. d.base ≡ replay machine j c.base (below e.bound c.done)) h.state;
          done = both (λ j c d. d.done ≡ from e.bound c.done) h.done;
          pending = both (λ j c d. d.pending ≡ c.pending) h.pending;
          owed = both (λ j c d. d.owed ≡ c.owed) h.owed;
          tray_plus = λ n k a f. both (λ j c d. times machine d.plus k a ≡ times machine c.plus k a + times machine (h.p j) k a) (h.tray_plus k a) n f;
          tray_minus = λ n k a f. both (λ j c d. times machine d.minus k a ≡ times machine c.minus k a + times machine (h.m j) k a) (h.tray_minus k a) n f;
          tray_low = both (λ j c d. AllFrom e.bound d.plus) h.tray_low;
          tray_low_minus = both (λ j c d. AllFrom e.bound d.minus) h.tray_low_minus;
          out_plus = h.out_plus;
          out_minus = h.out_minus;
          floor = floor_to i l'.floor l' law h.floor;
          matches = matches_to i (e'.stub i) l' h.matches;
          inbox_plus = λ j f. ap (λ (n : ℕ). (e'.stub n).plus) f ∙ h.inbox_plus;
          inbox_minus = λ j f. ap (λ (n : ℕ). (e'.stub n).minus) f ∙ h.inbox_minus;
          falls = h.falls;
          turns = λ k. h.turns k ∙ sym (taken_in i l e.bound k (leb (e.stub i).base k) (outcome_at k e.held));
        }
      where
        both : (P : ℕ → Part S A → Part S A → Type 0) → P i l.part l'.part → (j : ℕ) → j ≡ i → P j (whole i l j) (whole i l' j)
        both P q = to (λ j c. P j c (whole i l' j)) i l (back (λ j d. P j l.part (whole i l' j)) i l' (to (λ j d. P j l.part d) i l' q i refl))

    pub met_back : (i : ℕ) (e : Exchange A) (l : Lease S A) (e' : Exchange A) (l' : Lease S A) → Meetings.Met machine ones i (single_exchange e) (single_lease machine i l) (single_exchange e') (single_lease machine i l') → Met machine i e l e' l'
    met_back i e l e' l' h =
        record {
          p = h.p;
          m = h.m;
          gone = h.gone;
          by_plus = h.by_plus;
          by_minus = h.by_minus;
          apart = h.apart;
          p_low = h.p_low;
          m_low = h.m_low;
          others = λ j ne v. record { base = (h.others j ne v).base; floor = (h.others j ne v).floor; taken = (h.others j ne v).taken j; standing = (h.others j ne v).standing; plus = h.others_plus j ne v; minus = h.others_minus j ne v };
          bound = h.bound;
          given = h.given;
          base = h.base;
          first = both (λ j c d. d.first ≡ number c.first (below e.bound c.done)) (h.first i refl);
          state = both (λ j c d. d.base ≡ replay machine j c.base (below e.bound c.done)) (h.state i refl);
          done = both (λ j c d. d.done ≡ from e.bound c.done) (h.done i refl);
          pending = both (λ j c d. d.pending ≡ c.pending) (h.pending i refl);
          owed = both (λ j c d. d.owed ≡ c.owed) (h.owed i refl);
          tray_plus = λ k a. both (λ j c d. times machine d.plus k a ≡ times machine c.plus k a + times machine (h.p j) k a) (h.tray_plus i k a refl);
          tray_minus = λ k a. both (λ j c d. times machine d.minus k a ≡ times machine c.minus k a + times machine (h.m j) k a) (h.tray_minus i k a refl);
          tray_low = both (λ j c d. AllFrom e.bound d.plus) (h.tray_low i refl);
          tray_low_minus = both (λ j c d. AllFrom e.bound d.minus) (h.tray_low_minus i refl);
          out_plus = h.out_plus;
          out_minus = h.out_minus;
          floor = floor_back i l'.floor l' law h.floor;
          matches = matches_back i (e'.stub i) l' h.matches;
          inbox_plus = h.inbox_plus i refl;
          inbox_minus = h.inbox_minus i refl;
          falls = h.falls;
          turns = λ k. h.turns k ∙ taken_in i l e.bound k (leb (e.stub i).base k) (outcome_at k e.held);
        }
      where
        both : (P : ℕ → Part S A → Part S A → Type 0) → P i (whole i l i) (whole i l' i) → P i l.part l'.part
        both P q = back (λ j c. P j c l'.part) i l (back (λ j d. P j (whole i l i) d) i l' q)
