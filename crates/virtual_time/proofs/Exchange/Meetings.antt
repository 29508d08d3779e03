-- A meeting keeps the exchange sound, and leaves a lease that matches it.
use Rattle.std.proofs.Common.{◌≡◌, ℕ, ◌+◌, ◌<◌, ◌≤◌, ◌==◌, ◌&&◌, ◌⊎◌, inl, inr, Bool, true, false, cond, Option, None, refl, ap, sym, subst, ◌∙◌, arith, ltb, leb}
use Rattle.std.proofs.lemmas.Bool.{lt-ltb, le-ltb, le-leb, lt-leb, eq-eqb, ne_eqb, cases_eq, cases_lt}
use Rattle.virtual_time.specs.Machine.{Lawful, Machine}
use Rattle.virtual_time.specs.Bags.{AllFrom, inputs, sends, times}
use Rattle.virtual_time.specs.Entries.{below, from, number, replay, turn_at}
use Rattle.virtual_time.specs.Worlds.{IsPast}
use Rattle.virtual_time.specs.Rules.{IsDone, IsProper, MayFollow}
use Rattle.virtual_time.specs.Reference.{reference_turn, outcome_at}
use Rattle.virtual_time.specs.Exchange.Stubs.{Exchange, IsHeld, IsSound, HasRun, Stub, reference_sends}
use Rattle.virtual_time.specs.Exchange.Leases.{IsLease, Lease, Matches}
use Rattle.virtual_time.specs.Exchange.Meetings.{Met}
use Rattle.virtual_time.proofs.Lists.{AllFrom-weaken, Each-both}
use Rattle.virtual_time.proofs.Joint.{all_zero}
use Rattle.virtual_time.proofs.Commits.{IsDone-from, inputs_from, inputs_split, sends_from, number_split, follow_from}
use Rattle.virtual_time.proofs.Refs.{At, no_turn, own_turn}
use Rattle.virtual_time.proofs.Exchange.Committed.{at_bound}
use Rattle.virtual_time.proofs.Exchange.Wholes.{low_counts}
use Rattle.virtual_time.proofs.Exchange.Ones.{sends_one, sends_low, inputs_low, turn_below, turn_above}

module _ {S A : Type 0} (machine : Machine S A) (law : Lawful machine) {count : ℕ} (i : ℕ) (e : Exchange A) (is : IsSound machine count e) (l : Lease S A) (lease : IsLease machine i l) (match : Matches machine i (e.stub i) l) where
  pub low : l.base ≤ e.bound
  low = let b = is.base i in let h = match.base in omega arith

  pub high : e.bound ≤ l.floor
  high = let b = is.floor i in let h = match.floor in omega arith

  -- below its floor a matching lease has done what it has taken, and owes nothing
  pub ins_below : (k : ℕ) (a : A) → l.base ≤ k → k < l.floor → inputs machine l.part.done k a ≡ (e.stub i).taken k a
  ins_below k a low h =
      let m = match.taken k a in
      let p = all_zero machine law l.floor k l.part.pending lease.past.pending h a in
      let q = all_zero machine law l.floor k l.part.plus lease.past.plus h a in
      let r = all_zero machine law l.floor k l.part.minus lease.past.minus h a in
      let o = lease.proper.owed k a in
      omega arith

  pub at_g : At machine law i l.base l.part.first l.part.base l.part.done lease.proper.done e.bound
  at_g = at_bound machine law i l.base l.part.first l.part.base l.part.done lease.proper.done lease.first lease.grounded e.bound low
      (λ c a h k. ins_below c a h (omega (arith, high)) ∙ is.settled i c a (let b = match.base in omega arith) k)
      (let n = lease.past.turn in omega (arith, high))

  pub done_g : IsDone machine i e.bound (number l.part.first (below e.bound l.part.done)) (replay machine i l.part.base (below e.bound l.part.done)) (from e.bound l.part.done)
  done_g = IsDone-from machine law i l.base l.part.first l.part.base e.bound l.part.done lease.proper.done (let n = lease.past.turn in omega (arith, high))

  -- own turns of the record below the bound are the reference's
  pub turns_ref : (k : ℕ) → machine.owner k ≡ i → l.base ≤ k → k < e.bound → turn_at k l.part.done ≡ reference_turn machine k
  turns_ref k own h m =
      own_turn machine law i l.base l.part.first l.part.base l.part.done lease.proper.done k (let n = lease.past.turn in omega (arith, high)) own none
      (at_bound machine law i l.base l.part.first l.part.base l.part.done lease.proper.done lease.first lease.grounded k h
      (λ c a p q. ins_below c a p (omega (arith, high)) ∙ is.settled i c a (let b = match.base in omega arith) (omega arith))
      (let n = lease.past.turn in omega (arith, high)))
    where
      none : (a : A) → inputs machine l.part.done k a ≡ 0
      none a = ins_below k a h (omega (arith, high)) ∙ is.settled i k a (let b = match.base in omega arith) m ∙ subst (λ (j : ℕ). reference_sends machine k a j ≡ 0) own (rw (law.others (machine.owner k) a))

  module _ (e' : Exchange A) (l' : Lease S A) (met : Met machine i e l e' l') where
    pub new_base : (e'.stub i).base ≡ e.bound
    new_base = sym met.matches.base ∙ met.base

    pub done_new : IsDone machine i e.bound l'.part.first l'.part.base l'.part.done
    done_new = rw (met.first, met.state, met.done) done_g

    pub past_g : IsPast machine e.bound i l'.part
    past_g =
        record {
          turn = let n = number_split e.bound l.part.first l.part.done in rw (met.first, met.done, n) (let t = lease.past.turn in omega (arith, high));
          pending = rw met.pending (AllFrom-weaken e.bound l.floor l.part.pending high lease.past.pending);
          plus = met.tray_low;
          minus = met.tray_low_minus;
        }

    pub floor_high : e.bound ≤ l'.floor
    floor_high = met.floor.most e.bound past_g

    pub owed_new : (k : ℕ) (a : A) → (times machine l'.part.owed k a ≡ 0) ⊎ (times machine l'.part.pending k a + inputs machine l'.part.done k a ≡ 0)
    owed_new k a = rw (met.owed, met.pending, met.done) (less (lease.proper.owed k a) (inputs_split machine law e.bound l.part.done k a))
      where
        less : (times machine l.part.owed k a ≡ 0) ⊎ (times machine l.part.pending k a + inputs machine l.part.done k a ≡ 0)
            → inputs machine (from e.bound l.part.done) k a ≤ inputs machine l.part.done k a
            → (times machine l.part.owed k a ≡ 0) ⊎ (times machine l.part.pending k a + inputs machine (from e.bound l.part.done) k a ≡ 0)
        less (inl h) m = inl h
        less (inr h) m = inr (omega arith)

    pub proper_new : IsProper machine e.bound i l'.part
    proper_new =
        record {
          done = done_new;
          pending = rw (met.pending, met.done) (Each-both (λ y. e.bound ≤ y.key) (MayFollow machine l.base l.part.done) (MayFollow machine e.bound (from e.bound l.part.done)) l.part.pending
              (λ y h f. follow_from machine l.base e.bound l.part.done y h f) (AllFrom-weaken e.bound l.floor l.part.pending high lease.past.pending) lease.proper.pending);
          sorted = rw met.pending lease.proper.sorted;
          owed_sorted = rw met.owed lease.proper.owed_sorted;
          plus = met.tray_low;
          minus = met.tray_low_minus;
          owed = owed_new;
        }

    pub lease_new : IsLease machine i l'
    lease_new =
        record {
          end = rw met.base is.end;
          low = rw met.base floor_high;
          proper = rw met.base proper_new;
          first = rw met.base (met.first ∙ at_g.next);
          grounded = rw met.base (met.state ∙ at_g.state);
          past = met.floor.low;
          owed = low_counts machine law l'.floor l'.part.owed (λ k a h.
              let n = met.matches.taken k a in
              let p = all_zero machine law l'.floor k l'.part.pending met.floor.low.pending h a in
              let q = all_zero machine law l'.floor k l'.part.plus met.floor.low.plus h a in
              let o = owed_new k a in
              omega arith);
          out_plus = λ j. rw (met.out_plus j) tt;
          out_minus = λ j. rw (met.out_minus j) tt;
          self_plus = met.out_plus i;
          self_minus = met.out_minus i;
          mine_plus = λ j k a ne. rw (met.out_plus j) refl;
          mine_minus = λ j k a ne. rw (met.out_minus j) refl;
        }

    -- the other stubs
    pub old : (P : Stub A → Type 0) (j : ℕ) → (j ≡ i → ⊥)
        → P (record { base = (e.stub j).base; floor = (e.stub j).floor; taken = (e.stub j).taken; standing = (e.stub j).standing; plus = met.p j; minus = met.m j }) → P (e'.stub j)
    old P j ne h = subst P (sym (met.others j ne)) h

    pub mine : (P : Stub A → Type 0) (j : ℕ) → j ≡ i → P (e'.stub i) → P (e'.stub j)
    mine P j h p = subst (λ (m : ℕ). P (e'.stub m)) (sym h) p

    -- standing sends: the old ones with what went out
    pub sends_new : (k : ℕ) (a : A) (j : ℕ) → machine.owner k ≡ i → (e'.stub i).standing k a j ≡ sends machine l'.part.done k a j
    sends_new k a j own =
        let m = met.matches.standing k a j own in
        let p : times machine (l'.out_plus j) k a ≡ 0 = rw (met.out_plus j) refl in
        let q : times machine (l'.out_minus j) k a ≡ 0 = rw (met.out_minus j) refl in
        omega arith

    pub standing_moves : (j k : ℕ) (a : A) → e.bound ≤ k → (e.stub (machine.owner k)).standing k a j + times machine (l.out_plus j) k a ≡ (e'.stub (machine.owner k)).standing k a j + times machine (l.out_minus j) k a
    standing_moves j k a h = go (cases_eq (machine.owner k) i)
      where
        go : (machine.owner k ≡ i) ⊎ (machine.owner k ≡ i → ⊥) → (e.stub (machine.owner k)).standing k a j + times machine (l.out_plus j) k a ≡ (e'.stub (machine.owner k)).standing k a j + times machine (l.out_minus j) k a
        go (inl own) =
            let m = match.standing k a j own in
            let n = sends_new k a j own in
            let f : sends machine l'.part.done k a j ≡ sends machine l.part.done k a j = rw met.done (sends_from machine law i l.base l.part.first l.part.base e.bound l.part.done lease.proper.done k h a j) in
            let x : (e.stub (machine.owner k)).standing k a j ≡ (e.stub i).standing k a j = ap (λ (m : ℕ). (e.stub m).standing k a j) own in
            let y : (e'.stub (machine.owner k)).standing k a j ≡ (e'.stub i).standing k a j = ap (λ (m : ℕ). (e'.stub m).standing k a j) own in
            omega arith
        go (inr ne) =
            let p = lease.mine_plus j k a ne in
            let q = lease.mine_minus j k a ne in
            let x : (e'.stub (machine.owner k)).standing k a j ≡ (e.stub (machine.owner k)).standing k a j = old (λ st. st.standing k a j ≡ (e.stub (machine.owner k)).standing k a j) (machine.owner k) ne refl in
            omega arith

    -- taken messages: the old ones with what came in
    pub taken_moves : (j k : ℕ) (a : A) → e.bound ≤ k
        → (e'.stub j).taken k a + times machine (e'.stub j).plus k a + times machine (met.m j) k a ≡ (e.stub j).taken k a + times machine (met.p j) k a + times machine (e'.stub j).minus k a
    taken_moves j k a h = go (cases_eq j i)
      where
        here : (e'.stub i).taken k a + times machine (e'.stub i).plus k a + times machine (met.m i) k a ≡ (e.stub i).taken k a + times machine (met.p i) k a + times machine (e'.stub i).minus k a
        here =
            let m = match.taken k a in
            let n = met.matches.taken k a in
            let o : times machine l'.part.owed k a ≡ times machine l.part.owed k a = rw met.owed refl in
            let p : times machine l'.part.pending k a ≡ times machine l.part.pending k a = rw met.pending refl in
            let d : inputs machine l'.part.done k a ≡ inputs machine l.part.done k a = rw met.done (inputs_from machine law i l.base l.part.first l.part.base e.bound l.part.done lease.proper.done k h a) in
            let t = met.tray_plus k a in
            let u = met.tray_minus k a in
            let x : times machine (e'.stub i).plus k a ≡ 0 = rw met.inbox_plus refl in
            let y : times machine (e'.stub i).minus k a ≡ 0 = rw met.inbox_minus refl in
            omega arith

        go : (j ≡ i) ⊎ (j ≡ i → ⊥) → (e'.stub j).taken k a + times machine (e'.stub j).plus k a + times machine (met.m j) k a ≡ (e.stub j).taken k a + times machine (met.p j) k a + times machine (e'.stub j).minus k a
        go (inl f) = subst (λ (n : ℕ). (e'.stub n).taken k a + times machine (e'.stub n).plus k a + times machine (met.m n) k a ≡ (e.stub n).taken k a + times machine (met.p n) k a + times machine (e'.stub n).minus k a) (sym f) here
        go (inr ne) = old (λ st. st.taken k a + times machine st.plus k a + times machine (met.m j) k a ≡ (e.stub j).taken k a + times machine (met.p j) k a + times machine st.minus k a) j ne (omega arith)

    -- what is standing is taken or in the inbox
    pub even_new : (j k : ℕ) (a : A) → e.bound ≤ k → (e'.stub (machine.owner k)).standing k a j + times machine (e'.stub j).minus k a ≡ (e'.stub j).taken k a + times machine (e'.stub j).plus k a
    even_new j k a h =
        let s = standing_moves j k a h in
        let t = taken_moves j k a h in
        let b = met.by_plus j k a in
        let c = met.by_minus j k a in
        let v = is.even j k a h in
        omega arith

    -- below the base nothing is taken or standing
    pub low_mine : (k : ℕ) (a : A) → k < e.bound → (e'.stub i).taken k a ≡ 0
    low_mine k a h =
        let n = met.matches.taken k a in
        let d = inputs_low machine law i e.bound l'.part.first l'.part.base l'.part.done done_new k h a in
        let p = all_zero machine law e.bound k l'.part.pending past_g.pending h a in
        let q = all_zero machine law e.bound k l'.part.plus past_g.plus h a in
        omega arith

    -- the stub has a run
    pub runs_mine : HasRun machine i (e'.stub i)
    runs_mine =
        record {
          es = from e.bound l.part.done;
          done = rw (new_base, ← at_g.next, ← at_g.state) done_g;
          next = let n = number_split e.bound l.part.first l.part.done in rw (new_base, ← at_g.next, n, ← met.matches.floor) turn;
          ins = λ k a h m. rw (← met.done) (ins k a h m);
          outs = λ k a j own h m. rw (← met.done) (sym (sends_new k a j own));
        }
      where
        turn : l'.floor ≤ machine.key i (number l.part.first l.part.done)
        turn = let n = number_split e.bound l.part.first l.part.done in subst (λ (m : ℕ). l'.floor ≤ machine.key i m) (rw (met.first, met.done) n) met.floor.low.turn

        ins : (k : ℕ) (a : A) → (e'.stub i).base ≤ k → k < (e'.stub i).floor → inputs machine l'.part.done k a ≡ (e'.stub i).taken k a
        ins k a h m =
            let f = met.matches.floor in
            let n = met.matches.taken k a in
            let p = all_zero machine law l'.floor k l'.part.pending met.floor.low.pending (omega arith) a in
            let q = all_zero machine law l'.floor k l'.part.plus met.floor.low.plus (omega arith) a in
            let r = all_zero machine law l'.floor k l'.part.minus met.floor.low.minus (omega arith) a in
            let o = owed_new k a in
            omega arith

    pub one_standing_new : (j k : ℕ) (a : A) → (e'.stub (machine.owner k)).standing k a j ≤ 1
    one_standing_new j k a = go (cases_eq (machine.owner k) i)
      where
        go : (machine.owner k ≡ i) ⊎ (machine.owner k ≡ i → ⊥) → (e'.stub (machine.owner k)).standing k a j ≤ 1
        go (inl own) = mine (λ st. st.standing k a j ≤ 1) (machine.owner k) own (let n = sends_new k a j own in let o = sends_one machine law i e.bound l'.part.first l'.part.base l'.part.done done_new k a j in omega arith)
        go (inr ne) = old (λ st. st.standing k a j ≤ 1) (machine.owner k) ne (is.one_standing j k a)

    pub one_taken_new : (j k : ℕ) (a : A) → (e'.stub j).taken k a ≤ 1
    one_taken_new j k a = go (cases_eq j i)
      where
        here : (k < e.bound) ⊎ (e.bound ≤ k) → (e'.stub i).taken k a ≤ 1
        here (inl h) = let z = low_mine k a h in omega arith
        here (inr h) =
            let v = even_new i k a h in
            let o = one_standing_new i k a in
            let x : times machine (e'.stub i).plus k a ≡ 0 = rw met.inbox_plus refl in
            let y : times machine (e'.stub i).minus k a ≡ 0 = rw met.inbox_minus refl in
            omega arith

        go : (j ≡ i) ⊎ (j ≡ i → ⊥) → (e'.stub j).taken k a ≤ 1
        go (inl f) = mine (λ st. st.taken k a ≤ 1) j f (here (cases_lt k e.bound))
        go (inr ne) = old (λ st. st.taken k a ≤ 1) j ne (is.one_taken j k a)

    -- the turns held, with what is taken in
    pub held_new : IsHeld machine count e' is.held.0
    held_new =
        record {
          end = is.held.1.end;
          low = λ j has. low_at j (is.held.1.low j has) (cases_eq j i);
          counted = λ j within. low_at j (is.held.1.counted j within) (cases_eq j i);
          given = met.given ∙ is.held.1.given;
          falls = met.falls;
          turns = λ k. met.turns k ∙ go k (cases_eq (machine.owner k) i);
        }
      where
        b : ℕ
        b = is.held.0

        low_at : (j : ℕ) → b ≤ (e.stub j).base → (j ≡ i) ⊎ (j ≡ i → ⊥) → b ≤ (e'.stub j).base
        low_at j h (inl f) = mine (λ st. b ≤ st.base) j f (let n = new_base in let g = is.base j in omega arith)
        low_at j h (inr ne) = old (λ st. b ≤ st.base) j ne h

        skip : (v : Bool) (x y : Option (Option A)) → cond (v && false) x y ≡ y
        skip true x y = refl
        skip false x y = refl

        -- a turn that is not given and not below the base is held from b on
        only_from : (k : ℕ) → machine.owner k ≡ i → (e.stub i).base ≤ k → reference_turn machine k ≡ cond (leb b k && true) (reference_turn machine k) None
        only_from k own h = at (cases_lt k b)
          where
            at : (k < b) ⊎ (b ≤ k) → reference_turn machine k ≡ cond (leb b k && true) (reference_turn machine k) None
            at (inl m) =
                let f : (e.stub (machine.owner k)).base ≡ (e.stub i).base = ap (λ (j : ℕ). (e.stub j).base) own in
                rw (lt-leb b k m) (no_turn machine law k (λ has. let g = is.held.1.low (machine.owner k) has in omega arith))
            at (inr m) = rw (le-leb b k m)

        here : (k : ℕ) → machine.owner k ≡ i → (k < (e.stub i).base) ⊎ ((e.stub i).base ≤ k) → (k < e.bound) ⊎ (e.bound ≤ k)
            → cond (leb (e.stub i).base k && (machine.owner k == i)) (turn_at k (below e.bound l.part.done)) (outcome_at k e.held) ≡ cond (leb b k && ltb k e.bound) (reference_turn machine k) None
        here k own (inl h) (inr m) = let g = is.base i in absurd (omega arith)
        here k own (inl h) (inl m) =
            let t : outcome_at k e.held ≡ cond (leb b k && ltb k (e.stub i).base) (reference_turn machine k) None = subst (λ (n : ℕ). outcome_at k e.held ≡ cond (leb b k && ltb k (e.stub n).base) (reference_turn machine k) None) own (is.held.1.turns k) in
            let u = lt-ltb k (e.stub i).base h in
            rw (lt-leb (e.stub i).base k h, lt-ltb k e.bound m) (subst (λ (v : Bool). outcome_at k e.held ≡ cond (leb b k && v) (reference_turn machine k) None) u t)
        here k own (inr h) (inl m) =
            rw (le-leb (e.stub i).base k h, eq-eqb (machine.owner k) i own, lt-ltb k e.bound m)
            (turn_below machine law i l.base l.part.first l.part.base e.bound k l.part.done lease.proper.done m ∙ turns_ref k own (let n = match.base in omega arith) m
            ∙ only_from k own h)
        here k own (inr h) (inr m) =
            rw (le-leb (e.stub i).base k h, eq-eqb (machine.owner k) i own, le-ltb k e.bound m)
            (turn_above machine law i l.base l.part.first l.part.base e.bound k l.part.done lease.proper.done m ∙ sym (skip (leb b k) (reference_turn machine k) None))

        go : (k : ℕ) → (machine.owner k ≡ i) ⊎ (machine.owner k ≡ i → ⊥)
            → cond (leb (e.stub i).base k && (machine.owner k == i)) (turn_at k (below e.bound l.part.done)) (outcome_at k e.held) ≡ cond (leb b k && ltb k (e'.stub (machine.owner k)).base) (reference_turn machine k) None
        go k (inl own) =
            let n : (e'.stub (machine.owner k)).base ≡ e.bound = mine (λ st. st.base ≡ e.bound) (machine.owner k) own new_base in
            rw n (here k own (cases_lt k (e.stub i).base) (cases_lt k e.bound))
        go k (inr ne) =
            let n : (e'.stub (machine.owner k)).base ≡ (e.stub (machine.owner k)).base = old (λ st. st.base ≡ (e.stub (machine.owner k)).base) (machine.owner k) ne refl in
            rw (n, ne_eqb (machine.owner k) i ne) (skip (leb (e.stub i).base k) (turn_at k (below e.bound l.part.done)) (outcome_at k e.held) ∙ is.held.1.turns k)

    pub meet_sound : IsSound machine count e'
    meet_sound =
        record {
          end = rw met.bound is.end;
          base = λ j. rw met.bound (base j (cases_eq j i));
          floor = λ j. rw met.bound (floor j (cases_eq j i));
          plus = λ j. rw met.bound (plus j (cases_eq j i));
          minus = λ j. rw met.bound (minus j (cases_eq j i));
          even = λ j k a h. even_new j k a (let n = met.bound in omega arith);
          settled = λ j k a h m. settled j k a h (let n = met.bound in omega arith) (cases_eq j i);
          sent = λ j k a h m. sent j k a h (let n = met.bound in omega arith) (cases_eq (machine.owner k) i);
          runs = λ j. runs j (cases_eq j i);
          one_taken = one_taken_new;
          one_standing = one_standing_new;
          low_taken = λ j k a h. low_taken j k a h (cases_eq j i);
          low_standing = λ j k a h. low_standing j k a h (cases_eq (machine.owner k) i);
          held = (is.held.0, held_new);
        }
      where
        base : (j : ℕ) → (j ≡ i) ⊎ (j ≡ i → ⊥) → (e'.stub j).base ≤ e.bound
        base j (inl f) = mine (λ st. st.base ≤ e.bound) j f (let n = new_base in omega arith)
        base j (inr ne) = old (λ st. st.base ≤ e.bound) j ne (is.base j)

        floor : (j : ℕ) → (j ≡ i) ⊎ (j ≡ i → ⊥) → e.bound ≤ (e'.stub j).floor
        floor j (inl f) = mine (λ st. e.bound ≤ st.floor) j f (let n = floor_high in let m = met.matches.floor in omega arith)
        floor j (inr ne) = old (λ st. e.bound ≤ st.floor) j ne (is.floor j)

        plus : (j : ℕ) → (j ≡ i) ⊎ (j ≡ i → ⊥) → AllFrom e.bound (e'.stub j).plus
        plus j (inl f) = mine (λ st. AllFrom e.bound st.plus) j f (rw met.inbox_plus tt)
        plus j (inr ne) = old (λ st. AllFrom e.bound st.plus) j ne (met.p_low j)

        minus : (j : ℕ) → (j ≡ i) ⊎ (j ≡ i → ⊥) → AllFrom e.bound (e'.stub j).minus
        minus j (inl f) = mine (λ st. AllFrom e.bound st.minus) j f (rw met.inbox_minus tt)
        minus j (inr ne) = old (λ st. AllFrom e.bound st.minus) j ne (met.m_low j)

        settled : (j k : ℕ) (a : A) → (e'.stub j).base ≤ k → k < e.bound → (j ≡ i) ⊎ (j ≡ i → ⊥) → (e'.stub j).taken k a ≡ reference_sends machine k a j
        settled j k a h m (inl f) = let n : (e'.stub j).base ≡ e.bound = mine (λ st. st.base ≡ e.bound) j f new_base in absurd (omega arith)
        settled j k a h m (inr ne) = old (λ st. st.base ≤ k → st.taken k a ≡ reference_sends machine k a j) j ne (λ g. is.settled j k a g m) h

        sent : (j k : ℕ) (a : A) → (e'.stub (machine.owner k)).base ≤ k → k < e.bound → (machine.owner k ≡ i) ⊎ (machine.owner k ≡ i → ⊥) → (e'.stub (machine.owner k)).standing k a j ≡ reference_sends machine k a j
        sent j k a h m (inl f) = let n : (e'.stub (machine.owner k)).base ≡ e.bound = mine (λ st. st.base ≡ e.bound) (machine.owner k) f new_base in absurd (omega arith)
        sent j k a h m (inr ne) = old (λ st. st.base ≤ k → st.standing k a j ≡ reference_sends machine k a j) (machine.owner k) ne (λ g. is.sent j k a g m) h

        runs : (j : ℕ) → (j ≡ i) ⊎ (j ≡ i → ⊥) → HasRun machine j (e'.stub j)
        runs j (inl f) = subst (λ (n : ℕ). HasRun machine n (e'.stub n)) (sym f) runs_mine
        runs j (inr ne) = let r = is.runs j in old (λ st. HasRun machine j st) j ne (record { es = r.es; done = r.done; next = r.next; ins = r.ins; outs = r.outs })

        low_taken : (j k : ℕ) (a : A) → k < (e'.stub j).base → (j ≡ i) ⊎ (j ≡ i → ⊥) → (e'.stub j).taken k a ≡ 0
        low_taken j k a h (inl f) =
            let n : (e'.stub j).base ≡ e.bound = mine (λ st. st.base ≡ e.bound) j f new_base in
            mine (λ st. st.taken k a ≡ 0) j f (low_mine k a (omega arith))
        low_taken j k a h (inr ne) = old (λ st. k < st.base → st.taken k a ≡ 0) j ne (is.low_taken j k a) h

        low_standing : (j k : ℕ) (a : A) → k < (e'.stub (machine.owner k)).base → (machine.owner k ≡ i) ⊎ (machine.owner k ≡ i → ⊥) → (e'.stub (machine.owner k)).standing k a j ≡ 0
        low_standing j k a h (inl f) =
            let n : (e'.stub (machine.owner k)).base ≡ e.bound = mine (λ st. st.base ≡ e.bound) (machine.owner k) f new_base in
            mine (λ st. st.standing k a j ≡ 0) (machine.owner k) f (sends_new k a j f ∙ sends_low machine law i e.bound l'.part.first l'.part.base l'.part.done done_new k (omega arith) a j)
        low_standing j k a h (inr ne) = old (λ st. k < st.base → st.standing k a j ≡ 0) (machine.owner k) ne (is.low_standing j k a) h
