-- A meeting of a group keeps the exchange sound, and leaves a lease that matches it.
use Rattle.std.proofs.Common.{◌≡◌, ℕ, ◌+◌, ◌<◌, ◌≤◌, ◌==◌, ◌&&◌, ◌⊎◌, inl, inr, Bool, true, false, cond, List, Option, None, refl, ap, sym, subst, ◌∙◌, arith, ltb, leb}
use Rattle.std.proofs.lemmas.Bool.{lt-ltb, le-ltb, le-leb, lt-leb, eq-eqb, ne_eqb, cases_eq, cases_lt}
use Rattle.virtual_time.specs.Machine.{Lawful, Machine}
use Rattle.virtual_time.specs.Bags.{AllFrom, inputs, sends, times}
use Rattle.virtual_time.specs.Entries.{Entry, Item, below, from, number, replay, turn_at}
use Rattle.virtual_time.specs.Worlds.{IsPast}
use Rattle.virtual_time.specs.Rules.{IsDone, IsProper, MayFollow}
use Rattle.virtual_time.specs.Reference.{reference_turn, outcome_at}
use Rattle.virtual_time.specs.Exchange.Stubs.{reference_sends}
use Rattle.virtual_time.specs.Groups.Stubs.{Exchange, HasRun, IsHeld, IsSound, Stub, between, within}
use Rattle.virtual_time.specs.Groups.Leases.{IsLease, Lease, Matches}
use Rattle.virtual_time.specs.Groups.Meetings.{Met}
use Rattle.virtual_time.proofs.Lists.{AllFrom-weaken, Each-both}
use Rattle.virtual_time.proofs.Joint.{all_zero}
use Rattle.virtual_time.proofs.Commits.{IsDone-from, inputs_from, inputs_split, sends_from, number_split, follow_from}
use Rattle.virtual_time.proofs.Refs.{At, no_turn, own_turn}
use Rattle.virtual_time.proofs.Exchange.Wholes.{low_counts}
use Rattle.virtual_time.proofs.Exchange.Ones.{sends_one, sends_low, inputs_low, turn_below, turn_above}
use Rattle.virtual_time.proofs.Groups.Parts.{none, passes}
use Rattle.virtual_time.proofs.Groups.Stands.{none_own, stands}

module _ {S A : Type 0} (machine : Machine S A) (law : Lawful machine) (group : ℕ → ℕ) {count : ℕ} (g : ℕ) (e : Exchange A) (is : IsSound machine group count e) (l : Lease S A) (lease : IsLease machine group g l) (match : Matches machine group g (e.stub g) l) where
  pub low : l.base ≤ e.bound
  low = let b = is.base g in let h = match.base in omega arith

  pub high : e.bound ≤ l.floor
  high = let b = is.floor g in let h = match.floor in omega arith

  abbrev done : ℕ → List (Entry A)
  done i = (l.part i).done

  -- what the components send each other
  abbrev inner : ℕ → ℕ → A → ℕ
  inner i k a = within machine group k i (sends machine (done (machine.owner k)) k a i)

  pub next_high : (i : ℕ) → group i ≡ g → e.bound ≤ machine.key i (number (l.part i).first (done i))
  next_high i own = let n = (lease.past i own).turn in omega (arith, high)

  -- below its floor a matching lease has done what it has taken and what is sent within, and owes nothing
  pub ins_below : (i k : ℕ) (a : A) → group i ≡ g → l.base ≤ k → k < l.floor → inputs machine (done i) k a ≡ (e.stub g).taken i k a + inner i k a
  ins_below i k a own low h =
      let m = match.taken i k a own in
      let p = all_zero machine law l.floor k (l.part i).pending (lease.past i own).pending h a in
      let q = all_zero machine law l.floor k (l.part i).plus (lease.past i own).plus h a in
      let r = all_zero machine law l.floor k (l.part i).minus (lease.past i own).minus h a in
      let o = (lease.proper i own).owed k a in
      omega arith

  pub settled_at : (i k : ℕ) (a : A) → group i ≡ g → l.base ≤ k → k < e.bound → (e.stub g).taken i k a ≡ between machine group k i (reference_sends machine k a i)
  settled_at i k a own h m = subst (λ (n : ℕ). (e.stub n).base ≤ k → (e.stub n).taken i k a ≡ between machine group k i (reference_sends machine k a i)) own (λ b. is.settled i k a b m) (let b = match.base in omega arith)

  ins_ref : (i c : ℕ) (a : A) → group i ≡ g → l.base ≤ c → c < e.bound → inputs machine (done i) c a ≡ between machine group c i (reference_sends machine c a i) + inner i c a
  ins_ref i c a own h k =
      let x = ins_below i c a own h (omega (arith, high)) in
      let y = settled_at i c a own h k in
      omega arith

  pub at_c : (c : ℕ) → l.base ≤ c → c ≤ e.bound → (i : ℕ) (own : group i ≡ g) → At machine law i l.base (l.part i).first (l.part i).base (done i) (lease.proper i own).done c
  at_c c h k i own =
      stands machine law group g l.base (λ i. (l.part i).first) (λ i. (l.part i).base) done (λ i own. (lease.proper i own).done) lease.first lease.grounded e.bound ins_ref next_high c h k i own

  pub at_bound : (i : ℕ) (own : group i ≡ g) → At machine law i l.base (l.part i).first (l.part i).base (done i) (lease.proper i own).done e.bound
  at_bound i own = at_c e.bound low (omega arith) i own

  pub done_bound : (i : ℕ) → group i ≡ g → IsDone machine i e.bound (number (l.part i).first (below e.bound (done i))) (replay machine i (l.part i).base (below e.bound (done i))) (from e.bound (done i))
  done_bound i own = IsDone-from machine law i l.base (l.part i).first (l.part i).base e.bound (done i) (lease.proper i own).done (next_high i own)

  -- own turns of the records below the bound are the reference's
  pub turns_ref : (k : ℕ) → group (machine.owner k) ≡ g → l.base ≤ k → k < e.bound → turn_at k (done (machine.owner k)) ≡ reference_turn machine k
  turns_ref k own h m =
      let i : ℕ = machine.owner k in
      let n = next_high (machine.owner k) own in
      own_turn machine law (machine.owner k) l.base (l.part (machine.owner k)).first (l.part (machine.owner k)).base (done (machine.owner k)) (lease.proper (machine.owner k) own).done k (omega arith) refl
      (none_own machine law group g l.base (λ i. (l.part i).first) (λ i. (l.part i).base) done (λ i own. (lease.proper i own).done) lease.first lease.grounded e.bound ins_ref next_high k h m own)
      (at_c k h (omega arith) (machine.owner k) own)

  module _ (e' : Exchange A) (l' : Lease S A) (met : Met machine group g e l e' l') where
    pub new_base : (e'.stub g).base ≡ e.bound
    new_base = sym met.matches.base ∙ met.base

    pub done_new : (i : ℕ) → group i ≡ g → IsDone machine i e.bound (l'.part i).first (l'.part i).base (l'.part i).done
    done_new i own = rw (met.first i own, met.state i own, met.done i own) (done_bound i own)

    pub past_bound : (i : ℕ) → group i ≡ g → IsPast machine e.bound i (l'.part i)
    past_bound i own =
        record {
          turn = let n = number_split e.bound (l.part i).first (done i) in rw (met.first i own, met.done i own, n) (next_high i own);
          pending = rw (met.pending i own) (AllFrom-weaken e.bound l.floor (l.part i).pending high (lease.past i own).pending);
          plus = met.tray_low i own;
          minus = met.tray_low_minus i own;
        }

    pub floor_high : e.bound ≤ l'.floor
    floor_high = met.floor.most e.bound is.end past_bound

    pub owed_new : (i k : ℕ) (a : A) → group i ≡ g → (times machine (l'.part i).owed k a ≡ 0) ⊎ (times machine (l'.part i).pending k a + inputs machine (l'.part i).done k a ≡ 0)
    owed_new i k a own = rw (met.owed i own, met.pending i own, met.done i own) (less ((lease.proper i own).owed k a) (inputs_split machine law e.bound (done i) k a))
      where
        less : (times machine (l.part i).owed k a ≡ 0) ⊎ (times machine (l.part i).pending k a + inputs machine (done i) k a ≡ 0)
            → inputs machine (from e.bound (done i)) k a ≤ inputs machine (done i) k a
            → (times machine (l.part i).owed k a ≡ 0) ⊎ (times machine (l.part i).pending k a + inputs machine (from e.bound (done i)) k a ≡ 0)
        less (inl h) m = inl h
        less (inr h) m = inr (omega arith)

    pub proper_new : (i : ℕ) → group i ≡ g → IsProper machine e.bound i (l'.part i)
    proper_new i own =
        record {
          done = done_new i own;
          pending = rw (met.pending i own, met.done i own) (Each-both (λ y. e.bound ≤ y.key) (MayFollow machine l.base (done i)) (MayFollow machine e.bound (from e.bound (done i))) (l.part i).pending
              (λ y h f. follow_from machine l.base e.bound (done i) y h f) (AllFrom-weaken e.bound l.floor (l.part i).pending high (lease.past i own).pending) (lease.proper i own).pending);
          sorted = rw (met.pending i own) (lease.proper i own).sorted;
          owed_sorted = rw (met.owed i own) (lease.proper i own).owed_sorted;
          plus = met.tray_low i own;
          minus = met.tray_low_minus i own;
          owed = λ k a. owed_new i k a own;
        }

    pub lease_new : IsLease machine group g l'
    lease_new =
        record {
          end = rw met.base is.end;
          low = rw met.base floor_high;
          proper = λ i own. rw met.base (proper_new i own);
          first = λ i own. rw met.base (met.first i own ∙ (at_bound i own).next);
          grounded = λ i own. rw met.base (met.state i own ∙ (at_bound i own).state);
          past = met.floor.low;
          owed = λ i own. low_counts machine law l'.floor (l'.part i).owed (λ k a h.
              let n = met.matches.taken i k a own in
              let p = all_zero machine law l'.floor k (l'.part i).pending (met.floor.low i own).pending h a in
              let q = all_zero machine law l'.floor k (l'.part i).plus (met.floor.low i own).plus h a in
              let o = owed_new i k a own in
              omega arith);
          out_plus = λ j. rw (met.out_plus j) tt;
          out_minus = λ j. rw (met.out_minus j) tt;
          self_plus = λ i own. met.out_plus i;
          self_minus = λ i own. met.out_minus i;
          mine_plus = λ j k a ne. rw (met.out_plus j) refl;
          mine_minus = λ j k a ne. rw (met.out_minus j) refl;
        }

    -- the stubs
    pub old : (P : Stub A → Type 0) (h : ℕ) → (h ≡ g → ⊥) → P (e.stub h) → P (e'.stub h)
    old P h ne p = subst P (sym (met.others h ne)) p

    pub mine : (P : Stub A → Type 0) (h : ℕ) → h ≡ g → P (e'.stub g) → P (e'.stub h)
    mine P h q p = subst (λ (m : ℕ). P (e'.stub m)) (sym q) p

    -- what the components have sent from the bound on stays
    sends_stay : (k : ℕ) (a : A) (j : ℕ) → group (machine.owner k) ≡ g → e.bound ≤ k → sends machine (l'.part (machine.owner k)).done k a j ≡ sends machine (done (machine.owner k)) k a j
    sends_stay k a j own h =
        let i : ℕ = machine.owner k in
        rw (met.done (machine.owner k) own) (sends_from machine law (machine.owner k) l.base (l.part (machine.owner k)).first (l.part (machine.owner k)).base e.bound (done (machine.owner k)) (lease.proper (machine.owner k) own).done k h a j)

    -- standing sends: the old ones with what went out
    pub sends_new : (k : ℕ) (a : A) (j : ℕ) → group (machine.owner k) ≡ g → (e'.stub g).standing k a j ≡ between machine group k j (sends machine (l'.part (machine.owner k)).done k a j)
    sends_new k a j own =
        let m = met.matches.standing k a j own in
        let p : times machine (l'.out_plus j) k a ≡ 0 = rw (met.out_plus j) refl in
        let q : times machine (l'.out_minus j) k a ≡ 0 = rw (met.out_minus j) refl in
        omega arith

    pub standing_moves : (j k : ℕ) (a : A) → e.bound ≤ k
        → (e.stub (group (machine.owner k))).standing k a j + times machine (l.out_plus j) k a ≡ (e'.stub (group (machine.owner k))).standing k a j + times machine (l.out_minus j) k a
    standing_moves j k a h = go (cases_eq (group (machine.owner k)) g)
      where
        go : (group (machine.owner k) ≡ g) ⊎ (group (machine.owner k) ≡ g → ⊥)
            → (e.stub (group (machine.owner k))).standing k a j + times machine (l.out_plus j) k a ≡ (e'.stub (group (machine.owner k))).standing k a j + times machine (l.out_minus j) k a
        go (inl own) =
            let m = match.standing k a j own in
            let n = sends_new k a j own in
            let f : between machine group k j (sends machine (l'.part (machine.owner k)).done k a j) ≡ between machine group k j (sends machine (done (machine.owner k)) k a j) = ap (between machine group k j) (sends_stay k a j own h) in
            let x : (e.stub (group (machine.owner k))).standing k a j ≡ (e.stub g).standing k a j = ap (λ (m : ℕ). (e.stub m).standing k a j) own in
            let y : (e'.stub (group (machine.owner k))).standing k a j ≡ (e'.stub g).standing k a j = ap (λ (m : ℕ). (e'.stub m).standing k a j) own in
            omega arith
        go (inr ne) =
            let p = lease.mine_plus j k a ne in
            let q = lease.mine_minus j k a ne in
            let x : (e'.stub (group (machine.owner k))).standing k a j ≡ (e.stub (group (machine.owner k))).standing k a j = old (λ st. st.standing k a j ≡ (e.stub (group (machine.owner k))).standing k a j) (group (machine.owner k)) ne refl in
            omega arith

    -- taken messages: the old ones with what came in
    pub taken_moves : (j k : ℕ) (a : A) → e.bound ≤ k
        → (e'.stub (group j)).taken j k a + times machine (e'.plus j) k a + times machine (met.m j) k a ≡ (e.stub (group j)).taken j k a + times machine (met.p j) k a + times machine (e'.minus j) k a
    taken_moves j k a h = go (cases_eq (group j) g)
      where
        inner_stays : (group (machine.owner k) ≡ g) ⊎ (group (machine.owner k) ≡ g → ⊥) → group j ≡ g → within machine group k j (sends machine (l'.part (machine.owner k)).done k a j) ≡ inner j k a
        inner_stays (inl own) q = ap (within machine group k j) (sends_stay k a j own h)
        inner_stays (inr ne) q =
            (passes machine group k j (sends machine (l'.part (machine.owner k)).done k a j) (λ f. ne (f ∙ q))).1
            ∙ sym (passes machine group k j (sends machine (done (machine.owner k)) k a j) (λ f. ne (f ∙ q))).1

        here : group j ≡ g → (e'.stub g).taken j k a + times machine (e'.plus j) k a + times machine (met.m j) k a ≡ (e.stub g).taken j k a + times machine (met.p j) k a + times machine (e'.minus j) k a
        here own =
            let m = match.taken j k a own in
            let n = met.matches.taken j k a own in
            let s = inner_stays (cases_eq (group (machine.owner k)) g) own in
            let o : times machine (l'.part j).owed k a ≡ times machine (l.part j).owed k a = rw (met.owed j own) refl in
            let p : times machine (l'.part j).pending k a ≡ times machine (l.part j).pending k a = rw (met.pending j own) refl in
            let d : inputs machine (l'.part j).done k a ≡ inputs machine (done j) k a = rw (met.done j own) (inputs_from machine law j l.base (l.part j).first (l.part j).base e.bound (done j) (lease.proper j own).done k h a) in
            let t = met.tray_plus j k a own in
            let u = met.tray_minus j k a own in
            let x : times machine (e'.plus j) k a ≡ 0 = rw (met.inbox_plus j own) refl in
            let y : times machine (e'.minus j) k a ≡ 0 = rw (met.inbox_minus j own) refl in
            omega arith

        go : (group j ≡ g) ⊎ (group j ≡ g → ⊥)
            → (e'.stub (group j)).taken j k a + times machine (e'.plus j) k a + times machine (met.m j) k a ≡ (e.stub (group j)).taken j k a + times machine (met.p j) k a + times machine (e'.minus j) k a
        go (inl own) =
            subst (λ (n : ℕ). (e'.stub n).taken j k a + times machine (e'.plus j) k a + times machine (met.m j) k a ≡ (e.stub n).taken j k a + times machine (met.p j) k a + times machine (e'.minus j) k a) (sym own) (here own)
        go (inr ne) =
            let x : times machine (e'.plus j) k a ≡ times machine (met.p j) k a = ap (λ (xs : List (Item A)). times machine xs k a) (met.others_plus j ne) in
            let y : times machine (e'.minus j) k a ≡ times machine (met.m j) k a = ap (λ (xs : List (Item A)). times machine xs k a) (met.others_minus j ne) in
            old (λ st. st.taken j k a + times machine (e'.plus j) k a + times machine (met.m j) k a ≡ (e.stub (group j)).taken j k a + times machine (met.p j) k a + times machine (e'.minus j) k a) (group j) ne (omega arith)

    -- what is standing is taken or in the inbox
    pub even_new : (j k : ℕ) (a : A) → e.bound ≤ k → (e'.stub (group (machine.owner k))).standing k a j + times machine (e'.minus j) k a ≡ (e'.stub (group j)).taken j k a + times machine (e'.plus j) k a
    even_new j k a h =
        let s = standing_moves j k a h in
        let t = taken_moves j k a h in
        let b = met.by_plus j k a in
        let c = met.by_minus j k a in
        let v = is.even j k a h in
        omega arith

    -- below the base nothing is taken or standing
    pub low_mine : (i k : ℕ) (a : A) → group i ≡ g → k < e.bound → (e'.stub g).taken i k a ≡ 0
    low_mine i k a own h =
        let n = met.matches.taken i k a own in
        let d = inputs_low machine law i e.bound (l'.part i).first (l'.part i).base (l'.part i).done (done_new i own) k h a in
        let p = all_zero machine law e.bound k (l'.part i).pending (past_bound i own).pending h a in
        let q = all_zero machine law e.bound k (l'.part i).plus (past_bound i own).plus h a in
        omega arith

    -- the stub has a run
    pub runs_mine : HasRun machine group g (e'.stub g)
    runs_mine =
        record {
          es = λ i. (l'.part i).done;
          done = λ i own. rw (new_base, ← (at_bound i own).next, ← (at_bound i own).state, met.done i own) (done_bound i own);
          next = λ i own. rw (new_base, ← met.matches.floor, ← (at_bound i own).next) (subst (λ (m : ℕ). l'.floor ≤ machine.key i (number m (l'.part i).done)) (met.first i own) (met.floor.low i own).turn);
          ins = ins;
          outs = λ k a j own h m. sym (sends_new k a j own);
        }
      where
        ins : (i k : ℕ) (a : A) → group i ≡ g → (e'.stub g).base ≤ k → k < (e'.stub g).floor
            → inputs machine (l'.part i).done k a ≡ (e'.stub g).taken i k a + within machine group k i (sends machine (l'.part (machine.owner k)).done k a i)
        ins i k a own h m =
            let f = met.matches.floor in
            let n = met.matches.taken i k a own in
            let p = all_zero machine law l'.floor k (l'.part i).pending (met.floor.low i own).pending (omega arith) a in
            let q = all_zero machine law l'.floor k (l'.part i).plus (met.floor.low i own).plus (omega arith) a in
            let r = all_zero machine law l'.floor k (l'.part i).minus (met.floor.low i own).minus (omega arith) a in
            let o = owed_new i k a own in
            omega arith

    pub one_standing_new : (j k : ℕ) (a : A) → (e'.stub (group (machine.owner k))).standing k a j ≤ 1
    one_standing_new j k a = go (cases_eq (group (machine.owner k)) g)
      where
        few : (b : Bool) (n : ℕ) → n ≤ 1 → cond b 0 n ≤ 1
        few true n h = omega arith
        few false n h = h

        go : (group (machine.owner k) ≡ g) ⊎ (group (machine.owner k) ≡ g → ⊥) → (e'.stub (group (machine.owner k))).standing k a j ≤ 1
        go (inl own) = mine (λ st. st.standing k a j ≤ 1) (group (machine.owner k)) own
            (let n = sends_new k a j own in
            let o = sends_one machine law (machine.owner k) e.bound (l'.part (machine.owner k)).first (l'.part (machine.owner k)).base (l'.part (machine.owner k)).done (done_new (machine.owner k) own) k a j in
            let f = few (group (machine.owner k) == group j) (sends machine (l'.part (machine.owner k)).done k a j) o in
            omega arith)
        go (inr ne) = old (λ st. st.standing k a j ≤ 1) (group (machine.owner k)) ne (is.one_standing j k a)

    pub one_taken_new : (j k : ℕ) (a : A) → (e'.stub (group j)).taken j k a ≤ 1
    one_taken_new j k a = go (cases_eq (group j) g)
      where
        here : group j ≡ g → (k < e.bound) ⊎ (e.bound ≤ k) → (e'.stub (group j)).taken j k a ≤ 1
        here own (inl h) = mine (λ st. st.taken j k a ≤ 1) (group j) own (let z = low_mine j k a own h in omega arith)
        here own (inr h) =
            let v = even_new j k a h in
            let o = one_standing_new j k a in
            let x : times machine (e'.plus j) k a ≡ 0 = rw (met.inbox_plus j own) refl in
            let y : times machine (e'.minus j) k a ≡ 0 = rw (met.inbox_minus j own) refl in
            omega arith

        go : (group j ≡ g) ⊎ (group j ≡ g → ⊥) → (e'.stub (group j)).taken j k a ≤ 1
        go (inl own) = here own (cases_lt k e.bound)
        go (inr ne) = old (λ st. st.taken j k a ≤ 1) (group j) ne (is.one_taken j k a)

    -- the turns held, with what is taken in
    pub held_new : IsHeld machine group count e' is.held.0
    held_new =
        record {
          end = is.held.1.end;
          low = λ j has. low_at j (is.held.1.low j has) (cases_eq (group j) g);
          counted = λ j within. low_at j (is.held.1.counted j within) (cases_eq (group j) g);
          given = met.given ∙ is.held.1.given;
          falls = met.falls;
          turns = λ k. met.turns k ∙ go k (cases_eq (group (machine.owner k)) g);
        }
      where
        b : ℕ
        b = is.held.0

        low_at : (j : ℕ) → b ≤ (e.stub (group j)).base → (group j ≡ g) ⊎ (group j ≡ g → ⊥) → b ≤ (e'.stub (group j)).base
        low_at j h (inl own) =
            mine (λ st. b ≤ st.base) (group j) own
            (let n = new_base in let q = is.base g in let f : (e.stub (group j)).base ≡ (e.stub g).base = ap (λ (m : ℕ). (e.stub m).base) own in omega arith)
        low_at j h (inr ne) = old (λ st. b ≤ st.base) (group j) ne h

        skip : (v : Bool) (x y : Option (Option A)) → cond (v && false) x y ≡ y
        skip true x y = refl
        skip false x y = refl

        -- a turn that is not given and not below the base is held from b on
        only_from : (k : ℕ) → group (machine.owner k) ≡ g → (e.stub g).base ≤ k → reference_turn machine k ≡ cond (leb b k && true) (reference_turn machine k) None
        only_from k own h = at (cases_lt k b)
          where
            at : (k < b) ⊎ (b ≤ k) → reference_turn machine k ≡ cond (leb b k && true) (reference_turn machine k) None
            at (inl m) =
                let f : (e.stub (group (machine.owner k))).base ≡ (e.stub g).base = ap (λ (j : ℕ). (e.stub j).base) own in
                rw (lt-leb b k m) (no_turn machine law k (λ has. let q = is.held.1.low (machine.owner k) has in omega arith))
            at (inr m) = rw (le-leb b k m)

        taken_in : ℕ → Option (Option A)
        taken_in k = turn_at k (below e.bound (done (machine.owner k)))

        here : (k : ℕ) → group (machine.owner k) ≡ g → (k < (e.stub g).base) ⊎ ((e.stub g).base ≤ k) → (k < e.bound) ⊎ (e.bound ≤ k)
            → cond (leb (e.stub g).base k && (group (machine.owner k) == g)) (turn_at k (below e.bound (done (machine.owner k)))) (outcome_at k e.held) ≡ cond (leb b k && ltb k e.bound) (reference_turn machine k) None
        here k own (inl h) (inr m) = let q = is.base g in absurd (omega arith)
        here k own (inl h) (inl m) =
            let t : outcome_at k e.held ≡ cond (leb b k && ltb k (e.stub g).base) (reference_turn machine k) None = subst (λ (n : ℕ). outcome_at k e.held ≡ cond (leb b k && ltb k (e.stub n).base) (reference_turn machine k) None) own (is.held.1.turns k) in
            let u = lt-ltb k (e.stub g).base h in
            rw (lt-leb (e.stub g).base k h, lt-ltb k e.bound m) (subst (λ (v : Bool). outcome_at k e.held ≡ cond (leb b k && v) (reference_turn machine k) None) u t)
        here k own (inr h) (inl m) =
            let i : ℕ = machine.owner k in
            rw (le-leb (e.stub g).base k h, eq-eqb (group (machine.owner k)) g own, lt-ltb k e.bound m)
            (turn_below machine law (machine.owner k) l.base (l.part (machine.owner k)).first (l.part (machine.owner k)).base e.bound k (done (machine.owner k)) (lease.proper (machine.owner k) own).done m
            ∙ turns_ref k own (let n = match.base in omega arith) m
            ∙ only_from k own h)
        here k own (inr h) (inr m) =
            rw (le-leb (e.stub g).base k h, eq-eqb (group (machine.owner k)) g own, le-ltb k e.bound m)
            (turn_above machine law (machine.owner k) l.base (l.part (machine.owner k)).first (l.part (machine.owner k)).base e.bound k (done (machine.owner k)) (lease.proper (machine.owner k) own).done m
            ∙ sym (skip (leb b k) (reference_turn machine k) None))

        go : (k : ℕ) → (group (machine.owner k) ≡ g) ⊎ (group (machine.owner k) ≡ g → ⊥)
            → cond (leb (e.stub g).base k && (group (machine.owner k) == g)) (turn_at k (below e.bound (done (machine.owner k)))) (outcome_at k e.held)
            ≡ cond (leb b k && ltb k (e'.stub (group (machine.owner k))).base) (reference_turn machine k) None
        go k (inl own) =
            let n : (e'.stub (group (machine.owner k))).base ≡ e.bound = mine (λ st. st.base ≡ e.bound) (group (machine.owner k)) own new_base in
            rw n (here k own (cases_lt k (e.stub g).base) (cases_lt k e.bound))
        go k (inr ne) =
            let n : (e'.stub (group (machine.owner k))).base ≡ (e.stub (group (machine.owner k))).base = old (λ st. st.base ≡ (e.stub (group (machine.owner k))).base) (group (machine.owner k)) ne refl in
            rw (n, ne_eqb (group (machine.owner k)) g ne) (skip (leb (e.stub g).base k) (turn_at k (below e.bound (done (machine.owner k)))) (outcome_at k e.held) ∙ is.held.1.turns k)

    pub meet_sound : IsSound machine group count e'
    meet_sound =
        record {
          end = rw met.bound is.end;
          base = λ h. rw met.bound (base h (cases_eq h g));
          floor = λ h. rw met.bound (floor h (cases_eq h g));
          plus = λ j. rw met.bound (plus j (cases_eq (group j) g));
          minus = λ j. rw met.bound (minus j (cases_eq (group j) g));
          even = λ j k a h. even_new j k a (let n = met.bound in omega arith);
          settled = λ j k a h m. settled j k a h (let n = met.bound in omega arith) (cases_eq (group j) g);
          sent = λ j k a h m. sent j k a h (let n = met.bound in omega arith) (cases_eq (group (machine.owner k)) g);
          runs = λ h. runs h (cases_eq h g);
          one_taken = one_taken_new;
          one_standing = one_standing_new;
          low_taken = λ j k a h. low_taken j k a h (cases_eq (group j) g);
          low_standing = λ j k a h. low_standing j k a h (cases_eq (group (machine.owner k)) g);
          held = (is.held.0, held_new);
        }
      where
        base : (h : ℕ) → (h ≡ g) ⊎ (h ≡ g → ⊥) → (e'.stub h).base ≤ e.bound
        base h (inl q) = mine (λ st. st.base ≤ e.bound) h q (let n = new_base in omega arith)
        base h (inr ne) = old (λ st. st.base ≤ e.bound) h ne (is.base h)

        floor : (h : ℕ) → (h ≡ g) ⊎ (h ≡ g → ⊥) → e.bound ≤ (e'.stub h).floor
        floor h (inl q) = mine (λ st. e.bound ≤ st.floor) h q (let n = floor_high in let m = met.matches.floor in omega arith)
        floor h (inr ne) = old (λ st. e.bound ≤ st.floor) h ne (is.floor h)

        plus : (j : ℕ) → (group j ≡ g) ⊎ (group j ≡ g → ⊥) → AllFrom e.bound (e'.plus j)
        plus j (inl own) = rw (met.inbox_plus j own) tt
        plus j (inr ne) = rw (met.others_plus j ne) (met.p_low j)

        minus : (j : ℕ) → (group j ≡ g) ⊎ (group j ≡ g → ⊥) → AllFrom e.bound (e'.minus j)
        minus j (inl own) = rw (met.inbox_minus j own) tt
        minus j (inr ne) = rw (met.others_minus j ne) (met.m_low j)

        settled : (j k : ℕ) (a : A) → (e'.stub (group j)).base ≤ k → k < e.bound → (group j ≡ g) ⊎ (group j ≡ g → ⊥) → (e'.stub (group j)).taken j k a ≡ between machine group k j (reference_sends machine k a j)
        settled j k a h m (inl own) = let n : (e'.stub (group j)).base ≡ e.bound = mine (λ st. st.base ≡ e.bound) (group j) own new_base in absurd (omega arith)
        settled j k a h m (inr ne) = old (λ st. st.base ≤ k → st.taken j k a ≡ between machine group k j (reference_sends machine k a j)) (group j) ne (λ q. is.settled j k a q m) h

        sent : (j k : ℕ) (a : A) → (e'.stub (group (machine.owner k))).base ≤ k → k < e.bound → (group (machine.owner k) ≡ g) ⊎ (group (machine.owner k) ≡ g → ⊥)
            → (e'.stub (group (machine.owner k))).standing k a j ≡ between machine group k j (reference_sends machine k a j)
        sent j k a h m (inl own) = let n : (e'.stub (group (machine.owner k))).base ≡ e.bound = mine (λ st. st.base ≡ e.bound) (group (machine.owner k)) own new_base in absurd (omega arith)
        sent j k a h m (inr ne) = old (λ st. st.base ≤ k → st.standing k a j ≡ between machine group k j (reference_sends machine k a j)) (group (machine.owner k)) ne (λ q. is.sent j k a q m) h

        runs : (h : ℕ) → (h ≡ g) ⊎ (h ≡ g → ⊥) → HasRun machine group h (e'.stub h)
        runs h (inl q) = subst (λ (n : ℕ). HasRun machine group n (e'.stub n)) (sym q) runs_mine
        runs h (inr ne) = old (λ st. HasRun machine group h st) h ne (is.runs h)

        low_taken : (j k : ℕ) (a : A) → k < (e'.stub (group j)).base → (group j ≡ g) ⊎ (group j ≡ g → ⊥) → (e'.stub (group j)).taken j k a ≡ 0
        low_taken j k a h (inl own) =
            let n : (e'.stub (group j)).base ≡ e.bound = mine (λ st. st.base ≡ e.bound) (group j) own new_base in
            mine (λ st. st.taken j k a ≡ 0) (group j) own (low_mine j k a own (omega arith))
        low_taken j k a h (inr ne) = old (λ st. k < st.base → st.taken j k a ≡ 0) (group j) ne (is.low_taken j k a) h

        low_standing : (j k : ℕ) (a : A) → k < (e'.stub (group (machine.owner k))).base → (group (machine.owner k) ≡ g) ⊎ (group (machine.owner k) ≡ g → ⊥) → (e'.stub (group (machine.owner k))).standing k a j ≡ 0
        low_standing j k a h (inl own) =
            let n : (e'.stub (group (machine.owner k))).base ≡ e.bound = mine (λ st. st.base ≡ e.bound) (group (machine.owner k)) own new_base in
            mine (λ st. st.standing k a j ≡ 0) (group (machine.owner k)) own
            (sends_new k a j own
            ∙ (none machine group k j (sends machine (l'.part (machine.owner k)).done k a j)
            (sends_low machine law (machine.owner k) e.bound (l'.part (machine.owner k)).first (l'.part (machine.owner k)).base (l'.part (machine.owner k)).done (done_new (machine.owner k) own) k (omega arith) a j)).0)
        low_standing j k a h (inr ne) = old (λ st. k < st.base → st.standing k a j ≡ 0) (group (machine.owner k)) ne (is.low_standing j k a) h
