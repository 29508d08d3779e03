-- What a meeting of a group moves, told by counts, is a meeting.
use Rattle.std.proofs.Common.{◌≡◌, ℕ, ◌+◌, ◌-◌, ◌<◌, ◌≤◌, ◌==◌, ◌&&◌, ◌⊎◌, inl, inr, Bool, true, false, cond, Option, None, Some, List, [], ◌++◌, refl, ap, sym, subst, ◌∙◌, arith, leb}
use Rattle.std.proofs.lemmas.Bool.{leb-true, lt-ltb, le-ltb, le-leb, eq-eqb, ne_eqb, cases_eq, cases_lt}
use Rattle.std.specs.Option.{option_or}
use Rattle.virtual_time.specs.Machine.{Lawful, Machine}
use Rattle.virtual_time.specs.Reference.{Falls, outcome_at, reference_turn}
use Rattle.virtual_time.specs.Entries.{Entry, Item, below, from, number, replay, turn_at}
use Rattle.virtual_time.specs.Bags.{AllFrom, inputs, sends, times}
use Rattle.virtual_time.specs.Records.{turns_among}
use Rattle.virtual_time.specs.Rules.{IsDone}
use Rattle.virtual_time.specs.Inverses.{Pair, times_to}
use Rattle.virtual_time.specs.Groups.Stubs.{Exchange, IsSound, between, within}
use Rattle.virtual_time.specs.Groups.Leases.{IsLease, Lease, Matches}
use Rattle.virtual_time.specs.Groups.Meetings.{Met}
use Rattle.virtual_time.specs.Groups.Moved.{IsMoved}
use Rattle.virtual_time.proofs.Cuts.{IsDone-below, Some≢None}
use Rattle.virtual_time.proofs.Joint.{all_zero, own_owner}
use Rattle.virtual_time.proofs.Commits.{inputs_from, sends_from}
use Rattle.virtual_time.proofs.Dropped.{dropped_fall}
use Rattle.virtual_time.proofs.Exchange.Moved.{outcome_among}
use Rattle.virtual_time.proofs.Exchange.Ones.{inputs_low, sends_low, turn_low}
use Rattle.virtual_time.proofs.Exchange.Wholes.{low_counts}
use Rattle.virtual_time.proofs.Exchange.Windowed.{times_append}
use Rattle.virtual_time.proofs.Exchange.Pairs.{both, left_is, left_times, pairs_all, pairs_of, rest_is, rest_times}
use Rattle.virtual_time.proofs.Groups.Parts.{none, passes}
use Rattle.virtual_time.proofs.Groups.Meetings.{done_bound, high}

module _ {S A : Type 0} (machine : Machine S A) (law : Lawful machine) (group : ℕ → ℕ) {count : ℕ} (g : ℕ) (e : Exchange A) (is : IsSound machine group count e) (l : Lease S A) (lease : IsLease machine group g l) (match : Matches machine group g (e.stub g) l) where
  abbrev done : ℕ → List (Entry A)
  done i = (l.part i).done

  -- the turns taken in
  sure : (i : ℕ) → group i ≡ g → IsDone machine i l.base (l.part i).first (l.part i).base (below e.bound (done i))
  sure i own = IsDone-below machine law i l.base (l.part i).first (l.part i).base e.bound (done i) (lease.proper i own).done

  held_none : (k : ℕ) → (e.stub g).base ≤ k → group (machine.owner k) ≡ g → outcome_at k e.held ≡ None
  held_none k b o =
      let h = is.held.1 in
      let q : (e.stub (group (machine.owner k))).base ≤ k = subst (λ (j : ℕ). (e.stub j).base ≤ k) (sym o) b in
      h.turns k ∙ rw (le-ltb k (e.stub (group (machine.owner k))).base q) (off (leb is.held.0 k) (reference_turn machine k))
    where
      off : (c : Bool) (x : Option (Option A)) → cond (c && false) x None ≡ None
      off true x = refl
      off false x = refl

  its_owner : (i k : ℕ) (o : Option A) → group i ≡ g → turn_at k (below e.bound (done i)) ≡ Some o → machine.owner k ≡ i
  its_owner i k o own h = own_owner machine law i l.base (l.part i).first (l.part i).base k o (below e.bound (done i)) (sure i own) h

  its_base : (i k : ℕ) (o : Option A) → group i ≡ g → turn_at k (below e.bound (done i)) ≡ Some o → (e.stub g).base ≤ k
  its_base i k o own h = go (cases_lt k (e.stub g).base)
    where
      go : (k < (e.stub g).base) ⊎ ((e.stub g).base ≤ k) → (e.stub g).base ≤ k
      go (inl c) =
          let b = match.base in
          let z : turn_at k (below e.bound (done i)) ≡ None = turn_low machine law i l.base (l.part i).first (l.part i).base (below e.bound (done i)) (sure i own) k (omega arith) in
          absurd (Some≢None o (sym h ∙ z))
      go (inr c) = c

  pub taken_fall : (i : ℕ) → group i ≡ g → Falls (turns_among (below e.bound (done i)))
  taken_fall i own = dropped_fall machine law i l.base (l.part i).first (l.part i).base e.bound (done i) (lease.proper i own).done

  pub taken_owner : (i k : ℕ) (o : Option A) → group i ≡ g → outcome_at k (turns_among (below e.bound (done i))) ≡ Some o → machine.owner k ≡ i
  taken_owner i k o own h = its_owner i k o own (sym (outcome_among k (below e.bound (done i))) ∙ h)

  pub taken_apart : (i k : ℕ) (o : Option A) → group i ≡ g → outcome_at k (turns_among (below e.bound (done i))) ≡ Some o → outcome_at k e.held ≡ None
  taken_apart i k o own h =
      let t = sym (outcome_among k (below e.bound (done i))) ∙ h in
      held_none k (its_base i k o own t) (ap group (its_owner i k o own t) ∙ own)

  module _ (quiet : (j : ℕ) → count ≤ j → e.plus j ≡ []) (still : (j : ℕ) → count ≤ j → l.out_plus j ≡ []) (e' : Exchange A) (l' : Lease S A) (moved : IsMoved machine group g e l e' l') where
    abbrev come : ℕ → List (Item A)
    come j = e.plus j ++ l.out_plus j

    abbrev undo : ℕ → List (Item A)
    undo j = e.minus j ++ l.out_minus j

    -- equal pairs go
    abbrev gone : List (Pair A)
    gone = pairs_of machine (λ j. both machine (come j) (undo j)) count

    gone_times : (j k : ℕ) (a : A) → times_to machine gone j k a ≡ times machine (both machine (come j) (undo j)) k a
    gone_times j k a = pairs_all machine (λ j. both machine (come j) (undo j)) count j k a (λ c. (λ v. both machine (quiet j c v ++ still j c v) (undo j)))

    by_plus : (j k : ℕ) (a : A) → times machine (moved.p j) k a + times_to machine gone j k a ≡ times machine (e.plus j) k a + times machine (l.out_plus j) k a
    by_plus j k a =
        let p = moved.messages j k a in
        let x = left_is machine law (come j) (undo j) k a in
        let y = left_times machine law (come j) (undo j) k a in
        let s = times_append machine (e.plus j) (l.out_plus j) k a in
        let t = times_append machine (e.minus j) (l.out_minus j) k a in
        let z = gone_times j k a in
        omega arith

    by_minus : (j k : ℕ) (a : A) → times machine (moved.m j) k a + times_to machine gone j k a ≡ times machine (e.minus j) k a + times machine (l.out_minus j) k a
    by_minus j k a =
        let m = moved.antimessages j k a in
        let x = rest_is machine law (come j) (undo j) k a in
        let y = rest_times machine law (come j) (undo j) k a in
        let s = times_append machine (e.plus j) (l.out_plus j) k a in
        let t = times_append machine (e.minus j) (l.out_minus j) k a in
        let z = gone_times j k a in
        omega arith

    one_left : (j k : ℕ) (a : A) → (times machine (moved.p j) k a ≡ 0) ⊎ (times machine (moved.m j) k a ≡ 0)
    one_left j k a = go (cases_lt (times machine (e.plus j) k a + times machine (l.out_plus j) k a) (times machine (e.minus j) k a + times machine (l.out_minus j) k a))
      where
        go : (times machine (e.plus j) k a + times machine (l.out_plus j) k a < times machine (e.minus j) k a + times machine (l.out_minus j) k a)
            ⊎ (times machine (e.minus j) k a + times machine (l.out_minus j) k a ≤ times machine (e.plus j) k a + times machine (l.out_plus j) k a)
            → (times machine (moved.p j) k a ≡ 0) ⊎ (times machine (moved.m j) k a ≡ 0)
        go (inl c) = let p = moved.messages j k a in inl (omega arith)
        go (inr c) = let m = moved.antimessages j k a in inr (omega arith)

    -- nothing is below the bound
    none_below : (xs : List (Item A)) → AllFrom l.floor xs → (k : ℕ) (a : A) → k < e.bound → times machine xs k a ≡ 0
    none_below xs f k a c = let h = high machine law group g e is l lease match in all_zero machine law l.floor k xs f (omega arith) a

    p_none : (j k : ℕ) (a : A) → k < e.bound → times machine (moved.p j) k a ≡ 0
    p_none j k a c =
        let p = moved.messages j k a in
        let x = all_zero machine law e.bound k (e.plus j) (is.plus j) c a in
        let y = none_below (l.out_plus j) (lease.out_plus j) k a c in
        omega arith

    m_none : (j k : ℕ) (a : A) → k < e.bound → times machine (moved.m j) k a ≡ 0
    m_none j k a c =
        let m = moved.antimessages j k a in
        let x = all_zero machine law e.bound k (e.minus j) (is.minus j) c a in
        let y = none_below (l.out_minus j) (lease.out_minus j) k a c in
        omega arith

    tray_none : (i : ℕ) → group i ≡ g → (k : ℕ) (a : A) → k < e.bound → times machine (l'.part i).plus k a ≡ 0
    tray_none i own k a c = let t = moved.tray_plus i k a own in let p = p_none i k a c in let x = none_below (l.part i).plus (lease.past i own).plus k a c in omega arith

    tray_none_minus : (i : ℕ) → group i ≡ g → (k : ℕ) (a : A) → k < e.bound → times machine (l'.part i).minus k a ≡ 0
    tray_none_minus i own k a c = let t = moved.tray_minus i k a own in let m = m_none i k a c in let x = none_below (l.part i).minus (lease.past i own).minus k a c in omega arith

    -- what the components sent
    sent_low : (k : ℕ) (a : A) (j : ℕ) → group (machine.owner k) ≡ g → k < e.bound → sends machine (l'.part (machine.owner k)).done k a j ≡ 0
    sent_low k a j own c =
        let i : ℕ = machine.owner k in
        rw (moved.done (machine.owner k) own) (sends_low machine law (machine.owner k) e.bound (number (l.part (machine.owner k)).first (below e.bound (done (machine.owner k)))) (replay machine (machine.owner k) (l.part (machine.owner k)).base (below e.bound (done (machine.owner k)))) (from e.bound (done (machine.owner k)))
        (done_bound machine law group g e is l lease match (machine.owner k) own) k c a j)

    sent_high : (k : ℕ) (a : A) (j : ℕ) → group (machine.owner k) ≡ g → e.bound ≤ k → sends machine (l'.part (machine.owner k)).done k a j ≡ sends machine (done (machine.owner k)) k a j
    sent_high k a j own c =
        rw (moved.done (machine.owner k) own) (sends_from machine law (machine.owner k) l.base (l.part (machine.owner k)).first (l.part (machine.owner k)).base e.bound (done (machine.owner k)) (lease.proper (machine.owner k) own).done k c a j)

    inner_low : (i k : ℕ) (a : A) → group i ≡ g → k < e.bound → (group (machine.owner k) ≡ g) ⊎ (group (machine.owner k) ≡ g → ⊥) → within machine group k i (sends machine (l'.part (machine.owner k)).done k a i) ≡ 0
    inner_low i k a own c (inl mine) = (none machine group k i (sends machine (l'.part (machine.owner k)).done k a i) (sent_low k a i mine c)).1
    inner_low i k a own c (inr ne) = (passes machine group k i (sends machine (l'.part (machine.owner k)).done k a i) (λ q. ne (q ∙ own))).1

    inner_high : (i k : ℕ) (a : A) → group i ≡ g → e.bound ≤ k → (group (machine.owner k) ≡ g) ⊎ (group (machine.owner k) ≡ g → ⊥)
        → within machine group k i (sends machine (l'.part (machine.owner k)).done k a i) ≡ within machine group k i (sends machine (done (machine.owner k)) k a i)
    inner_high i k a own c (inl mine) = ap (within machine group k i) (sent_high k a i mine c)
    inner_high i k a own c (inr ne) =
        (passes machine group k i (sends machine (l'.part (machine.owner k)).done k a i) (λ q. ne (q ∙ own))).1 ∙ sym (passes machine group k i (sends machine (done (machine.owner k)) k a i) (λ q. ne (q ∙ own))).1

    -- what is taken and standing
    taken : (i k : ℕ) (a : A) → group i ≡ g → (k < e.bound) ⊎ (e.bound ≤ k)
        → (e'.stub g).taken i k a + within machine group k i (sends machine (l'.part (machine.owner k)).done k a i) + times machine (l'.part i).owed k a + times machine (l'.part i).minus k a
        ≡ inputs machine (l'.part i).done k a + times machine (l'.part i).pending k a + times machine (l'.part i).plus k a
    taken i k a own (inl c) =
        let t : (e'.stub g).taken i k a ≡ 0 = moved.taken i k a own ∙ rw (lt-ltb k e.bound c) refl in
        let o : times machine (l'.part i).owed k a ≡ times machine (l.part i).owed k a = ap (λ (xs : List (Item A)). times machine xs k a) (moved.owed i own) in
        let q : times machine (l'.part i).pending k a ≡ times machine (l.part i).pending k a = ap (λ (xs : List (Item A)). times machine xs k a) (moved.pending i own) in
        let x = none_below (l.part i).owed (lease.owed i own) k a c in
        let y = none_below (l.part i).pending (lease.past i own).pending k a c in
        let p = tray_none i own k a c in
        let m = tray_none_minus i own k a c in
        let s = inner_low i k a own c (cases_eq (group (machine.owner k)) g) in
        let d : inputs machine (l'.part i).done k a ≡ 0 = rw (moved.done i own) (inputs_low machine law i e.bound (number (l.part i).first (below e.bound (done i))) (replay machine i (l.part i).base (below e.bound (done i))) (from e.bound (done i)) (done_bound machine law group g e is l lease match i own) k c a) in
        omega arith
    taken i k a own (inr c) =
        let t : (e'.stub g).taken i k a ≡ ((e.stub g).taken i k a + times machine (moved.p i) k a) - times machine (moved.m i) k a = moved.taken i k a own ∙ rw (le-ltb k e.bound c) refl in
        let o : times machine (l'.part i).owed k a ≡ times machine (l.part i).owed k a = ap (λ (xs : List (Item A)). times machine xs k a) (moved.owed i own) in
        let q : times machine (l'.part i).pending k a ≡ times machine (l.part i).pending k a = ap (λ (xs : List (Item A)). times machine xs k a) (moved.pending i own) in
        let p = moved.messages i k a in
        let m = moved.antimessages i k a in
        let x = moved.tray_plus i k a own in
        let y = moved.tray_minus i k a own in
        let zp : times machine (l.out_plus i) k a ≡ 0 = ap (λ (xs : List (Item A)). times machine xs k a) (lease.self_plus i own) in
        let zm : times machine (l.out_minus i) k a ≡ 0 = ap (λ (xs : List (Item A)). times machine xs k a) (lease.self_minus i own) in
        let h = match.taken i k a own in
        let s = inner_high i k a own c (cases_eq (group (machine.owner k)) g) in
        let v : (e.stub (group (machine.owner k))).standing k a i + times machine (e.minus i) k a ≡ (e.stub g).taken i k a + times machine (e.plus i) k a
        = subst (λ (n : ℕ). (e.stub (group (machine.owner k))).standing k a i + times machine (e.minus i) k a ≡ (e.stub n).taken i k a + times machine (e.plus i) k a) own (is.even i k a c) in
        let d : inputs machine (l'.part i).done k a ≡ inputs machine (done i) k a = rw (moved.done i own) (inputs_from machine law i l.base (l.part i).first (l.part i).base e.bound (done i) (lease.proper i own).done k c a) in
        omega arith

    standing : (k : ℕ) (a : A) (j : ℕ) → group (machine.owner k) ≡ g → (k < e.bound) ⊎ (e.bound ≤ k) → (e'.stub g).standing k a j ≡ between machine group k j (sends machine (l'.part (machine.owner k)).done k a j)
    standing k a j own (inl c) =
        let t : (e'.stub g).standing k a j ≡ 0 = moved.standing k a j own ∙ rw (lt-ltb k e.bound c) refl in
        let d = (none machine group k j (sends machine (l'.part (machine.owner k)).done k a j) (sent_low k a j own c)).0 in
        t ∙ sym d
    standing k a j own (inr c) =
        let t : (e'.stub g).standing k a j ≡ ((e.stub g).standing k a j + times machine (l.out_plus j) k a) - times machine (l.out_minus j) k a = moved.standing k a j own ∙ rw (le-ltb k e.bound c) refl in
        let h = match.standing k a j own in
        let d : between machine group k j (sends machine (l'.part (machine.owner k)).done k a j) ≡ between machine group k j (sends machine (done (machine.owner k)) k a j) = ap (between machine group k j) (sent_high k a j own c) in
        omega arith

    matches : Matches machine group g (e'.stub g) l'
    matches =
        record {
          base = moved.base ∙ sym moved.stub_base;
          floor = sym moved.stub_floor;
          taken = λ i k a own. taken i k a own (cases_lt k e.bound);
          standing = λ k a j own.
              let s = standing k a j own (cases_lt k e.bound) in
              let p : times machine (l'.out_plus j) k a ≡ 0 = ap (λ (xs : List (Item A)). times machine xs k a) (moved.out_plus j) in
              let m : times machine (l'.out_minus j) k a ≡ 0 = ap (λ (xs : List (Item A)). times machine xs k a) (moved.out_minus j) in
              omega arith;
        }

    turns_are : (k : ℕ) → outcome_at k e'.held ≡ cond (leb (e.stub g).base k && (group (machine.owner k) == g)) (turn_at k (below e.bound (done (machine.owner k)))) (outcome_at k e.held)
    turns_are k = moved.turns k ∙ pick (cases_eq (group (machine.owner k)) g)
      where
        ts : Option (Option A)
        ts = outcome_at k (turns_among (below e.bound (done (machine.owner k))))

        skip : (b : Bool) (x y : Option (Option A)) → y ≡ cond (b && false) x y
        skip true x y = refl
        skip false x y = refl

        silent : (b : Bool) → leb (e.stub g).base k ≡ b → group (machine.owner k) ≡ g → outcome_at k e.held ≡ cond (b && true) None (outcome_at k e.held)
        silent true f own = held_none k (leb-true (e.stub g).base k f) own
        silent false f own = refl

        go : group (machine.owner k) ≡ g → (t : Option (Option A)) → turn_at k (below e.bound (done (machine.owner k))) ≡ t → option_or t (outcome_at k e.held) ≡ cond (leb (e.stub g).base k && true) t (outcome_at k e.held)
        go own (Some o) h = rw (le-leb (e.stub g).base k (its_base (machine.owner k) k o own h)) refl
        go own None h = silent (leb (e.stub g).base k) refl own

        pick : (group (machine.owner k) ≡ g) ⊎ (group (machine.owner k) ≡ g → ⊥)
            → cond (group (machine.owner k) == g) (option_or (outcome_at k (turns_among (below e.bound (done (machine.owner k))))) (outcome_at k e.held)) (outcome_at k e.held)
            ≡ cond (leb (e.stub g).base k && (group (machine.owner k) == g)) (turn_at k (below e.bound (done (machine.owner k)))) (outcome_at k e.held)
        pick (inl own) =
            rw (eq-eqb (group (machine.owner k)) g own)
            (ap (λ (t : Option (Option A)). option_or t (outcome_at k e.held)) (outcome_among k (below e.bound (done (machine.owner k)))) ∙ go own (turn_at k (below e.bound (done (machine.owner k)))) refl)
        pick (inr ne) = rw (ne_eqb (group (machine.owner k)) g ne) (skip (leb (e.stub g).base k) (turn_at k (below e.bound (done (machine.owner k)))) (outcome_at k e.held))

    pub moved_met : Met machine group g e l e' l'
    moved_met =
        record {
          p = moved.p;
          m = moved.m;
          gone = gone;
          by_plus = by_plus;
          by_minus = by_minus;
          apart = one_left;
          p_low = λ j. low_counts machine law e.bound (moved.p j) (p_none j);
          m_low = λ j. low_counts machine law e.bound (moved.m j) (m_none j);
          others = moved.others;
          others_plus = moved.others_plus;
          others_minus = moved.others_minus;
          bound = moved.bound;
          given = moved.given;
          base = moved.base;
          first = moved.first;
          state = moved.state;
          done = moved.done;
          pending = moved.pending;
          owed = moved.owed;
          tray_plus = moved.tray_plus;
          tray_minus = moved.tray_minus;
          tray_low = λ i own. low_counts machine law e.bound (l'.part i).plus (tray_none i own);
          tray_low_minus = λ i own. low_counts machine law e.bound (l'.part i).minus (tray_none_minus i own);
          out_plus = moved.out_plus;
          out_minus = moved.out_minus;
          floor = moved.floor;
          matches = matches;
          inbox_plus = moved.inbox_plus;
          inbox_minus = moved.inbox_minus;
          falls = moved.falls;
          turns = turns_are;
        }
