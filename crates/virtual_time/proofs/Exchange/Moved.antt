-- What a meeting moves, told by counts, is a meeting.
use Rattle.std.proofs.Common.{◌≡◌, ℕ, ◌+◌, ◌-◌, ◌<◌, ◌≤◌, ◌==◌, ◌&&◌, ◌⊎◌, inl, inr, Bool, true, false, cond, Option, None, Some, List, [], ◌∷◌, ◌++◌, refl, ap, sym, subst, ◌∙◌, arith, leb}
use Rattle.std.proofs.lemmas.Bool.{and_parts, leb-true, lt-ltb, le-ltb, le-leb, eq-eqb, eqb-true, cases_lt}
use Rattle.std.specs.Option.{option_or}
use Rattle.virtual_time.specs.Machine.{Lawful, Machine}
use Rattle.virtual_time.specs.Reference.{Falls, outcome_at, reference_turn}
use Rattle.virtual_time.specs.Entries.{Entry, Input, Item, Own, below, from, number, replay, turn_at}
use Rattle.virtual_time.specs.Bags.{AllFrom, inputs, sends, times}
use Rattle.virtual_time.specs.Records.{turns_among}
use Rattle.virtual_time.specs.Rules.{IsDone}
use Rattle.virtual_time.specs.Inverses.{Pair, times_to}
use Rattle.virtual_time.specs.Exchange.Stubs.{Exchange, IsSound}
use Rattle.virtual_time.specs.Exchange.Leases.{IsLease, Lease, Matches}
use Rattle.virtual_time.specs.Exchange.Meetings.{Met}
use Rattle.virtual_time.specs.Exchange.Moved.{IsMoved}
use Rattle.virtual_time.proofs.Cuts.{IsDone-below, Some≢None}
use Rattle.virtual_time.proofs.Joint.{all_zero, own_owner}
use Rattle.virtual_time.proofs.Commits.{inputs_from, sends_from}
use Rattle.virtual_time.proofs.Dropped.{dropped_fall}
use Rattle.virtual_time.proofs.Exchange.Ones.{inputs_low, sends_low, turn_low}
use Rattle.virtual_time.proofs.Exchange.Wholes.{low_counts}
use Rattle.virtual_time.proofs.Exchange.Windowed.{times_append}
use Rattle.virtual_time.proofs.Exchange.Meetings.{high, done_g}
use Rattle.virtual_time.proofs.Exchange.Pairs.{both, left_is, left_times, pairs_all, pairs_of, rest_is, rest_times}

pub outcome_among : {A : Type 0} (k : ℕ) (es : List (Entry A)) → outcome_at k (turns_among es) ≡ turn_at k es
outcome_among k [] = refl
outcome_among k (Own k' o ∷ es) = ap (λ x. cond (k' == k) (Some o) x) (outcome_among k es)
outcome_among k (Input x ∷ es) = outcome_among k es

module _ {S A : Type 0} (machine : Machine S A) (law : Lawful machine) {count : ℕ} (i : ℕ) (e : Exchange A) (is : IsSound machine count e) (l : Lease S A) (lease : IsLease machine i l) (match : Matches machine i (e.stub i) l) where
  -- the turns taken in
  sure : IsDone machine i l.base l.part.first l.part.base (below e.bound l.part.done)
  sure = IsDone-below machine law i l.base l.part.first l.part.base e.bound l.part.done lease.proper.done

  held_none : (k : ℕ) → (e.stub i).base ≤ k → machine.owner k ≡ i → outcome_at k e.held ≡ None
  held_none k b o =
      let h = is.held.1 in
      let q : (e.stub (machine.owner k)).base ≤ k = subst (λ (j : ℕ). (e.stub j).base ≤ k) (sym o) b in
      h.turns k ∙ rw (le-ltb k (e.stub (machine.owner k)).base q) (off (leb is.held.0 k) (reference_turn machine k))
    where
      off : (c : Bool) (x : Option (Option A)) → cond (c && false) x None ≡ None
      off true x = refl
      off false x = refl

  its : (k : ℕ) (o : Option A) → turn_at k (below e.bound l.part.done) ≡ Some o → ((e.stub i).base ≤ k) × (machine.owner k ≡ i)
  its k o h = (base (cases_lt k (e.stub i).base), own_owner machine law i l.base l.part.first l.part.base k o (below e.bound l.part.done) sure h)
    where
      base : (k < (e.stub i).base) ⊎ ((e.stub i).base ≤ k) → (e.stub i).base ≤ k
      base (inl c) =
          let b = match.base in
          let z : turn_at k (below e.bound l.part.done) ≡ None = turn_low machine law i l.base l.part.first l.part.base (below e.bound l.part.done) sure k (omega arith) in
          absurd (Some≢None o (sym h ∙ z))
      base (inr c) = c

  pub taken_fall : Falls (turns_among (below e.bound l.part.done))
  taken_fall = dropped_fall machine law i l.base l.part.first l.part.base e.bound l.part.done lease.proper.done

  pub taken_apart : (k : ℕ) (o : Option A) → outcome_at k (turns_among (below e.bound l.part.done)) ≡ Some o → outcome_at k e.held ≡ None
  taken_apart k o h = let q = its k o (sym (outcome_among k (below e.bound l.part.done)) ∙ h) in held_none k q.0 q.1

  module _ (quiet : (j : ℕ) → count ≤ j → (e.stub j).plus ≡ []) (still : (j : ℕ) → count ≤ j → l.out_plus j ≡ []) (e' : Exchange A) (l' : Lease S A) (moved : IsMoved machine i e l e' l') where
    abbrev come : ℕ → List (Item A)
    come j = (e.stub j).plus ++ l.out_plus j

    abbrev undo : ℕ → List (Item A)
    undo j = (e.stub j).minus ++ l.out_minus j

    -- equal pairs go
    abbrev gone : List (Pair A)
    gone = pairs_of machine (λ j. both machine (come j) (undo j)) count

    gone_times : (j k : ℕ) (a : A) → times_to machine gone j k a ≡ times machine (both machine (come j) (undo j)) k a
    gone_times j k a = pairs_all machine (λ j. both machine (come j) (undo j)) count j k a (λ c. (λ v. both machine (quiet j c v ++ still j c v) (undo j)))

    by_plus : (j k : ℕ) (a : A) → times machine (moved.p j) k a + times_to machine gone j k a ≡ times machine (e.stub j).plus k a + times machine (l.out_plus j) k a
    by_plus j k a =
        let p = moved.messages j k a in
        let x = left_is machine law (come j) (undo j) k a in
        let y = left_times machine law (come j) (undo j) k a in
        let s = times_append machine (e.stub j).plus (l.out_plus j) k a in
        let t = times_append machine (e.stub j).minus (l.out_minus j) k a in
        let z = gone_times j k a in
        omega arith

    by_minus : (j k : ℕ) (a : A) → times machine (moved.m j) k a + times_to machine gone j k a ≡ times machine (e.stub j).minus k a + times machine (l.out_minus j) k a
    by_minus j k a =
        let m = moved.antimessages j k a in
        let x = rest_is machine law (come j) (undo j) k a in
        let y = rest_times machine law (come j) (undo j) k a in
        let s = times_append machine (e.stub j).plus (l.out_plus j) k a in
        let t = times_append machine (e.stub j).minus (l.out_minus j) k a in
        let z = gone_times j k a in
        omega arith

    one_left : (j k : ℕ) (a : A) → (times machine (moved.p j) k a ≡ 0) ⊎ (times machine (moved.m j) k a ≡ 0)
    one_left j k a = go (cases_lt (times machine (e.stub j).plus k a + times machine (l.out_plus j) k a) (times machine (e.stub j).minus k a + times machine (l.out_minus j) k a))
      where
        go : (times machine (e.stub j).plus k a + times machine (l.out_plus j) k a < times machine (e.stub j).minus k a + times machine (l.out_minus j) k a)
            ⊎ (times machine (e.stub j).minus k a + times machine (l.out_minus j) k a ≤ times machine (e.stub j).plus k a + times machine (l.out_plus j) k a)
            → (times machine (moved.p j) k a ≡ 0) ⊎ (times machine (moved.m j) k a ≡ 0)
        go (inl c) = let p = moved.messages j k a in inl (omega arith)
        go (inr c) = let m = moved.antimessages j k a in inr (omega arith)

    -- nothing is below the bound
    none_below : (xs : List (Item A)) → AllFrom l.floor xs → (k : ℕ) (a : A) → k < e.bound → times machine xs k a ≡ 0
    none_below xs f k a c = let h = high machine law i e is l lease match in all_zero machine law l.floor k xs f (omega arith) a

    p_none : (j k : ℕ) (a : A) → k < e.bound → times machine (moved.p j) k a ≡ 0
    p_none j k a c =
        let p = moved.messages j k a in
        let x = all_zero machine law e.bound k (e.stub j).plus (is.plus j) c a in
        let y = none_below (l.out_plus j) (lease.out_plus j) k a c in
        omega arith

    m_none : (j k : ℕ) (a : A) → k < e.bound → times machine (moved.m j) k a ≡ 0
    m_none j k a c =
        let m = moved.antimessages j k a in
        let x = all_zero machine law e.bound k (e.stub j).minus (is.minus j) c a in
        let y = none_below (l.out_minus j) (lease.out_minus j) k a c in
        omega arith

    tray_none : (k : ℕ) (a : A) → k < e.bound → times machine l'.part.plus k a ≡ 0
    tray_none k a c = let t = moved.tray_plus k a in let p = p_none i k a c in let x = none_below l.part.plus lease.past.plus k a c in omega arith

    tray_none_minus : (k : ℕ) (a : A) → k < e.bound → times machine l'.part.minus k a ≡ 0
    tray_none_minus k a c = let t = moved.tray_minus k a in let m = m_none i k a c in let x = none_below l.part.minus lease.past.minus k a c in omega arith

    -- what is taken and standing
    owed_as : (k : ℕ) (a : A) → times machine l'.part.owed k a ≡ times machine l.part.owed k a
    owed_as k a = ap (λ (xs : List (Item A)). times machine xs k a) moved.owed

    pending_as : (k : ℕ) (a : A) → times machine l'.part.pending k a ≡ times machine l.part.pending k a
    pending_as k a = ap (λ (xs : List (Item A)). times machine xs k a) moved.pending

    taken : (k : ℕ) (a : A) → (k < e.bound) ⊎ (e.bound ≤ k)
        → (e'.stub i).taken k a + times machine l'.part.owed k a + times machine l'.part.minus k a ≡ inputs machine l'.part.done k a + times machine l'.part.pending k a + times machine l'.part.plus k a
    taken k a (inl c) =
        let t : (e'.stub i).taken k a ≡ 0 = moved.taken k a ∙ rw (lt-ltb k e.bound c) refl in
        let o = owed_as k a in
        let q = pending_as k a in
        let x = none_below l.part.owed lease.owed k a c in
        let y = none_below l.part.pending lease.past.pending k a c in
        let p = tray_none k a c in
        let m = tray_none_minus k a c in
        let d : inputs machine l'.part.done k a ≡ 0 = rw moved.done (inputs_low machine law i e.bound (number l.part.first (below e.bound l.part.done)) (replay machine i l.part.base (below e.bound l.part.done)) (from e.bound l.part.done) (done_g machine law i e is l lease match) k c a) in
        omega arith
    taken k a (inr c) =
        let t : (e'.stub i).taken k a ≡ ((e.stub i).taken k a + times machine (moved.p i) k a) - times machine (moved.m i) k a = moved.taken k a ∙ rw (le-ltb k e.bound c) refl in
        let o = owed_as k a in
        let q = pending_as k a in
        let p = moved.messages i k a in
        let m = moved.antimessages i k a in
        let x = moved.tray_plus k a in
        let y = moved.tray_minus k a in
        let zp : times machine (l.out_plus i) k a ≡ 0 = ap (λ (xs : List (Item A)). times machine xs k a) lease.self_plus in
        let zm : times machine (l.out_minus i) k a ≡ 0 = ap (λ (xs : List (Item A)). times machine xs k a) lease.self_minus in
        let h = match.taken k a in
        let v = is.even i k a c in
        let d : inputs machine l'.part.done k a ≡ inputs machine l.part.done k a = rw moved.done (inputs_from machine law i l.base l.part.first l.part.base e.bound l.part.done lease.proper.done k c a) in
        omega arith

    standing : (k : ℕ) (a : A) (j : ℕ) → machine.owner k ≡ i → (k < e.bound) ⊎ (e.bound ≤ k) → (e'.stub i).standing k a j ≡ sends machine l'.part.done k a j
    standing k a j o (inl c) =
        let t : (e'.stub i).standing k a j ≡ 0 = moved.standing k a j ∙ rw (lt-ltb k e.bound c) refl in
        let d : sends machine l'.part.done k a j ≡ 0 = rw moved.done (sends_low machine law i e.bound (number l.part.first (below e.bound l.part.done)) (replay machine i l.part.base (below e.bound l.part.done)) (from e.bound l.part.done) (done_g machine law i e is l lease match) k c a j) in
        t ∙ sym d
    standing k a j o (inr c) =
        let t : (e'.stub i).standing k a j ≡ ((e.stub i).standing k a j + times machine (l.out_plus j) k a) - times machine (l.out_minus j) k a = moved.standing k a j ∙ rw (le-ltb k e.bound c) refl in
        let h = match.standing k a j o in
        let d : sends machine l'.part.done k a j ≡ sends machine l.part.done k a j = rw moved.done (sends_from machine law i l.base l.part.first l.part.base e.bound l.part.done lease.proper.done k c a j) in
        omega arith

    matches : Matches machine i (e'.stub i) l'
    matches =
        record {
          base = moved.base ∙ sym moved.stub_base;
          floor = sym moved.stub_floor;
          taken = λ k a. taken k a (cases_lt k e.bound);
          standing = λ k a j o.
              let s = standing k a j o (cases_lt k e.bound) in
              let p : times machine (l'.out_plus j) k a ≡ 0 = ap (λ (xs : List (Item A)). times machine xs k a) (moved.out_plus j) in
              let m : times machine (l'.out_minus j) k a ≡ 0 = ap (λ (xs : List (Item A)). times machine xs k a) (moved.out_minus j) in
              omega arith;
        }

    turns_are : (k : ℕ) → outcome_at k e'.held ≡ cond (leb (e.stub i).base k && (machine.owner k == i)) (turn_at k (below e.bound l.part.done)) (outcome_at k e.held)
    turns_are k = moved.turns k ∙ ap (λ (t : Option (Option A)). option_or t (outcome_at k e.held)) (outcome_among k (below e.bound l.part.done)) ∙ go (turn_at k (below e.bound l.part.done)) refl
      where
        quiet_there : (b : Bool) → (leb (e.stub i).base k && (machine.owner k == i)) ≡ b → outcome_at k e.held ≡ cond b None (outcome_at k e.held)
        quiet_there true f = let q = and_parts (leb (e.stub i).base k) (machine.owner k == i) f in held_none k (leb-true (e.stub i).base k q.0) (eqb-true (machine.owner k) i q.1)
        quiet_there false f = refl

        go : (t : Option (Option A)) → turn_at k (below e.bound l.part.done) ≡ t → option_or t (outcome_at k e.held) ≡ cond (leb (e.stub i).base k && (machine.owner k == i)) t (outcome_at k e.held)
        go (Some o) h = let q = its k o h in rw (le-leb (e.stub i).base k q.0, eq-eqb (machine.owner k) i q.1) refl
        go None h = quiet_there (leb (e.stub i).base k && (machine.owner k == i)) refl

    pub moved_met : Met machine i e l e' l'
    moved_met =
        record {
          p = moved.p;
          m = moved.m;
          gone = gone;
          by_plus = by_plus;
          by_minus = by_minus;
          apart = one_left;
          p_low = λ j. low_counts machine law e.bound (moved.p j) (p_none j);
          m_low = λ j. low_counts machine law e.bound (moved.m j) (m_none j);
          others = moved.others;
          bound = moved.bound;
          given = moved.given;
          base = moved.base;
          first = moved.first;
          state = moved.state;
          done = moved.done;
          pending = moved.pending;
          owed = moved.owed;
          tray_plus = moved.tray_plus;
          tray_minus = moved.tray_minus;
          tray_low = low_counts machine law e.bound l'.part.plus tray_none;
          tray_low_minus = low_counts machine law e.bound l'.part.minus tray_none_minus;
          out_plus = moved.out_plus;
          out_minus = moved.out_minus;
          floor = moved.floor;
          matches = matches;
          inbox_plus = moved.inbox_plus;
          inbox_minus = moved.inbox_minus;
          falls = moved.falls;
          turns = turns_are;
        }
