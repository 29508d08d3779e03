-- Each lease that matches a sound exchange can meet.
use Rattle.std.proofs.Common.{◌≡◌, ℕ, ◌+◌, ◌-◌, ◌≤◌, ◌==◌, ◌⊎◌, inl, inr, cond, List, [], ◌++◌, refl, ap, arith, ltb}
use Rattle.std.proofs.lemmas.Bool.{eq-eqb, ne_eqb}
use Rattle.virtual_time.specs.Machine.{HasCount, Lawful, Machine}
use Rattle.virtual_time.specs.Reference.{Turn}
use Rattle.virtual_time.specs.Entries.{Item, below, from, number, replay}
use Rattle.virtual_time.specs.Bags.{times}
use Rattle.virtual_time.specs.Records.{turns_among}
use Rattle.virtual_time.specs.Worlds.{IsPast, Part}
use Rattle.virtual_time.specs.Replies.{IsAt, least_at}
use Rattle.virtual_time.specs.Exchange.Stubs.{Exchange, IsSound, Stub}
use Rattle.virtual_time.specs.Exchange.Leases.{IsFloor, IsLease, Lease, Matches}
use Rattle.virtual_time.specs.Exchange.Meetings.{Met}
use Rattle.virtual_time.specs.Exchange.Moved.{IsMoved}
use Rattle.virtual_time.specs.Exchange.Merged.{put_turns}
use Rattle.virtual_time.proofs.Exchange.Merging.{merged_falls, merged_outcomes}
use Rattle.virtual_time.proofs.Exchange.Pairs.{left, left_is, rest, rest_is}
use Rattle.virtual_time.proofs.Exchange.Moved.{moved_met, taken_apart, taken_fall}
use Rattle.virtual_time.proofs.Exchange.Windowed.{times_append}
use Rattle.virtual_time.proofs.Replied.{at_from}
use Rattle.virtual_time.proofs.Timed.{at_has, at_low}

module _ {S A : Type 0} (machine : Machine S A) (law : Lawful machine) where
  -- The meeting.
  module _ (count : ℕ) (counted : HasCount machine count) (i : ℕ) (e : Exchange A) (is : IsSound machine count e) (l : Lease S A) (lease : IsLease machine i l) (match : Matches machine i (e.stub i) l)
      (quiet : (j : ℕ) → count ≤ j → (e.stub j).plus ≡ []) (still : (j : ℕ) → count ≤ j → l.out_plus j ≡ []) where
    abbrev g : ℕ
    g = e.bound

    abbrev come : ℕ → List (Item A)
    come j = (e.stub j).plus ++ l.out_plus j

    abbrev undo : ℕ → List (Item A)
    undo j = (e.stub j).minus ++ l.out_minus j

    abbrev p : ℕ → List (Item A)
    p j = left machine (come j) (undo j)

    abbrev m : ℕ → List (Item A)
    m j = rest machine (come j) (undo j)

    abbrev part : Part S A
    part =
        record {
          base = replay machine i l.part.base (below g l.part.done);
          first = number l.part.first (below g l.part.done);
          done = from g l.part.done;
          pending = l.part.pending;
          owed = l.part.owed;
          plus = l.part.plus ++ p i;
          minus = l.part.minus ++ m i;
        }

    abbrev new_lease : Lease S A
    new_lease = record { base = g; floor = least_at machine i part machine.top; part = part; out_plus = λ j. []; out_minus = λ j. [] }

    abbrev new_stub : Stub A
    new_stub =
        record {
          base = g;
          floor = least_at machine i part machine.top;
          taken = λ k a. cond (ltb k g) 0 (((e.stub i).taken k a + times machine (p i) k a) - times machine (m i) k a);
          standing = λ k a j. cond (ltb k g) 0 (((e.stub i).standing k a j + times machine (l.out_plus j) k a) - times machine (l.out_minus j) k a);
          plus = [];
          minus = [];
        }

    abbrev turns : List (Turn A)
    turns = turns_among (below g l.part.done)

    abbrev new : Exchange A
    new =
        record {
          stub = λ j. cond (j == i) new_stub (record { base = (e.stub j).base; floor = (e.stub j).floor; taken = (e.stub j).taken; standing = (e.stub j).standing; plus = p j; minus = m j });
          bound = g;
          held = put_turns turns e.held;
          given = e.given;
        }

    here : new.stub i ≡ new_stub
    here = rw (eq-eqb i i refl)

    least : IsFloor machine i (least_at machine i part machine.top) part
    least = record { low = (at_low machine count counted i part (least_at machine i part machine.top) machine.top (omega arith)).0; most = λ d past. go d past (at_has machine count counted i part machine.top) }
      where
        go : (d : ℕ) → IsPast machine d i part → IsAt machine (least_at machine i part machine.top) i part ⊎ (least_at machine i part machine.top ≡ machine.top) → d ≤ least_at machine i part machine.top
        go d past (inl h) = at_from machine d (least_at machine i part machine.top) i part past h
        go d past (inr q) = let t = past.turn in let b = law.bounded i (number part.first part.done) in omega arith

    moved : IsMoved machine i e l new new_lease
    moved =
        record {
          p = p;
          m = m;
          messages = λ j k a.
              let x = left_is machine law (come j) (undo j) k a in
              let s = times_append machine (e.stub j).plus (l.out_plus j) k a in
              let t = times_append machine (e.stub j).minus (l.out_minus j) k a in
              omega arith;
          antimessages = λ j k a.
              let x = rest_is machine law (come j) (undo j) k a in
              let s = times_append machine (e.stub j).plus (l.out_plus j) k a in
              let t = times_append machine (e.stub j).minus (l.out_minus j) k a in
              omega arith;
          others = λ j ne. rw (ne_eqb j i ne);
          stub_base = ap (λ (st : Stub A). st.base) here;
          stub_floor = ap (λ (st : Stub A). st.floor) here;
          taken = λ k a. ap (λ (st : Stub A). st.taken k a) here;
          standing = λ k a j. ap (λ (st : Stub A). st.standing k a j) here;
          inbox_plus = ap (λ (st : Stub A). st.plus) here;
          inbox_minus = ap (λ (st : Stub A). st.minus) here;
          bound = refl;
          given = refl;
          base = refl;
          first = refl;
          state = refl;
          done = refl;
          pending = refl;
          owed = refl;
          tray_plus = λ k a. times_append machine l.part.plus (p i) k a;
          tray_minus = λ k a. times_append machine l.part.minus (m i) k a;
          out_plus = λ j. refl;
          out_minus = λ j. refl;
          floor = least;
          falls = merged_falls turns e.held (taken_fall machine law i e is l lease match) is.held.1.falls (taken_apart machine law i e is l lease match);
          turns = merged_outcomes turns e.held (taken_fall machine law i e is l lease match) is.held.1.falls (taken_apart machine law i e is l lease match);
        }

    pub meet_exists : (e' : Exchange A) × (l' : Lease S A) × Met machine i e l e' l'
    meet_exists = (new, new_lease, moved_met machine law i e is l lease match quiet still new new_lease moved)
