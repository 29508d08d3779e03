-- Each lease of a group that matches a sound exchange can meet, where the group's components are among the first count.
use Rattle.std.proofs.Common.{◌≡◌, ℕ, zero, suc, ◌+◌, ◌-◌, ◌<◌, ◌≤◌, ◌==◌, ◌⊎◌, inl, inr, Bool, cond, Option, None, Some, List, [], ◌++◌, true, false, true≢false, refl, ap, sym, subst, ◌∙◌, arith, ltb}
use Rattle.std.proofs.lemmas.Bool.{eq-eqb, ne_eqb, cases_eq}
use Rattle.std.specs.Option.{option_or}
use Rattle.virtual_time.specs.Machine.{HasCount, Lawful, Machine}
use Rattle.virtual_time.specs.Reference.{Falls, Turn, outcome_at}
use Rattle.virtual_time.specs.Entries.{Item, below, from, number, replay}
use Rattle.virtual_time.specs.Bags.{times}
use Rattle.virtual_time.specs.Records.{turns_among}
use Rattle.virtual_time.specs.Worlds.{IsPast, Part}
use Rattle.virtual_time.specs.Replies.{IsAt, least_at}
use Rattle.virtual_time.specs.Exchange.Merged.{put_turns}
use Rattle.virtual_time.specs.Groups.Stubs.{Exchange, IsSound, Stub}
use Rattle.virtual_time.specs.Groups.Leases.{IsFloor, IsLease, Lease, Matches}
use Rattle.virtual_time.specs.Groups.Meetings.{Met}
use Rattle.virtual_time.specs.Groups.Moved.{IsMoved}
use Rattle.virtual_time.proofs.Exchange.Merging.{merged_falls, merged_outcomes}
use Rattle.virtual_time.proofs.Exchange.Pairs.{left, left_is, rest, rest_is}
use Rattle.virtual_time.proofs.Exchange.Windowed.{times_append}
use Rattle.virtual_time.proofs.Replied.{at_from}
use Rattle.virtual_time.proofs.Timed.{at_has, at_low}
use Rattle.virtual_time.proofs.Groups.Moved.{moved_met, taken_apart, taken_fall, taken_owner}

module _ {S A : Type 0} (machine : Machine S A) (law : Lawful machine) (count : ℕ) (counted : HasCount machine count) (group : ℕ → ℕ) (g : ℕ) where
  -- The floor of the group's components among the first ones.
  abbrev pub least_in : (ℕ → Part S A) → ℕ → ℕ
  least_in parts zero = machine.top
  least_in parts (suc n) = cond (group n == g) (least_at machine n (parts n) (least_in parts n)) (least_in parts n)

  least_end : (parts : ℕ → Part S A) (n : ℕ) → least_in parts n ≤ machine.top
  least_end parts zero = omega arith
  least_end parts (suc n) = go (group n == g) (least_end parts n)
    where
      go : (b : Bool) → least_in parts n ≤ machine.top → cond b (least_at machine n (parts n) (least_in parts n)) (least_in parts n) ≤ machine.top
      go true h = let r = (at_low machine count counted n (parts n) (least_at machine n (parts n) (least_in parts n)) (least_in parts n) (omega arith)).1 in omega arith
      go false h = h

  least_past : (parts : ℕ → Part S A) (n b i : ℕ) → b ≤ least_in parts n → group i ≡ g → i < n → IsPast machine b i (parts i)
  least_past parts zero b i l own h = absurd (omega arith)
  least_past parts (suc n) b i l own h = go (group n == g) refl l (cases_eq i n) (λ (m : b ≤ least_in parts n) (k : i < n). least_past parts n b i m own k)
    where
      go : (v : Bool) → (group n == g) ≡ v → b ≤ cond v (least_at machine n (parts n) (least_in parts n)) (least_in parts n) → (i ≡ n) ⊎ (i ≡ n → ⊥) → (b ≤ least_in parts n → i < n → IsPast machine b i (parts i)) → IsPast machine b i (parts i)
      go true f m (inl e) ih = subst (λ (j : ℕ). IsPast machine b j (parts j)) (sym e) (at_low machine count counted n (parts n) b (least_in parts n) m).0
      go true f m (inr ne) ih = ih (at_low machine count counted n (parts n) b (least_in parts n) m).1 (omega arith)
      go false f m (inl e) ih = absurd (true≢false (sym (eq-eqb (group n) g (sym (ap group e) ∙ own)) ∙ f))
      go false f m (inr ne) ih = ih m (omega arith)

  least_most : (parts : ℕ → Part S A) (d n : ℕ) → d ≤ machine.top → ((i : ℕ) → group i ≡ g → IsPast machine d i (parts i)) → d ≤ least_in parts n
  least_most parts d zero l past = l
  least_most parts d (suc n) l past = go (cases_eq (group n) g) (least_most parts d n l past)
    where
      here : IsPast machine d n (parts n) → IsAt machine (least_at machine n (parts n) (least_in parts n)) n (parts n) ⊎ (least_at machine n (parts n) (least_in parts n) ≡ least_in parts n) → d ≤ least_in parts n → d ≤ least_at machine n (parts n) (least_in parts n)
      here p (inl h) ih = at_from machine d (least_at machine n (parts n) (least_in parts n)) n (parts n) p h
      here p (inr q) ih = omega arith

      go : (group n ≡ g) ⊎ (group n ≡ g → ⊥) → d ≤ least_in parts n → d ≤ cond (group n == g) (least_at machine n (parts n) (least_in parts n)) (least_in parts n)
      go (inl e) ih = rw (eq-eqb (group n) g e) (here (past n e) (at_has machine count counted n (parts n) (least_in parts n)) ih)
      go (inr ne) ih = rw (ne_eqb (group n) g ne) ih

  pub least_floor : (parts : ℕ → Part S A) → ((i : ℕ) → group i ≡ g → i < count) → IsFloor machine group g (least_in parts count) parts
  least_floor parts inside =
      record {
        end = least_end parts count;
        low = λ i own. least_past parts count (least_in parts count) i (omega arith) own (inside i own);
        most = λ d end past. least_most parts d count end past;
      }

  -- a component has something to do at it
  least_has : (parts : ℕ → Part S A) (n : ℕ) → (least_in parts n ≡ machine.top) ⊎ ((i : ℕ) × (i < n) × (group i ≡ g) × IsAt machine (least_in parts n) i (parts i))
  least_has parts zero = inl refl
  least_has parts (suc n) = go (cases_eq (group n) g) (least_has parts n)
    where
      more : (b : ℕ) → (b ≡ machine.top) ⊎ ((i : ℕ) × (i < n) × (group i ≡ g) × IsAt machine b i (parts i)) → (b ≡ machine.top) ⊎ ((i : ℕ) × (i < suc n) × (group i ≡ g) × IsAt machine b i (parts i))
      more b (inl e) = inl e
      more b (inr h) = let l = h.1 in inr (h.0, omega arith, h.2, h.3)

      here : group n ≡ g → (least_in parts n ≡ machine.top) ⊎ ((i : ℕ) × (i < n) × (group i ≡ g) × IsAt machine (least_in parts n) i (parts i))
          → IsAt machine (least_at machine n (parts n) (least_in parts n)) n (parts n) ⊎ (least_at machine n (parts n) (least_in parts n) ≡ least_in parts n)
          → (least_at machine n (parts n) (least_in parts n) ≡ machine.top) ⊎ ((i : ℕ) × (i < suc n) × (group i ≡ g) × IsAt machine (least_at machine n (parts n) (least_in parts n)) i (parts i))
      here own ih (inl h) = inr (n, omega arith, own, h)
      here own ih (inr q) = subst (λ (b : ℕ). (b ≡ machine.top) ⊎ ((i : ℕ) × (i < suc n) × (group i ≡ g) × IsAt machine b i (parts i))) (sym q) (more (least_in parts n) ih)

      go : (group n ≡ g) ⊎ (group n ≡ g → ⊥) → (least_in parts n ≡ machine.top) ⊎ ((i : ℕ) × (i < n) × (group i ≡ g) × IsAt machine (least_in parts n) i (parts i))
          → (least_in parts (suc n) ≡ machine.top) ⊎ ((i : ℕ) × (i < suc n) × (group i ≡ g) × IsAt machine (least_in parts (suc n)) i (parts i))
      go (inl e) ih =
          subst (λ (v : Bool). (cond v (least_at machine n (parts n) (least_in parts n)) (least_in parts n) ≡ machine.top) ⊎ ((i : ℕ) × (i < suc n) × (group i ≡ g) × IsAt machine (cond v (least_at machine n (parts n) (least_in parts n)) (least_in parts n)) i (parts i)))
          (sym (eq-eqb (group n) g e)) (here e ih (at_has machine count counted n (parts n) (least_in parts n)))
      go (inr ne) ih =
          subst (λ (v : Bool). (cond v (least_at machine n (parts n) (least_in parts n)) (least_in parts n) ≡ machine.top) ⊎ ((i : ℕ) × (i < suc n) × (group i ≡ g) × IsAt machine (cond v (least_at machine n (parts n) (least_in parts n)) (least_in parts n)) i (parts i)))
          (sym (ne_eqb (group n) g ne)) (more (least_in parts n) ih)

  pub floor_has : (parts : ℕ → Part S A) (b : ℕ) → ((i : ℕ) → group i ≡ g → i < count) → IsFloor machine group g b parts → (b ≡ machine.top) ⊎ ((i : ℕ) × (i < count) × (group i ≡ g) × IsAt machine b i (parts i))
  floor_has parts b inside floor =
      let own = least_floor parts inside in
      let up = own.most b floor.end floor.low in
      let down = floor.most (least_in parts count) own.end own.low in
      let same : least_in parts count ≡ b = omega arith in
      subst (λ (c : ℕ). (c ≡ machine.top) ⊎ ((i : ℕ) × (i < count) × (group i ≡ g) × IsAt machine c i (parts i))) same (least_has parts count)

  -- The meeting.
  module _ (inside : (i : ℕ) → group i ≡ g → i < count) (e : Exchange A) (is : IsSound machine group count e) (l : Lease S A) (lease : IsLease machine group g l) (match : Matches machine group g (e.stub g) l)
      (quiet : (j : ℕ) → count ≤ j → e.plus j ≡ []) (still : (j : ℕ) → count ≤ j → l.out_plus j ≡ []) where
    abbrev b : ℕ
    b = e.bound

    abbrev come : ℕ → List (Item A)
    come j = e.plus j ++ l.out_plus j

    abbrev undo : ℕ → List (Item A)
    undo j = e.minus j ++ l.out_minus j

    abbrev p : ℕ → List (Item A)
    p j = left machine (come j) (undo j)

    abbrev m : ℕ → List (Item A)
    m j = rest machine (come j) (undo j)

    abbrev part : ℕ → Part S A
    part i =
        record {
          base = replay machine i (l.part i).base (below b (l.part i).done);
          first = number (l.part i).first (below b (l.part i).done);
          done = from b (l.part i).done;
          pending = (l.part i).pending;
          owed = (l.part i).owed;
          plus = (l.part i).plus ++ p i;
          minus = (l.part i).minus ++ m i;
        }

    abbrev new_lease : Lease S A
    new_lease = record { base = b; floor = least_in part count; part = part; out_plus = λ j. []; out_minus = λ j. [] }

    abbrev new_stub : Stub A
    new_stub =
        record {
          base = b;
          floor = least_in part count;
          taken = λ i k a. cond (ltb k b) 0 (((e.stub g).taken i k a + times machine (p i) k a) - times machine (m i) k a);
          standing = λ k a j. cond (ltb k b) 0 (((e.stub g).standing k a j + times machine (l.out_plus j) k a) - times machine (l.out_minus j) k a);
        }

    -- the turns of the first components with those held
    abbrev turns : ℕ → List (Turn A)
    turns i = turns_among (below b (l.part i).done)

    abbrev merged : ℕ → List (Turn A)
    merged zero = e.held
    merged (suc n) = cond (group n == g) (put_turns (turns n) (merged n)) (merged n)

    record IsMerged (n : ℕ) (us : List (Turn A)) : Type 0 where
      falls : Falls us
      among : (k : ℕ) → group (machine.owner k) ≡ g → machine.owner k < n → outcome_at k us ≡ option_or (outcome_at k (turns (machine.owner k))) (outcome_at k e.held)
      other : (k : ℕ) → ((group (machine.owner k) ≡ g) × (machine.owner k < n) → ⊥) → outcome_at k us ≡ outcome_at k e.held

    nobody : (n k : ℕ) → group n ≡ g → (machine.owner k ≡ n → ⊥) → outcome_at k (turns n) ≡ None
    nobody n k own ne = go (outcome_at k (turns n)) refl
      where
        go : (t : Option (Option A)) → outcome_at k (turns n) ≡ t → t ≡ None
        go None h = refl
        go (Some o) h = absurd (ne (taken_owner machine law group g e is l lease match n k o own h))

    merge_one : (n : ℕ) → group n ≡ g → IsMerged n (merged n) → IsMerged (suc n) (put_turns (turns n) (merged n))
    merge_one n own ih =
        record {
          falls = merged_falls (turns n) (merged n) fall ih.falls free;
          among = λ k mine low. among k mine low (cases_eq (machine.owner k) n);
          other = λ k no.
              outcomes k ∙ ap (λ (t : Option (Option A)). option_or t (outcome_at k (merged n))) (nobody n k own (λ q. no (ap group q ∙ own, omega arith)))
              ∙ ih.other k (λ q. let r = q.1 in no (q.0, omega arith));
        }
      where
        fall : Falls (turns n)
        fall = taken_fall machine law group g e is l lease match n own

        free : (k : ℕ) (o : Option A) → outcome_at k (turns n) ≡ Some o → outcome_at k (merged n) ≡ None
        free k o h =
            let q = taken_owner machine law group g e is l lease match n k o own h in
            ih.other k (λ x. let r = x.1 in absurd (omega arith)) ∙ taken_apart machine law group g e is l lease match n k o own h

        outcomes : (k : ℕ) → outcome_at k (put_turns (turns n) (merged n)) ≡ option_or (outcome_at k (turns n)) (outcome_at k (merged n))
        outcomes = merged_outcomes (turns n) (merged n) fall ih.falls free

        among : (k : ℕ) → group (machine.owner k) ≡ g → machine.owner k < suc n → (machine.owner k ≡ n) ⊎ (machine.owner k ≡ n → ⊥)
            → outcome_at k (put_turns (turns n) (merged n)) ≡ option_or (outcome_at k (turns (machine.owner k))) (outcome_at k e.held)
        among k mine low (inl q) =
            outcomes k ∙ ap (λ (t : Option (Option A)). option_or (outcome_at k (turns n)) t) (ih.other k (λ x. let r = x.1 in absurd (omega arith)))
            ∙ ap (λ (i : ℕ). option_or (outcome_at k (turns i)) (outcome_at k e.held)) (sym q)
        among k mine low (inr ne) =
            outcomes k ∙ ap (λ (t : Option (Option A)). option_or t (outcome_at k (merged n))) (nobody n k own ne) ∙ ih.among k mine (omega arith)

    merge_none : (n : ℕ) → (group n ≡ g → ⊥) → IsMerged n (merged n) → IsMerged (suc n) (merged n)
    merge_none n ne ih =
        record {
          falls = ih.falls;
          among = λ k mine low. among k mine low (cases_eq (machine.owner k) n);
          other = λ k no. ih.other k (λ q. let r = q.1 in no (q.0, omega arith));
        }
      where
        among : (k : ℕ) → group (machine.owner k) ≡ g → machine.owner k < suc n → (machine.owner k ≡ n) ⊎ (machine.owner k ≡ n → ⊥) → outcome_at k (merged n) ≡ option_or (outcome_at k (turns (machine.owner k))) (outcome_at k e.held)
        among k mine low (inl q) = absurd (ne (sym (ap group q) ∙ mine))
        among k mine low (inr f) = ih.among k mine (omega arith)

    merge_all : (n : ℕ) → IsMerged n (merged n)
    merge_all zero = record { falls = is.held.1.falls; among = λ k mine low. absurd (omega arith); other = λ k no. refl }
    merge_all (suc n) = go (cases_eq (group n) g) (merge_all n)
      where
        go : (group n ≡ g) ⊎ (group n ≡ g → ⊥) → IsMerged n (merged n) → IsMerged (suc n) (merged (suc n))
        go (inl own) ih = subst (λ (v : Bool). IsMerged (suc n) (cond v (put_turns (turns n) (merged n)) (merged n))) (sym (eq-eqb (group n) g own)) (merge_one n own ih)
        go (inr ne) ih = subst (λ (v : Bool). IsMerged (suc n) (cond v (put_turns (turns n) (merged n)) (merged n))) (sym (ne_eqb (group n) g ne)) (merge_none n ne ih)

    abbrev new : Exchange A
    new =
        record {
          stub = λ h. cond (h == g) new_stub (e.stub h);
          plus = λ j. cond (group j == g) [] (p j);
          minus = λ j. cond (group j == g) [] (m j);
          bound = b;
          held = merged count;
          given = e.given;
        }

    here : new.stub g ≡ new_stub
    here = rw (eq-eqb g g refl)

    moved : IsMoved machine group g e l new new_lease
    moved =
        record {
          p = p;
          m = m;
          messages = λ j k a.
              let x = left_is machine law (come j) (undo j) k a in
              let s = times_append machine (e.plus j) (l.out_plus j) k a in
              let t = times_append machine (e.minus j) (l.out_minus j) k a in
              omega arith;
          antimessages = λ j k a.
              let x = rest_is machine law (come j) (undo j) k a in
              let s = times_append machine (e.plus j) (l.out_plus j) k a in
              let t = times_append machine (e.minus j) (l.out_minus j) k a in
              omega arith;
          others = λ h ne. rw (ne_eqb h g ne);
          others_plus = λ j ne. rw (ne_eqb (group j) g ne);
          others_minus = λ j ne. rw (ne_eqb (group j) g ne);
          stub_base = ap (λ (st : Stub A). st.base) here;
          stub_floor = ap (λ (st : Stub A). st.floor) here;
          taken = λ i k a own. ap (λ (st : Stub A). st.taken i k a) here;
          standing = λ k a j own. ap (λ (st : Stub A). st.standing k a j) here;
          inbox_plus = λ i own. rw (eq-eqb (group i) g own);
          inbox_minus = λ i own. rw (eq-eqb (group i) g own);
          bound = refl;
          given = refl;
          base = refl;
          first = λ i own. refl;
          state = λ i own. refl;
          done = λ i own. refl;
          pending = λ i own. refl;
          owed = λ i own. refl;
          tray_plus = λ i k a own. times_append machine (l.part i).plus (p i) k a;
          tray_minus = λ i k a own. times_append machine (l.part i).minus (m i) k a;
          out_plus = λ j. refl;
          out_minus = λ j. refl;
          floor = least_floor part inside;
          falls = (merge_all count).falls;
          turns = λ k. held k (cases_eq (group (machine.owner k)) g);
        }
      where
        held : (k : ℕ) → (group (machine.owner k) ≡ g) ⊎ (group (machine.owner k) ≡ g → ⊥)
            → outcome_at k (merged count) ≡ cond (group (machine.owner k) == g) (option_or (outcome_at k (turns_among (below e.bound (l.part (machine.owner k)).done))) (outcome_at k e.held)) (outcome_at k e.held)
        held k (inl own) = rw (eq-eqb (group (machine.owner k)) g own) ((merge_all count).among k own (inside (machine.owner k) own))
        held k (inr ne) = rw (ne_eqb (group (machine.owner k)) g ne) ((merge_all count).other k (λ q. ne q.0))

    pub meet_exists : (e' : Exchange A) × (l' : Lease S A) × Met machine group g e l e' l'
    meet_exists = (new, new_lease, moved_met machine law group g e is l lease match quiet still new new_lease moved)
