-- What a lease does by itself keeps it a lease, and keeps what its stub knows of it.
use Rattle.std.proofs.Common.{◌≡◌, ℕ, ◌+◌, ◌<◌, ◌≤◌, ◌==◌, ◌⊎◌, inl, inr, Bool, true, false, cond, Option, List, [], ◌∷◌, refl, ap, sym, subst, ◌∙◌, arith, ltb}
use Rattle.std.proofs.lemmas.Bool.{ltb-true, eq-eqb, ne_eqb, cases_eq, cases_lt}
use Rattle.virtual_time.specs.Machine.{Lawful, Machine}
use Rattle.virtual_time.specs.Reference.{Turn, after, point, reference_below}
use Rattle.virtual_time.specs.Entries.{Entry, Input, Item, Own, number, replay}
use Rattle.virtual_time.specs.Worlds.{Part, World, put, with_parts}
use Rattle.virtual_time.specs.Bags.{AllFrom, has, inputs, sends, times}
use Rattle.virtual_time.proofs.Moves.{accept, back_past, back_to, cancel, next_own, owe, pay, process_from, process_input, process_own, undo, walk_back, walk_minus, walk_on, walk_plus, with_done}
use Rattle.virtual_time.specs.Records.{is_input, stays}
use Rattle.virtual_time.specs.Rules.{IsDone, IsOpen, IsProper, Outside}
use Rattle.virtual_time.specs.Exchange.Stubs.{Stub}
use Rattle.virtual_time.specs.Exchange.Leases.{IsLease, Lease, Matches, alone, apart, lease_of}
use Rattle.virtual_time.proofs.Exchange.Parts.{IsOver, Over, Private}
use Rattle.virtual_time.proofs.Counts.{sent_other}
use Rattle.virtual_time.proofs.Lists.{put_other, put_each, AllFrom-weaken}
use Rattle.virtual_time.proofs.Joint.{all_zero}
use Rattle.virtual_time.proofs.Exchange.Committed.{sends_self}
use Rattle.virtual_time.proofs.Exchange.Ones.{sends_low, inputs_low}
use Rattle.virtual_time.proofs.Kept.{process_kept, roll_back_kept}
use Rattle.virtual_time.proofs.Messages.{roll_back_done, deliver_plus_kept, deliver_minus_kept}
use Rattle.virtual_time.proofs.Refs.{ref_is}
use Rattle.virtual_time.proofs.Exchange.Chunks.{no_sends}
use Rattle.virtual_time.proofs.Exchange.Floors.{process_from_over, deliver_plus_over, deliver_minus_over}

module _ {S A : Type 0} (machine : Machine S A) (law : Lawful machine) (i : ℕ) where
  -- Private steps touch no other component.
  pub private_none : (w : World S A) → Private machine i w w
  private_none w = record { bound = refl; committed = refl; base = λ j ne. refl; first = λ j ne. refl; done = λ j ne. refl; pending = λ j ne. refl; owed = λ j ne. refl; plus = λ j k a ne own. refl; minus = λ j k a ne own. refl }

  pub private_then : (u v w : World S A) → Private machine i u v → Private machine i v w → Private machine i u w
  private_then u v w p q =
      record {
        bound = q.bound ∙ p.bound;
        committed = q.committed ∙ p.committed;
        base = λ j ne. q.base j ne ∙ p.base j ne;
        first = λ j ne. q.first j ne ∙ p.first j ne;
        done = λ j ne. q.done j ne ∙ p.done j ne;
        pending = λ j ne. q.pending j ne ∙ p.pending j ne;
        owed = λ j ne. q.owed j ne ∙ p.owed j ne;
        plus = λ j k a ne own. q.plus j k a ne own ∙ p.plus j k a ne own;
        minus = λ j k a ne own. q.minus j k a ne own ∙ p.minus j k a ne own;
      }

  pub private_put : (c : Part S A) (w : World S A) → Private machine i w (with_parts w (put i c w.part))
  private_put c w =
      record {
        bound = refl;
        committed = refl;
        base = λ j ne. ap (λ (d : Part S A). d.base) (put_other i c w.part j ne);
        first = λ j ne. ap (λ (d : Part S A). d.first) (put_other i c w.part j ne);
        done = λ j ne. ap (λ (d : Part S A). d.done) (put_other i c w.part j ne);
        pending = λ j ne. ap (λ (d : Part S A). d.pending) (put_other i c w.part j ne);
        owed = λ j ne. ap (λ (d : Part S A). d.owed) (put_other i c w.part j ne);
        plus = λ j k a ne own. ap (λ (d : Part S A). times machine d.plus k a) (put_other i c w.part j ne);
        minus = λ j k a ne own. ap (λ (d : Part S A). times machine d.minus k a) (put_other i c w.part j ne);
      }

  pub private_own : (k : ℕ) (o : Option A) (w : World S A) → machine.owner k ≡ i → Private machine i w (process_own machine i k o w)
  private_own k o w mine =
      record {
        bound = refl;
        committed = refl;
        base = λ j ne. ap (λ (d : Part S A). d.base) (put_other i c w.part j ne);
        first = λ j ne. ap (λ (d : Part S A). d.first) (put_other i c w.part j ne);
        done = λ j ne. ap (λ (d : Part S A). d.done) (put_other i c w.part j ne);
        pending = λ j ne. ap (λ (d : Part S A). d.pending) (put_other i c w.part j ne);
        owed = λ j ne. ap (λ (d : Part S A). d.owed) (put_other i c w.part j ne);
        plus = λ j k' a ne own. sent_other machine law i k o j (put i c w.part j).plus k' a (λ (e : k ≡ k'). own (sym (ap machine.owner e) ∙ mine)) ∙ ap (λ (d : Part S A). times machine d.plus k' a) (put_other i c w.part j ne);
        minus = λ j k' a ne own. ap (λ (d : Part S A). times machine d.minus k' a) (put_other i c w.part j ne);
      }
    where
      c : Part S A
      c = with_done (w.part i) (Own k o ∷ (w.part i).done) (w.part i).pending

  pub private_next_own : (w : World S A) → Private machine i w (next_own machine i w)
  private_next_own w = go (ltb (machine.key i (number (w.part i).first (w.part i).done)) machine.top) refl
    where
      m : ℕ
      m = number (w.part i).first (w.part i).done

      go : (v : Bool) → ltb (machine.key i m) machine.top ≡ v → Private machine i w (cond v (process_own machine i (machine.key i m) (machine.outcome i m (replay machine i (w.part i).base (w.part i).done)) w) w)
      go true h = private_own (machine.key i m) _ w (law.owned i m (ltb-true (machine.key i m) machine.top h))
      go false h = private_none w

  pub private_from : (xs : List (Item A)) (w : World S A) → Private machine i w (process_from machine i xs w)
  private_from [] w = private_next_own w
  private_from (x ∷ xs) w = go (ltb x.key (machine.key i (number (w.part i).first (w.part i).done)))
    where
      go : (v : Bool) → Private machine i w (cond v (process_input i x xs w) (next_own machine i w))
      go true = private_put _ w
      go false = private_next_own w

  pub private_undo : {off : Outside A} → (es : List (Entry A)) (w : World S A) → IsOpen machine off w → (w.part i).done ≡ es → Private machine i w (undo machine i es w)
  private_undo {off} [] w is e = private_none w
  private_undo {off} (Input x ∷ es) w is e = private_put _ w
  private_undo {off} (Own k o ∷ es) w is e =
      record {
        bound = refl;
        committed = refl;
        base = λ j ne. ap (λ (d : Part S A). d.base) (put_other i c w.part j ne);
        first = λ j ne. ap (λ (d : Part S A). d.first) (put_other i c w.part j ne);
        done = λ j ne. ap (λ (d : Part S A). d.done) (put_other i c w.part j ne);
        pending = λ j ne. ap (λ (d : Part S A). d.pending) (put_other i c w.part j ne);
        owed = λ j ne. ap (λ (d : Part S A). d.owed) (put_other i c w.part j ne);
        plus = λ j k' a ne own. ap (λ (d : Part S A). times machine d.plus k' a) (put_other i c w.part j ne);
        minus = λ j k' a ne own. sent_other machine law i k o j (put i c w.part j).minus k' a (λ (f : k ≡ k'). own (sym (ap machine.owner f) ∙ mine)) ∙ ap (λ (d : Part S A). times machine d.minus k' a) (put_other i c w.part j ne);
      }
    where
      c : Part S A
      c = with_done (w.part i) es (w.part i).pending

      mine : machine.owner k ≡ i
      mine =
          let d : IsDone machine i w.bound (w.part i).first (w.part i).base (Own k o ∷ es) = subst (λ (fs : List (Entry A)). IsDone machine i w.bound (w.part i).first (w.part i).base fs) e (is.proper i).done in
          ap machine.owner d.0 ∙ law.owned i (number (w.part i).first es) (omega arith)

  pub private_back : {off : Outside A} → (w : World S A) → IsOpen machine off w → Private machine i w (walk_back machine i w)
  private_back {off} w is = private_undo (w.part i).done w is refl

  pub private_past : {off : Outside A} → (x : Item A) (es : List (Entry A)) (w : World S A) → IsOpen machine off w → (w.part i).done ≡ es → Private machine i w (back_past machine i x es w)
  private_past {off} x [] w is h = private_none w
  private_past {off} x (e ∷ es) w is h = go (stays machine x e) (private_then w (walk_back machine i w) (back_past machine i x es (walk_back machine i w)) (private_back w is) (private_past x es (walk_back machine i w) (roll_back_kept machine law i w is) (roll_back_done machine law i e es w h)))
    where
      go : (v : Bool) → Private machine i w (back_past machine i x es (walk_back machine i w)) → Private machine i w (cond v w (back_past machine i x es (walk_back machine i w)))
      go true p = private_none w
      go false p = p

  pub private_to : {off : Outside A} → (x : Item A) (es : List (Entry A)) (w : World S A) → IsOpen machine off w → (w.part i).done ≡ es → Private machine i w (back_to machine i x es w)
  private_to {off} x [] w is h = private_none w
  private_to {off} x (e ∷ es) w is h = go (is_input machine x e) (private_then w (walk_back machine i w) (back_to machine i x es (walk_back machine i w)) (private_back w is) (private_to x es (walk_back machine i w) (roll_back_kept machine law i w is) (roll_back_done machine law i e es w h)))
    where
      go : (v : Bool) → Private machine i w (back_to machine i x es (walk_back machine i w)) → Private machine i w (cond v (walk_back machine i w) (back_to machine i x es (walk_back machine i w)))
      go true p = private_back w is
      go false p = p

  pub private_plus : {off : Outside A} → (x : Item A) (w : World S A) → IsOpen machine off w → Private machine i w (walk_plus machine i x w)
  private_plus {off} x w is = go (has machine x (w.part i).owed)
    where
      v : World S A
      v = back_past machine i x (w.part i).done w

      go : (t : Bool) → Private machine i w (cond t (pay machine i x w) (accept machine i x v))
      go true = private_put _ w
      go false = private_then w v (accept machine i x v) (private_past x (w.part i).done w is refl) (private_put _ v)

  pub private_minus : {off : Outside A} → (x : Item A) (w : World S A) → IsOpen machine off w → Private machine i w (walk_minus machine i x w)
  private_minus {off} x w is = go (has machine x (w.part i).pending)
    where
      v : World S A
      v = back_to machine i x (w.part i).done w

      rest : (t : Bool) → Private machine i w (cond t (cancel machine i x v) (owe machine i x w))
      rest true = private_then w v (cancel machine i x v) (private_to x (w.part i).done w is refl) (private_put _ v)
      rest false = private_put _ w

      go : (t : Bool) → Private machine i w (cond t (cancel machine i x w) (cond (ltb 0 (inputs machine (w.part i).done x.key x.action)) (cancel machine i x v) (owe machine i x w)))
      go true = private_put _ w
      go false = rest (ltb 0 (inputs machine (w.part i).done x.key x.action))

  -- A lease with its stub, and a world that its own steps lead to.
  module _ (st : Stub A) (l : Lease S A) (lease : IsLease machine i l) (match : Matches machine i st l) where
    pub record Ran (v : World S A) : Type 0 where
      pub holds : IsOpen machine (apart machine i st) v
      pub over : Over machine i l.floor v
      pub private : Private machine i (alone machine i l) v

    abbrev idle : ℕ → Part S A
    idle j = record { base = (point machine l.base).state j; first = (point machine l.base).next j; done = []; pending = []; owed = []; plus = l.out_plus j; minus = l.out_minus j }

    pub standing_self : (k : ℕ) (a : A) → machine.owner k ≡ i → st.standing k a i ≡ 0
    standing_self k a own =
        let m = match.standing k a i own in
        let p : times machine (l.out_plus i) k a ≡ 0 = rw lease.self_plus refl in
        let q : times machine (l.out_minus i) k a ≡ 0 = rw lease.self_minus refl in
        let z : sends machine l.part.done k a i ≡ 0 = subst (λ (n : ℕ). sends machine l.part.done k a n ≡ 0) own (sends_self machine law l.part.done k a) in
        omega arith

    pub balance_alone : (j k : ℕ) (a : A) → l.base ≤ k
        → sends machine ((alone machine i l).part (machine.owner k)).done k a j + times machine ((alone machine i l).part j).owed k a + times machine ((alone machine i l).part j).minus k a + (apart machine i st).came j k a
        ≡ inputs machine ((alone machine i l).part j).done k a + times machine ((alone machine i l).part j).pending k a + times machine ((alone machine i l).part j).plus k a + (apart machine i st).went j k a
    balance_alone j k a low = go (cases_eq j i) (cases_eq (machine.owner k) i)
      where
        at_i : (machine.owner k ≡ i) ⊎ (machine.owner k ≡ i → ⊥)
            → sends machine ((alone machine i l).part (machine.owner k)).done k a i + times machine l.part.owed k a + times machine l.part.minus k a + st.taken k a
            ≡ inputs machine l.part.done k a + times machine l.part.pending k a + times machine l.part.plus k a + cond (machine.owner k == i) (st.standing k a i) 0
        at_i (inl own) =
            let m = match.taken k a in
            let s = standing_self k a own in
            let z : sends machine l.part.done k a i ≡ 0 = subst (λ (n : ℕ). sends machine l.part.done k a n ≡ 0) own (sends_self machine law l.part.done k a) in
            rw (eq-eqb (machine.owner k) i own) (omega arith)
        at_i (inr ne) =
            let m = match.taken k a in
            let z = no_sends machine law k a i in
            rw (ne_eqb (machine.owner k) i ne) (omega arith)

        go : (j ≡ i) ⊎ (j ≡ i → ⊥) → (machine.owner k ≡ i) ⊎ (machine.owner k ≡ i → ⊥)
            → sends machine ((alone machine i l).part (machine.owner k)).done k a j + times machine ((alone machine i l).part j).owed k a + times machine ((alone machine i l).part j).minus k a + (apart machine i st).came j k a
            ≡ inputs machine ((alone machine i l).part j).done k a + times machine ((alone machine i l).part j).pending k a + times machine ((alone machine i l).part j).plus k a + (apart machine i st).went j k a
        go (inl e) o = subst (λ (n : ℕ). sends machine ((alone machine i l).part (machine.owner k)).done k a n + times machine ((alone machine i l).part n).owed k a + times machine ((alone machine i l).part n).minus k a + (apart machine i st).came n k a
            ≡ inputs machine ((alone machine i l).part n).done k a + times machine ((alone machine i l).part n).pending k a + times machine ((alone machine i l).part n).plus k a + (apart machine i st).went n k a) (sym e) (rw (eq-eqb i i refl) (at_i o))
        go (inr ne) (inl own) =
            let m = match.standing k a j own in
            rw (ne_eqb j i ne, eq-eqb (machine.owner k) i own) (omega arith)
        go (inr ne) (inr other) =
            let p = lease.mine_plus j k a other in
            let q = lease.mine_minus j k a other in
            let z = no_sends machine law k a j in
            rw (ne_eqb j i ne, ne_eqb (machine.owner k) i other) (omega arith)

    pub ran_none : Ran (alone machine i l)
    ran_none =
        let r = ref_is machine law l.base lease.end in
        record {
          holds = record {
            proper = put_each (λ j c. IsProper machine l.base j c) i l.part idle lease.proper
                (λ j. record { done = r.all j; pending = tt; sorted = tt; owed_sorted = tt; plus = AllFrom-weaken l.base l.floor (l.out_plus j) lease.low (lease.out_plus j); minus = AllFrom-weaken l.base l.floor (l.out_minus j) lease.low (lease.out_minus j); owed = λ k a. inl refl });
            balance = balance_alone;
            reference = r;
            next = put_each (λ j c. c.first ≡ (point machine l.base).next j) i l.part idle lease.first (λ j. refl);
            grounded = put_each (λ j c. c.base ≡ (point machine l.base).state j) i l.part idle lease.grounded (λ j. refl);
          };
          over = λ j. over j (cases_eq j i);
          private = private_none (alone machine i l);
        }
      where
        over : (j : ℕ) → (j ≡ i) ⊎ (j ≡ i → ⊥) → IsOver machine i l.floor j ((alone machine i l).part j)
        over j (inl e) = subst (λ (n : ℕ). IsOver machine i l.floor n ((alone machine i l).part n)) (sym e) (rw (eq-eqb i i refl) (record { turn = λ f. lease.past.turn; pending = lease.past.pending; owed = lease.owed; plus = lease.past.plus; minus = lease.past.minus }))
        over j (inr ne) = rw (ne_eqb j i ne) (record { turn = λ f. absurd (ne f); pending = tt; owed = tt; plus = lease.out_plus j; minus = lease.out_minus j })

    -- what they lead to is a lease that matches the same stub
    module _ (v : World S A) (r : Ran v) where
      bound : v.bound ≡ l.base
      bound = r.private.bound

      known : v.committed ≡ reference_below machine v.bound
      known = r.private.committed ∙ sym (ap (reference_below machine) bound)

      idle_at : (j : ℕ) → (j ≡ i → ⊥) → (alone machine i l).part j ≡ idle j
      idle_at j ne = put_other i l.part idle j ne

      none_out : (j k : ℕ) (a : A) → machine.owner k ≡ i → k < l.floor → (times machine (l.out_plus j) k a ≡ 0) × (times machine (l.out_minus j) k a ≡ 0)
      none_out j k a own h = (all_zero machine law l.floor k (l.out_plus j) (lease.out_plus j) h a, all_zero machine law l.floor k (l.out_minus j) (lease.out_minus j) h a)

      pub ran_lease : IsLease machine i (lease_of i l.floor v)
      ran_lease =
          record {
            end = let e = lease.end in let b = bound in omega arith;
            low = let e = lease.low in let b = bound in omega arith;
            proper = r.holds.proper i;
            first = r.holds.next i ∙ ap (λ (ts : List (Turn A)). (after machine ts).next i) known;
            grounded = r.holds.grounded i ∙ ap (λ (ts : List (Turn A)). (after machine ts).state i) known;
            past = let o = r.over i in record { turn = o.turn refl; pending = o.pending; plus = o.plus; minus = o.minus };
            owed = (r.over i).owed;
            out_plus = λ j. all (j == i) (v.part j).plus (r.over j).plus;
            out_minus = λ j. all (j == i) (v.part j).minus (r.over j).minus;
            self_plus = rw (eq-eqb i i refl);
            self_minus = rw (eq-eqb i i refl);
            mine_plus = λ j k a ne. mine_plus j k a ne (cases_eq j i);
            mine_minus = λ j k a ne. mine_minus j k a ne (cases_eq j i);
          }
        where
          all : (b : Bool) (xs : List (Item A)) → AllFrom l.floor xs → AllFrom l.floor (cond b [] xs)
          all true xs h = tt
          all false xs h = h

          mine_plus : (j k : ℕ) (a : A) → (machine.owner k ≡ i → ⊥) → (j ≡ i) ⊎ (j ≡ i → ⊥) → times machine (cond (j == i) [] (v.part j).plus) k a ≡ 0
          mine_plus j k a ne (inl e) = rw (eq-eqb j i e)
          mine_plus j k a ne (inr f) = rw (ne_eqb j i f) (r.private.plus j k a f ne ∙ ap (λ (c : Part S A). times machine c.plus k a) (idle_at j f) ∙ lease.mine_plus j k a ne)

          mine_minus : (j k : ℕ) (a : A) → (machine.owner k ≡ i → ⊥) → (j ≡ i) ⊎ (j ≡ i → ⊥) → times machine (cond (j == i) [] (v.part j).minus) k a ≡ 0
          mine_minus j k a ne (inl e) = rw (eq-eqb j i e)
          mine_minus j k a ne (inr f) = rw (ne_eqb j i f) (r.private.minus j k a f ne ∙ ap (λ (c : Part S A). times machine c.minus k a) (idle_at j f) ∙ lease.mine_minus j k a ne)

      pub ran_matches : Matches machine i st (lease_of i l.floor v)
      ran_matches =
          record {
            base = bound ∙ match.base;
            floor = match.floor;
            taken = λ k a. all_taken k a (cases_lt k v.bound);
            standing = λ k a j own. standing k a j own (cases_eq j i) (cases_lt k v.bound);
          }
        where
          taken : (k : ℕ) (a : A) → v.bound ≤ k → (machine.owner k ≡ i) ⊎ (machine.owner k ≡ i → ⊥)
              → st.taken k a + times machine (v.part i).owed k a + times machine (v.part i).minus k a ≡ inputs machine (v.part i).done k a + times machine (v.part i).pending k a + times machine (v.part i).plus k a
          taken k a low (inl own) =
              let b = r.holds.balance i k a low in
              let z : sends machine (v.part (machine.owner k)).done k a i ≡ 0 = subst (λ (n : ℕ). sends machine (v.part (machine.owner k)).done k a n ≡ 0) own (sends_self machine law (v.part (machine.owner k)).done k a) in
              let c : (apart machine i st).came i k a ≡ st.taken k a = rw (eq-eqb i i refl) in
              let w : (apart machine i st).went i k a ≡ 0 = rw (eq-eqb (machine.owner k) i own) (standing_self k a own) in
              omega arith
          taken k a low (inr ne) =
              let b = r.holds.balance i k a low in
              let z : sends machine (v.part (machine.owner k)).done k a i ≡ 0 = ap (λ (es : List (Entry A)). sends machine es k a i) (r.private.done (machine.owner k) ne ∙ ap (λ (c : Part S A). c.done) (idle_at (machine.owner k) ne)) ∙ no_sends machine law k a i in
              let c : (apart machine i st).came i k a ≡ st.taken k a = rw (eq-eqb i i refl) in
              let w : (apart machine i st).went i k a ≡ 0 = rw (ne_eqb (machine.owner k) i ne) in
              omega arith

          all_taken : (k : ℕ) (a : A) → (k < v.bound) ⊎ (v.bound ≤ k)
              → st.taken k a + times machine (v.part i).owed k a + times machine (v.part i).minus k a ≡ inputs machine (v.part i).done k a + times machine (v.part i).pending k a + times machine (v.part i).plus k a
          all_taken k a (inr h) = taken k a h (cases_eq (machine.owner k) i)
          all_taken k a (inl h) =
              let b = bound in
              let f = lease.low in
              let n = match.taken k a in
              let x = inputs_low machine law i l.base l.part.first l.part.base l.part.done lease.proper.done k (omega arith) a in
              let y = all_zero machine law l.floor k l.part.pending lease.past.pending (omega arith) a in
              let z = all_zero machine law l.floor k l.part.plus lease.past.plus (omega arith) a in
              let x' = inputs_low machine law i v.bound (v.part i).first (v.part i).base (v.part i).done (r.holds.proper i).done k h a in
              let y' = all_zero machine law l.floor k (v.part i).pending (r.over i).pending (omega arith) a in
              let z' = all_zero machine law l.floor k (v.part i).plus (r.over i).plus (omega arith) a in
              let o' = all_zero machine law l.floor k (v.part i).owed (r.over i).owed (omega arith) a in
              let m' = all_zero machine law l.floor k (v.part i).minus (r.over i).minus (omega arith) a in
              omega arith

          standing : (k : ℕ) (a : A) (j : ℕ) → machine.owner k ≡ i → (j ≡ i) ⊎ (j ≡ i → ⊥) → (k < v.bound) ⊎ (v.bound ≤ k)
              → st.standing k a j + times machine (cond (j == i) [] (v.part j).plus) k a ≡ sends machine (v.part i).done k a j + times machine (cond (j == i) [] (v.part j).minus) k a
          standing k a j own (inl e) h =
              let z : sends machine (v.part i).done k a j ≡ 0 = subst (λ (n : ℕ). sends machine (v.part i).done k a n ≡ 0) (own ∙ sym e) (sends_self machine law (v.part i).done k a) in
              let s : st.standing k a j ≡ 0 = subst (λ (n : ℕ). st.standing k a n ≡ 0) (sym e) (standing_self k a own) in
              rw (eq-eqb j i e) (omega arith)
          standing k a j own (inr ne) (inl h) =
              let b = bound in
              let f = lease.low in
              let o = none_out j k a own (omega arith) in
              let m = match.standing k a j own in
              let y = sends_low machine law i l.base l.part.first l.part.base l.part.done lease.proper.done k (omega arith) a j in
              let z = sends_low machine law i v.bound (v.part i).first (v.part i).base (v.part i).done (r.holds.proper i).done k h a j in
              let p = all_zero machine law l.floor k (v.part j).plus (r.over j).plus (omega arith) a in
              let q = all_zero machine law l.floor k (v.part j).minus (r.over j).minus (omega arith) a in
              rw (ne_eqb j i ne) (omega arith)
          standing k a j own (inr ne) (inr h) =
              let b = r.holds.balance j k a h in
              let d : sends machine (v.part (machine.owner k)).done k a j ≡ sends machine (v.part i).done k a j = ap (λ (n : ℕ). sends machine (v.part n).done k a j) own in
              let x : inputs machine (v.part j).done k a ≡ 0 = ap (λ (es : List (Entry A)). inputs machine es k a) (r.private.done j ne ∙ ap (λ (c : Part S A). c.done) (idle_at j ne)) in
              let p : times machine (v.part j).pending k a ≡ 0 = ap (λ (xs : List (Item A)). times machine xs k a) (r.private.pending j ne ∙ ap (λ (c : Part S A). c.pending) (idle_at j ne)) in
              let o : times machine (v.part j).owed k a ≡ 0 = ap (λ (xs : List (Item A)). times machine xs k a) (r.private.owed j ne ∙ ap (λ (c : Part S A). c.owed) (idle_at j ne)) in
              let c : (apart machine i st).came j k a ≡ 0 = rw (ne_eqb j i ne) in
              let w : (apart machine i st).went j k a ≡ st.standing k a j = rw (eq-eqb (machine.owner k) i own) in
              rw (ne_eqb j i ne) (omega arith)

    -- run_ahead is such steps, and settle
    pub ran_process : (v : World S A) → Ran v → Ran (walk_on machine i v)
    ran_process v r =
        record {
          holds = process_kept machine law i v r.holds;
          over = process_from_over machine law l.floor i (v.part i).pending v refl r.over;
          private = private_then (alone machine i l) v (walk_on machine i v) r.private (private_from (v.part i).pending v);
        }

    pub ran_plus : (x : Item A) (v : World S A) → Ran v → 0 < times machine (v.part i).plus x.key x.action → Ran (walk_plus machine i x v)
    ran_plus x v r h =
        record {
          holds = deliver_plus_kept machine law v i x r.holds h;
          over = deliver_plus_over machine law l.floor i x v r.holds h r.over;
          private = private_then (alone machine i l) v (walk_plus machine i x v) r.private (private_plus x v r.holds);
        }

    pub ran_minus : (x : Item A) (v : World S A) → Ran v → 0 < times machine (v.part i).minus x.key x.action → Ran (walk_minus machine i x v)
    ran_minus x v r h =
        record {
          holds = deliver_minus_kept machine law v i x r.holds h;
          over = deliver_minus_over machine law l.floor i x v r.holds h r.over;
          private = private_then (alone machine i l) v (walk_minus machine i x v) r.private (private_minus x v r.holds);
        }
