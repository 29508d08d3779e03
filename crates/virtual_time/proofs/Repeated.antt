-- Several entries rolled back and processed again, and then all that they sent meets, in any order.
use Rattle.std.proofs.Common.{◌≡◌, ℕ, ◌+◌, ◌<◌, ◌==◌, ◌⊎◌, inl, inr, true, cond, Option, Some, List, [], ◌∷◌, ◌++◌, length, refl, ap, sym, subst, ◌∙◌, arith}
use Rattle.std.proofs.lemmas.Bool.{lt-ltb, le-ltb, eq-eqb, ne_eqb, cases_eq}
use Rattle.virtual_time.specs.Machine.{Lawful, Machine}
use Rattle.virtual_time.specs.Entries.{Entry, Input, Item, Own, number, replay}
use Rattle.virtual_time.specs.Bags.{AllFrom, Each, IsSorted, comes_first, hit, insert, times}
use Rattle.virtual_time.specs.Records.{Processes, Record, after_entry, back_at, back_by_antimessage, back_by_message, least_of, next_of, own_next, roll_back_of, roll_back_times, sent_all, sent_by, undone, unsent, without_first}
use Rattle.virtual_time.specs.Worlds.{Part, World, can_meet, deliver_antimessage, deliver_message, meet, process, process_entry, put_back, record_of, roll_back, same, taken_at, with_record}
use Rattle.virtual_time.specs.Rules.{IsDone, IsProper, IsWorld, MayFollow}
use Rattle.virtual_time.specs.Inverses.{ArePairs, IsOrdered, Pair, meet_pairs, processes, roll_backs, times_to, try_meet}
use Rattle.virtual_time.proofs.Counts.{hit_self, times-remove}
use Rattle.virtual_time.proofs.Lists.{insert_front, put_other, put_same}
use Rattle.virtual_time.proofs.Kept.{roll_back_kept}
use Rattle.virtual_time.proofs.Messages.{roll_back_done}
use Rattle.virtual_time.proofs.Tied.{put_none, put_twice, record_put, roll_back_is, roll_back_tied}
use Rattle.virtual_time.proofs.Recorded.{all_back, all_done, sent_shift, signs}
use Rattle.virtual_time.proofs.Ordered.{by_sorted, meet_ordered, put_ordered, sorted_one, unsent_sorted}
use Rattle.virtual_time.proofs.Crossed.{antimessage_back, meet_rolled_all, message_back, message_low, met_done, met_kept, plus_of, taken_antimessage, taken_message}

module _ {S A : Type 0} (machine : Machine S A) (law : Lawful machine) where
  -- On one record: what was taken back is next, and doing it again gives the record.
  least_own : (i : ℕ) (r : Record S A) (xs : List (Item A)) → AllFrom (machine.key i (number r.first r.done)) xs → least_of machine i r xs ≡ own_next machine i r
  least_own i r [] p = refl
  least_own i r (x ∷ xs) p = rw (le-ltb x.key (machine.key i (number r.first r.done)) p.0)

  own_again : (i k : ℕ) (o : Option A) (r : Record S A) → k ≡ machine.key i (number r.first r.done) → k < machine.top → o ≡ machine.outcome i (number r.first r.done) (replay machine i r.base r.done)
      → own_next machine i r ≡ Some (Own k o)
  own_again i k o r e l f =
      let m : machine.key i (number r.first r.done) < machine.top = omega arith in
      rw (lt-ltb (machine.key i (number r.first r.done)) machine.top m) (λ v. Some (Own (sym e v) (sym f v)))

  pub record Again (i : ℕ) (e : Entry A) (es : List (Entry A)) (c : Part S A) : Type 0 where
    pub next : next_of machine i (back_at machine (e ∷ []) es (record_of c)) ≡ Some e
    pub after : after_entry e (back_at machine (e ∷ []) es (record_of c)) ≡ record_of c

  pub done_again : (g i : ℕ) (e : Entry A) (es : List (Entry A)) (c : Part S A) → IsProper machine g i c → c.done ≡ e ∷ es → Again i e es c
  done_again g i (Own k o) es c p h =
      let d : IsDone machine i g c.first c.base (Own k o ∷ es) = subst (λ (fs : List (Entry A)). IsDone machine i g c.first c.base fs) h p.done in
      let q : Each (MayFollow machine g (Own k o ∷ es)) c.pending = subst (λ (fs : List (Entry A)). Each (MayFollow machine g fs) c.pending) h p.pending in
      let r : Record S A = back_at machine (Own k o ∷ []) es (record_of c) in
      record {
        next = least_own i r c.pending (subst (λ (n : ℕ). AllFrom n c.pending) d.0 q) ∙ own_again i k o r d.0 d.1 d.2;
        after = λ v. record { base = c.base; first = c.first; done = sym h v; pending = c.pending; owed = c.owed };
      }
  done_again g i (Input x) es c p h =
      let d : IsDone machine i g c.first c.base (Input x ∷ es) = subst (λ (fs : List (Entry A)). IsDone machine i g c.first c.base fs) h p.done in
      let q : Each (λ y. comes_first machine x y ≡ true) c.pending = subst (λ (fs : List (Entry A)). Each (MayFollow machine g fs) c.pending) h p.pending in
      let front : insert machine x c.pending ≡ x ∷ c.pending = insert_front machine x c.pending q in
      let r : Record S A = back_at machine (Input x ∷ []) es (record_of c) in
      record {
        next = ap (λ (xs : List (Item A)). least_of machine i r xs) front ∙ rw (lt-ltb x.key (machine.key i (number c.first es)) d.0);
        after = λ v. record { base = c.base; first = c.first; done = sym h v; pending = ap (λ (xs : List (Item A)). without_first xs) front v; owed = c.owed };
      }

  -- Rolled back k times and processed k times: the record is the same, and what was sent is in flight with its antimessages.
  pub processed_again : (i : ℕ) (es rest : List (Entry A)) (w : World S A) → IsWorld machine w → (w.part i).done ≡ es ++ rest
      → processes machine i (length es) (roll_backs machine i (length es) w) ≡ put_back i (record_of (w.part i)) (sent_all machine i es) (unsent machine i es) w
  processed_again i [] rest w is d = sym (put_none machine i w)
  processed_again i (e ∷ es) rest w is d =
      ap (process machine i) (processed_again i es rest w1 is1 d1 ∙ moved)
      ∙ step ∙ put_twice machine i r' (after_entry e r') (sent_all machine i es) (unsent machine i (e ∷ es)) (sent_by machine i e) same w
      ∙ ap (λ (q : Record S A). put_back i q (sent_all machine i (e ∷ es)) (unsent machine i (e ∷ es)) w) again.after
    where
      r' : Record S A
      r' = back_at machine (e ∷ []) (es ++ rest) (record_of (w.part i))

      w1 : World S A
      w1 = roll_back machine i w

      tied : w1 ≡ put_back i r' same (sent_by machine i e) w
      tied = roll_back_is machine i w ∙ roll_back_tied machine i e (es ++ rest) w d

      is1 : IsWorld machine w1
      is1 = subst (λ (x : World S A). IsWorld machine x) (sym (roll_back_is machine i w)) (roll_back_kept machine law i w is)

      d1 : (w1.part i).done ≡ es ++ rest
      d1 = ap (λ (x : World S A). (x.part i).done) (roll_back_is machine i w) ∙ roll_back_done machine law i e (es ++ rest) w d

      now : record_of (w1.part i) ≡ r'
      now = ap (λ (x : World S A). record_of (x.part i)) tied ∙ record_put machine i r' same (sent_by machine i e) w

      z : World S A
      z = put_back i r' (sent_all machine i es) (unsent machine i (e ∷ es)) w

      moved : put_back i (record_of (w1.part i)) (sent_all machine i es) (unsent machine i es) w1 ≡ z
      moved =
          ap (λ (q : Record S A). put_back i q (sent_all machine i es) (unsent machine i es) w1) now
          ∙ ap (λ (x : World S A). put_back i r' (sent_all machine i es) (unsent machine i es) x) tied
          ∙ put_twice machine i r' r' same (sent_by machine i e) (sent_all machine i es) (unsent machine i es) w

      again : Again i e (es ++ rest) (w.part i)
      again = done_again w.bound i e (es ++ rest) (w.part i) (is.proper i) d

      at : record_of (z.part i) ≡ r'
      at = record_put machine i r' (sent_all machine i es) (unsent machine i (e ∷ es)) w

      step : process machine i z ≡ put_back i (after_entry e r') (sent_by machine i e) same z
      step =
          ap (λ (o : Option (Entry A)). process_entry machine i o z) (ap (next_of machine i) at ∙ again.next)
          ∙ ap (λ (q : Record S A). put_back i (after_entry e q) (sent_by machine i e) same z) at

  -- The meetings, in any order.
  pub record Apart (pairs : List (Pair A)) (u w : World S A) : Type 0 where
    pub records : (l : ℕ) → record_of (u.part l) ≡ record_of (w.part l)
    pub bound : u.bound ≡ w.bound
    pub committed : u.committed ≡ w.committed
    pub plus : (l k : ℕ) (a : A) → times machine (u.part l).plus k a ≡ times_to machine pairs l k a + times machine (w.part l).plus k a
    pub minus : (l k : ℕ) (a : A) → times machine (u.part l).minus k a ≡ times_to machine pairs l k a + times machine (w.part l).minus k a

  met_record : (j : ℕ) (x : Item A) (w : World S A) (l : ℕ) → record_of ((meet machine j x w).part l) ≡ record_of (w.part l)
  met_record j x w l = go (cases_eq l j)
    where
      go : (l ≡ j) ⊎ (l ≡ j → ⊥) → record_of ((meet machine j x w).part l) ≡ record_of (w.part l)
      go (inl e) = subst (λ (n : ℕ). record_of ((meet machine j x w).part n) ≡ record_of (w.part n)) (sym e) (record_put machine j (record_of (w.part j)) (taken_at machine j x) (taken_at machine j x) w)
      go (inr ne) = ap (λ (c : Part S A). record_of c) (put_other j (with_record (w.part j) (record_of (w.part j))) w.part l ne)

  met_plus : (j : ℕ) (x : Item A) (w : World S A) (l : ℕ) → ((meet machine j x w).part l).plus ≡ taken_at machine j x l (w.part l).plus
  met_plus j x w l = go (cases_eq l j)
    where
      go : (l ≡ j) ⊎ (l ≡ j → ⊥) → ((meet machine j x w).part l).plus ≡ taken_at machine j x l (w.part l).plus
      go (inl e) = subst (λ (n : ℕ). ((meet machine j x w).part n).plus ≡ taken_at machine j x n (w.part n).plus) (sym e)
          (ap (λ (c : Part S A). taken_at machine j x j c.plus) (put_same j (with_record (w.part j) (record_of (w.part j))) w.part))
      go (inr ne) = ap (λ (c : Part S A). taken_at machine j x l c.plus) (put_other j (with_record (w.part j) (record_of (w.part j))) w.part l ne)

  met_minus : (j : ℕ) (x : Item A) (w : World S A) (l : ℕ) → ((meet machine j x w).part l).minus ≡ taken_at machine j x l (w.part l).minus
  met_minus j x w l = go (cases_eq l j)
    where
      go : (l ≡ j) ⊎ (l ≡ j → ⊥) → ((meet machine j x w).part l).minus ≡ taken_at machine j x l (w.part l).minus
      go (inl e) = subst (λ (n : ℕ). ((meet machine j x w).part n).minus ≡ taken_at machine j x n (w.part n).minus) (sym e)
          (ap (λ (c : Part S A). taken_at machine j x j c.minus) (put_same j (with_record (w.part j) (record_of (w.part j))) w.part))
      go (inr ne) = ap (λ (c : Part S A). taken_at machine j x l c.minus) (put_other j (with_record (w.part j) (record_of (w.part j))) w.part l ne)

  taken_times : (j : ℕ) (x : Item A) (l : ℕ) (xs : List (Item A)) (k : ℕ) (a : A) → (l ≡ j → 0 < times machine xs x.key x.action) → cond (j == l) (hit machine x k a) 0 + times machine (taken_at machine j x l xs) k a ≡ times machine xs k a
  taken_times j x l xs k a some = go (cases_eq l j)
    where
      go : (l ≡ j) ⊎ (l ≡ j → ⊥) → cond (j == l) (hit machine x k a) 0 + times machine (taken_at machine j x l xs) k a ≡ times machine xs k a
      go (inl e) = rw (eq-eqb l j e, eq-eqb j l (sym e)) (times-remove machine law x xs k a (some e))
      go (inr ne) = rw (ne_eqb l j ne, ne_eqb j l (λ (q : j ≡ l). ne (sym q))) (omega arith)

  pub all_met : (pairs : List (Pair A)) (u w : World S A) → IsOrdered machine u → IsOrdered machine w → Apart pairs u w → meet_pairs machine pairs u ≡ w
  all_met [] u w so sw h =
      λ v. record {
        part = λ l.
            let q = h.records l in
            let p = sorted_one machine law (u.part l).plus (w.part l).plus (so l).0 (sw l).0 (λ k a. let c = h.plus l k a in omega arith) in
            let m = sorted_one machine law (u.part l).minus (w.part l).minus (so l).1 (sw l).1 (λ k a. let c = h.minus l k a in omega arith) in
            record { base = (q v).base; first = (q v).first; done = (q v).done; pending = (q v).pending; owed = (q v).owed; plus = p v; minus = m v };
        bound = h.bound v;
        committed = h.committed v;
      }
  all_met (x ∷ xs) u w so sw h =
      ap (meet_pairs machine xs) met
      ∙ all_met xs (meet machine x.to x.item u) w (meet_ordered machine law x.to x.item u so) sw
      (record {
        records = λ l. met_record x.to x.item u l ∙ h.records l;
        bound = h.bound;
        committed = h.committed;
        plus = λ l k a.
            let c = h.plus l k a in
            let t = taken_times x.to x.item l (u.part l).plus k a (λ e. subst (λ (n : ℕ). 0 < times machine (u.part n).plus x.item.key x.item.action) (sym e) some_plus) in
            let e : times machine ((meet machine x.to x.item u).part l).plus k a ≡ times machine (taken_at machine x.to x.item l (u.part l).plus) k a = ap (λ (ys : List (Item A)). times machine ys k a) (met_plus x.to x.item u l) in
            omega arith;
        minus = λ l k a.
            let c = h.minus l k a in
            let t = taken_times x.to x.item l (u.part l).minus k a (λ e. subst (λ (n : ℕ). 0 < times machine (u.part n).minus x.item.key x.item.action) (sym e) some_minus) in
            let e : times machine ((meet machine x.to x.item u).part l).minus k a ≡ times machine (taken_at machine x.to x.item l (u.part l).minus) k a = ap (λ (ys : List (Item A)). times machine ys k a) (met_minus x.to x.item u l) in
            omega arith;
      })
    where
      first : cond (x.to == x.to) (hit machine x.item x.item.key x.item.action) 0 ≡ 1
      first = rw (eq-eqb x.to x.to refl) (hit_self machine law x.item)

      some_plus : 0 < times machine (u.part x.to).plus x.item.key x.item.action
      some_plus = let c = h.plus x.to x.item.key x.item.action in let f = first in omega arith

      some_minus : 0 < times machine (u.part x.to).minus x.item.key x.item.action
      some_minus = let c = h.minus x.to x.item.key x.item.action in let f = first in omega arith

      met : try_meet machine x.to x.item u ≡ meet machine x.to x.item u
      met = rw (lt-ltb 0 (times machine (u.part x.to).plus x.item.key x.item.action) some_plus, lt-ltb 0 (times machine (u.part x.to).minus x.item.key x.item.action) some_minus)

  put_plus : (i : ℕ) (p m : ℕ → List (Item A) → List (Item A)) (w : World S A) (l : ℕ) → ((put_back i (record_of (w.part i)) p m w).part l).plus ≡ p l (w.part l).plus
  put_plus i p m w l = go (cases_eq l i)
    where
      go : (l ≡ i) ⊎ (l ≡ i → ⊥) → ((put_back i (record_of (w.part i)) p m w).part l).plus ≡ p l (w.part l).plus
      go (inl e) = subst (λ (n : ℕ). ((put_back i (record_of (w.part i)) p m w).part n).plus ≡ p n (w.part n).plus) (sym e)
          (ap (λ (c : Part S A). p i c.plus) (put_same i (with_record (w.part i) (record_of (w.part i))) w.part))
      go (inr ne) = ap (λ (c : Part S A). p l c.plus) (put_other i (with_record (w.part i) (record_of (w.part i))) w.part l ne)

  put_minus : (i : ℕ) (p m : ℕ → List (Item A) → List (Item A)) (w : World S A) (l : ℕ) → ((put_back i (record_of (w.part i)) p m w).part l).minus ≡ m l (w.part l).minus
  put_minus i p m w l = go (cases_eq l i)
    where
      go : (l ≡ i) ⊎ (l ≡ i → ⊥) → ((put_back i (record_of (w.part i)) p m w).part l).minus ≡ m l (w.part l).minus
      go (inl e) = subst (λ (n : ℕ). ((put_back i (record_of (w.part i)) p m w).part n).minus ≡ m n (w.part n).minus) (sym e)
          (ap (λ (c : Part S A). m i c.minus) (put_same i (with_record (w.part i) (record_of (w.part i))) w.part))
      go (inr ne) = ap (λ (c : Part S A). m l c.minus) (put_other i (with_record (w.part i) (record_of (w.part i))) w.part l ne)

  put_records : (i : ℕ) (p m : ℕ → List (Item A) → List (Item A)) (w : World S A) (l : ℕ) → record_of ((put_back i (record_of (w.part i)) p m w).part l) ≡ record_of (w.part l)
  put_records i p m w l = go (cases_eq l i)
    where
      go : (l ≡ i) ⊎ (l ≡ i → ⊥) → record_of ((put_back i (record_of (w.part i)) p m w).part l) ≡ record_of (w.part l)
      go (inl e) = subst (λ (n : ℕ). record_of ((put_back i (record_of (w.part i)) p m w).part n) ≡ record_of (w.part n)) (sym e) (record_put machine i (record_of (w.part i)) p m w)
      go (inr ne) = ap (λ (c : Part S A). record_of c) (put_other i (with_record (w.part i) (record_of (w.part i))) w.part l ne)

  all_shift : (i : ℕ) (es : List (Entry A)) (j : ℕ) (xs ys : List (Item A)) (k : ℕ) (a : A)
      → times machine (sent_all machine i es j xs) k a + times machine ys k a ≡ times machine (sent_all machine i es j ys) k a + times machine xs k a
  all_shift i [] j xs ys k a = omega arith
  all_shift i (e ∷ es) j xs ys k a =
      let h = all_shift i es j xs ys k a in
      let s = sent_shift machine law i e j (sent_all machine i es j xs) (sent_all machine i es j ys) k a in
      omega arith

  sent_all_sorted : (i : ℕ) (es : List (Entry A)) (j : ℕ) (xs : List (Item A)) → IsSorted machine xs → IsSorted machine (sent_all machine i es j xs)
  sent_all_sorted i [] j xs p = p
  sent_all_sorted i (e ∷ es) j xs p = by_sorted machine law i e j (sent_all machine i es j xs) (sent_all_sorted i es j xs p)

  -- what was sent and taken back meets, in any order
  pub all_gone : (i : ℕ) (es : List (Entry A)) (pairs : List (Pair A)) (w : World S A) → IsOrdered machine w → ArePairs machine i es pairs
      → meet_pairs machine pairs (put_back i (record_of (w.part i)) (sent_all machine i es) (unsent machine i es) w) ≡ w
  all_gone i es pairs w so are =
      all_met pairs z w (put_ordered machine law i (record_of (w.part i)) (sent_all machine i es) (unsent machine i es) w (λ j xs p. sent_all_sorted i es j xs p) (λ j xs p. unsent_sorted machine law i es j xs p) so) so
      (record {
        records = λ l. put_records i (sent_all machine i es) (unsent machine i es) w l;
        bound = refl;
        committed = refl;
        plus = λ l k a.
            let e : times machine (z.part l).plus k a ≡ times machine (sent_all machine i es l (w.part l).plus) k a = ap (λ (ys : List (Item A)). times machine ys k a) (put_plus i (sent_all machine i es) (unsent machine i es) w l) in
            let s = all_shift i es l (w.part l).plus [] k a in
            let p = are l k a in
            omega arith;
        minus = λ l k a.
            let e : times machine (z.part l).minus k a ≡ times machine (unsent machine i es l (w.part l).minus) k a = ap (λ (ys : List (Item A)). times machine ys k a) (put_minus i (sent_all machine i es) (unsent machine i es) w l) in
            let s = signs machine law i es l [] (w.part l).minus k a in
            let p = are l k a in
            omega arith;
      })
    where
      z : World S A
      z = put_back i (record_of (w.part i)) (sent_all machine i es) (unsent machine i es) w

  -- k roll-backs, k processes, and the meetings in any order
  pub any_order : (i : ℕ) (es rest : List (Entry A)) (pairs : List (Pair A)) (w : World S A) → IsWorld machine w → IsOrdered machine w → (w.part i).done ≡ es ++ rest → ArePairs machine i es pairs
      → meet_pairs machine pairs (processes machine i (length es) (roll_backs machine i (length es) w)) ≡ w
  any_order i es rest pairs w is so d are = ap (meet_pairs machine pairs) (processed_again i es rest w is d) ∙ all_gone i es pairs w so are

  -- k processes, as one change of the record
  pub processed_all : (i : ℕ) (es : List (Entry A)) (r' : Record S A) (w : World S A) → Processes machine i (record_of (w.part i)) es r'
      → processes machine i (length es) w ≡ put_back i r' (sent_all machine i es) same w
  processed_all i [] r' w h = sym (put_none machine i w) ∙ ap (λ (r : Record S A). put_back i r same same w) (sym h)
  processed_all i (e ∷ es) r' w h =
      let mid : Record S A = h.0 in
      let z : World S A = put_back i mid (sent_all machine i es) same w in
      let at : record_of (z.part i) ≡ mid = record_put machine i mid (sent_all machine i es) same w in
      ap (process machine i) (processed_all i es mid w h.1)
      ∙ ap (λ (o : Option (Entry A)). process_entry machine i o z) (ap (next_of machine i) at ∙ h.2)
      ∙ ap (λ (q : Record S A). put_back i (after_entry e q) (sent_by machine i e) same z) at
      ∙ put_twice machine i mid (after_entry e mid) (sent_all machine i es) same (sent_by machine i e) same w
      ∙ ap (λ (q : Record S A). put_back i q (sent_all machine i (e ∷ es)) same w) (sym h.3)

  -- k roll-backs of a record that was put back
  pub rolled_all : (i : ℕ) (es rest : List (Entry A)) (r : Record S A) (p m : ℕ → List (Item A) → List (Item A)) (w : World S A) → r.done ≡ es ++ rest
      → roll_backs machine i (length es) (put_back i r p m w) ≡ put_back i (roll_back_times machine (length es) r) p (λ j xs. unsent machine i es j (m j xs)) w
  rolled_all i [] rest r p m w d = refl
  rolled_all i (e ∷ es) rest r p m w d =
      let z : World S A = put_back i r p m w in
      let at : record_of (z.part i) ≡ r = record_put machine i r p m w in
      let done : (z.part i).done ≡ e ∷ (es ++ rest) = ap (λ (q : Record S A). q.done) at ∙ d in
      let back : roll_back_of machine r ≡ back_at machine (e ∷ []) (es ++ rest) r = ap (λ (fs : List (Entry A)). undone machine fs r) d in
      let one : roll_back machine i z ≡ put_back i (roll_back_of machine r) p (λ j xs. sent_by machine i e j (m j xs)) w
      = roll_back_is machine i z ∙ roll_back_tied machine i e (es ++ rest) z done
      ∙ ap (λ (q : Record S A). put_back i (back_at machine (e ∷ []) (es ++ rest) q) same (sent_by machine i e) z) at
      ∙ put_twice machine i r (back_at machine (e ∷ []) (es ++ rest) r) p m same (sent_by machine i e) w
      ∙ ap (λ (q : Record S A). put_back i q p (λ j xs. sent_by machine i e j (m j xs)) w) (sym back) in
      ap (roll_backs machine i (length es)) one
      ∙ rolled_all i es rest (roll_back_of machine r) p (λ j xs. sent_by machine i e j (m j xs)) w (ap (λ (q : Record S A). q.done) back)

  -- k processes, k roll-backs, and the meetings in any order
  pub other_order : (i : ℕ) (es : List (Entry A)) (r' : Record S A) (pairs : List (Pair A)) (w : World S A) → IsWorld machine w → IsOrdered machine w → Processes machine i (record_of (w.part i)) es r' → ArePairs machine i es pairs
      → meet_pairs machine pairs (roll_backs machine i (length es) (processes machine i (length es) w)) ≡ w
  other_order i es r' pairs w is so h are =
      ap (λ (u : World S A). meet_pairs machine pairs (roll_backs machine i (length es) u)) (processed_all i es r' w h)
      ∙ ap (meet_pairs machine pairs) (rolled_all i es (w.part i).done r' (sent_all machine i es) same w (all_done machine i es (record_of (w.part i)) r' h)
      ∙ ap (λ (q : Record S A). put_back i q (sent_all machine i es) (unsent machine i es) w) (all_back machine i es (record_of (w.part i)) r' (is.proper i).sorted h))
      ∙ all_gone i es pairs w so are

  met_order : (j : ℕ) (x : Item A) (es rest : List (Entry A)) (pairs : List (Pair A)) (w : World S A) → IsWorld machine w → IsOrdered machine w → can_meet machine j x w ≡ true → (w.part j).done ≡ es ++ rest → ArePairs machine j es pairs
      → meet_pairs machine pairs (processes machine j (length es) (meet machine j x (roll_backs machine j (length es) w))) ≡ meet machine j x w
  met_order j x es rest pairs w is so can d are =
      ap (λ (u : World S A). meet_pairs machine pairs (processes machine j (length es) u)) (meet_rolled_all machine law j x es rest w d)
      ∙ any_order j es rest pairs (meet machine j x w) (met_kept machine law j x w is can) (meet_ordered machine law j x w so) (met_done machine law j x w ∙ d) are

  -- both delivered, the message first
  pub message_any : (j : ℕ) (x : Item A) (pairs : List (Pair A)) (w : World S A) → IsWorld machine w → IsOrdered machine w → can_meet machine j x w ≡ true → ArePairs machine j (back_by_message machine x (record_of (w.part j))) pairs
      → meet_pairs machine pairs (processes machine j (length (back_by_message machine x (record_of (w.part j)))) (deliver_antimessage machine j x (deliver_message machine j x w))) ≡ meet machine j x w
  message_any j x pairs w is so can are =
      let s = taken_message machine law x (record_of (w.part j)) in
      let n : ℕ = length (back_by_message machine x (record_of (w.part j))) in
      ap (λ (u : World S A). meet_pairs machine pairs (processes machine j n u)) (message_back machine law j x w is (message_low machine law j x w is (plus_of machine law j x w can)))
      ∙ met_order j x (back_by_message machine x (record_of (w.part j))) s.0 pairs w is so can s.1 are

  -- both delivered, the antimessage first
  pub antimessage_any : (j : ℕ) (x : Item A) (pairs : List (Pair A)) (w : World S A) → IsWorld machine w → IsOrdered machine w → can_meet machine j x w ≡ true → ArePairs machine j (back_by_antimessage machine x (record_of (w.part j))) pairs
      → meet_pairs machine pairs (processes machine j (length (back_by_antimessage machine x (record_of (w.part j)))) (deliver_message machine j x (deliver_antimessage machine j x w))) ≡ meet machine j x w
  antimessage_any j x pairs w is so can are =
      let s = taken_antimessage machine law x (record_of (w.part j)) in
      let n : ℕ = length (back_by_antimessage machine x (record_of (w.part j))) in
      ap (λ (u : World S A). meet_pairs machine pairs (processes machine j n u)) (antimessage_back machine law j x w is)
      ∙ met_order j x (back_by_antimessage machine x (record_of (w.part j))) s.0 pairs w is so can s.1 are
