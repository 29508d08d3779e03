-- Each step keeps what holds of a world.
use Rattle.std.proofs.Common.{◌≡◌, ℕ, ◌+◌, ◌<◌, ◌≤◌, ◌⊎◌, inl, inr, Bool, true, false, Option, List, [], ◌∷◌, refl, ap, sym, subst, ◌∙◌, arith, ltb}
use Rattle.std.proofs.lemmas.Bool.{ltb-true, ltb-false, cases_eq}
use Rattle.virtual_time.specs.Machine.{Lawful, Machine}
use Rattle.virtual_time.specs.Reference.{after}
use Rattle.virtual_time.specs.Bags.{AllFrom, Each, IsSorted, comes_first, hit, inputs, insert, sends, times}
use Rattle.virtual_time.specs.Entries.{Entry, Input, Item, Own, latest, number, replay}
use Rattle.virtual_time.specs.Worlds.{Part, World, put, with_parts}
use Rattle.virtual_time.specs.Records.{sent}
use Rattle.virtual_time.proofs.Moves.{next_own, process_from, process_input, process_own, undo, walk_back, walk_on, with_done, with_minus, with_plus}
use Rattle.virtual_time.specs.Rules.{Balance, IsDone, IsOpen, IsProper, MayFollow, Outside}
use Rattle.virtual_time.proofs.Counts.{times-insert, sent_here, sent_other}
use Rattle.virtual_time.proofs.Lists.{Each-weaken, Each-insert, first_low, follow_low, follow_own, follow_input, put_each, put_same, put_other, IsSorted-insert, AllFrom-sent, reach, base_low}

module _ {S A : Type 0} (machine : Machine S A) (law : Lawful machine) where
  -- a change of one component alone
  pub local_balance : (off : Outside A) → (g i : ℕ) (c : Part S A) (parts : ℕ → Part S A) → Balance machine off g parts
      → ((k : ℕ) (a : A) (j : ℕ) → sends machine c.done k a j ≡ sends machine (parts i).done k a j)
      → ((k : ℕ) (a : A) → times machine c.owed k a + times machine c.minus k a + (inputs machine (parts i).done k a + times machine (parts i).pending k a + times machine (parts i).plus k a)
      ≡ times machine (parts i).owed k a + times machine (parts i).minus k a + (inputs machine c.done k a + times machine c.pending k a + times machine c.plus k a))
      → Balance machine off g (put i c parts)
  local_balance off g i c parts bal same even j k a low =
      let s : sends machine (put i c parts (machine.owner k)).done k a j ≡ sends machine (parts (machine.owner k)).done k a j
      = put_each (λ l d. sends machine d.done k a j ≡ sends machine (parts l).done k a j) i c parts (same k a j) (λ l. refl) (machine.owner k) in
      let e : times machine (put i c parts j).owed k a + times machine (put i c parts j).minus k a + (inputs machine (parts j).done k a + times machine (parts j).pending k a + times machine (parts j).plus k a)
      ≡ times machine (parts j).owed k a + times machine (parts j).minus k a + (inputs machine (put i c parts j).done k a + times machine (put i c parts j).pending k a + times machine (put i c parts j).plus k a)
      = put_each (λ l d. times machine d.owed k a + times machine d.minus k a + (inputs machine (parts l).done k a + times machine (parts l).pending k a + times machine (parts l).plus k a)
      ≡ times machine (parts l).owed k a + times machine (parts l).minus k a + (inputs machine d.done k a + times machine d.pending k a + times machine d.plus k a)) i c parts (even k a) (λ l. refl) j in
      let b = bal j k a low in
      omega arith

  pub local_world : {off : Outside A} → (w : World S A) (i : ℕ) (c : Part S A) → IsOpen machine off w → IsProper machine w.bound i c
      → c.first ≡ (w.part i).first → c.base ≡ (w.part i).base
      → ((k : ℕ) (a : A) (j : ℕ) → sends machine c.done k a j ≡ sends machine (w.part i).done k a j)
      → ((k : ℕ) (a : A) → times machine c.owed k a + times machine c.minus k a + (inputs machine (w.part i).done k a + times machine (w.part i).pending k a + times machine (w.part i).plus k a)
      ≡ times machine (w.part i).owed k a + times machine (w.part i).minus k a + (inputs machine c.done k a + times machine c.pending k a + times machine c.plus k a))
      → IsOpen machine off (with_parts w (put i c w.part))
  local_world {off} w i c is proper first base same even =
      record {
        proper = put_each (λ j d. IsProper machine w.bound j d) i c w.part proper is.proper;
        balance = local_balance off w.bound i c w.part is.balance same even;
        reference = is.reference;
        next = put_each (λ j d. d.first ≡ (after machine w.committed).next j) i c w.part (first ∙ is.next i) is.next;
        grounded = put_each (λ j d. d.base ≡ (after machine w.committed).state j) i c w.part (base ∙ is.grounded i) is.grounded;
      }

  -- all but the flight is counted as before, where the input and the pending entries are
  pub counted : (i : ℕ) (c : Part S A) (parts : ℕ → Part S A) (k : ℕ) (a : A) → c.owed ≡ (parts i).owed
      → inputs machine c.done k a + times machine c.pending k a ≡ inputs machine (parts i).done k a + times machine (parts i).pending k a
      → (j : ℕ) → times machine (put i c parts j).owed k a + (inputs machine (parts j).done k a + times machine (parts j).pending k a)
      ≡ times machine (parts j).owed k a + (inputs machine (put i c parts j).done k a + times machine (put i c parts j).pending k a)
  counted i c parts k a owed e =
      put_each (λ l d. times machine d.owed k a + (inputs machine (parts l).done k a + times machine (parts l).pending k a)
      ≡ times machine (parts l).owed k a + (inputs machine d.done k a + times machine d.pending k a)) i c parts (rw owed (omega arith)) (λ l. refl)

  pub sends_at : (i : ℕ) (c : Part S A) (parts : ℕ → Part S A) (k : ℕ) (a : A) (j l : ℕ) → l ≡ i → sends machine (put i c parts l).done k a j ≡ sends machine c.done k a j
  sends_at i c parts k a j l e = ap (λ (m : ℕ). sends machine (put i c parts m).done k a j) e ∙ ap (λ (d : Part S A). sends machine d.done k a j) (put_same i c parts)

  -- one more own turn, or one less: what it sends
  pub moved : (i k : ℕ) (o : Option A) (es : List (Entry A)) (parts : ℕ → Part S A) (c d : Part S A) → machine.owner k ≡ i
      → c.done ≡ Own k o ∷ es → d.done ≡ es → (j k' : ℕ) (a' : A) (xs : List (Item A))
      → sends machine (put i c parts (machine.owner k')).done k' a' j + times machine xs k' a' ≡ sends machine (put i d parts (machine.owner k')).done k' a' j + times machine (sent machine i k o j xs) k' a'
  moved i k o es parts c d own ce de j k' a' xs = go (cases_eq (machine.owner k') i)
    where
      go : (machine.owner k' ≡ i) ⊎ (machine.owner k' ≡ i → ⊥)
          → sends machine (put i c parts (machine.owner k')).done k' a' j + times machine xs k' a' ≡ sends machine (put i d parts (machine.owner k')).done k' a' j + times machine (sent machine i k o j xs) k' a'
      go (inl h) =
          let x = sends_at i c parts k' a' j (machine.owner k') h in
          let y = sends_at i d parts k' a' j (machine.owner k') h in
          let x' : sends machine c.done k' a' j ≡ sends machine (Own k o ∷ es) k' a' j = ap (λ (fs : List (Entry A)). sends machine fs k' a' j) ce in
          let y' : sends machine d.done k' a' j ≡ sends machine es k' a' j = ap (λ (fs : List (Entry A)). sends machine fs k' a' j) de in
          let z = sent_here machine law i k o j xs es k' a' own in
          omega arith
      go (inr h) =
          let x : sends machine (put i c parts (machine.owner k')).done k' a' j ≡ sends machine (parts (machine.owner k')).done k' a' j = ap (λ (l : Part S A). sends machine l.done k' a' j) (put_other i c parts (machine.owner k') h) in
          let y : sends machine (put i d parts (machine.owner k')).done k' a' j ≡ sends machine (parts (machine.owner k')).done k' a' j = ap (λ (l : Part S A). sends machine l.done k' a' j) (put_other i d parts (machine.owner k') h) in
          let z = sent_other machine law i k o j xs k' a' (λ (e : k ≡ k'). h (sym (ap machine.owner e) ∙ own)) in
          omega arith

  pub send_balance : (off : Outside A) → (g i k : ℕ) (o : Option A) (parts : ℕ → Part S A) → machine.owner k ≡ i → Balance machine off g parts
      → Balance machine off g (λ j. with_plus (put i (with_done (parts i) (Own k o ∷ (parts i).done) (parts i).pending) parts j) (sent machine i k o j (put i (with_done (parts i) (Own k o ∷ (parts i).done) (parts i).pending) parts j).plus))
  send_balance off g i k o parts own bal j k' a' low =
      let c : Part S A = with_done (parts i) (Own k o ∷ (parts i).done) (parts i).pending in
      let b = bal j k' a' low in
      let e = counted i c parts k' a' refl refl j in
      let m : (put i c parts j).minus ≡ (parts j).minus = put_each (λ l d. d.minus ≡ (parts l).minus) i c parts refl (λ l. refl) j in
      let u : (put i c parts j).plus ≡ (parts j).plus = put_each (λ l d. d.plus ≡ (parts l).plus) i c parts refl (λ l. refl) j in
      let m' : times machine (put i c parts j).minus k' a' ≡ times machine (parts j).minus k' a' = ap (λ (xs : List (Item A)). times machine xs k' a') m in
      let u' : times machine (sent machine i k o j (put i c parts j).plus) k' a' ≡ times machine (sent machine i k o j (parts j).plus) k' a' = ap (λ (xs : List (Item A)). times machine (sent machine i k o j xs) k' a') u in
      let d = moved i k o (parts i).done parts c (parts i) own refl refl j k' a' (parts j).plus in
      let f : sends machine (put i (parts i) parts (machine.owner k')).done k' a' j ≡ sends machine (parts (machine.owner k')).done k' a' j
      = put_each (λ l d. sends machine d.done k' a' j ≡ sends machine (parts l).done k' a' j) i (parts i) parts refl (λ l. refl) (machine.owner k') in
      omega arith

  pub unsend_balance : (off : Outside A) → (g i k : ℕ) (o : Option A) (es : List (Entry A)) (parts : ℕ → Part S A) → machine.owner k ≡ i → (parts i).done ≡ Own k o ∷ es → Balance machine off g parts
      → Balance machine off g (λ j. with_minus (put i (with_done (parts i) es (parts i).pending) parts j) (sent machine i k o j (put i (with_done (parts i) es (parts i).pending) parts j).minus))
  unsend_balance off g i k o es parts own was bal j k' a' low =
      let c : Part S A = with_done (parts i) es (parts i).pending in
      let b = bal j k' a' low in
      let e = counted i c parts k' a' refl (rw was) j in
      let m : (put i c parts j).minus ≡ (parts j).minus = put_each (λ l d. d.minus ≡ (parts l).minus) i c parts refl (λ l. refl) j in
      let u : (put i c parts j).plus ≡ (parts j).plus = put_each (λ l d. d.plus ≡ (parts l).plus) i c parts refl (λ l. refl) j in
      let u' : times machine (put i c parts j).plus k' a' ≡ times machine (parts j).plus k' a' = ap (λ (xs : List (Item A)). times machine xs k' a') u in
      let m' : times machine (sent machine i k o j (put i c parts j).minus) k' a' ≡ times machine (sent machine i k o j (parts j).minus) k' a' = ap (λ (xs : List (Item A)). times machine (sent machine i k o j xs) k' a') m in
      let d = moved i k o es parts (parts i) c own was refl j k' a' (parts j).minus in
      let f : sends machine (put i (parts i) parts (machine.owner k')).done k' a' j ≡ sends machine (parts (machine.owner k')).done k' a' j
      = put_each (λ l d. sends machine d.done k' a' j ≡ sends machine (parts l).done k' a' j) i (parts i) parts refl (λ l. refl) (machine.owner k') in
      omega arith

  -- an own turn and what it sends
  pub process_own_kept : {off : Outside A} → (w : World S A) (i : ℕ) → IsOpen machine off w → (o : Option A)
      → machine.key i (number (w.part i).first (w.part i).done) < machine.top
      → o ≡ machine.outcome i (number (w.part i).first (w.part i).done) (replay machine i (w.part i).base (w.part i).done)
      → AllFrom (machine.key i (number (w.part i).first (w.part i).done)) (w.part i).pending
      → IsOpen machine off (process_own machine i (machine.key i (number (w.part i).first (w.part i).done)) o w)
  process_own_kept {off} w i is o exists its pending =
      let c : Part S A = w.part i in
      let p = is.proper i in
      let k : ℕ = machine.key i (number c.first c.done) in
      let near : latest w.bound c.done ≤ k = reach machine law i w.bound c.first c.base c.done p.done in
      let low : w.bound ≤ latest w.bound c.done = base_low machine law i w.bound c.first c.base c.done p.done in
      let c' : Part S A = with_done c (Own k o ∷ c.done) c.pending in
      let q : ℕ → Part S A = put i c' w.part in
      let proper : (j : ℕ) → IsProper machine w.bound j (q j)
      = put_each (λ j d. IsProper machine w.bound j d) i c' w.part
      (record { done = (refl, exists, its, near, p.done); pending = pending; sorted = p.sorted; owed_sorted = p.owed_sorted; plus = p.plus; minus = p.minus; owed = p.owed }) is.proper in
      record {
        proper = λ j. let r = proper j in record { done = r.done; pending = r.pending; sorted = r.sorted; owed_sorted = r.owed_sorted; plus = AllFrom-sent machine w.bound i k o j (q j).plus (omega arith) r.plus; minus = r.minus; owed = r.owed };
        balance = send_balance off w.bound i k o w.part (law.owned i (number c.first c.done) exists) is.balance;
        reference = is.reference;
        next = put_each (λ j d. d.first ≡ (after machine w.committed).next j) i c' w.part (is.next i) is.next;
        grounded = put_each (λ j d. d.base ≡ (after machine w.committed).state j) i c' w.part (is.grounded i) is.grounded;
      }

  pub next_own_kept : {off : Outside A} → (i : ℕ) (w : World S A) → IsOpen machine off w → AllFrom (machine.key i (number (w.part i).first (w.part i).done)) (w.part i).pending → IsOpen machine off (next_own machine i w)
  next_own_kept {off} i w is pending = go (ltb (machine.key i (number (w.part i).first (w.part i).done)) machine.top) refl
    where
      go : (b : Bool) → ltb (machine.key i (number (w.part i).first (w.part i).done)) machine.top ≡ b → IsOpen machine off (next_own machine i w)
      go true h = rw h (process_own_kept w i is (machine.outcome i (number (w.part i).first (w.part i).done) (replay machine i (w.part i).base (w.part i).done)) (ltb-true (machine.key i (number (w.part i).first (w.part i).done)) machine.top h) refl pending)
      go false h = rw h is

  -- what an item does to what is owed: the sum of pending and done stays
  pub owed_same : (owed pending pending' : List (Item A)) (done done' : List (Entry A))
      → ((k : ℕ) (a : A) → times machine pending' k a + inputs machine done' k a ≡ times machine pending k a + inputs machine done k a)
      → ((k : ℕ) (a : A) → (times machine owed k a ≡ 0) ⊎ (times machine pending k a + inputs machine done k a ≡ 0))
      → (k : ℕ) (a : A) → (times machine owed k a ≡ 0) ⊎ (times machine pending' k a + inputs machine done' k a ≡ 0)
  owed_same owed pending pending' done done' e p k a = go (p k a)
    where
      go : (times machine owed k a ≡ 0) ⊎ (times machine pending k a + inputs machine done k a ≡ 0) → (times machine owed k a ≡ 0) ⊎ (times machine pending' k a + inputs machine done' k a ≡ 0)
      go (inl h) = inl h
      go (inr h) = inr (e k a ∙ h)

  pub sends_input : (x : Item A) (es : List (Entry A)) (k : ℕ) (a : A) (j : ℕ) → sends machine (Input x ∷ es) k a j ≡ sends machine es k a j
  unfolding sends
  sends_input x es k a j = refl

  pub process_input_kept : {off : Outside A} → (w : World S A) (i : ℕ) (x : Item A) (rest : List (Item A)) → IsOpen machine off w → (w.part i).pending ≡ x ∷ rest
      → x.key < machine.key i (number (w.part i).first (w.part i).done) → IsOpen machine off (process_input i x rest w)
  process_input_kept {off} w i x rest is e h =
      let c : Part S A = w.part i in
      let p = is.proper i in
      let ps : Each (MayFollow machine w.bound c.done) (x ∷ rest) = subst (λ (xs : List (Item A)). Each (MayFollow machine w.bound c.done) xs) e p.pending in
      let so : IsSorted machine (x ∷ rest) = subst (λ (xs : List (Item A)). IsSorted machine xs) e p.sorted in
      let t : (k : ℕ) (a : A) → times machine c.pending k a ≡ hit machine x k a + times machine rest k a = λ k a. ap (λ (xs : List (Item A)). times machine xs k a) e in
      local_world w i (with_done c (Input x ∷ c.done) rest) is
      (record {
        done = (h, follow_low machine w.bound c.done x ps.0, p.done, ps.0);
        pending = so.0;
        sorted = so.1;
        owed_sorted = p.owed_sorted;
        plus = p.plus;
        minus = p.minus;
        owed = owed_same c.owed c.pending rest c.done (Input x ∷ c.done) (λ k a. let t' = t k a in omega arith) p.owed;
      })
      refl refl (λ k a j. sends_input x c.done k a j) (λ k a. let t' = t k a in omega arith)

  pub process_from_kept : {off : Outside A} → (i : ℕ) (xs : List (Item A)) (w : World S A) → (w.part i).pending ≡ xs → IsOpen machine off w → IsOpen machine off (process_from machine i xs w)
  process_from_kept {off} i [] w e is = next_own_kept i w is (rw e tt)
  process_from_kept {off} i (x ∷ xs) w e is = go (ltb x.key (machine.key i (number (w.part i).first (w.part i).done))) refl
    where
      go : (b : Bool) → ltb x.key (machine.key i (number (w.part i).first (w.part i).done)) ≡ b → IsOpen machine off (process_from machine i (x ∷ xs) w)
      go true h = rw h (process_input_kept w i x xs is e (ltb-true x.key (machine.key i (number (w.part i).first (w.part i).done)) h))
      go false h =
          let l = ltb-false x.key (machine.key i (number (w.part i).first (w.part i).done)) h in
          let so : IsSorted machine (x ∷ xs) = subst (λ (ys : List (Item A)). IsSorted machine ys) e (is.proper i).sorted in
          rw h (next_own_kept i w is (subst (λ (ys : List (Item A)). AllFrom (machine.key i (number (w.part i).first (w.part i).done)) ys) (sym e) (omega arith, Each-weaken (λ y. comes_first machine x y ≡ true) (λ y. machine.key i (number (w.part i).first (w.part i).done) ≤ y.key) xs (λ y f. let f' = first_low machine x y f in omega arith) so.0)))

  pub process_kept : {off : Outside A} → (i : ℕ) (w : World S A) → IsOpen machine off w → IsOpen machine off (walk_on machine i w)
  process_kept {off} i w is = process_from_kept i (w.part i).pending w refl is

  pub undo_kept : {off : Outside A} → (i : ℕ) (es : List (Entry A)) (w : World S A) → (w.part i).done ≡ es → IsOpen machine off w → IsOpen machine off (undo machine i es w)
  undo_kept {off} i [] w e is = is
  undo_kept {off} i (Own k o ∷ es) w e is =
      let c : Part S A = w.part i in
      let p = is.proper i in
      let d : IsDone machine i w.bound c.first c.base (Own k o ∷ es) = subst (λ (fs : List (Entry A)). IsDone machine i w.bound c.first c.base fs) e p.done in
      let l : latest w.bound c.done ≡ k = ap (λ (fs : List (Entry A)). latest w.bound fs) e in
      let c' : Part S A = with_done c es c.pending in
      let q : ℕ → Part S A = put i c' w.part in
      let near = d.3 in
      let low = base_low machine law i w.bound c.first c.base es d.4 in
      let proper : (j : ℕ) → IsProper machine w.bound j (q j)
      = put_each (λ j d. IsProper machine w.bound j d) i c' w.part
      (record {
        done = d.4;
        pending = Each-weaken (MayFollow machine w.bound (Own k o ∷ es)) (MayFollow machine w.bound es) c.pending (λ y f. follow_own machine law i w.bound c.first c.base k o es d y f) (subst (λ (fs : List (Entry A)). Each (MayFollow machine w.bound fs) c.pending) e p.pending);
        sorted = p.sorted;
        owed_sorted = p.owed_sorted;
        plus = p.plus;
        minus = p.minus;
        owed = owed_same c.owed c.pending c.pending c.done es (λ k a. rw e refl) p.owed;
      }) is.proper in
      record {
        proper = λ j. let r = proper j in record { done = r.done; pending = r.pending; sorted = r.sorted; owed_sorted = r.owed_sorted; plus = r.plus; minus = AllFrom-sent machine w.bound i k o j (q j).minus (omega arith) r.minus; owed = r.owed };
        balance = unsend_balance off w.bound i k o es w.part (ap machine.owner d.0 ∙ law.owned i (number c.first es) (omega arith)) e is.balance;
        reference = is.reference;
        next = put_each (λ j d. d.first ≡ (after machine w.committed).next j) i c' w.part (is.next i) is.next;
        grounded = put_each (λ j d. d.base ≡ (after machine w.committed).state j) i c' w.part (is.grounded i) is.grounded;
      }
  undo_kept {off} i (Input x ∷ es) w e is =
      let c : Part S A = w.part i in
      let p = is.proper i in
      let d : IsDone machine i w.bound c.first c.base (Input x ∷ es) = subst (λ (fs : List (Entry A)). IsDone machine i w.bound c.first c.base fs) e p.done in
      let l : latest w.bound c.done ≡ x.key = ap (λ (fs : List (Entry A)). latest w.bound fs) e in
      let near = d.1 in
      let t : (k : ℕ) (a : A) → times machine (insert machine x c.pending) k a ≡ hit machine x k a + times machine c.pending k a = λ k a. times-insert machine law x c.pending k a in
      let f : (k : ℕ) (a : A) → inputs machine c.done k a ≡ hit machine x k a + inputs machine es k a = λ k a. ap (λ (fs : List (Entry A)). inputs machine fs k a) e in
      local_world w i (with_done c es (insert machine x c.pending)) is
      (record {
        done = d.2;
        pending = Each-insert machine (MayFollow machine w.bound es) x c.pending d.3 (Each-weaken (MayFollow machine w.bound (Input x ∷ es)) (MayFollow machine w.bound es) c.pending (λ y f. follow_input machine law w.bound x es d.3 y f) (subst (λ (fs : List (Entry A)). Each (MayFollow machine w.bound fs) c.pending) e p.pending));
        sorted = IsSorted-insert machine law x c.pending p.sorted;
        owed_sorted = p.owed_sorted;
        plus = p.plus;
        minus = p.minus;
        owed = owed_same c.owed c.pending (insert machine x c.pending) c.done es (λ k a. let t' = t k a in let f' = f k a in omega arith) p.owed;
      })
      refl refl (λ k a j. sym (ap (λ (fs : List (Entry A)). sends machine fs k a j) e ∙ sends_input x es k a j)) (λ k a. let t' = t k a in let f' = f k a in omega arith)

  pub roll_back_kept : {off : Outside A} → (i : ℕ) (w : World S A) → IsOpen machine off w → IsOpen machine off (walk_back machine i w)
  roll_back_kept {off} i w is = undo_kept i (w.part i).done w refl is
