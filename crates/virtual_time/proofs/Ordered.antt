-- What is in flight stays in order; and two bags in order with equal counts are one.
use Rattle.std.proofs.Common.{◌≡◌, ℕ, ◌⊎◌, inl, inr, Bool, true, false, cond, Option, None, Some, List, [], ◌∷◌, refl, ap, sym, subst, ◌∙◌, arith}
use Rattle.std.proofs.lemmas.Bool.{cases_eq, eq-eqb, ne_eqb}
use Rattle.virtual_time.specs.Machine.{Lawful, Machine}
use Rattle.virtual_time.specs.Entries.{Entry, Input, Item, Own}
use Rattle.virtual_time.specs.Bags.{IsSorted, comes_first, hit, insert, remove, times}
use Rattle.virtual_time.specs.Records.{Record, after_entry, back_at, back_by_antimessage, back_by_message, next_of, sent, sent_by, unsent}
use Rattle.virtual_time.specs.Worlds.{Commit, DeliverAntimessage, DeliverMessage, Meet, Part, Process, RollBack, Step, World, commit, deliver_antimessage, deliver_message, meet, process, process_entry, put, put_back, record_of, roll_back, same, start_world, taken_at, undo_entry, with_record}
use Rattle.virtual_time.specs.Replies.{Answers, IsReached, Reply, Runs}
use Rattle.virtual_time.specs.Inverses.{IsOrdered}
use Rattle.virtual_time.proofs.Counts.{hit_self}
use Rattle.virtual_time.proofs.Lists.{IsSorted-insert, IsSorted-remove, put_other, put_same}
use Rattle.virtual_time.proofs.Inverse.{first_self}
use Rattle.virtual_time.proofs.Delivered.{behind, first_one}

module _ {S A : Type 0} (machine : Machine S A) (law : Lawful machine) where
  sent_sorted : (i k : ℕ) (o : Option A) (j : ℕ) (xs : List (Item A)) → IsSorted machine xs → IsSorted machine (sent machine i k o j xs)
  sent_sorted i k None j xs p = p
  sent_sorted i k (Some a) j xs p = go (machine.receives i a j)
    where
      go : (b : Bool) → IsSorted machine (cond b (insert machine (record { key = k; action = a }) xs) xs)
      go true = IsSorted-insert machine law (record { key = k; action = a }) xs p
      go false = p

  pub by_sorted : (i : ℕ) (e : Entry A) (j : ℕ) (xs : List (Item A)) → IsSorted machine xs → IsSorted machine (sent_by machine i e j xs)
  by_sorted i (Own k o) j xs p = sent_sorted i k o j xs p
  by_sorted i (Input x) j xs p = p

  pub unsent_sorted : (i : ℕ) (es : List (Entry A)) (j : ℕ) (xs : List (Item A)) → IsSorted machine xs → IsSorted machine (unsent machine i es j xs)
  unsent_sorted i [] j xs p = p
  unsent_sorted i (e ∷ es) j xs p = unsent_sorted i es j (sent_by machine i e j xs) (by_sorted i e j xs p)

  taken_sorted : (i : ℕ) (x : Item A) (j : ℕ) (xs : List (Item A)) → IsSorted machine xs → IsSorted machine (taken_at machine i x j xs)
  taken_sorted i x j xs p = go (cases_eq j i)
    where
      go : (j ≡ i) ⊎ (j ≡ i → ⊥) → IsSorted machine (taken_at machine i x j xs)
      go (inl e) = subst (λ (b : Bool). IsSorted machine (cond b (remove machine x xs) xs)) (sym (eq-eqb j i e)) (IsSorted-remove machine x xs p)
      go (inr ne) = subst (λ (b : Bool). IsSorted machine (cond b (remove machine x xs) xs)) (sym (ne_eqb j i ne)) p

  pub put_ordered : (i : ℕ) (r : Record S A) (plus minus : ℕ → List (Item A) → List (Item A)) (w : World S A)
      → ((j : ℕ) (xs : List (Item A)) → IsSorted machine xs → IsSorted machine (plus j xs)) → ((j : ℕ) (xs : List (Item A)) → IsSorted machine xs → IsSorted machine (minus j xs))
      → IsOrdered machine w → IsOrdered machine (put_back i r plus minus w)
  put_ordered i r plus minus w p m ordered j = go (cases_eq j i)
    where
      go : (j ≡ i) ⊎ (j ≡ i → ⊥) → IsSorted machine ((put_back i r plus minus w).part j).plus × IsSorted machine ((put_back i r plus minus w).part j).minus
      go (inl e) =
          let q : put i (with_record (w.part i) r) w.part j ≡ with_record (w.part i) r = ap (λ (n : ℕ). put i (with_record (w.part i) r) w.part n) e ∙ put_same i (with_record (w.part i) r) w.part in
          subst (λ (c : Part S A). IsSorted machine (plus j c.plus) × IsSorted machine (minus j c.minus)) (sym q) (p j (w.part i).plus (ordered i).0, m j (w.part i).minus (ordered i).1)
      go (inr ne) =
          let q : put i (with_record (w.part i) r) w.part j ≡ w.part j = put_other i (with_record (w.part i) r) w.part j ne in
          subst (λ (c : Part S A). IsSorted machine (plus j c.plus) × IsSorted machine (minus j c.minus)) (sym q) (p j (w.part j).plus (ordered j).0, m j (w.part j).minus (ordered j).1)

  kept_by : (w v : World S A) → v ≡ w → IsOrdered machine w → IsOrdered machine v
  kept_by w v e s = subst (λ (u : World S A). IsOrdered machine u) (sym e) s

  process_ordered : (i : ℕ) (e : Option (Entry A)) (w : World S A) → IsOrdered machine w → IsOrdered machine (process_entry machine i e w)
  process_ordered i None w s = s
  process_ordered i (Some e) w s = put_ordered i (after_entry e (record_of (w.part i))) (sent_by machine i e) same w (λ j xs p. by_sorted i e j xs p) (λ j xs p. p) s

  undo_ordered : (i : ℕ) (es : List (Entry A)) (w : World S A) → IsOrdered machine w → IsOrdered machine (undo_entry machine i es w)
  undo_ordered i [] w s = s
  undo_ordered i (e ∷ es) w s = put_ordered i (back_at machine (e ∷ []) es (record_of (w.part i))) same (sent_by machine i e) w (λ j xs p. p) (λ j xs p. by_sorted i e j xs p) s

  pub meet_ordered : (j : ℕ) (x : Item A) (w : World S A) → IsOrdered machine w → IsOrdered machine (meet machine j x w)
  meet_ordered j x w s = put_ordered j (record_of (w.part j)) (taken_at machine j x) (taken_at machine j x) w (λ i xs p. taken_sorted j x i xs p) (λ i xs p. taken_sorted j x i xs p) s

  pub answer_ordered : (count : ℕ) (w : World S A) (step : Step A) (reply : Reply) (v : World S A) → IsOrdered machine w → Answers machine count w step reply v → IsOrdered machine v
  answer_ordered count w (Process i) reply v s (inl h) = kept_by w v h.1.stays s
  answer_ordered count w (Process i) reply v s (inr (inl h)) = kept_by w v h.2.stays s
  answer_ordered count w (Process i) reply v s (inr (inr (e, l, n, inl h))) = kept_by w v h.stays s
  answer_ordered count w (Process i) reply v s (inr (inr (e, l, n, inr h))) = kept_by (process machine i w) v h.1 (process_ordered i (next_of machine i (record_of (w.part i))) w s)
  answer_ordered count w (RollBack i) reply v s (inl h) = kept_by w v h.1.stays s
  answer_ordered count w (RollBack i) reply v s (inr (inl h)) = kept_by w v h.2.stays s
  answer_ordered count w (RollBack i) reply v s (inr (inr h)) = kept_by (roll_back machine i w) v h.5 (undo_ordered i (w.part i).done w s)
  answer_ordered count w (DeliverMessage j x) reply v s (inl h) = kept_by w v h.1.stays s
  answer_ordered count w (DeliverMessage j x) reply v s (inr h) =
      kept_by (deliver_message machine j x w) v h.2
      (put_ordered j _ (taken_at machine j x) (unsent machine j (back_by_message machine x (record_of (w.part j)))) w (λ i xs p. taken_sorted j x i xs p) (λ i xs p. unsent_sorted j (back_by_message machine x (record_of (w.part j))) i xs p) s)
  answer_ordered count w (DeliverAntimessage j x) reply v s (inl h) = kept_by w v h.1.stays s
  answer_ordered count w (DeliverAntimessage j x) reply v s (inr h) =
      kept_by (deliver_antimessage machine j x w) v h.2
      (put_ordered j _ same (λ i xs. taken_at machine j x i (unsent machine j (back_by_antimessage machine x (record_of (w.part j))) i xs)) w (λ i xs p. p)
      (λ i xs p. taken_sorted j x i (unsent machine j (back_by_antimessage machine x (record_of (w.part j))) i xs) (unsent_sorted j (back_by_antimessage machine x (record_of (w.part j))) i xs p)) s)
  answer_ordered count w (Meet j x) reply v s (inl h) = kept_by w v h.1.stays s
  answer_ordered count w (Meet j x) reply v s (inr h) = kept_by (meet machine j x w) v h.2 (meet_ordered j x w s)
  answer_ordered count w (Commit b) reply v s (inl h) = kept_by w v h.1.stays s
  answer_ordered count w (Commit b) reply v s (inr (inl h)) = kept_by w v h.3.stays s
  answer_ordered count w (Commit b) reply v s (inr (inr h)) = kept_by (commit machine b w) v h.7 (λ j. s j)

  runs_ordered : (count : ℕ) (w : World S A) (steps : List (Step A)) (replies : List Reply) (v : World S A) → IsOrdered machine w → Runs machine count w steps replies v → IsOrdered machine v
  runs_ordered count w [] [] v s h = kept_by w v h s
  runs_ordered count w [] (r ∷ rs) v s h = absurd h
  runs_ordered count w (t ∷ ts) [] v s h = absurd h
  runs_ordered count w (t ∷ ts) (r ∷ rs) v s h = runs_ordered count h.0 ts rs v (answer_ordered count w t r h.0 s h.1) h.2

  pub reached_ordered : (count : ℕ) (w : World S A) → IsReached machine count w → IsOrdered machine w
  reached_ordered count w h = runs_ordered count (start_world machine) h.steps h.replies w (λ j. (tt, tt)) h.run

  -- Counts tell a bag in order.
  pub sorted_one : (xs ys : List (Item A)) → IsSorted machine xs → IsSorted machine ys → ((k : ℕ) (a : A) → times machine xs k a ≡ times machine ys k a) → xs ≡ ys
  sorted_one [] [] p q e = refl
  sorted_one [] (y ∷ ys) p q e = let h = hit_self machine law y in let c = e y.key y.action in absurd (omega arith)
  sorted_one (x ∷ xs) [] p q e = let h = hit_self machine law x in let c = e x.key x.action in absurd (omega arith)
  sorted_one (x ∷ xs) (y ∷ ys) p q e =
      let hx = hit_self machine law x in
      let hy = hit_self machine law y in
      let cx = e x.key x.action in
      let cy = e y.key y.action in
      let a : comes_first machine y x ≡ true = behind machine law x (λ z. comes_first machine y z ≡ true) (y ∷ ys) (omega arith) (first_self machine law y, q.0) in
      let b : comes_first machine x y ≡ true = behind machine law y (λ z. comes_first machine x z ≡ true) (x ∷ xs) (omega arith) (first_self machine law x, p.0) in
      let s : x ≡ y = first_one machine law x y b a in
      let r : xs ≡ ys = sorted_one xs ys p.1 q.1 (λ k c. let f : hit machine x k c ≡ hit machine y k c = ap (λ (z : Item A). hit machine z k c) s in let g = e k c in omega arith) in
      λ v. s v ∷ r v
