-- Each way out of the flight can be gone: what the deliveries took back can be done again, and all that it had sent meets.
use Rattle.std.proofs.Common.{◌≡◌, ℕ, zero, suc, ◌+◌, ◌<◌, ◌≤◌, ◌==◌, ◌⊎◌, inl, inr, Bool, true, false, cond, Option, None, Some, List, [], ◌∷◌, ◌++◌, length, refl, ap, sym, subst, ◌∙◌, arith}
use Rattle.std.proofs.lemmas.Bool.{and_parts, cases_eq, eq-eqb, eqb-true, ne_eqb}
use Rattle.virtual_time.specs.Machine.{Lawful, Machine}
use Rattle.virtual_time.specs.Entries.{Entry, Input, Item, Own, entry_key}
use Rattle.virtual_time.specs.Bags.{has, hit, remove, same_item, times}
use Rattle.virtual_time.specs.Records.{Record, after_entry, antimessage_comes, back_by_antimessage, back_by_message, message_comes, next_of, sent_all, sent_by, unsent}
use Rattle.virtual_time.specs.Worlds.{DeliverAntimessage, DeliverMessage, World, can_meet, deliver_antimessage, deliver_message, meet, process, process_entry, put_back, record_of, same, taken_at}
use Rattle.virtual_time.specs.Replies.{Answers, Delivered, IsReached, Met, Processed, Reply, Runs}
use Rattle.virtual_time.specs.Inverses.{ArePairs, Pair, meet_pairs, meets_of, processes, times_to, try_meet}
use Rattle.world.specs.Theory.{Theory}
use Rattle.world.specs.ThereAndBack.{AllDone, Leaves, processings}
use Rattle.world.proofs.ThereAndBack.{antimessage_pair, antimessage_plus, antimessage_taken, done_length, inside, message_minus, message_pair, message_taken, put_done, runs_on, sent_self, unsent_self}

pub all_done_on : (ps qs : List Reply) → AllDone ps → AllDone qs → AllDone (ps ++ qs)
all_done_on [] qs c d = d
all_done_on (p ∷ ps) qs c d = (c.0, all_done_on ps qs c.1 d)

module _ {S A : Type 0} (machine : Machine S A) (law : Lawful machine) where
  -- What a step does to what is in flight, and to the done entries.
  minus_at : (i : ℕ) (r : Record S A) (plus minus : ℕ → List (Item A) → List (Item A)) (w : World S A) (l : ℕ) → ((put_back i r plus minus w).part l).minus ≡ minus l (w.part l).minus
  minus_at i r plus minus w l = go (cases_eq l i)
    where
      go : (l ≡ i) ⊎ (l ≡ i → ⊥) → ((put_back i r plus minus w).part l).minus ≡ minus l (w.part l).minus
      go (inl e) = subst (λ (n : ℕ). ((put_back i r plus minus w).part n).minus ≡ minus n (w.part n).minus) (sym e) here
        where
          here : ((put_back i r plus minus w).part i).minus ≡ minus i (w.part i).minus
          here = rw (eq-eqb i i refl)
      go (inr ne) = rw (ne_eqb l i ne)

  done_at : (i : ℕ) (plus minus : ℕ → List (Item A) → List (Item A)) (w : World S A) (l : ℕ) → ((put_back i (record_of (w.part i)) plus minus w).part l).done ≡ (w.part l).done
  done_at i plus minus w l = go (cases_eq l i)
    where
      here : ((put_back i (record_of (w.part i)) plus minus w).part i).done ≡ (w.part i).done
      here = rw (eq-eqb i i refl)

      go : (l ≡ i) ⊎ (l ≡ i → ⊥) → ((put_back i (record_of (w.part i)) plus minus w).part l).done ≡ (w.part l).done
      go (inl e) = subst (λ (n : ℕ). ((put_back i (record_of (w.part i)) plus minus w).part n).done ≡ (w.part n).done) (sym e) here
      go (inr ne) = rw (ne_eqb l i ne)

  entry_minus : (i : ℕ) (o : Option (Entry A)) (w : World S A) (l : ℕ) → ((process_entry machine i o w).part l).minus ≡ (w.part l).minus
  entry_minus i None w l = refl
  entry_minus i (Some e) w l = minus_at i (after_entry e (record_of (w.part i))) (sent_by machine i e) same w l

  processes_minus : (i n : ℕ) (w : World S A) (l : ℕ) → ((processes machine i n w).part l).minus ≡ (w.part l).minus
  processes_minus i zero w l = refl
  processes_minus i (suc n) w l = entry_minus i (next_of machine i (record_of ((processes machine i n w).part i))) (processes machine i n w) l ∙ processes_minus i n w l

  after_done : (e : Entry A) (r : Record S A) → (after_entry e r).done ≡ e ∷ r.done
  after_done (Own k o) r = refl
  after_done (Input x) r = refl

  entry_done : (i : ℕ) (e : Entry A) (w : World S A) → length ((process_entry machine i (Some e) w).part i).done ≡ suc (length (w.part i).done)
  entry_done i e w = ap (λ (fs : List (Entry A)). length fs) (put_done machine law i (after_entry e (record_of (w.part i))) (sent_by machine i e) same w ∙ after_done e (record_of (w.part i)))

  entry_low : (i : ℕ) (o : Option (Entry A)) (w : World S A) → length ((process_entry machine i o w).part i).done ≤ suc (length (w.part i).done)
  entry_low i None w = omega arith
  entry_low i (Some e) w = let h = entry_done i e w in omega arith

  processes_low : (i n : ℕ) (w : World S A) → length ((processes machine i n w).part i).done ≤ n + length (w.part i).done
  processes_low i zero w = omega arith
  processes_low i (suc n) w =
      let a = entry_low i (next_of machine i (record_of ((processes machine i n w).part i))) (processes machine i n w) in
      let b = processes_low i n w in
      omega arith

  -- Where n more entries are done after processing n times, each time something was processed.
  processings_run : (count i n : ℕ) (w : World S A) → i < count → length ((processes machine i n w).part i).done ≡ n + length (w.part i).done
      → (rs : List Reply) × AllDone rs × Runs machine count w (processings i n) rs (processes machine i n w)
  processings_run count i zero w l h = ([], tt, refl)
  processings_run count i (suc n) w l h = go (next_of machine i (record_of (w.part i))) refl (processings_run count i n (process machine i w) l)
    where
      u : World S A
      u = process machine i w

      same_end : processes machine i n u ≡ processes machine i (suc n) w
      same_end = inside machine count i n w

      go : (o : Option (Entry A)) → next_of machine i (record_of (w.part i)) ≡ o
          → (length ((processes machine i n u).part i).done ≡ n + length (u.part i).done → (rs : List Reply) × AllDone rs × Runs machine count u (processings i n) rs (processes machine i n u))
          → (rs : List Reply) × AllDone rs × Runs machine count w (processings i (suc n)) rs (processes machine i (suc n) w)
      go None at ih =
          let a = processes_low i n u in
          let b : length (u.part i).done ≡ length (w.part i).done = ap (λ (o : Option (Entry A)). length ((process_entry machine i o w).part i).done) at in
          let c = done_length machine law i (processes machine i n u) (processes machine i (suc n) w) same_end in
          absurd (omega arith)
      go (Some e) at ih =
          let b : length (u.part i).done ≡ suc (length (w.part i).done) = ap (λ (o : Option (Entry A)). length ((process_entry machine i o w).part i).done) at ∙ entry_done i e w in
          let c = done_length machine law i (processes machine i n u) (processes machine i (suc n) w) same_end in
          let q = ih (omega arith) in (
            Processed (entry_key e) ∷ q.0,
            (tt, q.1),
            (u, inr (inr (e, l, at, inr (refl, refl))), subst (λ (y : World S A). Runs machine count u (processings i n) q.0 y) same_end q.2),
          )

  -- Meetings.
  hit_self : (x : Item A) → hit machine x x.key x.action ≡ 1
  unfolding hit
  hit_self x = rw (eq-eqb x.key x.key refl, law.same_refl x.action)

  item_is : (y x : Item A) → same_item machine y x ≡ true → y ≡ x
  item_is y x h =
      let p = and_parts (y.key == x.key) (machine.same y.action x.action) h in
      λ v. record { key = eqb-true y.key x.key p.0 v; action = law.same_is y.action x.action p.1 v }

  remove_low : (x : Item A) (ys : List (Item A)) (k : ℕ) (a : A) → times machine ys k a ≤ hit machine x k a + times machine (remove machine x ys) k a
  remove_low x [] k a = omega arith
  remove_low x (y ∷ ys) k a = go (same_item machine y x) refl (remove_low x ys k a)
    where
      go : (b : Bool) → same_item machine y x ≡ b → times machine ys k a ≤ hit machine x k a + times machine (remove machine x ys) k a
          → times machine (y ∷ ys) k a ≤ hit machine x k a + times machine (cond b ys (y ∷ remove machine x ys)) k a
      go true h ih = let e : hit machine y k a ≡ hit machine x k a = ap (λ (z : Item A). hit machine z k a) (item_is y x h) in omega arith
      go false h ih = omega arith

  met_low : (j : ℕ) (x : Item A) (w : World S A) (l k : ℕ) (a : A) → times machine (w.part l).minus k a ≤ cond (j == l) (hit machine x k a) 0 + times machine ((meet machine j x w).part l).minus k a
  met_low j x w l k a =
      subst (λ (xs : List (Item A)). times machine (w.part l).minus k a ≤ cond (j == l) (hit machine x k a) 0 + times machine xs k a)
      (sym (minus_at j (record_of (w.part j)) (taken_at machine j x) (taken_at machine j x) w l)) (go (cases_eq l j))
    where
      go : (l ≡ j) ⊎ (l ≡ j → ⊥) → times machine (w.part l).minus k a ≤ cond (j == l) (hit machine x k a) 0 + times machine (taken_at machine j x l (w.part l).minus) k a
      go (inl e) = rw (eq-eqb l j e, eq-eqb j l (sym e)) (remove_low x (w.part l).minus k a)
      go (inr ne) = rw (ne_eqb l j ne, ne_eqb j l (λ (q : j ≡ l). ne (sym q))) (omega arith)

  try_low : (j : ℕ) (x : Item A) (w : World S A) (l k : ℕ) (a : A) → times machine (w.part l).minus k a ≤ cond (j == l) (hit machine x k a) 0 + times machine ((try_meet machine j x w).part l).minus k a
  try_low j x w l k a = go (can_meet machine j x w)
    where
      go : (b : Bool) → times machine (w.part l).minus k a ≤ cond (j == l) (hit machine x k a) 0 + times machine ((cond b (meet machine j x w) w).part l).minus k a
      go true = met_low j x w l k a
      go false = omega arith

  pairs_low : (pairs : List (Pair A)) (w : World S A) (l k : ℕ) (a : A) → times machine (w.part l).minus k a ≤ times_to machine pairs l k a + times machine ((meet_pairs machine pairs w).part l).minus k a
  pairs_low [] w l k a = omega arith
  pairs_low (x ∷ xs) w l k a =
      let h = try_low x.to x.item w l k a in
      let t = pairs_low xs (try_meet machine x.to x.item w) l k a in
      omega arith

  try_done : (j : ℕ) (x : Item A) (w : World S A) (l : ℕ) → ((try_meet machine j x w).part l).done ≡ (w.part l).done
  try_done j x w l = go (can_meet machine j x w)
    where
      go : (b : Bool) → ((cond b (meet machine j x w) w).part l).done ≡ (w.part l).done
      go true = done_at j (taken_at machine j x) (taken_at machine j x) w l
      go false = refl

  pairs_done : (pairs : List (Pair A)) (w : World S A) (l : ℕ) → ((meet_pairs machine pairs w).part l).done ≡ (w.part l).done
  pairs_done [] w l = refl
  pairs_done (x ∷ xs) w l = pairs_done xs (try_meet machine x.to x.item w) l ∙ try_done x.to x.item w l

  -- Where as many antimessages left the flight as there are pairs, each pair has met.
  meets_run : (count : ℕ) (pairs : List (Pair A)) (w : World S A) → ((l k : ℕ) (a : A) → times machine (w.part l).minus k a ≡ times_to machine pairs l k a + times machine ((meet_pairs machine pairs w).part l).minus k a)
      → (rs : List Reply) × AllDone rs × Runs machine count w (meets_of pairs) rs (meet_pairs machine pairs w)
  meets_run count [] w h = ([], tt, refl)
  meets_run count (x ∷ xs) w h = go (can_meet machine x.to x.item w) refl (meets_run count xs (try_meet machine x.to x.item w))
    where
      u : World S A
      u = try_meet machine x.to x.item w

      go : (b : Bool) → can_meet machine x.to x.item w ≡ b
          → (((l k : ℕ) (a : A) → times machine (u.part l).minus k a ≡ times_to machine xs l k a + times machine ((meet_pairs machine xs u).part l).minus k a)
          → (rs : List Reply) × AllDone rs × Runs machine count u (meets_of xs) rs (meet_pairs machine xs u))
          → (rs : List Reply) × AllDone rs × Runs machine count w (meets_of (x ∷ xs)) rs (meet_pairs machine xs u)
      go false can ih =
          let first : cond (x.to == x.to) (hit machine x.item x.item.key x.item.action) 0 ≡ 1 = rw (eq-eqb x.to x.to refl) (hit_self x.item) in
          let e : u ≡ w = rw can in
          let f : times machine (u.part x.to).minus x.item.key x.item.action ≡ times machine (w.part x.to).minus x.item.key x.item.action = ap (λ (y : World S A). times machine (y.part x.to).minus x.item.key x.item.action) e in
          let c = h x.to x.item.key x.item.action in
          let t = pairs_low xs u x.to x.item.key x.item.action in
          absurd (omega arith)
      go true can ih =
          let e : u ≡ meet machine x.to x.item w = rw can in
          let q = ih (λ l k a. let c = h l k a in let s = try_low x.to x.item w l k a in let t = pairs_low xs u l k a in omega arith) in
          (Met ∷ q.0, (tt, q.1), (u, inr (can, refl, e), q.2))

module _ {S A : Type 0} (theory : Theory S A) (machine : Machine S A) (law : Lawful machine) (count : ℕ) where
  sent_all_self : (j : ℕ) (es : List (Entry A)) (xs : List (Item A)) → sent_all machine j es j xs ≡ xs
  sent_all_self j [] xs = refl
  sent_all_self j (e ∷ es) xs = sent_self machine law j e (sent_all machine j es j xs) ∙ sent_all_self j es xs

  -- the antimessages of what was taken back, beside those that stay
  unsent_times : (j : ℕ) (x : Item A) (es : List (Entry A)) (pairs : List (Pair A)) (l : ℕ) (xs : List (Item A)) (k : ℕ) (a : A) → ArePairs machine j es pairs
      → times machine (taken_at machine j x l (unsent machine j es l xs)) k a ≡ times_to machine pairs l k a + times machine (taken_at machine j x l xs) k a
  unsent_times j x es pairs l xs k a are = go (cases_eq l j)
    where
      here : times machine (taken_at machine j x j (unsent machine j es j xs)) k a ≡ times_to machine pairs j k a + times machine (taken_at machine j x j xs) k a
      here =
          let p : times_to machine pairs j k a ≡ 0 = are j k a ∙ ap (λ (ys : List (Item A)). times machine ys k a) (sent_all_self j es []) in
          let q : times machine (taken_at machine j x j (unsent machine j es j xs)) k a ≡ times machine (taken_at machine j x j xs) k a = ap (λ (ys : List (Item A)). times machine (taken_at machine j x j ys) k a) (unsent_self machine law j es xs) in
          omega arith

      go : (l ≡ j) ⊎ (l ≡ j → ⊥) → times machine (taken_at machine j x l (unsent machine j es l xs)) k a ≡ times_to machine pairs l k a + times machine (taken_at machine j x l xs) k a
      go (inl e) = subst (λ (n : ℕ). times machine (taken_at machine j x n (unsent machine j es n xs)) k a ≡ times_to machine pairs n k a + times machine (taken_at machine j x n xs) k a) (sym e) here
      go (inr ne) =
          let s : times machine (sent_all machine j es l []) k a + times machine xs k a ≡ times machine (unsent machine j es l xs) k a + times machine [] k a = theory.signs machine j es l k a [] xs law in
          let p = are l k a in
          rw (ne_eqb l j ne) (omega arith)

  -- From the world that both deliveries leave: what was taken back is done again, and all that it had sent meets.
  again_run : (j : ℕ) (x : Item A) (es : List (Entry A)) (pairs : List (Pair A)) (w u : World S A) → j < count → ArePairs machine j es pairs
      → length (w.part j).done ≡ length es + length (u.part j).done
      → ((l : ℕ) → (u.part l).minus ≡ taken_at machine j x l (unsent machine j es l (w.part l).minus))
      → meet_pairs machine pairs (processes machine j (length es) u) ≡ meet machine j x w
      → (rs : List Reply) × AllDone rs × Runs machine count u (processings j (length es) ++ meets_of pairs) rs (meet machine j x w)
  again_run j x es pairs w u low are counted minus met =
      let p = processings_run machine law count j (length es) u low long in
      let q = meets_run machine law count pairs done gone in (
        p.0 ++ q.0,
        all_done_on p.0 q.0 p.1 q.1,
        subst (λ (y : World S A). Runs machine count u (processings j (length es) ++ meets_of pairs) (p.0 ++ q.0) y) met
            (runs_on machine count (processings j (length es)) (meets_of pairs) p.0 q.0 u done (meet_pairs machine pairs done) p.2 q.2),
      )
    where
      done : World S A
      done = processes machine j (length es) u

      long : length (done.part j).done ≡ length es + length (u.part j).done
      long =
          let a : length ((meet_pairs machine pairs done).part j).done ≡ length (done.part j).done = ap (λ (fs : List (Entry A)). length fs) (pairs_done machine law pairs done j) in
          let b = done_length machine law j (meet_pairs machine pairs done) (meet machine j x w) met in
          let c : length ((meet machine j x w).part j).done ≡ length (w.part j).done = ap (λ (fs : List (Entry A)). length fs) (done_at machine law j (taken_at machine j x) (taken_at machine j x) w j) in
          let d = counted in
          omega arith

      gone : (l k : ℕ) (a : A) → times machine (done.part l).minus k a ≡ times_to machine pairs l k a + times machine ((meet_pairs machine pairs done).part l).minus k a
      gone l k a =
          let a1 : times machine (done.part l).minus k a ≡ times machine (taken_at machine j x l (unsent machine j es l (w.part l).minus)) k a = ap (λ (xs : List (Item A)). times machine xs k a) (processes_minus machine law j (length es) u l ∙ minus l) in
          let b1 : times machine ((meet_pairs machine pairs done).part l).minus k a ≡ times machine (taken_at machine j x l (w.part l).minus) k a
          = ap (λ (y : World S A). times machine (y.part l).minus k a) met ∙ ap (λ (xs : List (Item A)). times machine xs k a) (minus_at machine law j (record_of (w.part j)) (taken_at machine j x) (taken_at machine j x) w l) in
          let c = unsent_times j x es pairs l (w.part l).minus k a are in
          omega arith

  empty_is : (es : List (Entry A)) → length es ≡ 0 → es ≡ []
  empty_is [] e = refl
  empty_is (f ∷ es) e = absurd (omega arith)

  pub message_way : (j : ℕ) (x : Item A) (pairs : List (Pair A)) (w : World S A) → IsReached machine count w → j < count → can_meet machine j x w ≡ true
      → ArePairs machine j (back_by_message machine x (record_of (w.part j))) pairs
      → (again : List Reply) × AllDone again
      × Leaves machine count j x w (DeliverMessage j x ∷ DeliverAntimessage j x ∷ (processings j (length (back_by_message machine x (record_of (w.part j)))) ++ meets_of pairs))
      (Delivered (length (back_by_message machine x (record_of (w.part j)))) ∷ Delivered 0 ∷ again) (meet machine j x w)
  message_way j x pairs w reached low can are = (q.0, q.1, record { way = inr (inl (record { k = length es; l = 0; pairs = pairs; again = q.0; steps_are = ap (λ (n : ℕ). DeliverMessage j x ∷ DeliverAntimessage j x ∷ (processings j n ++ meets_of pairs)) number; replies_are = refl; pairs_are = are })); run = (u, first, (v, second, q.2)) })
    where
      es : List (Entry A)
      es = back_by_message machine x (record_of (w.part j))

      u : World S A
      u = deliver_message machine j x w

      v : World S A
      v = deliver_antimessage machine j x u

      parts : (has machine x (w.part j).plus ≡ true) × (has machine x (w.part j).minus ≡ true)
      parts = and_parts (has machine x (w.part j).plus) (has machine x (w.part j).minus) can

      has_minus : has machine x (u.part j).minus ≡ true
      has_minus = ap (has machine x) (message_minus machine law j x w) ∙ parts.1

      fs : List (Entry A)
      fs = back_by_antimessage machine x (record_of (u.part j))

      none : fs ≡ []
      none = empty_is fs (message_pair theory machine law count j x w v (length es) (length fs) reached (u, inr (parts.0, refl, refl), (v, inr (has_minus, refl, refl), refl))).2

      number : length es ≡ length es + 0
      number = omega arith

      counted : length (w.part j).done ≡ length es + length (v.part j).done
      counted =
          let a = message_taken machine law j x w in
          let b = antimessage_taken machine law j x u in
          let c : length fs ≡ 0 = ap (λ (gs : List (Entry A)). length gs) none in
          omega arith

      minus : (l : ℕ) → (v.part l).minus ≡ taken_at machine j x l (unsent machine j es l (w.part l).minus)
      minus l =
          minus_at machine law j (antimessage_comes machine x (record_of (u.part j))) same (λ m xs. taken_at machine j x m (unsent machine j fs m xs)) u l
          ∙ ap (λ (gs : List (Entry A)). taken_at machine j x l (unsent machine j gs l (u.part l).minus)) none
          ∙ ap (taken_at machine j x l) (minus_at machine law j (message_comes machine x (record_of (w.part j))) (taken_at machine j x) (unsent machine j es) w l)

      q : (rs : List Reply) × AllDone rs × Runs machine count v (processings j (length es) ++ meets_of pairs) rs (meet machine j x w)
      q = again_run j x es pairs w v low are counted minus (theory.message_first machine j x pairs w law (theory.sound machine count w law reached) (theory.ordered machine count w law reached) can are)

      first : Answers machine count w (DeliverMessage j x) (Delivered (length es)) u
      first = inr (parts.0, refl, refl)

      second : Answers machine count u (DeliverAntimessage j x) (Delivered 0) v
      second = inr (has_minus, ap (λ (gs : List (Entry A)). Delivered (length gs)) (sym none), refl)

  pub antimessage_way : (j : ℕ) (x : Item A) (pairs : List (Pair A)) (w : World S A) → IsReached machine count w → j < count → can_meet machine j x w ≡ true
      → ArePairs machine j (back_by_antimessage machine x (record_of (w.part j))) pairs
      → (again : List Reply) × AllDone again
      × Leaves machine count j x w (DeliverAntimessage j x ∷ DeliverMessage j x ∷ (processings j (length (back_by_antimessage machine x (record_of (w.part j)))) ++ meets_of pairs))
      (Delivered (length (back_by_antimessage machine x (record_of (w.part j)))) ∷ Delivered 0 ∷ again) (meet machine j x w)
  antimessage_way j x pairs w reached low can are = (q.0, q.1, record { way = inr (inr (record { k = length es; l = 0; pairs = pairs; again = q.0; steps_are = ap (λ (n : ℕ). DeliverAntimessage j x ∷ DeliverMessage j x ∷ (processings j n ++ meets_of pairs)) number; replies_are = refl; pairs_are = are })); run = (u, first, (v, second, q.2)) })
    where
      es : List (Entry A)
      es = back_by_antimessage machine x (record_of (w.part j))

      u : World S A
      u = deliver_antimessage machine j x w

      v : World S A
      v = deliver_message machine j x u

      parts : (has machine x (w.part j).plus ≡ true) × (has machine x (w.part j).minus ≡ true)
      parts = and_parts (has machine x (w.part j).plus) (has machine x (w.part j).minus) can

      has_plus : has machine x (u.part j).plus ≡ true
      has_plus = ap (has machine x) (antimessage_plus machine law j x w) ∙ parts.0

      fs : List (Entry A)
      fs = back_by_message machine x (record_of (u.part j))

      none : fs ≡ []
      none = empty_is fs (antimessage_pair theory machine law count j x w v (length es) (length fs) reached (u, inr (parts.1, refl, refl), (v, inr (has_plus, refl, refl), refl))).2

      number : length es ≡ length es + 0
      number = omega arith

      counted : length (w.part j).done ≡ length es + length (v.part j).done
      counted =
          let a = antimessage_taken machine law j x w in
          let b = message_taken machine law j x u in
          let c : length fs ≡ 0 = ap (λ (gs : List (Entry A)). length gs) none in
          omega arith

      minus : (l : ℕ) → (v.part l).minus ≡ taken_at machine j x l (unsent machine j es l (w.part l).minus)
      minus l =
          minus_at machine law j (message_comes machine x (record_of (u.part j))) (taken_at machine j x) (unsent machine j fs) u l
          ∙ ap (λ (gs : List (Entry A)). unsent machine j gs l (u.part l).minus) none
          ∙ minus_at machine law j (antimessage_comes machine x (record_of (w.part j))) same (λ m xs. taken_at machine j x m (unsent machine j es m xs)) w l

      q : (rs : List Reply) × AllDone rs × Runs machine count v (processings j (length es) ++ meets_of pairs) rs (meet machine j x w)
      q = again_run j x es pairs w v low are counted minus (theory.antimessage_first machine j x pairs w law (theory.sound machine count w law reached) (theory.ordered machine count w law reached) can are)

      first : Answers machine count w (DeliverAntimessage j x) (Delivered (length es)) u
      first = inr (parts.1, refl, refl)

      second : Answers machine count u (DeliverMessage j x) (Delivered 0) v
      second = inr (has_plus, ap (λ (gs : List (Entry A)). Delivered (length gs)) (sym none), refl)
