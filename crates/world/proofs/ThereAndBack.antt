-- There and back, from the theory's laws: what leads from world to world, one list of steps after the other.
use Rattle.std.proofs.Common.{◌≡◌, ℕ, zero, suc, ◌+◌, ◌<◌, ◌≤◌, inl, inr, Bool, true, false, cond, None, Some, List, [], ◌∷◌, ◌++◌, length, refl, ap, sym, subst, ◌∙◌, arith}
use Rattle.std.specs.Prelude.{nat_lt}
use Rattle.std.proofs.lemmas.Bool.{eq-eqb}
use Rattle.virtual_time.specs.Machine.{Lawful, Machine}
use Rattle.virtual_time.specs.Entries.{Entry, Input, Item, Own, entry_key}
use Rattle.virtual_time.specs.Bags.{has, inputs}
use Rattle.virtual_time.specs.Records.{Record, back_at, back_by_antimessage, back_by_message, back_until, before_last, is_input, later, message_comes, antimessage_comes, next_of, not_later, sent_by, stays, unsent}
use Rattle.virtual_time.specs.Worlds.{DeliverAntimessage, DeliverMessage, Meet, Part, Process, RollBack, Step, World, can_meet, deliver_antimessage, deliver_message, meet, process, put, put_back, record_of, roll_back, same, start_world, taken_at, undo_entry}
use Rattle.virtual_time.specs.Replies.{Answers, Delivered, IsReached, Met, Processed, Refused, Reply, RolledBack, Runs}
use Rattle.virtual_time.specs.Inverses.{ArePairs, AreSent, Pair, all_met, meet_pairs, meet_sent, meetings, meetings_of, meets, meets_of, mets, processes, roll_backs, try_meet}
use Rattle.world.specs.Theory.{Theory}
use Rattle.world.specs.ThereAndBack.{AllDone, AllLeave, IsBackAndThere, IsThereAndBack, IsWayOut, Leaves, SentLeave, WasDone, processings, rollings}

refused_not : (n : ℕ) (r : Reply) → r ≡ Refused n → WasDone r → ⊥
refused_not n r e d = subst WasDone e d

delivered_not : (k n : ℕ) → Delivered k ≡ Refused n → ⊥
delivered_not k n e = cc

delivered_one : (k n : ℕ) → Delivered k ≡ Delivered n → k ≡ n
delivered_one k n e = cc

all_done_parts : (ps qs : List Reply) → AllDone (ps ++ qs) → AllDone ps × AllDone qs
all_done_parts [] qs d = (tt, d)
all_done_parts (p ∷ ps) qs d = let r = all_done_parts ps qs d.1 in ((d.0, r.0), r.1)

module _ {S A : Type 0} (machine : Machine S A) (count : ℕ) where
  -- Lists of steps, one after the other.
  pub runs_on : (ss ts : List (Step A)) (ps qs : List Reply) (w u v : World S A) → Runs machine count w ss ps u → Runs machine count u ts qs v → Runs machine count w (ss ++ ts) (ps ++ qs) v
  runs_on [] ts [] qs w u v h k = subst (λ (x : World S A). Runs machine count x ts qs v) h k
  runs_on [] ts (p ∷ ps) qs w u v h k = absurd h
  runs_on (s ∷ ss) ts [] qs w u v h k = absurd h
  runs_on (s ∷ ss) ts (p ∷ ps) qs w u v h k = (h.0, h.1, runs_on ss ts ps qs h.0 u v h.2 k)

  pub reached_on : (w v : World S A) (steps : List (Step A)) (replies : List Reply) → IsReached machine count w → Runs machine count w steps replies v → IsReached machine count v
  reached_on w v steps replies r h = record { steps = r.steps ++ steps; replies = r.replies ++ replies; run = runs_on r.steps steps r.replies replies (start_world machine) w v r.run h }

  -- A step that was done leads to the step's world.
  pub processed_is : (j : ℕ) (r : Reply) (w u : World S A) → WasDone r → Answers machine count w (Process j) r u → (j < count) × (u ≡ process machine j w)
  processed_is j r w u d (inl h) = absurd (refused_not 30 r h.1.reply_is d)
  processed_is j r w u d (inr (inl h)) = absurd (refused_not 31 r h.2.reply_is d)
  processed_is j r w u d (inr (inr (e, l, n, inl h))) = absurd (refused_not 1 r h.reply_is d)
  processed_is j r w u d (inr (inr (e, l, n, inr h))) = (l, h.1)

  rolled_is : (j : ℕ) (r : Reply) (w u : World S A) → WasDone r → Answers machine count w (RollBack j) r u → u ≡ roll_back machine j w
  rolled_is j r w u d (inl h) = absurd (refused_not 30 r h.1.reply_is d)
  rolled_is j r w u d (inr (inl h)) = absurd (refused_not 33 r h.2.reply_is d)
  rolled_is j r w u d (inr (inr h)) = h.5

  pub met_is : (j : ℕ) (x : Item A) (r : Reply) (w u : World S A) → WasDone r → Answers machine count w (Meet j x) r u → (can_meet machine j x w ≡ true) × (u ≡ meet machine j x w)
  met_is j x r w u d (inl h) = absurd (refused_not 32 r h.1.reply_is d)
  met_is j x r w u d (inr h) = (h.0, h.2)

  pub message_is : (k : ℕ) (j : ℕ) (x : Item A) (w u : World S A) → Answers machine count w (DeliverMessage j x) (Delivered k) u
      → (has machine x (w.part j).plus ≡ true) × (k ≡ length (back_by_message machine x (record_of (w.part j)))) × (u ≡ deliver_message machine j x w)
  message_is k j x w u (inl h) = absurd (delivered_not k 32 h.1.reply_is)
  message_is k j x w u (inr h) = (h.0, delivered_one k (length (back_by_message machine x (record_of (w.part j)))) h.1, h.2)

  pub antimessage_is : (k : ℕ) (j : ℕ) (x : Item A) (w u : World S A) → Answers machine count w (DeliverAntimessage j x) (Delivered k) u
      → (has machine x (w.part j).minus ≡ true) × (k ≡ length (back_by_antimessage machine x (record_of (w.part j)))) × (u ≡ deliver_antimessage machine j x w)
  antimessage_is k j x w u (inl h) = absurd (delivered_not k 32 h.1.reply_is)
  antimessage_is k j x w u (inr h) = (h.0, delivered_one k (length (back_by_antimessage machine x (record_of (w.part j)))) h.1, h.2)

  -- Lists of steps of one kind.
  pub inside : (j n : ℕ) (w : World S A) → processes machine j n (process machine j w) ≡ processes machine j (suc n) w
  inside j zero w = refl
  inside j (suc n) w = ap (process machine j) (inside j n w)

  processings_lead : (j n : ℕ) (ts : List (Step A)) (rs : List Reply) (w v : World S A) → AllDone rs → Runs machine count w (processings j n ++ ts) rs v
      → (qs : List Reply) × AllDone qs × Runs machine count (processes machine j n w) ts qs v
  processings_lead j zero ts rs w v d h = (rs, d, h)
  processings_lead j (suc n) ts [] w v d h = absurd h
  processings_lead j (suc n) ts (r ∷ rs) w v d h =
      let p = processed_is j r w h.0 d.0 h.1 in
      let q = processings_lead j n ts rs h.0 v d.1 h.2 in
      (q.0, q.1, subst (λ (x : World S A). Runs machine count x ts q.0 v) (ap (processes machine j n) p.1 ∙ inside j n w) q.2)

  rollings_lead : (j n : ℕ) (ts : List (Step A)) (rs : List Reply) (w v : World S A) → AllDone rs → Runs machine count w (rollings j n ++ ts) rs v
      → (qs : List Reply) × AllDone qs × Runs machine count (roll_backs machine j n w) ts qs v
  rollings_lead j zero ts rs w v d h = (rs, d, h)
  rollings_lead j (suc n) ts [] w v d h = absurd h
  rollings_lead j (suc n) ts (r ∷ rs) w v d h =
      let p = rolled_is j r w h.0 d.0 h.1 in
      let q = rollings_lead j n ts rs h.0 v d.1 h.2 in
      (q.0, q.1, subst (λ (x : World S A). Runs machine count x ts q.0 v) (ap (roll_backs machine j n) p) q.2)

  try_is : (j : ℕ) (x : Item A) (w : World S A) → can_meet machine j x w ≡ true → try_meet machine j x w ≡ meet machine j x w
  try_is j x w h = rw h

  meets_lead : (pairs : List (Pair A)) (rs : List Reply) (w v : World S A) → AllDone rs → Runs machine count w (meets_of pairs) rs v → v ≡ meet_pairs machine pairs w
  meets_lead [] [] w v d h = h
  meets_lead [] (r ∷ rs) w v d h = absurd h
  meets_lead (x ∷ xs) [] w v d h = absurd h
  meets_lead (x ∷ xs) (r ∷ rs) w v d h =
      let p = met_is x.to x.item r w h.0 d.0 h.1 in
      meets_lead xs rs h.0 v d.1 h.2 ∙ ap (meet_pairs machine xs) (p.1 ∙ sym (try_is x.to x.item w p.0))

  again_lead : (j n : ℕ) (pairs : List (Pair A)) (rs : List Reply) (w v : World S A) → AllDone rs → Runs machine count w (processings j n ++ meets_of pairs) rs v
      → v ≡ meet_pairs machine pairs (processes machine j n w)
  again_lead j n pairs rs w v d h =
      let q = processings_lead j n (meets_of pairs) rs w v d h in
      meets_lead pairs q.0 (processes machine j n w) v q.1 q.2

  -- The plain forms: nothing was taken back, so that no step is to follow.
  no_pairs : (j : ℕ) (es : List (Entry A)) → 0 ≡ length es → ArePairs machine j es []
  no_pairs j [] e = λ l k a. refl
  no_pairs j (f ∷ es) e = absurd (omega arith)

  pub plain_message : (j : ℕ) (x : Item A) (w v : World S A) → Runs machine count w (DeliverMessage j x ∷ DeliverAntimessage j x ∷ []) (Delivered 0 ∷ Delivered 0 ∷ []) v
      → Leaves machine count j x w (DeliverMessage j x ∷ DeliverAntimessage j x ∷ []) (Delivered 0 ∷ Delivered 0 ∷ []) v
  plain_message j x w v h =
      let e = (message_is 0 j x w h.0 h.1).1 in
      record {
        way = inr (inl (record { k = 0; l = 0; pairs = []; again = []; steps_are = refl; replies_are = refl; pairs_are = no_pairs j (back_by_message machine x (record_of (w.part j))) e }));
        run = h;
      }

  pub plain_antimessage : (j : ℕ) (x : Item A) (w v : World S A) → Runs machine count w (DeliverAntimessage j x ∷ DeliverMessage j x ∷ []) (Delivered 0 ∷ Delivered 0 ∷ []) v
      → Leaves machine count j x w (DeliverAntimessage j x ∷ DeliverMessage j x ∷ []) (Delivered 0 ∷ Delivered 0 ∷ []) v
  plain_antimessage j x w v h =
      let e = (antimessage_is 0 j x w h.0 h.1).1 in
      record {
        way = inr (inr (record { k = 0; l = 0; pairs = []; again = []; steps_are = refl; replies_are = refl; pairs_are = no_pairs j (back_by_antimessage machine x (record_of (w.part j))) e }));
        run = h;
      }

  pub by_meeting : (j : ℕ) (x : Item A) (w : World S A) → can_meet machine j x w ≡ true → Leaves machine count j x w (Meet j x ∷ []) (Met ∷ []) (meet machine j x w)
  by_meeting j x w can = record { way = inl refl; run = (meet machine j x w, inr (can, refl, refl), refl) }

-- The second delivery takes nothing back: the done entries are counted.
module _ {S A : Type 0} (machine : Machine S A) (law : Lawful machine) where
  put_same : (i : ℕ) (c : Part S A) (parts : ℕ → Part S A) → put i c parts i ≡ c
  put_same i c parts = rw (eq-eqb i i refl)

  pub put_done : (i : ℕ) (r : Record S A) (plus minus : ℕ → List (Item A) → List (Item A)) (w : World S A) → ((put_back i r plus minus w).part i).done ≡ r.done
  put_done i r plus minus w = rw (eq-eqb i i refl)

  put_plus : (i : ℕ) (r : Record S A) (plus minus : ℕ → List (Item A) → List (Item A)) (w : World S A) → ((put_back i r plus minus w).part i).plus ≡ plus i (w.part i).plus
  put_plus i r plus minus w = rw (eq-eqb i i refl)

  put_minus : (i : ℕ) (r : Record S A) (plus minus : ℕ → List (Item A) → List (Item A)) (w : World S A) → ((put_back i r plus minus w).part i).minus ≡ minus i (w.part i).minus
  put_minus i r plus minus w = rw (eq-eqb i i refl)

  pub sent_self : (j : ℕ) (e : Entry A) (xs : List (Item A)) → sent_by machine j e j xs ≡ xs
  sent_self j (Own k None) xs = refl
  sent_self j (Own k (Some a)) xs = rw (law.others j a)
  sent_self j (Input x) xs = refl

  pub unsent_self : (j : ℕ) (es : List (Entry A)) (xs : List (Item A)) → unsent machine j es j xs ≡ xs
  unsent_self j [] xs = refl
  unsent_self j (e ∷ es) xs = unsent_self j es (sent_by machine j e j xs) ∙ sent_self j e xs

  later_length : (x : Item A) (es : List (Entry A)) → length es ≡ length (later machine x es) + length (not_later machine x es)
  later_length x [] = refl
  later_length x (e ∷ es) = go (stays machine x e) (later_length x es)
    where
      go : (b : Bool) → length es ≡ length (later machine x es) + length (not_later machine x es) → length (e ∷ es) ≡ length (cond b [] (e ∷ later machine x es)) + length (cond b (e ∷ es) (not_later machine x es))
      go true h = omega arith
      go false h = omega arith

  until_length : (x : Item A) (es : List (Entry A)) → length es ≡ length (back_until machine x es) + length (before_last machine x es)
  until_length x [] = refl
  until_length x (e ∷ es) = go (is_input machine x e) (until_length x es)
    where
      go : (b : Bool) → length es ≡ length (back_until machine x es) + length (before_last machine x es) → length (e ∷ es) ≡ length (e ∷ cond b [] (back_until machine x es)) + length (cond b es (before_last machine x es))
      go true h = omega arith
      go false h = omega arith

  message_length : (x : Item A) (r : Record S A) → length r.done ≡ length (back_by_message machine x r) + length (message_comes machine x r).done
  message_length x r = go (has machine x r.owed) refl
    where
      go : (b : Bool) → has machine x r.owed ≡ b → length r.done ≡ length (back_by_message machine x r) + length (message_comes machine x r).done
      go true h = rw h (omega arith)
      go false h = rw h (later_length x r.done)

  antimessage_length : (x : Item A) (r : Record S A) → length r.done ≡ length (back_by_antimessage machine x r) + length (antimessage_comes machine x r).done
  antimessage_length x r = go (has machine x r.pending) (nat_lt 0 (inputs machine r.done x.key x.action)) refl refl
    where
      go : (b d : Bool) → has machine x r.pending ≡ b → nat_lt 0 (inputs machine r.done x.key x.action) ≡ d
          → length r.done ≡ length (back_by_antimessage machine x r) + length (antimessage_comes machine x r).done
      go true d h k = rw h (omega arith)
      go false true h k = rw (h, k) (until_length x r.done)
      go false false h k = rw (h, k) (omega arith)

  undone_length : (j : ℕ) (es : List (Entry A)) (w : World S A) → 0 < length es → suc (length ((undo_entry machine j es w).part j).done) ≡ length es
  undone_length j [] w l = absurd (omega arith)
  undone_length j (e ∷ es) w l = ap (λ (fs : List (Entry A)). suc (length fs)) (put_done j (back_at machine (e ∷ []) es (record_of (w.part j))) same (sent_by machine j e) w)

  rolled_length : (j k : ℕ) (w : World S A) → k ≤ length (w.part j).done → k + length ((roll_backs machine j k w).part j).done ≡ length (w.part j).done
  rolled_length j zero w l = omega arith
  rolled_length j (suc k) w l =
      let a = undone_length j (w.part j).done w (omega arith) in
      let b = rolled_length j k (roll_back machine j w) (omega arith) in
      omega arith

  pub done_length : (j : ℕ) (u v : World S A) → u ≡ v → length (u.part j).done ≡ length (v.part j).done
  done_length j u v e = ap (λ (x : World S A). length (x.part j).done) e

  -- what a delivery does at its receiver
  pub message_taken : (j : ℕ) (x : Item A) (w : World S A) → length (w.part j).done ≡ length (back_by_message machine x (record_of (w.part j))) + length ((deliver_message machine j x w).part j).done
  message_taken j x w =
      let r : Record S A = record_of (w.part j) in
      let a = message_length x r in
      let b = ap (λ (fs : List (Entry A)). length fs) (put_done j (message_comes machine x r) (taken_at machine j x) (unsent machine j (back_by_message machine x r)) w) in
      omega arith

  pub antimessage_taken : (j : ℕ) (x : Item A) (w : World S A) → length (w.part j).done ≡ length (back_by_antimessage machine x (record_of (w.part j))) + length ((deliver_antimessage machine j x w).part j).done
  antimessage_taken j x w =
      let r : Record S A = record_of (w.part j) in
      let a = antimessage_length x r in
      let b = ap (λ (fs : List (Entry A)). length fs) (put_done j (antimessage_comes machine x r) same (λ m xs. taken_at machine j x m (unsent machine j (back_by_antimessage machine x r) m xs)) w) in
      omega arith

  pub message_minus : (j : ℕ) (x : Item A) (w : World S A) → ((deliver_message machine j x w).part j).minus ≡ (w.part j).minus
  message_minus j x w =
      let r : Record S A = record_of (w.part j) in
      put_minus j (message_comes machine x r) (taken_at machine j x) (unsent machine j (back_by_message machine x r)) w ∙ unsent_self j (back_by_message machine x r) (w.part j).minus

  pub antimessage_plus : (j : ℕ) (x : Item A) (w : World S A) → ((deliver_antimessage machine j x w).part j).plus ≡ (w.part j).plus
  antimessage_plus j x w =
      let r : Record S A = record_of (w.part j) in
      put_plus j (antimessage_comes machine x r) same (λ m xs. taken_at machine j x m (unsent machine j (back_by_antimessage machine x r) m xs)) w

  -- the first delivery took k entries back, the second l
  second_none : (j : ℕ) (x : Item A) (k l : ℕ) (w u v : World S A) → length (w.part j).done ≡ k + length (u.part j).done → length (u.part j).done ≡ l + length (v.part j).done
      → v ≡ meet machine j x (roll_backs machine j k w) → l ≡ 0
  second_none j x k l w u v a b e =
      let c : length (v.part j).done ≡ length ((roll_backs machine j k w).part j).done = done_length j v (meet machine j x (roll_backs machine j k w)) e
      ∙ ap length (put_done j (record_of ((roll_backs machine j k w).part j)) (taken_at machine j x) (taken_at machine j x) (roll_backs machine j k w)) in
      let d = rolled_length j k w (omega arith) in
      omega arith

module _ {S A : Type 0} (theory : Theory S A) (machine : Machine S A) (law : Lawful machine) (count : ℕ) where
  -- Both delivered, the message first.
  pub message_pair : (j : ℕ) (x : Item A) (w v : World S A) (k l : ℕ) → IsReached machine count w
      → Runs machine count w (DeliverMessage j x ∷ DeliverAntimessage j x ∷ []) (Delivered k ∷ Delivered l ∷ []) v
      → (can_meet machine j x w ≡ true) × (k ≡ length (back_by_message machine x (record_of (w.part j)))) × (l ≡ 0) × (v ≡ deliver_antimessage machine j x (deliver_message machine j x w))
  message_pair j x w v k l reached h = (rw (p.0, has_minus), p.1, second_none machine law j x k l w u mid first second (theory.message_back machine count k l w mid j x law (theory.sound machine count w law reached) (u, h.1, (mid, h.2.1, refl))), h.2.2 ∙ q.2 ∙ ap (deliver_antimessage machine j x) p.2)
    where
      u : World S A
      u = h.0

      mid : World S A
      mid = h.2.0

      p : (has machine x (w.part j).plus ≡ true) × (k ≡ length (back_by_message machine x (record_of (w.part j)))) × (u ≡ deliver_message machine j x w)
      p = message_is machine count k j x w u h.1

      q : (has machine x (u.part j).minus ≡ true) × (l ≡ length (back_by_antimessage machine x (record_of (u.part j)))) × (mid ≡ deliver_antimessage machine j x u)
      q = antimessage_is machine count l j x u mid h.2.1

      minus : (u.part j).minus ≡ (w.part j).minus
      minus = ap (λ (y : World S A). (y.part j).minus) p.2 ∙ message_minus machine law j x w

      has_minus : has machine x (w.part j).minus ≡ true
      has_minus = ap (has machine x) (sym minus) ∙ q.0

      first : length (w.part j).done ≡ k + length (u.part j).done
      first = let a = message_taken machine law j x w in let b = done_length machine law j u (deliver_message machine j x w) p.2 in let e = p.1 in omega arith

      second : length (u.part j).done ≡ l + length (mid.part j).done
      second = let a = antimessage_taken machine law j x u in let b = done_length machine law j mid (deliver_antimessage machine j x u) q.2 in let e = q.1 in omega arith

  -- The antimessage first.
  pub antimessage_pair : (j : ℕ) (x : Item A) (w v : World S A) (k l : ℕ) → IsReached machine count w
      → Runs machine count w (DeliverAntimessage j x ∷ DeliverMessage j x ∷ []) (Delivered k ∷ Delivered l ∷ []) v
      → (can_meet machine j x w ≡ true) × (k ≡ length (back_by_antimessage machine x (record_of (w.part j)))) × (l ≡ 0) × (v ≡ deliver_message machine j x (deliver_antimessage machine j x w))
  antimessage_pair j x w v k l reached h = (rw (has_plus, p.0), p.1, second_none machine law j x k l w u mid first second (theory.antimessage_back machine count k l w mid j x law (theory.sound machine count w law reached) (u, h.1, (mid, h.2.1, refl))), h.2.2 ∙ q.2 ∙ ap (deliver_message machine j x) p.2)
    where
      u : World S A
      u = h.0

      mid : World S A
      mid = h.2.0

      p : (has machine x (w.part j).minus ≡ true) × (k ≡ length (back_by_antimessage machine x (record_of (w.part j)))) × (u ≡ deliver_antimessage machine j x w)
      p = antimessage_is machine count k j x w u h.1

      q : (has machine x (u.part j).plus ≡ true) × (l ≡ length (back_by_message machine x (record_of (u.part j)))) × (mid ≡ deliver_message machine j x u)
      q = message_is machine count l j x u mid h.2.1

      plus : (u.part j).plus ≡ (w.part j).plus
      plus = ap (λ (y : World S A). (y.part j).plus) p.2 ∙ antimessage_plus machine law j x w

      has_plus : has machine x (w.part j).plus ≡ true
      has_plus = ap (has machine x) (sym plus) ∙ q.0

      first : length (w.part j).done ≡ k + length (u.part j).done
      first = let a = antimessage_taken machine law j x w in let b = done_length machine law j u (deliver_antimessage machine j x w) p.2 in let e = p.1 in omega arith

      second : length (u.part j).done ≡ l + length (mid.part j).done
      second = let a = message_taken machine law j x u in let b = done_length machine law j mid (deliver_message machine j x u) q.2 in let e = q.1 in omega arith

  -- What the deliveries took back is done again.
  message_leaves : (j : ℕ) (x : Item A) (w v : World S A) (k l : ℕ) (pairs : List (Pair A)) (again : List Reply) → IsReached machine count w
      → ArePairs machine j (back_by_message machine x (record_of (w.part j))) pairs → AllDone again
      → Runs machine count w (DeliverMessage j x ∷ DeliverAntimessage j x ∷ (processings j (k + l) ++ meets_of pairs)) (Delivered k ∷ Delivered l ∷ again) v
      → (can_meet machine j x w ≡ true) × (v ≡ meet machine j x w)
  message_leaves j x w v k l pairs again reached are d h =
      let p = message_pair j x w h.2.0 k l reached (h.0, h.1, (h.2.0, h.2.1, refl)) in
      let a = p.1 in
      let b = p.2 in
      let n : k + l ≡ length (back_by_message machine x (record_of (w.part j))) = omega arith in (
        p.0,
        again_lead machine count j (k + l) pairs again h.2.0 v d h.2.2
            ∙ ap (λ (m : ℕ). meet_pairs machine pairs (processes machine j m h.2.0)) n
            ∙ ap (λ (y : World S A). meet_pairs machine pairs (processes machine j (length (back_by_message machine x (record_of (w.part j)))) y)) p.3
            ∙ theory.message_first machine j x pairs w law (theory.sound machine count w law reached) (theory.ordered machine count w law reached) p.0 are,
      )

  antimessage_leaves : (j : ℕ) (x : Item A) (w v : World S A) (k l : ℕ) (pairs : List (Pair A)) (again : List Reply) → IsReached machine count w
      → ArePairs machine j (back_by_antimessage machine x (record_of (w.part j))) pairs → AllDone again
      → Runs machine count w (DeliverAntimessage j x ∷ DeliverMessage j x ∷ (processings j (k + l) ++ meets_of pairs)) (Delivered k ∷ Delivered l ∷ again) v
      → (can_meet machine j x w ≡ true) × (v ≡ meet machine j x w)
  antimessage_leaves j x w v k l pairs again reached are d h =
      let p = antimessage_pair j x w h.2.0 k l reached (h.0, h.1, (h.2.0, h.2.1, refl)) in
      let a = p.1 in
      let b = p.2 in
      let n : k + l ≡ length (back_by_antimessage machine x (record_of (w.part j))) = omega arith in (
        p.0,
        again_lead machine count j (k + l) pairs again h.2.0 v d h.2.2
            ∙ ap (λ (m : ℕ). meet_pairs machine pairs (processes machine j m h.2.0)) n
            ∙ ap (λ (y : World S A). meet_pairs machine pairs (processes machine j (length (back_by_antimessage machine x (record_of (w.part j)))) y)) p.3
            ∙ theory.antimessage_first machine j x pairs w law (theory.sound machine count w law reached) (theory.ordered machine count w law reached) p.0 are,
      )

  -- Of the two deliveries the second takes nothing back.
  pub message_second : (j : ℕ) (x : Item A) (w v : World S A) (k l : ℕ) → IsReached machine count w
      → Runs machine count w (DeliverMessage j x ∷ DeliverAntimessage j x ∷ []) (Delivered k ∷ Delivered l ∷ []) v → l ≡ 0
  message_second j x w v k l reached h = (message_pair j x w v k l reached h).2

  pub antimessage_second : (j : ℕ) (x : Item A) (w v : World S A) (k l : ℕ) → IsReached machine count w
      → Runs machine count w (DeliverAntimessage j x ∷ DeliverMessage j x ∷ []) (Delivered k ∷ Delivered l ∷ []) v → l ≡ 0
  antimessage_second j x w v k l reached h = (antimessage_pair j x w v k l reached h).2

  run_as : (ss ts : List (Step A)) (ps qs : List Reply) (w v : World S A) → ss ≡ ts → ps ≡ qs → Runs machine count w ss ps v → Runs machine count w ts qs v
  run_as ss ts ps qs w v e f h = subst (λ (rs : List Reply). Runs machine count w ts rs v) f (subst (λ (us : List (Step A)). Runs machine count w us ps v) e h)

  -- Whichever way: they have met.
  pub leaves : (j : ℕ) (x : Item A) (w : World S A) (steps : List (Step A)) (replies : List Reply) (v : World S A) → IsReached machine count w → AllDone replies → Leaves machine count j x w steps replies v
      → (can_meet machine j x w ≡ true) × (v ≡ meet machine j x w)
  leaves j x w steps replies v reached d h = go h.way
    where
      met : (rs : List Reply) → AllDone rs → Runs machine count w (Meet j x ∷ []) rs v → (can_meet machine j x w ≡ true) × (v ≡ meet machine j x w)
      met [] e r = absurd r
      met (p ∷ []) e r = let m = met_is machine count j x p w r.0 e.0 r.1 in (m.0, r.2 ∙ m.1)
      met (p ∷ q ∷ ps) e r = absurd r.2

      go : IsWayOut machine j x (record_of (w.part j)) steps replies → (can_meet machine j x w ≡ true) × (v ≡ meet machine j x w)
      go (inl e) = met replies d (run_as steps (Meet j x ∷ []) replies replies w v e refl h.run)
      go (inr (inl a)) =
          message_leaves j x w v a.k a.l a.pairs a.again reached a.pairs_are (subst AllDone a.replies_are d).1.1
          (run_as steps _ replies (Delivered a.k ∷ Delivered a.l ∷ a.again) w v a.steps_are a.replies_are h.run)
      go (inr (inr a)) =
          antimessage_leaves j x w v a.k a.l a.pairs a.again reached a.pairs_are (subst AllDone a.replies_are d).1.1
          (run_as steps _ replies (Delivered a.k ∷ Delivered a.l ∷ a.again) w v a.steps_are a.replies_are h.run)

  all_leave : (x : Item A) (js : List ℕ) (w : World S A) (steps : List (Step A)) (replies : List Reply) (v : World S A) → IsReached machine count w → AllDone replies
      → AllLeave machine count x js w steps replies v → v ≡ meets machine js x w
  all_leave x [] w steps replies v reached d h = h.2
  all_leave x (j ∷ js) w steps replies v reached d (mid, ss, ts, ps, qs, se, re, one, more) =
      let ds = all_done_parts ps qs (subst AllDone re d) in
      let m = leaves j x w ss ps mid reached ds.0 one in
      all_leave x js mid ts qs v (reached_on machine count w mid ss ps reached one.run) ds.1 more
      ∙ ap (meets machine js x) (m.1 ∙ sym (try_is machine count j x w m.0))

  sent_leave : (e : Entry A) (js : List ℕ) (w : World S A) (steps : List (Step A)) (replies : List Reply) (v : World S A) → IsReached machine count w → AllDone replies
      → SentLeave machine count e js w steps replies v → v ≡ meet_sent machine e js w
  sent_leave (Own k (Some a)) js w steps replies v reached d h = all_leave (record { key = k; action = a }) js w steps replies v reached d h
  sent_leave (Own k None) js w steps replies v reached d h = h.2
  sent_leave (Input x) js w steps replies v reached d h = h.2

  pub there_and_back : (i : ℕ) (w : World S A) (steps : List (Step A)) (replies : List Reply) (v : World S A) → IsReached machine count w → IsThereAndBack machine count i w steps replies v → v ≡ w
  there_and_back i w steps replies v reached h =
      let d : AllDone (h.there ∷ h.back ∷ h.rest_replies) = subst AllDone h.replies_are h.done in
      let p = processed_is machine count i h.there w h.run.0 d.0 h.run.1 in
      let q = rolled_is machine count i h.back h.run.0 h.run.2.0 d.1.0 h.run.2.1 in
      sent_leave h.entry h.receivers h.turned h.rest h.rest_replies v (reached_on machine count w h.turned (Process i ∷ RollBack i ∷ []) (h.there ∷ h.back ∷ []) reached h.run) d.1.1 h.leave
      ∙ ap (meet_sent machine h.entry h.receivers) (h.run.2.2 ∙ q ∙ ap (roll_back machine i) p.1)
      ∙ theory.back machine w i h.entry h.receivers law (theory.sound machine count w law reached) h.next_is h.sent

  pub back_and_there : (i : ℕ) (w : World S A) (steps : List (Step A)) (replies : List Reply) (v : World S A) → IsReached machine count w → IsBackAndThere machine count i w steps replies v → v ≡ w
  back_and_there i w steps replies v reached h =
      let n : ℕ = length h.entries in
      let r = rollings_lead machine count i n (processings i n ++ meets_of h.pairs) replies w v h.done (run_as steps _ replies replies w v h.steps_are refl h.run) in
      again_lead machine count i n h.pairs r.0 (roll_backs machine i n w) v r.1 r.2
      ∙ theory.rolled_back machine i h.entries h.rest h.pairs w law (theory.sound machine count w law reached) (theory.ordered machine count w law reached) h.done_are h.pairs_are

  -- It can always be done: the messages meet.
  meetings_leave : (x : Item A) (js : List ℕ) (w v : World S A) → Runs machine count w (meetings x js) (mets js) v → AllLeave machine count x js w (meetings x js) (mets js) v
  meetings_leave x [] w v h = (refl, refl, h)
  meetings_leave x (j ∷ js) w v h =
      (h.0, Meet j x ∷ [], meetings x js, Met ∷ [], mets js, refl, refl, record { way = inl refl; run = (h.0, h.1, refl) }, meetings_leave x js h.0 v h.2)

  met_leave : (e : Entry A) (js : List ℕ) (w v : World S A) → Runs machine count w (meetings_of e js) (all_met e js) v → SentLeave machine count e js w (meetings_of e js) (all_met e js) v
  met_leave (Own k (Some a)) js w v h = meetings_leave (record { key = k; action = a }) js w v h
  met_leave (Own k None) js w v h = (refl, refl, h)
  met_leave (Input x) js w v h = (refl, refl, h)

  mets_done : (js : List ℕ) → AllDone (mets js)
  mets_done [] = tt
  mets_done (j ∷ js) = (tt, mets_done js)

  met_done : (e : Entry A) (js : List ℕ) → AllDone (all_met e js)
  met_done (Own k (Some a)) js = mets_done js
  met_done (Own k None) js = tt
  met_done (Input x) js = tt

  pub by_meetings : (i : ℕ) (w : World S A) (e : Entry A) (js : List ℕ) → IsReached machine count w → i < count → next_of machine i (record_of (w.part i)) ≡ Some e → AreSent machine i e js
      → IsThereAndBack machine count i w (Process i ∷ RollBack i ∷ meetings_of e js) (Processed (entry_key e) ∷ RolledBack (entry_key e) ∷ all_met e js) w
  by_meetings i w e js reached l at are =
      let h = theory.met machine count w i e js law (theory.sound machine count w law reached) l at are in
      record {
        entry = e;
        receivers = js;
        there = Processed (entry_key e);
        back = RolledBack (entry_key e);
        turned = h.2.0;
        rest = meetings_of e js;
        rest_replies = all_met e js;
        next_is = at;
        sent = are;
        steps_are = refl;
        replies_are = refl;
        run = (h.0, h.1, (h.2.0, h.2.1, refl));
        leave = met_leave e js h.2.0 w h.2.2;
        done = (tt, (tt, met_done e js));
      }
