-- The inverse as steps with their replies.
use Rattle.std.proofs.Common.{◌≡◌, ℕ, ◌<◌, ◌==◌, inl, inr, true, Option, None, Some, List, [], ◌∷◌, length, refl, ap, sym, subst, ◌∙◌, arith}
use Rattle.std.proofs.lemmas.Bool.{eq-eqb, or_right}
use Rattle.virtual_time.specs.Machine.{Machine, Lawful}
use Rattle.virtual_time.specs.Entries.{Entry, Own, Input, Item, entry_key}
use Rattle.virtual_time.specs.Records.{Record, next_of, least_of, after_entry, sent_by}
use Rattle.virtual_time.specs.Worlds.{World, Process, RollBack, Meet, record_of, process, roll_back, meet, can_meet, with_parts, same}
use Rattle.virtual_time.specs.Rules.{IsWorld}
use Rattle.virtual_time.specs.Replies.{Reply, Processed, RolledBack, Refused, Answers, Runs}
use Rattle.virtual_time.specs.Inverses.{AreSent, AreDistinct, is_in, try_meet, meets, meet_sent, meetings, mets, meetings_of, all_met}
use Rattle.virtual_time.proofs.Moves.{walk_on, walk_back, walk_sent, entry_from}
use Rattle.virtual_time.proofs.Inverse.{spread, both_ways, can_one, both_none, meet_one, spread_both, inverse, redo, back_own}
use Rattle.virtual_time.proofs.Tied.{process_tied, record_put, process_is, roll_back_is, meet_sent_is, try_is}

module _ {S A : Type 0} (machine : Machine S A) (law : Lawful machine) where
  pub next_is : (i : ℕ) (xs : List (Item A)) (w : World S A) → entry_from machine i xs w ≡ least_of machine i (record_of (w.part i)) xs
  next_is i [] w = refl
  next_is i (x ∷ xs) w = refl

  pub back : (i : ℕ) (e : Entry A) (js : List ℕ) (w : World S A) → IsWorld machine w → next_of machine i (record_of (w.part i)) ≡ Some e → AreSent machine i e js
      → meet_sent machine e js (roll_back machine i (process machine i w)) ≡ w
  back i e js w is at are =
      meet_sent_is machine e js (roll_back machine i (process machine i w))
      ∙ ap (walk_sent machine e js) (roll_back_is machine i (process machine i w) ∙ ap (walk_back machine i) (process_is machine i w))
      ∙ inverse machine law i e js w is (next_is i (w.part i).pending w ∙ at) are

  pub again : (i : ℕ) (e : Entry A) (es : List (Entry A)) (js : List ℕ) (w : World S A) → IsWorld machine w → (w.part i).done ≡ e ∷ es → AreSent machine i e js
      → meet_sent machine e js (process machine i (roll_back machine i w)) ≡ w
  again i e es js w is at are =
      meet_sent_is machine e js (process machine i (roll_back machine i w))
      ∙ ap (walk_sent machine e js) (process_is machine i (roll_back machine i w) ∙ ap (walk_on machine i) (roll_back_is machine i w))
      ∙ redo machine law i e es js w is at are

  -- The steps that are answered.
  processed_not : (n k : ℕ) → Processed k ≡ Refused n → ⊥
  processed_not n k e = cc

  meetings_lead : (count : ℕ) (x : Item A) (js : List ℕ) (rs : List Reply) (w v : World S A) → Runs machine count w (meetings x js) rs v → v ≡ meets machine js x w
  meetings_lead count x [] [] w v h = h
  meetings_lead count x [] (r ∷ rs) w v h = absurd h
  meetings_lead count x (j ∷ js) [] w v h = absurd h
  meetings_lead count x (j ∷ js) (r ∷ rs) w v h = meetings_lead count x js rs h.0 v h.2 ∙ ap (meets machine js x) (go h.1)
    where
      go : Answers machine count w (Meet j x) r h.0 → h.0 ≡ try_meet machine j x w
      go (inl f) = f.1.stays ∙ sym (rw f.0)
      go (inr f) = f.2 ∙ sym (rw f.0)

  pub sent_lead : (count : ℕ) (e : Entry A) (js : List ℕ) (rs : List Reply) (w v : World S A) → Runs machine count w (meetings_of e js) rs v → v ≡ meet_sent machine e js w
  sent_lead count (Own k (Some a)) js rs w v h = meetings_lead count (record { key = k; action = a }) js rs w v h
  sent_lead count (Own k None) js [] w v h = h
  sent_lead count (Own k None) js (r ∷ rs) w v h = absurd h
  sent_lead count (Input x) js [] w v h = h
  sent_lead count (Input x) js (r ∷ rs) w v h = absurd h

  after_done : (e : Entry A) (r : Record S A) → (after_entry e r).done ≡ e ∷ r.done
  after_done (Own k o) r = refl
  after_done (Input x) r = refl

  pub process_done : (i : ℕ) (e : Entry A) (w : World S A) → next_of machine i (record_of (w.part i)) ≡ Some e → ((process machine i w).part i).done ≡ e ∷ (w.part i).done
  process_done i e w at =
      ap (λ (u : World S A). (u.part i).done) (process_is machine i w ∙ process_tied machine i e w at)
      ∙ ap (λ (r : Record S A). r.done) (record_put machine i (after_entry e (record_of (w.part i))) (sent_by machine i e) same w)
      ∙ after_done e (record_of (w.part i))

  pub processed_is : (count i k : ℕ) (w u : World S A) → Answers machine count w (Process i) (Processed k) u → u ≡ process machine i w
  processed_is count i k w u (inl h) = absurd (processed_not 30 k h.1.reply_is)
  processed_is count i k w u (inr (inl h)) = absurd (processed_not 31 k h.2.reply_is)
  processed_is count i k w u (inr (inr (e, l, n, inl h))) = absurd (processed_not 1 k h.reply_is)
  processed_is count i k w u (inr (inr (e, l, n, inr h))) = h.1

  pub processed_low : (count i k : ℕ) (w u : World S A) → Answers machine count w (Process i) (Processed k) u → i < count
  processed_low count i k w u (inl h) = absurd (processed_not 30 k h.1.reply_is)
  processed_low count i k w u (inr (inl h)) = absurd (processed_not 31 k h.2.reply_is)
  processed_low count i k w u (inr (inr (e, l, n, inl h))) = absurd (processed_not 1 k h.reply_is)
  processed_low count i k w u (inr (inr (e, l, n, inr h))) = l

  nothing_not : (e : Entry A) (es : List (Entry A)) → e ∷ es ≡ [] → ⊥
  nothing_not e es h = let n : length (e ∷ es) ≡ length {A = Entry A} [] = ap length h in absurd (omega arith)

  rolled_is : (count i : ℕ) (r : Reply) (e : Entry A) (es : List (Entry A)) (w u : World S A) → i < count → (w.part i).done ≡ e ∷ es → Answers machine count w (RollBack i) r u → u ≡ roll_back machine i w
  rolled_is count i r e es w u l d (inl h) = let m = h.0 in absurd (omega arith)
  rolled_is count i r e es w u l d (inr (inl h)) = absurd (nothing_not e es (sym d ∙ h.1))
  rolled_is count i r e es w u l d (inr (inr h)) = h.5

  pub answered_back : (count i k : ℕ) (e : Entry A) (js : List ℕ) (replies : List Reply) (w v : World S A) → IsWorld machine w → next_of machine i (record_of (w.part i)) ≡ Some e → AreSent machine i e js
      → Runs machine count w (Process i ∷ RollBack i ∷ meetings_of e js) (Processed k ∷ replies) v → v ≡ w
  answered_back count i k e js [] w v is at are h = absurd h.2
  answered_back count i k e js (r ∷ rs) w v is at are h =
      let u : World S A = h.0 in
      let p : u ≡ process machine i w = processed_is count i k w u h.1 in
      let d : (u.part i).done ≡ e ∷ (w.part i).done = ap (λ (x : World S A). (x.part i).done) p ∙ process_done i e w at in
      let q = rolled_is count i r e (w.part i).done u h.2.0 (processed_low count i k w u h.1) d h.2.1 in
      sent_lead count e js rs h.2.0 v h.2.2 ∙ ap (meet_sent machine e js) (q ∙ ap (roll_back machine i) p) ∙ back i e js w is at are

  -- All is answered.
  try_is_meet : (j : ℕ) (x : Item A) (w : World S A) → can_meet machine j x w ≡ true → try_meet machine j x w ≡ meet machine j x w
  try_is_meet j x w h = rw h

  meet_each_answers : (count i k : ℕ) (a : A) (js : List ℕ) (w : World S A) → AreDistinct js → ((j : ℕ) → is_in j js ≡ true → machine.receives i a j ≡ true)
      → Runs machine count (both_ways machine law i k a js w) (meetings (record { key = k; action = a }) js) (mets js) w
  meet_each_answers count i k a [] w d all = sym (both_none machine law i k a w)
  meet_each_answers count i k a (j ∷ js) w d all =
      let gets : machine.receives i a j ≡ true = all j (head (eq-eqb j j refl)) in
      let can : can_meet machine j (record { key = k; action = a }) (both_ways machine law i k a (j ∷ js) w) ≡ true = can_one machine law i k a j js w gets in
      let step : both_ways machine law i k a js w ≡ meet machine j (record { key = k; action = a }) (both_ways machine law i k a (j ∷ js) w)
      = sym (meet_one machine law i k a j js w d.0 gets) ∙ sym (try_is machine j (record { key = k; action = a }) (both_ways machine law i k a (j ∷ js) w)) ∙ try_is_meet j (record { key = k; action = a }) (both_ways machine law i k a (j ∷ js) w) can in
      (both_ways machine law i k a js w, inr (can, refl, step), meet_each_answers count i k a js w d.1 (λ l h. all l (or_right (l == j) (is_in l js) h)))
    where
      head : (j == j) ≡ true → is_in j (j ∷ js) ≡ true
      head e = rw e

  own_back : (i k : ℕ) (o : Option A) (w : World S A) → next_of machine i (record_of (w.part i)) ≡ Some (Own k o) → roll_back machine i (process machine i w) ≡ with_parts w (λ j. spread machine law i k o j (w.part j))
  own_back i k o w at =
      roll_back_is machine i (process machine i w)
      ∙ ap (walk_back machine i) (process_is machine i w ∙ process_tied machine i (Own k o) w at)
      ∙ back_own machine law i k o w

  sent_answers : (count i : ℕ) (e : Entry A) (js : List ℕ) (w : World S A) → IsWorld machine w → next_of machine i (record_of (w.part i)) ≡ Some e → AreSent machine i e js
      → Runs machine count (roll_back machine i (process machine i w)) (meetings_of e js) (all_met e js) w
  sent_answers count i (Own k (Some a)) js w is at are =
      subst (λ (u : World S A). Runs machine count u (meetings (record { key = k; action = a }) js) (mets js) w) (sym (own_back i k (Some a) w at ∙ spread_both machine law i k a js w are))
      (meet_each_answers count i k a js w are.distinct (λ j h. sym (are.all j) ∙ h))
  sent_answers count i (Own k None) js w is at are = sym (back i (Own k None) js w is at are)
  sent_answers count i (Input x) js w is at are = sym (back i (Input x) js w is at are)

  pub all_answered : (count i : ℕ) (e : Entry A) (js : List ℕ) (w : World S A) → IsWorld machine w → i < count → next_of machine i (record_of (w.part i)) ≡ Some e → AreSent machine i e js
      → Runs machine count w (Process i ∷ RollBack i ∷ meetings_of e js) (Processed (entry_key e) ∷ RolledBack (entry_key e) ∷ all_met e js) w
  all_answered count i e js w is l at are =
      let u : World S A = process machine i w in (
        u,
        inr (inr (e, l, at, inr (refl, refl))),
        (roll_back machine i u, inr (inr (e, (w.part i).done, l, process_done i e w at, refl, refl)), sent_answers count i e js w is at are),
      )
