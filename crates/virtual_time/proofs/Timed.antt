-- Global virtual time of a world of so many components is there, and each step is answered.
use Rattle.std.proofs.Common.{Bool, cond, ◌≡◌, ℕ, zero, suc, min, ◌+◌, ◌-◌, ◌<◌, ◌≤◌, ◌⊎◌, inl, inr, true, false, Option, None, Some, List, [], ◌∷◌, length, length-append, refl, ap, sym, subst, ◌∙◌, arith}
use Rattle.std.proofs.lemmas.Bool.{le-ltb, ltb-true, ne_eqb, and_parts, cases_eq, cases_lt, cases_Bool}
use Rattle.virtual_time.specs.Machine.{HasCount, Lawful, Machine}
use Rattle.virtual_time.specs.Entries.{Entry, Input, Item, Own, entry_key, from, number}
use Rattle.virtual_time.specs.Bags.{AllFrom, has, times}
use Rattle.virtual_time.specs.Records.{Record, after_entry, back_at, back_by_antimessage, back_by_message, least_of, next_of, own_next, sent, sent_by, unsent}
use Rattle.virtual_time.specs.Worlds.{Commit, DeliverAntimessage, DeliverMessage, Happens, IsPast, Meet, Part, Process, Reaches, RollBack, Step, World, can_meet, commit, deliver_antimessage, deliver_message, meet, process, process_entry, put, put_back, record_of, roll_back, same, start_world, taken_at, undo_entry, with_record}
use Rattle.virtual_time.specs.Replies.{Reply, Processed, Delivered, Met, RolledBack, Committed, Refused, Answers, Runs, IsReached, IsVirtualTime, IsAt, HasKey, least_key, least_at, virtual_time}
use Rattle.virtual_time.proofs.Lists.{put_other}
use Rattle.virtual_time.proofs.Replied.{commit_can, gather_more, most}

module _ {S A : Type 0} (machine : Machine S A) (count : ℕ) (counted : HasCount machine count) where
  -- nothing is pending beyond the components, nor in flight to there
  pub record Silent (c : Part S A) : Type 0 where
    pub done : c.done ≡ []
    pub pending : c.pending ≡ []
    pub plus : c.plus ≡ []
    pub minus : c.minus ≡ []

  abbrev pub IsSilent : World S A → Type 0
  IsSilent w = (j : ℕ) → count ≤ j → Silent (w.part j)

  sent_deaf : (i k : ℕ) (o : Option A) (j : ℕ) (xs : List (Item A)) → count ≤ j → sent machine i k o j xs ≡ xs
  sent_deaf i k None j xs l = refl
  sent_deaf i k (Some a) j xs l = rw (counted.deaf i a j l)

  pub by_deaf : (i : ℕ) (e : Entry A) (j : ℕ) (xs : List (Item A)) → count ≤ j → sent_by machine i e j xs ≡ xs
  by_deaf i (Own k o) j xs l = sent_deaf i k o j xs l
  by_deaf i (Input x) j xs l = refl

  unsent_deaf : (i : ℕ) (es : List (Entry A)) (j : ℕ) (xs : List (Item A)) → count ≤ j → unsent machine i es j xs ≡ xs
  unsent_deaf i [] j xs l = refl
  unsent_deaf i (e ∷ es) j xs l = unsent_deaf i es j (sent_by machine i e j xs) l ∙ by_deaf i e j xs l

  taken_other : (i : ℕ) (x : Item A) (j : ℕ) (xs : List (Item A)) → (j ≡ i → ⊥) → taken_at machine i x j xs ≡ xs
  taken_other i x j xs ne = rw (ne_eqb j i ne)

  -- a record put back within
  put_silent : (i : ℕ) (r : Record S A) (plus minus : ℕ → List (Item A) → List (Item A)) (w : World S A) → i < count
      → ((j : ℕ) (xs : List (Item A)) → count ≤ j → plus j xs ≡ xs) → ((j : ℕ) (xs : List (Item A)) → count ≤ j → minus j xs ≡ xs)
      → IsSilent w → IsSilent (put_back i r plus minus w)
  put_silent i r plus minus w l p m silent j h =
      let s = silent j h in
      let ne : j ≡ i → ⊥ = λ (e : j ≡ i). omega arith in
      let o : put i (with_record (w.part i) r) w.part j ≡ w.part j = put_other i (with_record (w.part i) r) w.part j ne in
      record {
        done = ap (λ (c : Part S A). c.done) o ∙ s.done;
        pending = ap (λ (c : Part S A). c.pending) o ∙ s.pending;
        plus = p j (put i (with_record (w.part i) r) w.part j).plus h ∙ ap (λ (c : Part S A). c.plus) o ∙ s.plus;
        minus = m j (put i (with_record (w.part i) r) w.part j).minus h ∙ ap (λ (c : Part S A). c.minus) o ∙ s.minus;
      }

  process_silent : (i : ℕ) (e : Option (Entry A)) (w : World S A) → i < count → IsSilent w → IsSilent (process_entry machine i e w)
  process_silent i None w l s = s
  process_silent i (Some e) w l s = put_silent i (after_entry e (record_of (w.part i))) (sent_by machine i e) same w l (λ j xs h. by_deaf i e j xs h) (λ j xs h. refl) s

  undo_silent : (i : ℕ) (es : List (Entry A)) (w : World S A) → i < count → IsSilent w → IsSilent (undo_entry machine i es w)
  undo_silent i [] w l s = s
  undo_silent i (e ∷ es) w l s = put_silent i (back_at machine (e ∷ []) es (record_of (w.part i))) same (sent_by machine i e) w l (λ j xs h. refl) (λ j xs h. by_deaf i e j xs h) s

  has_low : (j : ℕ) (x : Item A) (xs : List (Item A)) → (count ≤ j → xs ≡ []) → has machine x xs ≡ true → j < count
  has_low j x xs none h = go (cases_lt j count)
    where
      go : (j < count) ⊎ (count ≤ j) → j < count
      go (inl l) = l
      go (inr l) =
          let f : has machine x [] ≡ true = subst (λ (ys : List (Item A)). has machine x ys ≡ true) (none l) h in
          let n = ltb-true 0 (times machine [] x.key x.action) f in
          absurd (omega arith)

  taken_deaf : (i : ℕ) (x : Item A) (j : ℕ) (xs : List (Item A)) → i < count → count ≤ j → taken_at machine i x j xs ≡ xs
  taken_deaf i x j xs l h = taken_other i x j xs (λ (e : j ≡ i). omega arith)

  kept : (w v : World S A) → v ≡ w → IsSilent w → IsSilent v
  kept w v e s = subst (λ (u : World S A). IsSilent u) (sym e) s

  pub answer_silent : (w : World S A) (step : Step A) (reply : Reply) (v : World S A) → IsSilent w → Answers machine count w step reply v → IsSilent v
  answer_silent w (Process i) reply v s (inl h) = kept w v h.1.stays s
  answer_silent w (Process i) reply v s (inr (inl h)) = kept w v h.2.stays s
  answer_silent w (Process i) reply v s (inr (inr (e, l, n, inl h))) = kept w v h.stays s
  answer_silent w (Process i) reply v s (inr (inr (e, l, n, inr h))) = kept (process machine i w) v h.1 (process_silent i (next_of machine i (record_of (w.part i))) w l s)
  answer_silent w (RollBack i) reply v s (inl h) = kept w v h.1.stays s
  answer_silent w (RollBack i) reply v s (inr (inl h)) = kept w v h.2.stays s
  answer_silent w (RollBack i) reply v s (inr (inr h)) = kept (roll_back machine i w) v h.5 (undo_silent i (w.part i).done w h.2 s)
  answer_silent w (DeliverMessage j x) reply v s (inl h) = kept w v h.1.stays s
  answer_silent w (DeliverMessage j x) reply v s (inr h) =
      let l = has_low j x (w.part j).plus (λ m. (s j m).plus) h.0 in
      kept (deliver_message machine j x w) v h.2
      (put_silent j _ (taken_at machine j x) (unsent machine j (back_by_message machine x (record_of (w.part j)))) w l (λ i xs m. taken_deaf j x i xs l m) (λ i xs m. unsent_deaf j (back_by_message machine x (record_of (w.part j))) i xs m) s)
  answer_silent w (DeliverAntimessage j x) reply v s (inl h) = kept w v h.1.stays s
  answer_silent w (DeliverAntimessage j x) reply v s (inr h) =
      let l = has_low j x (w.part j).minus (λ m. (s j m).minus) h.0 in
      kept (deliver_antimessage machine j x w) v h.2
      (put_silent j _ same (λ i xs. taken_at machine j x i (unsent machine j (back_by_antimessage machine x (record_of (w.part j))) i xs)) w l (λ i xs m. refl)
      (λ i xs m. taken_deaf j x i (unsent machine j (back_by_antimessage machine x (record_of (w.part j))) i xs) l m ∙ unsent_deaf j (back_by_antimessage machine x (record_of (w.part j))) i xs m) s)
  answer_silent w (Meet j x) reply v s (inl h) = kept w v h.1.stays s
  answer_silent w (Meet j x) reply v s (inr h) =
      let p = and_parts (has machine x (w.part j).plus) (has machine x (w.part j).minus) h.0 in
      let l = has_low j x (w.part j).plus (λ m. (s j m).plus) p.0 in
      kept (meet machine j x w) v h.2 (put_silent j _ (taken_at machine j x) (taken_at machine j x) w l (λ i xs m. taken_deaf j x i xs l m) (λ i xs m. taken_deaf j x i xs l m) s)
  answer_silent w (Commit b) reply v s (inl h) = kept w v h.1.stays s
  answer_silent w (Commit b) reply v s (inr (inl h)) = kept w v h.3.stays s
  answer_silent w (Commit b) reply v s (inr (inr h)) = kept (commit machine b w) v h.7 (λ j l. let c = s j l in record { done = ap (from b) c.done; pending = c.pending; plus = c.plus; minus = c.minus })

  runs_silent : (w : World S A) (steps : List (Step A)) (replies : List Reply) (v : World S A) → IsSilent w → Runs machine count w steps replies v → IsSilent v
  runs_silent w [] [] v s h = kept w v h s
  runs_silent w [] (r ∷ rs) v s h = absurd h
  runs_silent w (t ∷ ts) [] v s h = absurd h
  runs_silent w (t ∷ ts) (r ∷ rs) v s h = runs_silent h.0 ts rs v (answer_silent w t r h.0 s h.1) h.2

  pub reached_silent : (w : World S A) → IsReached machine count w → IsSilent w
  reached_silent w h = runs_silent (start_world machine) h.steps h.replies w (λ j l. record { done = refl; pending = refl; plus = refl; minus = refl }) h.run

  -- The least.
  least_low : (xs : List (Item A)) (b g : ℕ) → b ≤ least_key xs g → AllFrom b xs × (b ≤ g)
  least_low [] b g l = (tt, l)
  least_low (x ∷ xs) b g l = let r = least_low xs b g (omega arith) in ((omega arith, r.0), r.1)

  least_has : (xs : List (Item A)) (g : ℕ) → HasKey (least_key xs g) xs ⊎ (least_key xs g ≡ g)
  least_has [] g = inr refl
  least_has (x ∷ xs) g = go (least_has xs g) (cases_lt (least_key xs g) x.key)
    where
      go : HasKey (least_key xs g) xs ⊎ (least_key xs g ≡ g) → (least_key xs g < x.key) ⊎ (x.key ≤ least_key xs g)
          → ((x.key ≡ min x.key (least_key xs g)) ⊎ HasKey (min x.key (least_key xs g)) xs) ⊎ (min x.key (least_key xs g) ≡ g)
      go h (inr l) = inl (inl (omega arith))
      go (inl h) (inl l) = let e : least_key xs g ≡ min x.key (least_key xs g) = omega arith in inl (inr (subst (λ (k : ℕ). HasKey k xs) e h))
      go (inr h) (inl l) = inr (omega arith)

  pub at_low : (j : ℕ) (c : Part S A) (b g : ℕ) → b ≤ least_at machine j c g → IsPast machine b j c × (b ≤ g)
  at_low j c b g l =
      let p = least_low c.pending b (least_key c.plus (least_key c.minus g)) (omega arith) in
      let q = least_low c.plus b (least_key c.minus g) p.1 in
      let r = least_low c.minus b g q.1 in
      (record { turn = omega arith; pending = p.0; plus = q.0; minus = r.0 }, r.1)

  pub at_has : (j : ℕ) (c : Part S A) (g : ℕ) → IsAt machine (least_at machine j c g) j c ⊎ (least_at machine j c g ≡ g)
  at_has j c g = go (cases_lt (least_key c.pending (least_key c.plus (least_key c.minus g))) (machine.key j (number c.first c.done)))
    where
      k : ℕ
      k = machine.key j (number c.first c.done)

      l3 : ℕ
      l3 = least_key c.minus g

      l2 : ℕ
      l2 = least_key c.plus (least_key c.minus g)

      l1 : ℕ
      l1 = least_key c.pending (least_key c.plus (least_key c.minus g))

      minus : HasKey (least_key c.minus g) c.minus ⊎ (least_key c.minus g ≡ g) → min k l1 ≡ least_key c.minus g → IsAt machine (min k l1) j c ⊎ (min k l1 ≡ g)
      minus (inl h) e = inl (inr (inr (inr (subst (λ (n : ℕ). HasKey n c.minus) (sym e) h))))
      minus (inr h) e = inr (e ∙ h)

      plus : HasKey (least_key c.plus (least_key c.minus g)) c.plus ⊎ (least_key c.plus (least_key c.minus g) ≡ least_key c.minus g) → min k l1 ≡ least_key c.plus (least_key c.minus g) → IsAt machine (min k l1) j c ⊎ (min k l1 ≡ g)
      plus (inl h) e = inl (inr (inr (inl (subst (λ (n : ℕ). HasKey n c.plus) (sym e) h))))
      plus (inr h) e = minus (least_has c.minus g) (e ∙ h)

      pending : HasKey l1 c.pending ⊎ (l1 ≡ least_key c.plus (least_key c.minus g)) → min k l1 ≡ l1 → IsAt machine (min k l1) j c ⊎ (min k l1 ≡ g)
      pending (inl h) e = inl (inr (inl (subst (λ (n : ℕ). HasKey n c.pending) (sym e) h)))
      pending (inr h) e = plus (least_has c.plus (least_key c.minus g)) (e ∙ h)

      go : (l1 < k) ⊎ (k ≤ l1) → IsAt machine (min k l1) j c ⊎ (min k l1 ≡ g)
      go (inl l) = pending (least_has c.pending (least_key c.plus (least_key c.minus g))) (omega arith)
      go (inr l) = inl (inl (omega arith))

  time_end : (n : ℕ) (w : World S A) → virtual_time machine n w ≤ machine.top
  time_end zero w = omega arith
  time_end (suc n) w = let r = at_low n (w.part n) (virtual_time machine (suc n) w) (virtual_time machine n w) (omega arith) in let h = time_end n w in let q = r.1 in omega arith

  time_low : (n b : ℕ) (w : World S A) → b ≤ virtual_time machine n w → (j : ℕ) → j < n → IsPast machine b j (w.part j)
  time_low zero b w l j h = absurd (omega arith)
  time_low (suc n) b w l j h = go (at_low n (w.part n) b (virtual_time machine n w) l) (cases_eq j n) (λ (p : b ≤ virtual_time machine n w) (q : j < n). time_low n b w p j q)
    where
      go : IsPast machine b n (w.part n) × (b ≤ virtual_time machine n w) → (j ≡ n) ⊎ (j ≡ n → ⊥) → (b ≤ virtual_time machine n w → j < n → IsPast machine b j (w.part j)) → IsPast machine b j (w.part j)
      go r (inl e) ih = subst (λ (i : ℕ). IsPast machine b i (w.part i)) (sym e) r.0
      go r (inr ne) ih = ih r.1 (omega arith)

  time_has : (n : ℕ) (w : World S A) → (virtual_time machine n w ≡ machine.top) ⊎ ((j : ℕ) × IsAt machine (virtual_time machine n w) j (w.part j))
  time_has zero w = inl refl
  time_has (suc n) w = go (at_has n (w.part n) (virtual_time machine n w)) (time_has n w)
    where
      go : IsAt machine (virtual_time machine (suc n) w) n (w.part n) ⊎ (virtual_time machine (suc n) w ≡ virtual_time machine n w)
          → (virtual_time machine n w ≡ machine.top) ⊎ ((j : ℕ) × IsAt machine (virtual_time machine n w) j (w.part j))
          → (virtual_time machine (suc n) w ≡ machine.top) ⊎ ((j : ℕ) × IsAt machine (virtual_time machine (suc n) w) j (w.part j))
      go (inl h) ih = inr (n, h)
      go (inr e) (inl ih) = inl (e ∙ ih)
      go (inr e) (inr ih) = inr (ih.0, subst (λ (g : ℕ). IsAt machine g ih.0 (w.part ih.0)) (sym e) ih.1)

  pub time_is : (w : World S A) → IsSilent w → IsVirtualTime machine w (virtual_time machine count w)
  time_is w s = record { least = λ j. go j (cases_lt j count); reached = time_has count w }
    where
      none : (xs : List (Item A)) → xs ≡ [] → AllFrom (virtual_time machine count w) xs
      none xs e = subst (λ (ys : List (Item A)). AllFrom (virtual_time machine count w) ys) (sym e) tt

      go : (j : ℕ) → (j < count) ⊎ (count ≤ j) → IsPast machine (virtual_time machine count w) j (w.part j)
      go j (inl l) = time_low count (virtual_time machine count w) w (omega arith) j l
      go j (inr l) =
          let h = time_end count w in
          let k = counted.silent j (number (w.part j).first (w.part j).done) l in
          let c = s j l in
          record { turn = omega arith; pending = none (w.part j).pending c.pending; plus = none (w.part j).plus c.plus; minus = none (w.part j).minus c.minus }

  -- Each step is answered.
  abbrev Answered : World S A → Step A → Type 0
  Answered w step = (reply : Reply) × (v : World S A) × Answers machine count w step reply v

  pub total : (w : World S A) (step : Step A) → IsSilent w → Answered w step
  total w (Process i) s = go (cases_lt i count) (next_of machine i (record_of (w.part i))) refl
    where
      go : (i < count) ⊎ (count ≤ i) → (e : Option (Entry A)) → next_of machine i (record_of (w.part i)) ≡ e → Answered w (Process i)
      go (inr l) e h = (Refused 30, w, inl (l, record { reply_is = refl; stays = refl }))
      go (inl l) None h = (Refused 31, w, inr (inl (l, h, record { reply_is = refl; stays = refl })))
      go (inl l) (Some e) h = (Processed (entry_key e), process machine i w, inr (inr (e, l, h, inr (refl, refl))))
  total w (RollBack i) s = go (cases_lt i count) (w.part i).done refl
    where
      go : (i < count) ⊎ (count ≤ i) → (es : List (Entry A)) → (w.part i).done ≡ es → Answered w (RollBack i)
      go (inr l) es h = (Refused 30, w, inl (l, record { reply_is = refl; stays = refl }))
      go (inl l) [] h = (Refused 33, w, inr (inl (l, h, record { reply_is = refl; stays = refl })))
      go (inl l) (e ∷ es) h = (RolledBack (entry_key e), roll_back machine i w, inr (inr (e, es, l, h, refl, refl)))
  total w (DeliverMessage j x) s = go (cases_Bool (has machine x (w.part j).plus))
    where
      go : (has machine x (w.part j).plus ≡ true) ⊎ (has machine x (w.part j).plus ≡ false) → Answered w (DeliverMessage j x)
      go (inl h) = (Delivered (length (back_by_message machine x (record_of (w.part j)))), deliver_message machine j x w, inr (h, refl, refl))
      go (inr h) = (Refused 32, w, inl (h, record { reply_is = refl; stays = refl }))
  total w (DeliverAntimessage j x) s = go (cases_Bool (has machine x (w.part j).minus))
    where
      go : (has machine x (w.part j).minus ≡ true) ⊎ (has machine x (w.part j).minus ≡ false) → Answered w (DeliverAntimessage j x)
      go (inl h) = (Delivered (length (back_by_antimessage machine x (record_of (w.part j)))), deliver_antimessage machine j x w, inr (h, refl, refl))
      go (inr h) = (Refused 32, w, inl (h, record { reply_is = refl; stays = refl }))
  total w (Meet j x) s = go (cases_Bool (can_meet machine j x w))
    where
      go : (can_meet machine j x w ≡ true) ⊎ (can_meet machine j x w ≡ false) → Answered w (Meet j x)
      go (inl h) = (Met, meet machine j x w, inr (h, refl, refl))
      go (inr h) = (Refused 32, w, inl (h, record { reply_is = refl; stays = refl }))
  total w (Commit b) s = go (cases_lt b w.bound) (cases_lt (virtual_time machine count w) b)
    where
      go : (b < w.bound) ⊎ (w.bound ≤ b) → (virtual_time machine count w < b) ⊎ (b ≤ virtual_time machine count w) → Answered w (Commit b)
      go (inl l) m = (Refused 35, w, inl (l, record { reply_is = refl; stays = refl }))
      go (inr l) (inl m) = (Refused 34, w, inr (inl (virtual_time machine count w, time_is w s, m, record { reply_is = refl; stays = refl })))
      go (inr l) (inr m) =
          let r = gather_more machine w.part w.bound (b - w.bound) w.committed in
          let e : length (commit machine b w).committed ≡ length r.0 + length w.committed = ap length r.1 ∙ length-append r.0 w.committed in
          (Committed (length r.0), commit machine b w, inr (inr (virtual_time machine count w, length r.0, time_is w s, l, m, refl, e, refl)))

module _ {S A : Type 0} (machine : Machine S A) (law : Lawful machine) (count : ℕ) (counted : HasCount machine count) where
  -- beyond the components nothing is next
  own_none : (j : ℕ) (r : Record S A) → count ≤ j → own_next machine j r ≡ None
  own_none j r l =
      let k = counted.silent j (number r.first r.done) l in
      rw (le-ltb (machine.key j (number r.first r.done)) machine.top (omega arith))

  silent_none : (j : ℕ) (w : World S A) → count ≤ j → IsSilent machine count counted w → next_of machine j (record_of (w.part j)) ≡ None
  silent_none j w l s = ap (λ (xs : List (Item A)). least_of machine j (record_of (w.part j)) xs) (s j l).pending ∙ own_none j (record_of (w.part j)) l

  abbrev Replies : World S A → Step A → World S A → Type 0
  Replies w step v = (reply : Reply) × Answers machine count w step reply v

  guarded : (b : Bool) (u w v : World S A) → v ≡ cond b u w → ((b ≡ true) × (v ≡ u)) ⊎ ((b ≡ false) × (v ≡ w))
  guarded true u w v e = inl (refl, e)
  guarded false u w v e = inr (refl, e)

  -- what happens is answered
  pub happens_answered : (w : World S A) (step : Step A) (v : World S A) → IsSilent machine count counted w → Happens machine w step v → Replies w step v
  happens_answered w (Process i) v s h = go (cases_lt i count) (next_of machine i (record_of (w.part i))) refl
    where
      stays : next_of machine i (record_of (w.part i)) ≡ None → v ≡ w
      stays n = h ∙ ap (λ (e : Option (Entry A)). process_entry machine i e w) n

      go : (i < count) ⊎ (count ≤ i) → (e : Option (Entry A)) → next_of machine i (record_of (w.part i)) ≡ e → Replies w (Process i) v
      go (inr l) e n = (Refused 30, inl (l, record { reply_is = refl; stays = stays (silent_none i w l s) }))
      go (inl l) None n = (Refused 31, inr (inl (l, n, record { reply_is = refl; stays = stays n })))
      go (inl l) (Some e) n = (Processed (entry_key e), inr (inr (e, l, n, inr (refl, h))))
  happens_answered w (RollBack i) v s h = go (cases_lt i count) (w.part i).done refl
    where
      stays : (w.part i).done ≡ [] → v ≡ w
      stays n = h ∙ ap (λ (es : List (Entry A)). undo_entry machine i es w) n

      go : (i < count) ⊎ (count ≤ i) → (es : List (Entry A)) → (w.part i).done ≡ es → Replies w (RollBack i) v
      go (inr l) es n = (Refused 30, inl (l, record { reply_is = refl; stays = stays (s i l).done }))
      go (inl l) [] n = (Refused 33, inr (inl (l, n, record { reply_is = refl; stays = stays n })))
      go (inl l) (e ∷ es) n = (RolledBack (entry_key e), inr (inr (e, es, l, n, refl, h)))
  happens_answered w (DeliverMessage j x) v s h = go (guarded (has machine x (w.part j).plus) (deliver_message machine j x w) w v h)
    where
      go : ((has machine x (w.part j).plus ≡ true) × (v ≡ deliver_message machine j x w)) ⊎ ((has machine x (w.part j).plus ≡ false) × (v ≡ w)) → Replies w (DeliverMessage j x) v
      go (inl e) = (Delivered (length (back_by_message machine x (record_of (w.part j)))), inr (e.0, refl, e.1))
      go (inr e) = (Refused 32, inl (e.0, record { reply_is = refl; stays = e.1 }))
  happens_answered w (DeliverAntimessage j x) v s h = go (guarded (has machine x (w.part j).minus) (deliver_antimessage machine j x w) w v h)
    where
      go : ((has machine x (w.part j).minus ≡ true) × (v ≡ deliver_antimessage machine j x w)) ⊎ ((has machine x (w.part j).minus ≡ false) × (v ≡ w)) → Replies w (DeliverAntimessage j x) v
      go (inl e) = (Delivered (length (back_by_antimessage machine x (record_of (w.part j)))), inr (e.0, refl, e.1))
      go (inr e) = (Refused 32, inl (e.0, record { reply_is = refl; stays = e.1 }))
  happens_answered w (Meet j x) v s h = go (guarded (can_meet machine j x w) (meet machine j x w) w v h)
    where
      go : ((can_meet machine j x w ≡ true) × (v ≡ meet machine j x w)) ⊎ ((can_meet machine j x w ≡ false) × (v ≡ w)) → Replies w (Meet j x) v
      go (inl e) = (Met, inr (e.0, refl, e.1))
      go (inr e) = (Refused 32, inl (e.0, record { reply_is = refl; stays = e.1 }))
  happens_answered w (Commit b) v s (inl h) =
      let g : ℕ = virtual_time machine count w in
      let t : IsVirtualTime machine w g = time_is machine count counted w s in
      let r = gather_more machine w.part w.bound (b - w.bound) w.committed in
      let e : length (commit machine b w).committed ≡ length r.0 + length w.committed = ap length r.1 ∙ length-append r.0 w.committed in
      (Committed (length r.0), inr (inr (g, length r.0, t, h.0.not_behind, most machine law w g b t h.0.not_ahead, refl, e, h.1)))
  happens_answered w (Commit b) v s (inr h) = go (cases_lt b w.bound) (cases_lt (virtual_time machine count w) b)
    where
      go : (b < w.bound) ⊎ (w.bound ≤ b) → (virtual_time machine count w < b) ⊎ (b ≤ virtual_time machine count w) → Replies w (Commit b) v
      go (inl l) m = (Refused 35, inl (l, record { reply_is = refl; stays = h.1 }))
      go (inr l) (inl m) = (Refused 34, inr (inl (virtual_time machine count w, time_is machine count counted w s, m, record { reply_is = refl; stays = h.1 })))
      go (inr l) (inr m) = absurd (h.0 (commit_can machine law w (virtual_time machine count w) b (time_is machine count counted w s) l m))

  reaches_runs : (steps : List (Step A)) (w v : World S A) → IsSilent machine count counted w → Reaches machine w steps v → (replies : List Reply) × Runs machine count w steps replies v
  reaches_runs [] w v s h = ([], h)
  reaches_runs (t ∷ ts) w v s h =
      let a = happens_answered w t h.0 s h.1 in
      let r = reaches_runs ts h.0 v (answer_silent machine count counted w t a.0 h.0 s a.1) h.2 in
      (a.0 ∷ r.0, (h.0, a.1, r.1))

  -- a world that steps reach without their replies is one that they reach with them
  pub reached_answered : (steps : List (Step A)) (w : World S A) → Reaches machine (start_world machine) steps w → IsReached machine count w
  reached_answered steps w h =
      let r = reaches_runs steps (start_world machine) w (λ j l. record { done = refl; pending = refl; plus = refl; minus = refl }) h in
      record { steps = steps; replies = r.0; run = r.1 }

module _ {S A : Type 0} (machine : Machine S A) where
  pub refused_stays : (count n : ℕ) (w : World S A) (step : Step A) (v : World S A) → Answers machine count w step (Refused n) v → v ≡ w
  refused_stays count n w (Process i) v (inl h) = h.1.stays
  refused_stays count n w (Process i) v (inr (inl h)) = h.2.stays
  refused_stays count n w (Process i) v (inr (inr (e, l, m, inl h))) = h.stays
  refused_stays count n w (Process i) v (inr (inr (e, l, m, inr h))) = let f : Refused n ≡ Processed (entry_key e) = h.0 in cc
  refused_stays count n w (RollBack i) v (inl h) = h.1.stays
  refused_stays count n w (RollBack i) v (inr (inl h)) = h.2.stays
  refused_stays count n w (RollBack i) v (inr (inr h)) = let f : Refused n ≡ RolledBack (entry_key h.0) = h.4 in cc
  refused_stays count n w (DeliverMessage j x) v (inl h) = h.1.stays
  refused_stays count n w (DeliverMessage j x) v (inr h) = let f : Refused n ≡ Delivered (length (back_by_message machine x (record_of (w.part j)))) = h.1 in cc
  refused_stays count n w (DeliverAntimessage j x) v (inl h) = h.1.stays
  refused_stays count n w (DeliverAntimessage j x) v (inr h) = let f : Refused n ≡ Delivered (length (back_by_antimessage machine x (record_of (w.part j)))) = h.1 in cc
  refused_stays count n w (Meet j x) v (inl h) = h.1.stays
  refused_stays count n w (Meet j x) v (inr h) = let f : Refused n ≡ Met = h.1 in cc
  refused_stays count n w (Commit b) v (inl h) = h.1.stays
  refused_stays count n w (Commit b) v (inr (inl h)) = h.3.stays
  refused_stays count n w (Commit b) v (inr (inr h)) = let f : Refused n ≡ Committed h.1 = h.5 in cc
