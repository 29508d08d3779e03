-- Deliveries and meetings keep what holds of a world.
use Rattle.std.proofs.Common.{◌≡◌, ℕ, ◌+◌, ◌<◌, ◌≤◌, ◌⊎◌, inl, inr, Bool, true, false, cond, Option, None, Some, List, [], ◌∷◌, refl, ap, sym, subst, ◌∙◌, arith, ltb}
use Rattle.std.proofs.lemmas.Bool.{ltb-true, ltb-false, leb-true}
use Rattle.virtual_time.specs.Machine.{Lawful, Machine}
use Rattle.virtual_time.specs.Bags.{AllFrom, has, hit, inputs, insert, remove, same_item, times}
use Rattle.virtual_time.specs.Entries.{Entry, Input, Item, Own}
use Rattle.virtual_time.specs.Worlds.{Part, World, put}
use Rattle.virtual_time.specs.Records.{sent, stays}
use Rattle.virtual_time.proofs.Moves.{accept, back_past, back_to, cancel, owe, pay, undo, walk_back, walk_meet, walk_minus, walk_plus, with_done}
use Rattle.virtual_time.specs.Rules.{IsOpen, MayFollow, Outside}
use Rattle.virtual_time.proofs.Counts.{times-insert, times-remove, hit_cases, hit_self, hit_not, same_item_is}
use Rattle.virtual_time.proofs.Lists.{Each-insert, Each-remove, put_same, IsSorted-insert, AllFrom-remove, IsSorted-remove}
use Rattle.virtual_time.proofs.Kept.{local_world, roll_back_kept}

module _ {S A : Type 0} (machine : Machine S A) (law : Lawful machine) where
  -- the item's key is not before the bound
  pub all_low : (g : ℕ) (x : Item A) (xs : List (Item A)) → AllFrom g xs → 0 < times machine xs x.key x.action → g ≤ x.key
  all_low g x [] p h = absurd (omega arith)
  all_low g x (y ∷ ys) p h = go (all_low g x ys p.1) (hit_cases machine law y x)
    where
      go : (0 < times machine ys x.key x.action → g ≤ x.key) → (hit machine y x.key x.action ≡ 0) ⊎ (y ≡ x) → g ≤ x.key
      go ih (inl e) = ih (omega arith)
      go ih (inr e) = subst (λ (z : Item A). g ≤ z.key) e p.0

  pub meet_kept : {off : Outside A} → (w : World S A) (j : ℕ) (x : Item A) → IsOpen machine off w → 0 < times machine (w.part j).plus x.key x.action → 0 < times machine (w.part j).minus x.key x.action → IsOpen machine off (walk_meet machine j x w)
  meet_kept {off} w j x is hp hm =
      let c : Part S A = w.part j in
      let p = is.proper j in
      local_world machine law w j (record { base = c.base; first = c.first; done = c.done; pending = c.pending; owed = c.owed; plus = remove machine x c.plus; minus = remove machine x c.minus }) is
      (record { done = p.done; pending = p.pending; sorted = p.sorted; owed_sorted = p.owed_sorted; plus = AllFrom-remove machine w.bound x c.plus p.plus; minus = AllFrom-remove machine w.bound x c.minus p.minus; owed = p.owed })
      refl refl (λ k a l. refl)
      (λ k a. let u = times-remove machine law x c.plus k a hp in let v = times-remove machine law x c.minus k a hm in omega arith)

  pub pay_kept : {off : Outside A} → (w : World S A) (j : ℕ) (x : Item A) → IsOpen machine off w → 0 < times machine (w.part j).plus x.key x.action → 0 < times machine (w.part j).owed x.key x.action → IsOpen machine off (pay machine j x w)
  pay_kept {off} w j x is hp ho =
      let c : Part S A = w.part j in
      let p = is.proper j in
      local_world machine law w j (record { base = c.base; first = c.first; done = c.done; pending = c.pending; owed = remove machine x c.owed; plus = remove machine x c.plus; minus = c.minus }) is
      (record {
        done = p.done;
        pending = p.pending;
        sorted = p.sorted;
        owed_sorted = IsSorted-remove machine x c.owed p.owed_sorted;
        plus = AllFrom-remove machine w.bound x c.plus p.plus;
        minus = p.minus;
        owed = λ k a. less k a (times-remove machine law x c.owed k a ho) (p.owed k a);
      })
      refl refl (λ k a l. refl)
      (λ k a. let u = times-remove machine law x c.plus k a hp in let v = times-remove machine law x c.owed k a ho in omega arith)
    where
      less : (k : ℕ) (a : A) → hit machine x k a + times machine (remove machine x (w.part j).owed) k a ≡ times machine (w.part j).owed k a
          → (times machine (w.part j).owed k a ≡ 0) ⊎ (times machine (w.part j).pending k a + inputs machine (w.part j).done k a ≡ 0)
          → (times machine (remove machine x (w.part j).owed) k a ≡ 0) ⊎ (times machine (w.part j).pending k a + inputs machine (w.part j).done k a ≡ 0)
      less k a e (inl h) = inl (omega arith)
      less k a e (inr h) = inr h

  pub accept_kept : {off : Outside A} → (w : World S A) (j : ℕ) (x : Item A) → IsOpen machine off w → 0 < times machine (w.part j).plus x.key x.action → times machine (w.part j).owed x.key x.action ≡ 0
      → MayFollow machine w.bound (w.part j).done x → IsOpen machine off (accept machine j x w)
  accept_kept {off} w j x is hp ho hl =
      let c : Part S A = w.part j in
      let p = is.proper j in
      local_world machine law w j (record { base = c.base; first = c.first; done = c.done; pending = insert machine x c.pending; owed = c.owed; plus = remove machine x c.plus; minus = c.minus }) is
      (record {
        done = p.done;
        pending = Each-insert machine (MayFollow machine w.bound c.done) x c.pending hl p.pending;
        sorted = IsSorted-insert machine law x c.pending p.sorted;
        owed_sorted = p.owed_sorted;
        plus = AllFrom-remove machine w.bound x c.plus p.plus;
        minus = p.minus;
        owed = λ k a. more k a (times-insert machine law x c.pending k a) (p.owed k a) (hit_cases machine law x (record { key = k; action = a }));
      })
      refl refl (λ k a l. refl)
      (λ k a. let u = times-remove machine law x c.plus k a hp in let v = times-insert machine law x c.pending k a in omega arith)
    where
      more : (k : ℕ) (a : A) → times machine (insert machine x (w.part j).pending) k a ≡ hit machine x k a + times machine (w.part j).pending k a
          → (times machine (w.part j).owed k a ≡ 0) ⊎ (times machine (w.part j).pending k a + inputs machine (w.part j).done k a ≡ 0)
          → (hit machine x k a ≡ 0) ⊎ (x ≡ record { key = k; action = a })
          → (times machine (w.part j).owed k a ≡ 0) ⊎ (times machine (insert machine x (w.part j).pending) k a + inputs machine (w.part j).done k a ≡ 0)
      more k a e (inl h) z = inl h
      more k a e (inr h) (inl z) = inr (omega arith)
      more k a e (inr h) (inr z) = inl (subst (λ (y : Item A). times machine (w.part j).owed y.key y.action ≡ 0) z ho)

  pub cancel_kept : {off : Outside A} → (w : World S A) (j : ℕ) (x : Item A) → IsOpen machine off w → 0 < times machine (w.part j).minus x.key x.action → 0 < times machine (w.part j).pending x.key x.action → IsOpen machine off (cancel machine j x w)
  cancel_kept {off} w j x is hm hp =
      let c : Part S A = w.part j in
      let p = is.proper j in
      local_world machine law w j (record { base = c.base; first = c.first; done = c.done; pending = remove machine x c.pending; owed = c.owed; plus = c.plus; minus = remove machine x c.minus }) is
      (record {
        done = p.done;
        pending = Each-remove machine (MayFollow machine w.bound c.done) x c.pending p.pending;
        sorted = IsSorted-remove machine x c.pending p.sorted;
        owed_sorted = p.owed_sorted;
        plus = p.plus;
        minus = AllFrom-remove machine w.bound x c.minus p.minus;
        owed = λ k a. less k a (times-remove machine law x c.pending k a hp) (p.owed k a);
      })
      refl refl (λ k a l. refl)
      (λ k a. let u = times-remove machine law x c.minus k a hm in let v = times-remove machine law x c.pending k a hp in omega arith)
    where
      less : (k : ℕ) (a : A) → hit machine x k a + times machine (remove machine x (w.part j).pending) k a ≡ times machine (w.part j).pending k a
          → (times machine (w.part j).owed k a ≡ 0) ⊎ (times machine (w.part j).pending k a + inputs machine (w.part j).done k a ≡ 0)
          → (times machine (w.part j).owed k a ≡ 0) ⊎ (times machine (remove machine x (w.part j).pending) k a + inputs machine (w.part j).done k a ≡ 0)
      less k a e (inl h) = inl h
      less k a e (inr h) = inr (omega arith)

  pub owe_kept : {off : Outside A} → (w : World S A) (j : ℕ) (x : Item A) → IsOpen machine off w → 0 < times machine (w.part j).minus x.key x.action
      → times machine (w.part j).pending x.key x.action ≡ 0 → inputs machine (w.part j).done x.key x.action ≡ 0 → IsOpen machine off (owe machine j x w)
  owe_kept {off} w j x is hm hp hi =
      let c : Part S A = w.part j in
      let p = is.proper j in
      local_world machine law w j (record { base = c.base; first = c.first; done = c.done; pending = c.pending; owed = insert machine x c.owed; plus = c.plus; minus = remove machine x c.minus }) is
      (record { done = p.done; pending = p.pending; sorted = p.sorted; owed_sorted = IsSorted-insert machine law x c.owed p.owed_sorted; plus = p.plus; minus = AllFrom-remove machine w.bound x c.minus p.minus; owed = λ k a. more k a (times-insert machine law x c.owed k a) (p.owed k a) (hit_cases machine law x (record { key = k; action = a })) })
      refl refl (λ k a l. refl)
      (λ k a. let u = times-remove machine law x c.minus k a hm in let v = times-insert machine law x c.owed k a in omega arith)
    where
      more : (k : ℕ) (a : A) → times machine (insert machine x (w.part j).owed) k a ≡ hit machine x k a + times machine (w.part j).owed k a
          → (times machine (w.part j).owed k a ≡ 0) ⊎ (times machine (w.part j).pending k a + inputs machine (w.part j).done k a ≡ 0)
          → (hit machine x k a ≡ 0) ⊎ (x ≡ record { key = k; action = a })
          → (times machine (insert machine x (w.part j).owed) k a ≡ 0) ⊎ (times machine (w.part j).pending k a + inputs machine (w.part j).done k a ≡ 0)
      more k a e (inr h) z = inr h
      more k a e (inl h) (inl z) = inl (omega arith)
      more k a e (inl h) (inr z) = inr (subst (λ (y : Item A). times machine (w.part j).pending y.key y.action + inputs machine (w.part j).done y.key y.action ≡ 0) z (omega arith))

  -- what a roll-back leaves of the component
  pub record Back (w v : World S A) (i : ℕ) : Type 0 where
    pub bound : v.bound ≡ w.bound
    pub plus : (v.part i).plus ≡ (w.part i).plus
    pub minus : (v.part i).minus ≡ (w.part i).minus
    pub owed : (v.part i).owed ≡ (w.part i).owed

  pub sent_self : (i k : ℕ) (o : Option A) (xs : List (Item A)) → sent machine i k o i xs ≡ xs
  sent_self i k None xs = refl
  sent_self i k (Some a) xs = rw (law.others i a)

  pub undo_back : (i : ℕ) (es : List (Entry A)) (w : World S A) → Back w (undo machine i es w) i
  undo_back i [] w = record { bound = refl; plus = refl; minus = refl; owed = refl }
  undo_back i (Own k o ∷ es) w =
      let c' : Part S A = with_done (w.part i) es (w.part i).pending in
      let same = put_same i c' w.part in
      record {
        bound = refl;
        plus = ap (λ (c : Part S A). c.plus) same;
        minus = sent_self i k o (put i c' w.part i).minus ∙ ap (λ (c : Part S A). c.minus) same;
        owed = ap (λ (c : Part S A). c.owed) same;
      }
  undo_back i (Input x ∷ es) w =
      let c' : Part S A = with_done (w.part i) es (insert machine x (w.part i).pending) in
      let same = put_same i c' w.part in
      record { bound = refl; plus = ap (λ (c : Part S A). c.plus) same; minus = ap (λ (c : Part S A). c.minus) same; owed = ap (λ (c : Part S A). c.owed) same }

  pub undo_done : (i : ℕ) (e : Entry A) (es : List (Entry A)) (w : World S A) → ((undo machine i (e ∷ es) w).part i).done ≡ es
  undo_done i (Own k o) es w = ap (λ (c : Part S A). c.done) (put_same i (with_done (w.part i) es (w.part i).pending) w.part)
  undo_done i (Input x) es w = ap (λ (c : Part S A). c.done) (put_same i (with_done (w.part i) es (insert machine x (w.part i).pending)) w.part)

  pub roll_back_done : (i : ℕ) (e : Entry A) (es : List (Entry A)) (w : World S A) → (w.part i).done ≡ e ∷ es → ((walk_back machine i w).part i).done ≡ es
  roll_back_done i e es w h = subst (λ (fs : List (Entry A)). ((undo machine i fs w).part i).done ≡ es) (sym h) (undo_done i e es w)

  pub roll_back_back : (i : ℕ) (w : World S A) → Back w (walk_back machine i w) i
  roll_back_back i w = undo_back i (w.part i).done w

  pub Back-then : (i : ℕ) (u v w : World S A) → Back u v i → Back v w i → Back u w i
  Back-then i u v w p q = record { bound = q.bound ∙ p.bound; plus = q.plus ∙ p.plus; minus = q.minus ∙ p.minus; owed = q.owed ∙ p.owed }

  pub stays_follows : (g : ℕ) (x : Item A) (e : Entry A) (es : List (Entry A)) → stays machine x e ≡ true → MayFollow machine g (e ∷ es) x
  stays_follows g x (Own k o) es h = leb-true k x.key h
  stays_follows g x (Input y) es h = h

  pub back_past_kept : {off : Outside A} → (i : ℕ) (x : Item A) (es : List (Entry A)) (w : World S A) → (w.part i).done ≡ es → IsOpen machine off w → w.bound ≤ x.key
      → IsOpen machine off (back_past machine i x es w) × Back w (back_past machine i x es w) i × MayFollow machine (back_past machine i x es w).bound ((back_past machine i x es w).part i).done x
  back_past_kept {off} i x [] w e is low = (is, record { bound = refl; plus = refl; minus = refl; owed = refl }, rw e low)
  back_past_kept {off} i x (f ∷ es) w e is low =
      let b = roll_back_back i w in
      go b (back_past_kept i x es (walk_back machine i w) (roll_back_done i f es w e) (roll_back_kept machine law i w is) (rw b.bound low)) (stays machine x f) refl
    where
      go : Back w (walk_back machine i w) i
          → IsOpen machine off (back_past machine i x es (walk_back machine i w)) × Back (walk_back machine i w) (back_past machine i x es (walk_back machine i w)) i × MayFollow machine (back_past machine i x es (walk_back machine i w)).bound ((back_past machine i x es (walk_back machine i w)).part i).done x
          → (b : Bool) → stays machine x f ≡ b
          → IsOpen machine off (back_past machine i x (f ∷ es) w) × Back w (back_past machine i x (f ∷ es) w) i × MayFollow machine (back_past machine i x (f ∷ es) w).bound ((back_past machine i x (f ∷ es) w).part i).done x
      go b r false h = rw h (r.0, Back-then i w (walk_back machine i w) (back_past machine i x es (walk_back machine i w)) b r.1, r.2)
      go b r true h = rw h (is, record { bound = refl; plus = refl; minus = refl; owed = refl }, rw e (stays_follows w.bound x f es h))

  pub roll_back_pending : (i : ℕ) (x : Item A) (es : List (Entry A)) (w : World S A) → (w.part i).done ≡ Input x ∷ es → ((walk_back machine i w).part i).pending ≡ insert machine x (w.part i).pending
  roll_back_pending i x es w h =
      subst (λ (fs : List (Entry A)). ((undo machine i fs w).part i).pending ≡ insert machine x (w.part i).pending) (sym h)
      (ap (λ (c : Part S A). c.pending) (put_same i (with_done (w.part i) es (insert machine x (w.part i).pending)) w.part))

  pub back_to_kept : {off : Outside A} → (i : ℕ) (x : Item A) (es : List (Entry A)) (w : World S A) → (w.part i).done ≡ es → IsOpen machine off w → 0 < inputs machine es x.key x.action
      → IsOpen machine off (back_to machine i x es w) × Back w (back_to machine i x es w) i × (0 < times machine ((back_to machine i x es w).part i).pending x.key x.action)
  back_to_kept {off} i x [] w e is some = absurd (omega arith)
  back_to_kept {off} i x (Own k o ∷ es) w e is some =
      let b = roll_back_back i w in
      let r = back_to_kept i x es (walk_back machine i w) (roll_back_done i (Own k o) es w e) (roll_back_kept machine law i w is) some in
      (r.0, Back-then i w (walk_back machine i w) (back_to machine i x es (walk_back machine i w)) b r.1, r.2)
  back_to_kept {off} i x (Input y ∷ es) w e is some =
      go (roll_back_back i w) (roll_back_kept machine law i w is) (back_to_kept i x es (walk_back machine i w) (roll_back_done i (Input y) es w e) (roll_back_kept machine law i w is)) (same_item machine y x) refl
    where
      go : Back w (walk_back machine i w) i → IsOpen machine off (walk_back machine i w)
          → (0 < inputs machine es x.key x.action → IsOpen machine off (back_to machine i x es (walk_back machine i w)) × Back (walk_back machine i w) (back_to machine i x es (walk_back machine i w)) i × (0 < times machine ((back_to machine i x es (walk_back machine i w)).part i).pending x.key x.action))
          → (b : Bool) → same_item machine y x ≡ b
          → IsOpen machine off (back_to machine i x (Input y ∷ es) w) × Back w (back_to machine i x (Input y ∷ es) w) i × (0 < times machine ((back_to machine i x (Input y ∷ es) w).part i).pending x.key x.action)
      go b k ih true h =
          let eq : times machine ((walk_back machine i w).part i).pending x.key x.action ≡ times machine (insert machine y (w.part i).pending) x.key x.action = ap (λ (xs : List (Item A)). times machine xs x.key x.action) (roll_back_pending i y es w e) in
          let t = times-insert machine law y (w.part i).pending x.key x.action in
          let u : hit machine y x.key x.action ≡ 1 = subst (λ (z : Item A). hit machine z x.key x.action ≡ 1) (sym (same_item_is machine law y x h)) (hit_self machine law x) in
          rw h (k, b, omega arith)
      go b k ih false h =
          let u : hit machine y x.key x.action ≡ 0 = hit_not machine law y x h in
          let r = ih (omega arith) in
          rw h (r.0, Back-then i w (walk_back machine i w) (back_to machine i x es (walk_back machine i w)) b r.1, r.2)

  pub deliver_plus_kept : {off : Outside A} → (w : World S A) (j : ℕ) (x : Item A) → IsOpen machine off w → 0 < times machine (w.part j).plus x.key x.action → IsOpen machine off (walk_plus machine j x w)
  deliver_plus_kept {off} w j x is hp = go (has machine x (w.part j).owed) refl
    where
      go : (b : Bool) → has machine x (w.part j).owed ≡ b → IsOpen machine off (walk_plus machine j x w)
      go true h = rw h (pay_kept w j x is hp (ltb-true 0 (times machine (w.part j).owed x.key x.action) h))
      go false h =
          let zero_owed = ltb-false 0 (times machine (w.part j).owed x.key x.action) h in
          let r = back_past_kept j x (w.part j).done w refl is (all_low w.bound x (w.part j).plus (is.proper j).plus hp) in
          let v : World S A = back_past machine j x (w.part j).done w in
          let p : times machine (v.part j).plus x.key x.action ≡ times machine (w.part j).plus x.key x.action = ap (λ (xs : List (Item A)). times machine xs x.key x.action) r.1.plus in
          let o : times machine (v.part j).owed x.key x.action ≡ times machine (w.part j).owed x.key x.action = ap (λ (xs : List (Item A)). times machine xs x.key x.action) r.1.owed in
          rw h (accept_kept v j x r.0 (omega arith) (omega arith) r.2)

  pub deliver_minus_kept : {off : Outside A} → (w : World S A) (j : ℕ) (x : Item A) → IsOpen machine off w → 0 < times machine (w.part j).minus x.key x.action → IsOpen machine off (walk_minus machine j x w)
  deliver_minus_kept {off} w j x is hm = go (has machine x (w.part j).pending) refl
    where
      rest : (b : Bool) → times machine (w.part j).pending x.key x.action ≡ 0 → ltb 0 (inputs machine (w.part j).done x.key x.action) ≡ b
          → IsOpen machine off (cond b (cancel machine j x (back_to machine j x (w.part j).done w)) (owe machine j x w))
      rest true z h =
          let r = back_to_kept j x (w.part j).done w refl is (ltb-true 0 (inputs machine (w.part j).done x.key x.action) h) in
          let v : World S A = back_to machine j x (w.part j).done w in
          let p : times machine (v.part j).minus x.key x.action ≡ times machine (w.part j).minus x.key x.action = ap (λ (xs : List (Item A)). times machine xs x.key x.action) r.1.minus in
          cancel_kept v j x r.0 (omega arith) r.2
      rest false z h = let n = ltb-false 0 (inputs machine (w.part j).done x.key x.action) h in owe_kept w j x is hm z (omega arith)

      go : (b : Bool) → has machine x (w.part j).pending ≡ b → IsOpen machine off (walk_minus machine j x w)
      go true h = rw h (cancel_kept w j x is hm (ltb-true 0 (times machine (w.part j).pending x.key x.action) h))
      go false h = let n = ltb-false 0 (times machine (w.part j).pending x.key x.action) h in rw h (rest (ltb 0 (inputs machine (w.part j).done x.key x.action)) (omega arith) refl)
