-- Process, RollBack and the meetings of what was sent give the same world.
use Rattle.std.proofs.Common.{◌≡◌, ℕ, ◌<◌, ◌==◌, ◌&&◌, ◌||◌, ◌⊎◌, inl, inr, Bool, true, false, cond, Option, None, Some, List, [], ◌∷◌, refl, ap, sym, subst, ◌∙◌, arith, ltb}
use Rattle.std.proofs.lemmas.Bool.{lt-ltb, le-ltb, eq-eqb, ne_eqb, and_from, cases_eq, cases_Bool}
use Rattle.virtual_time.specs.Machine.{Lawful, Machine}
use Rattle.virtual_time.specs.Bags.{AllFrom, Each, IsSorted, comes_first, has, insert, remove, same_item, times}
use Rattle.virtual_time.specs.Entries.{Entry, Input, Item, Own, number, replay}
use Rattle.virtual_time.specs.Worlds.{can_meet, Part, World, put, with_parts}
use Rattle.virtual_time.specs.Records.{sent}
use Rattle.virtual_time.proofs.Moves.{entry_from, next_own, own_entry, process_from, process_input, process_own, undo, walk_back, walk_meets, walk_next, walk_on, walk_sent, walk_try, with_done, with_minus, with_plus}
use Rattle.virtual_time.specs.Inverses.{AreDistinct, AreReceivers, AreSent, is_in}
use Rattle.virtual_time.specs.Rules.{IsDone, IsWorld, MayFollow}
use Rattle.virtual_time.proofs.Counts.{hit_self, same_item_self, same_item_is, times-insert}
use Rattle.virtual_time.proofs.Lists.{insert_front, first_total, put_same, put_other}
use Rattle.virtual_time.proofs.Messages.{sent_self}

module _ {S A : Type 0} (machine : Machine S A) (law : Lawful machine) where
  -- a message and its antimessage are both in flight to j
  pub spread : ℕ → ℕ → Option A → ℕ → Part S A → Part S A
  spread i k o j c = record { base = c.base; first = c.first; done = c.done; pending = c.pending; owed = c.owed; plus = sent machine i k o j c.plus; minus = sent machine i k o j c.minus }

  pub spread_self : (i k : ℕ) (o : Option A) (c : Part S A) → spread i k o i c ≡ c
  unfolding spread
  spread_self i k o c =
      λ v. record { base = c.base; first = c.first; done = c.done; pending = c.pending; owed = c.owed; plus = sent_self machine law i k o c.plus v; minus = sent_self machine law i k o c.minus v }

  -- an own turn that was taken back
  pub back_own : (i k : ℕ) (o : Option A) (w : World S A) → walk_back machine i (process_own machine i k o w) ≡ with_parts w (λ j. spread i k o j (w.part j))
  unfolding spread
  back_own i k o w =
      ap (λ (es : List (Entry A)). undo machine i es w1) was ∙ (λ v. record { part = λ j. each j v; bound = w.bound; committed = w.committed })
    where
      w1 : World S A
      w1 = process_own machine i k o w

      mine : Part S A
      mine = with_done (w.part i) (Own k o ∷ (w.part i).done) (w.part i).pending

      was : (w1.part i).done ≡ Own k o ∷ (w.part i).done
      was = ap (λ (c : Part S A). c.done) (put_same i mine w.part)

      f : ℕ → Part S A → Part S A
      f j c = with_minus c (sent machine i k o j c.minus)

      g : ℕ → Part S A → Part S A
      g j c = with_plus c (sent machine i k o j c.plus)

      each : (j : ℕ) → f j (put i (with_done (w1.part i) (w.part i).done (w1.part i).pending) w1.part j) ≡ spread i k o j (w.part j)
      each j = go (cases_eq j i)
        where
          here : f i (put i (with_done (w1.part i) (w.part i).done (w1.part i).pending) w1.part i) ≡ spread i k o i (w.part i)
          here =
              ap (f i) (put_same i (with_done (w1.part i) (w.part i).done (w1.part i).pending) w1.part)
              ∙ ap (λ (d : Part S A). f i (with_done (g i d) (w.part i).done d.pending)) (put_same i mine w.part)

          go : (j ≡ i) ⊎ (j ≡ i → ⊥) → f j (put i (with_done (w1.part i) (w.part i).done (w1.part i).pending) w1.part j) ≡ spread i k o j (w.part j)
          go (inl e) = subst (λ (l : ℕ). f l (put i (with_done (w1.part i) (w.part i).done (w1.part i).pending) w1.part l) ≡ spread i k o l (w.part l)) (sym e) here
          go (inr ne) =
              ap (f j) (put_other i (with_done (w1.part i) (w.part i).done (w1.part i).pending) w1.part j ne)
              ∙ ap (λ (d : Part S A). f j (g j d)) (put_other i mine w.part j ne)

  pub has_insert : (x : Item A) (xs : List (Item A)) → has machine x (insert machine x xs) ≡ true
  has_insert x xs =
      let h = hit_self machine law x in
      let t = times-insert machine law x xs x.key x.action in
      lt-ltb 0 (times machine (insert machine x xs) x.key x.action) (omega arith)

  pub first_self : (x : Item A) → comes_first machine x x ≡ true
  first_self x = go (cases_Bool (comes_first machine x x))
    where
      go : (comes_first machine x x ≡ true) ⊎ (comes_first machine x x ≡ false) → comes_first machine x x ≡ true
      go (inl h) = h
      go (inr h) = first_total machine law x x h

  pub remove_insert : (x : Item A) (xs : List (Item A)) → remove machine x (insert machine x xs) ≡ xs
  remove_insert x [] = rw (same_item_self machine law x)
  remove_insert x (y ∷ ys) = go (comes_first machine x y) refl (remove_insert x ys) (cases_Bool (same_item machine y x))
    where
      go : (b : Bool) → comes_first machine x y ≡ b → remove machine x (insert machine x ys) ≡ ys → (same_item machine y x ≡ true) ⊎ (same_item machine y x ≡ false) → remove machine x (insert machine x (y ∷ ys)) ≡ y ∷ ys
      go true h ih s = rw (h, same_item_self machine law x)
      go false h ih (inl s) =
          let t : comes_first machine x y ≡ true = subst (λ (z : Item A). comes_first machine x z ≡ true) (sym (same_item_is machine law y x s)) (first_self x) in
          let f : true ≡ false = sym t ∙ h in
          cc
      go false h ih (inr s) = rw (h, s) (ap (λ (zs : List (Item A)). y ∷ zs) ih)

  -- the messages to these components are in flight with their antimessages
  pub both_ways : ℕ → ℕ → A → List ℕ → World S A → World S A
  both_ways i k a js w = with_parts w (λ l. cond (is_in l js) (spread i k (Some a) l (w.part l)) (w.part l))

  pub both_none : (i k : ℕ) (a : A) (w : World S A) → both_ways i k a [] w ≡ w
  unfolding both_ways
  both_none i k a w = refl

  pub can_one : (i k : ℕ) (a : A) (j : ℕ) (js : List ℕ) (w : World S A) → machine.receives i a j ≡ true
      → can_meet machine j (record { key = k; action = a }) (both_ways i k a (j ∷ js) w) ≡ true
  unfolding both_ways spread
  can_one i k a j js w gets = ap (λ (c : Part S A). has machine x c.plus && has machine x c.minus) there ∙ and_from (has machine x full.plus) (has machine x full.minus) (has_insert x (w.part j).plus) (has_insert x (w.part j).minus)
    where
      x : Item A
      x = record { key = k; action = a }

      full : Part S A
      full = record { base = (w.part j).base; first = (w.part j).first; done = (w.part j).done; pending = (w.part j).pending; owed = (w.part j).owed; plus = insert machine x (w.part j).plus; minus = insert machine x (w.part j).minus }

      there : (both_ways i k a (j ∷ js) w).part j ≡ full
      there = rw (eq-eqb j j refl, gets)

  pub meet_one : (i k : ℕ) (a : A) (j : ℕ) (js : List ℕ) (w : World S A) → is_in j js ≡ false → machine.receives i a j ≡ true
      → walk_try machine j (record { key = k; action = a }) (both_ways i k a (j ∷ js) w) ≡ both_ways i k a js w
  unfolding both_ways spread
  meet_one i k a j js w apart gets =
      rw guard (λ v. record { part = λ l. each l (cases_eq l j) v; bound = w.bound; committed = w.committed })
    where
      x : Item A
      x = record { key = k; action = a }

      before : World S A
      before = both_ways i k a (j ∷ js) w

      full : Part S A
      full = record { base = (w.part j).base; first = (w.part j).first; done = (w.part j).done; pending = (w.part j).pending; owed = (w.part j).owed; plus = insert machine x (w.part j).plus; minus = insert machine x (w.part j).minus }

      there : before.part j ≡ full
      there = rw (eq-eqb j j refl, gets)

      guard : (has machine x (before.part j).plus && has machine x (before.part j).minus) ≡ true
      guard = ap (λ (c : Part S A). has machine x c.plus && has machine x c.minus) there ∙ and_from (has machine x full.plus) (has machine x full.minus) (has_insert x (w.part j).plus) (has_insert x (w.part j).minus)

      less : Part S A → Part S A
      less c = record { base = c.base; first = c.first; done = c.done; pending = c.pending; owed = c.owed; plus = remove machine x c.plus; minus = remove machine x c.minus }

      each : (l : ℕ) → (l ≡ j) ⊎ (l ≡ j → ⊥) → put j (less (before.part j)) before.part l ≡ cond (is_in l js) (spread i k (Some a) l (w.part l)) (w.part l)
      each l (inl e) = subst (λ (m : ℕ). put j (less (before.part j)) before.part m ≡ cond (is_in m js) (spread i k (Some a) m (w.part m)) (w.part m)) (sym e)
          (put_same j (less (before.part j)) before.part ∙ ap less there
          ∙ (λ v. record { base = (w.part j).base; first = (w.part j).first; done = (w.part j).done; pending = (w.part j).pending; owed = (w.part j).owed; plus = remove_insert x (w.part j).plus v; minus = remove_insert x (w.part j).minus v })
          ∙ rw apart)
      each l (inr ne) = put_other j (less (before.part j)) before.part l ne ∙ rw (ne_eqb l j ne)

  pub meet_each : (i k : ℕ) (a : A) (js : List ℕ) (w : World S A) → AreDistinct js → ((j : ℕ) → is_in j js ≡ true → machine.receives i a j ≡ true)
      → walk_meets machine js (record { key = k; action = a }) (both_ways i k a js w) ≡ w
  unfolding both_ways
  meet_each i k a [] w d all = refl
  meet_each i k a (j ∷ js) w d all =
      ap (walk_meets machine js (record { key = k; action = a })) (meet_one i k a j js w d.0 (all j (head (eq-eqb j j refl))))
      ∙ meet_each i k a js w d.1 (λ l h. all l (tail l (l == j) h))
    where
      head : (j == j) ≡ true → is_in j (j ∷ js) ≡ true
      head e = rw e

      tail : (l : ℕ) (b : Bool) → is_in l js ≡ true → (b || is_in l js) ≡ true
      tail l true h = refl
      tail l false h = h

  pub spread_both : (i k : ℕ) (a : A) (js : List ℕ) (w : World S A) → AreReceivers machine i a js
      → with_parts w (λ j. spread i k (Some a) j (w.part j)) ≡ both_ways i k a js w
  unfolding spread both_ways
  spread_both i k a js w are = λ v. record { part = λ l. each l v; bound = w.bound; committed = w.committed }
    where
      each : (l : ℕ) → spread i k (Some a) l (w.part l) ≡ cond (is_in l js) (spread i k (Some a) l (w.part l)) (w.part l)
      each l = rw (are.all l) (go (machine.receives i a l))
        where
          go : (b : Bool) → ◌≡◌ {A = Part S A}
              (record { base = (w.part l).base; first = (w.part l).first; done = (w.part l).done; pending = (w.part l).pending; owed = (w.part l).owed; plus = cond b (insert machine (record { key = k; action = a }) (w.part l).plus) (w.part l).plus; minus = cond b (insert machine (record { key = k; action = a }) (w.part l).minus) (w.part l).minus })
              (cond b (record { base = (w.part l).base; first = (w.part l).first; done = (w.part l).done; pending = (w.part l).pending; owed = (w.part l).owed; plus = cond b (insert machine (record { key = k; action = a }) (w.part l).plus) (w.part l).plus; minus = cond b (insert machine (record { key = k; action = a }) (w.part l).minus) (w.part l).minus }) (w.part l))
          go true = refl
          go false = refl

  pub meet_spread : (i k : ℕ) (a : A) (js : List ℕ) (w : World S A) → AreReceivers machine i a js
      → walk_meets machine js (record { key = k; action = a }) (with_parts w (λ j. spread i k (Some a) j (w.part j))) ≡ w
  meet_spread i k a js w are = ap (walk_meets machine js (record { key = k; action = a })) (spread_both i k a js w are) ∙ meet_each i k a js w are.distinct (λ j h. sym (are.all j) ∙ h)

  -- an own turn, taken back, and its messages met in any order, leave the world as it was
  pub inverse_own : (i k : ℕ) (a : A) (js : List ℕ) (w : World S A) → AreReceivers machine i a js
      → walk_meets machine js (record { key = k; action = a }) (walk_back machine i (process_own machine i k (Some a) w)) ≡ w
  inverse_own i k a js w are = ap (walk_meets machine js (record { key = k; action = a })) (back_own i k (Some a) w) ∙ meet_spread i k a js w are

  pub inverse_idle : (i k : ℕ) (w : World S A) → walk_back machine i (process_own machine i k None w) ≡ w
  unfolding spread
  inverse_idle i k w = back_own i k None w

  pub inverse_input : (i : ℕ) (x : Item A) (rest : List (Item A)) (w : World S A) → (w.part i).pending ≡ x ∷ rest → Each (λ y. comes_first machine x y ≡ true) rest
      → walk_back machine i (process_input i x rest w) ≡ w
  inverse_input i x rest w e least =
      ap (λ (es : List (Entry A)). undo machine i es w1) was ∙ (λ v. record { part = λ j. each j (cases_eq j i) v; bound = w.bound; committed = w.committed })
    where
      mine : Part S A
      mine = with_done (w.part i) (Input x ∷ (w.part i).done) rest

      w1 : World S A
      w1 = process_input i x rest w

      was : (w1.part i).done ≡ Input x ∷ (w.part i).done
      was = ap (λ (c : Part S A). c.done) (put_same i mine w.part)

      back : Part S A → Part S A
      back c = with_done c (w.part i).done (insert machine x c.pending)

      each : (j : ℕ) → (j ≡ i) ⊎ (j ≡ i → ⊥) → put i (back (w1.part i)) w1.part j ≡ w.part j
      each j (inl f) = subst (λ (l : ℕ). put i (back (w1.part i)) w1.part l ≡ w.part l) (sym f)
          (put_same i (back (w1.part i)) w1.part ∙ ap back (put_same i mine w.part)
          ∙ ap (with_done (w.part i) (w.part i).done) (insert_front machine x rest least ∙ sym e))
      each j (inr ne) = put_other i (back (w1.part i)) w1.part j ne ∙ put_other i mine w.part j ne

  pub inverse_at : (i k : ℕ) (o : Option A) (js : List ℕ) (w : World S A) → AreSent machine i (Own k o) js → walk_sent machine (Own k o) js (walk_back machine i (process_own machine i k o w)) ≡ w
  inverse_at i k None js w are = inverse_idle i k w
  inverse_at i k (Some a) js w are = inverse_own i k a js w are

  pub inverse_next_own : (i : ℕ) (e : Entry A) (js : List ℕ) (w : World S A) → own_entry machine i w ≡ Some e → AreSent machine i e js
      → walk_sent machine e js (walk_back machine i (next_own machine i w)) ≡ w
  inverse_next_own i e js w is are = go (ltb (machine.key i m) machine.top) refl
    where
      m : ℕ
      m = number (w.part i).first (w.part i).done

      own : Entry A
      own = Own (machine.key i m) (machine.outcome i m (replay machine i (w.part i).base (w.part i).done))

      go : (b : Bool) → ltb (machine.key i m) machine.top ≡ b → walk_sent machine e js (walk_back machine i (next_own machine i w)) ≡ w
      go true h =
          let f : Some own ≡ Some e = rw h at is in
          let same : own ≡ e = cc in
          rw (h, ← same) (inverse_at i (machine.key i m) (machine.outcome i m (replay machine i (w.part i).base (w.part i).done)) js w (subst (λ (d : Entry A). AreSent machine i d js) (sym same) are))
      go false h = let f : ◌≡◌ {A = Option (Entry A)} None (Some e) = rw h at is in cc

  pub inverse_from : (i : ℕ) (e : Entry A) (js : List ℕ) (xs : List (Item A)) (w : World S A) → (w.part i).pending ≡ xs → IsSorted machine xs → entry_from machine i xs w ≡ Some e → AreSent machine i e js
      → walk_sent machine e js (walk_back machine i (process_from machine i xs w)) ≡ w
  inverse_from i e js [] w p so is are = inverse_next_own i e js w is are
  inverse_from i e js (x ∷ xs) w p so is are = go (ltb x.key (machine.key i (number (w.part i).first (w.part i).done))) refl
    where
      go : (b : Bool) → ltb x.key (machine.key i (number (w.part i).first (w.part i).done)) ≡ b → walk_sent machine e js (walk_back machine i (process_from machine i (x ∷ xs) w)) ≡ w
      go true h =
          let f : Some (Input x) ≡ Some e = rw h at is in
          let same : Input x ≡ e = cc in
          rw (h, ← same) (inverse_input i x xs w p so.0)
      go false h =
          let f : own_entry machine i w ≡ Some e = rw h at is in
          rw h (inverse_next_own i e js w f are)

  -- a walk_on, taken back, and its messages met, leave the world as it was
  pub inverse : (i : ℕ) (e : Entry A) (js : List ℕ) (w : World S A) → IsWorld machine w → walk_next machine i w ≡ Some e → AreSent machine i e js
      → walk_sent machine e js (walk_back machine i (walk_on machine i w)) ≡ w
  inverse i e js w is at are = inverse_from i e js (w.part i).pending w refl (is.proper i).sorted at are

  -- the other way round: what was rolled back is processed again
  pub past_pending : (i : ℕ) (w : World S A) (xs : List (Item A)) → AllFrom (machine.key i (number (w.part i).first (w.part i).done)) xs → process_from machine i xs w ≡ next_own machine i w
  past_pending i w [] p = refl
  past_pending i w (x ∷ xs) p = rw (le-ltb x.key (machine.key i (number (w.part i).first (w.part i).done)) p.0)

  pub next_is_own : (i : ℕ) (w : World S A) (d : Part S A) → w.part i ≡ d → machine.key i (number d.first d.done) < machine.top → AllFrom (machine.key i (number d.first d.done)) d.pending
      → walk_on machine i w ≡ process_own machine i (machine.key i (number d.first d.done)) (machine.outcome i (number d.first d.done) (replay machine i d.base d.done)) w
  next_is_own i w d e =
      subst (λ (c : Part S A). machine.key i (number c.first c.done) < machine.top → AllFrom (machine.key i (number c.first c.done)) c.pending
      → walk_on machine i w ≡ process_own machine i (machine.key i (number c.first c.done)) (machine.outcome i (number c.first c.done) (replay machine i c.base c.done)) w) e
      (λ l p. past_pending i w (w.part i).pending p ∙ rw (lt-ltb (machine.key i (number (w.part i).first (w.part i).done)) machine.top l))

  pub next_is_input : (i : ℕ) (w : World S A) (d : Part S A) (x : Item A) (rest : List (Item A)) → w.part i ≡ d → d.pending ≡ x ∷ rest → x.key < machine.key i (number d.first d.done)
      → walk_on machine i w ≡ process_input i x rest w
  next_is_input i w d x rest e =
      subst (λ (c : Part S A). c.pending ≡ x ∷ rest → x.key < machine.key i (number c.first c.done) → walk_on machine i w ≡ process_input i x rest w) e
      (λ q l. ap (λ (xs : List (Item A)). process_from machine i xs w) q ∙ rw (lt-ltb x.key (machine.key i (number (w.part i).first (w.part i).done)) l))

  pub again_own : (i k : ℕ) (o : Option A) (es : List (Entry A)) (w : World S A) → (w.part i).done ≡ Own k o ∷ es
      → process_own machine i k o (undo machine i (Own k o ∷ es) w) ≡ with_parts w (λ j. spread i k o j (w.part j))
  unfolding spread
  again_own i k o es w e = λ v. record { part = λ j. each j (cases_eq j i) v; bound = w.bound; committed = w.committed }
    where
      mine : Part S A
      mine = with_done (w.part i) es (w.part i).pending

      w2 : World S A
      w2 = undo machine i (Own k o ∷ es) w

      f : ℕ → Part S A → Part S A
      f j c = with_minus c (sent machine i k o j c.minus)

      g : ℕ → Part S A → Part S A
      g j c = with_plus c (sent machine i k o j c.plus)

      more : Part S A → Part S A
      more c = with_done c (Own k o ∷ c.done) c.pending

      each : (j : ℕ) → (j ≡ i) ⊎ (j ≡ i → ⊥) → g j (put i (more (w2.part i)) w2.part j) ≡ spread i k o j (w.part j)
      each j (inl h) = subst (λ (l : ℕ). g l (put i (more (w2.part i)) w2.part l) ≡ spread i k o l (w.part l)) (sym h)
          (ap (g i) (put_same i (more (w2.part i)) w2.part)
          ∙ ap (λ (d : Part S A). g i (more (f i d))) (put_same i mine w.part)
          ∙ ap (λ (fs : List (Entry A)). g i (f i (with_done (w.part i) fs (w.part i).pending))) (sym e))
      each j (inr ne) = ap (g j) (put_other i (more (w2.part i)) w2.part j ne) ∙ ap (λ (d : Part S A). g j (f j d)) (put_other i mine w.part j ne)

  pub redo_own : (i k : ℕ) (o : Option A) (es : List (Entry A)) (js : List ℕ) (w : World S A) → IsWorld machine w → (w.part i).done ≡ Own k o ∷ es → AreSent machine i (Own k o) js
      → walk_sent machine (Own k o) js (walk_on machine i (undo machine i (Own k o ∷ es) w)) ≡ w
  redo_own i k o es js w is e are = ap (walk_sent machine (Own k o) js) (same ∙ again_own i k o es w e) ∙ met o are
    where
      d : IsDone machine i w.bound (w.part i).first (w.part i).base (Own k o ∷ es)
      d = subst (λ (fs : List (Entry A)). IsDone machine i w.bound (w.part i).first (w.part i).base fs) e (is.proper i).done

      p : AllFrom k (w.part i).pending
      p = subst (λ (fs : List (Entry A)). Each (MayFollow machine w.bound fs) (w.part i).pending) e (is.proper i).pending

      w2 : World S A
      w2 = undo machine i (Own k o ∷ es) w

      mine : Part S A
      mine = with_done (w.part i) es (w.part i).pending

      at : w2.part i ≡ mine
      at = ap (λ (c : Part S A). with_minus c (sent machine i k o i c.minus)) (put_same i mine w.part)
          ∙ (λ v. record { base = mine.base; first = mine.first; done = mine.done; pending = mine.pending; owed = mine.owed; plus = mine.plus; minus = sent_self machine law i k o mine.minus v })

      same : walk_on machine i w2 ≡ process_own machine i k o w2
      same = next_is_own i w2 mine at (subst (λ (l : ℕ). l < machine.top) d.0 d.1) (subst (λ (l : ℕ). AllFrom l (w.part i).pending) d.0 p) ∙ rw (← d.0, ← d.2)

      met : (o : Option A) → AreSent machine i (Own k o) js → walk_sent machine (Own k o) js (with_parts w (λ j. spread i k o j (w.part j))) ≡ w
      met None are = sym (back_own i k None w) ∙ inverse_idle i k w
      met (Some a) are = meet_spread i k a js w are

  pub redo_input : (i : ℕ) (x : Item A) (es : List (Entry A)) (w : World S A) → IsWorld machine w → (w.part i).done ≡ Input x ∷ es → walk_on machine i (undo machine i (Input x ∷ es) w) ≡ w
  redo_input i x es w is e =
      next_is_input i w2 mine x (w.part i).pending (put_same i mine w.part) (insert_front machine x (w.part i).pending p) d.0
      ∙ (λ v. record { part = λ j. each j (cases_eq j i) v; bound = w.bound; committed = w.committed })
    where
      d : IsDone machine i w.bound (w.part i).first (w.part i).base (Input x ∷ es)
      d = subst (λ (fs : List (Entry A)). IsDone machine i w.bound (w.part i).first (w.part i).base fs) e (is.proper i).done

      p : Each (λ y. comes_first machine x y ≡ true) (w.part i).pending
      p = subst (λ (fs : List (Entry A)). Each (MayFollow machine w.bound fs) (w.part i).pending) e (is.proper i).pending

      w2 : World S A
      w2 = undo machine i (Input x ∷ es) w

      mine : Part S A
      mine = with_done (w.part i) es (insert machine x (w.part i).pending)

      more : Part S A → Part S A
      more c = with_done c (Input x ∷ c.done) (w.part i).pending

      each : (j : ℕ) → (j ≡ i) ⊎ (j ≡ i → ⊥) → put i (more (w2.part i)) w2.part j ≡ w.part j
      each j (inl h) = subst (λ (l : ℕ). put i (more (w2.part i)) w2.part l ≡ w.part l) (sym h)
          (put_same i (more (w2.part i)) w2.part ∙ ap more (put_same i mine w.part) ∙ ap (λ (fs : List (Entry A)). with_done (w.part i) fs (w.part i).pending) (sym e))
      each j (inr ne) = put_other i (more (w2.part i)) w2.part j ne ∙ put_other i mine w.part j ne

  -- an entry that is rolled back and processed again, its messages met, leaves the world as it was
  pub redo : (i : ℕ) (e : Entry A) (es : List (Entry A)) (js : List ℕ) (w : World S A) → IsWorld machine w → (w.part i).done ≡ e ∷ es → AreSent machine i e js
      → walk_sent machine e js (walk_on machine i (walk_back machine i w)) ≡ w
  redo i e es js w is h are = ap (λ (fs : List (Entry A)). walk_sent machine e js (walk_on machine i (undo machine i fs w))) h ∙ go e h are
    where
      go : (f : Entry A) → (w.part i).done ≡ f ∷ es → AreSent machine i f js → walk_sent machine f js (walk_on machine i (undo machine i (f ∷ es) w)) ≡ w
      go (Own k o) h are = redo_own i k o es js w is h are
      go (Input x) h are = redo_input i x es w is h
