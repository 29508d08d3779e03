-- What a lease does by itself the whole world does by the same steps.
use Rattle.std.proofs.Common.{◌≡◌, ℕ, ◌+◌, ◌<◌, ◌≤◌, ◌⊎◌, inl, inr, Bool, true, false, cond, Option, None, Some, List, [], ◌∷◌, refl, ap, sym, subst, ◌∙◌, arith, ltb}
use Rattle.std.proofs.lemmas.Bool.{ltb-true, leb-false, eq-eqb, ne_eqb, cases_eq, cases_lt}
use Rattle.virtual_time.specs.Machine.{Lawful, Machine}
use Rattle.virtual_time.specs.Entries.{Entry, Input, Item, Own, below, entry_key, from, number, replay}
use Rattle.virtual_time.specs.Worlds.{Part, World, put, with_parts}
use Rattle.virtual_time.specs.Bags.{AllFrom, has, hit, inputs, insert, remove, times}
use Rattle.virtual_time.specs.Records.{is_input, sent, stays}
use Rattle.virtual_time.proofs.Moves.{accept, back_past, back_to, cancel, next_own, owe, pay, process_from, process_input, process_own, undo, walk_back, walk_minus, walk_on, walk_plus, with_done}
use Rattle.virtual_time.specs.Rules.{IsDone, IsOpen, Outside}
use Rattle.virtual_time.proofs.Exchange.Parts.{Follows, IsCut}
use Rattle.virtual_time.proofs.Counts.{times-insert, times-remove, hit_not}
use Rattle.virtual_time.proofs.Lists.{put_same, first_low, first_total}
use Rattle.virtual_time.proofs.Cuts.{below_past}
use Rattle.virtual_time.proofs.Commits.{from_at, from_past, number_split, replay_split, inputs_from}
use Rattle.virtual_time.proofs.Kept.{roll_back_kept}
use Rattle.virtual_time.proofs.Messages.{roll_back_done, back_past_kept, back_to_kept}
use Rattle.virtual_time.proofs.Past.{done_low}

module _ {S A : Type 0} (machine : Machine S A) (law : Lawful machine) (g i : ℕ) (p m : ℕ → ℕ → A → ℕ) where
  pub cut_more : (c d : Part S A) (e : Entry A) (xs : List (Item A)) → g ≤ entry_key e → IsCut machine g i c d → IsCut machine g i (with_done c (e ∷ c.done) xs) (with_done d (e ∷ d.done) xs)
  cut_more c d e xs l q =
      record {
        base = q.base ∙ ap (λ (fs : List (Entry A)). replay machine i c.base fs) (sym (below_past g e c.done l));
        first = q.first ∙ ap (λ (fs : List (Entry A)). number c.first fs) (sym (below_past g e c.done l));
        done = ap (λ (fs : List (Entry A)). e ∷ fs) q.done ∙ sym (from_past g e c.done l);
        pending = refl;
        owed = q.owed;
      }

  pub cut_less : (c d : Part S A) (e : Entry A) (es : List (Entry A)) (xs : List (Item A)) → g ≤ entry_key e → c.done ≡ e ∷ es → IsCut machine g i c d → IsCut machine g i (with_done c es xs) (with_done d (from g es) xs)
  cut_less c d e es xs l h q =
      let b : below g c.done ≡ below g es = ap (below g) h ∙ below_past g e es l in
      record {
        base = q.base ∙ ap (λ (fs : List (Entry A)). replay machine i c.base fs) b;
        first = q.first ∙ ap (λ (fs : List (Entry A)). number c.first fs) b;
        done = refl;
        pending = refl;
        owed = q.owed;
      }

  pub cut_done : (c d : Part S A) (e : Entry A) (es : List (Entry A)) → g ≤ entry_key e → c.done ≡ e ∷ es → IsCut machine g i c d → d.done ≡ e ∷ from g es
  cut_done c d e es l h q = q.done ∙ ap (from g) h ∙ from_past g e es l

  -- one component changes in both
  pub follow_put : (u w : World S A) (c d : Part S A) → Follows machine g i p m u w → IsCut machine g i c d
      → ((k : ℕ) (a : A) → times machine d.plus k a + times machine (u.part i).plus k a ≡ times machine c.plus k a + times machine (w.part i).plus k a)
      → ((k : ℕ) (a : A) → times machine d.minus k a + times machine (u.part i).minus k a ≡ times machine c.minus k a + times machine (w.part i).minus k a)
      → Follows machine g i p m (with_parts u (put i c u.part)) (with_parts w (put i d w.part))
  follow_put u w c d f q hp hm =
      record {
        part = subst (λ (x : Part S A). IsCut machine g i x (put i d w.part i)) (sym (put_same i c u.part)) (subst (λ (x : Part S A). IsCut machine g i c x) (sym (put_same i d w.part)) q);
        plus = λ j k a. plus j k a (cases_eq j i);
        minus = λ j k a. minus j k a (cases_eq j i);
      }
    where
      plus : (j k : ℕ) (a : A) → (j ≡ i) ⊎ (j ≡ i → ⊥) → times machine (put i d w.part j).plus k a ≡ times machine (put i c u.part j).plus k a + p j k a
      plus j k a (inl e) = let h = hp k a in let v = f.plus i k a in
          subst (λ (n : ℕ). times machine (put i d w.part n).plus k a ≡ times machine (put i c u.part n).plus k a + p n k a) (sym e) (rw (eq-eqb i i refl) (omega arith))
      plus j k a (inr ne) = rw (ne_eqb j i ne) (f.plus j k a)

      minus : (j k : ℕ) (a : A) → (j ≡ i) ⊎ (j ≡ i → ⊥) → times machine (put i d w.part j).minus k a ≡ times machine (put i c u.part j).minus k a + m j k a
      minus j k a (inl e) = let h = hm k a in let v = f.minus i k a in
          subst (λ (n : ℕ). times machine (put i d w.part n).minus k a ≡ times machine (put i c u.part n).minus k a + m n k a) (sym e) (rw (eq-eqb i i refl) (omega arith))
      minus j k a (inr ne) = rw (ne_eqb j i ne) (f.minus j k a)

  pub sent_adds : (k : ℕ) (o : Option A) (j : ℕ) (xs ys : List (Item A)) (k' : ℕ) (a' : A)
      → times machine (sent machine i k o j xs) k' a' + times machine ys k' a' ≡ times machine (sent machine i k o j ys) k' a' + times machine xs k' a'
  sent_adds k None j xs ys k' a' = omega arith
  sent_adds k (Some a) j xs ys k' a' = go (machine.receives i a j)
    where
      go : (b : Bool) → times machine (cond b (insert machine (record { key = k; action = a }) xs) xs) k' a' + times machine ys k' a' ≡ times machine (cond b (insert machine (record { key = k; action = a }) ys) ys) k' a' + times machine xs k' a'
      go true = let s = times-insert machine law (record { key = k; action = a }) xs k' a' in let t = times-insert machine law (record { key = k; action = a }) ys k' a' in omega arith
      go false = omega arith

  pub follow_own : (u w : World S A) (k : ℕ) (o : Option A) → g ≤ k → Follows machine g i p m u w → Follows machine g i p m (process_own machine i k o u) (process_own machine i k o w)
  follow_own u w k o l f =
      let c : Part S A = with_done (u.part i) (Own k o ∷ (u.part i).done) (u.part i).pending in
      let d : Part S A = with_done (w.part i) (Own k o ∷ (w.part i).done) (w.part i).pending in
      let d' : Part S A = with_done (w.part i) (Own k o ∷ (w.part i).done) (u.part i).pending in
      let q : IsCut machine g i c d = let r = cut_more (u.part i) (w.part i) (Own k o) (u.part i).pending l f.part in record { base = r.base; first = r.first; done = r.done; pending = f.part.pending; owed = r.owed } in
      let h = follow_put u w c d f q (λ k a. omega arith) (λ k a. omega arith) in
      record {
        part = record { base = h.part.base; first = h.part.first; done = h.part.done; pending = h.part.pending; owed = h.part.owed };
        plus = λ j k' a'. let s = sent_adds k o j (put i c u.part j).plus (put i d w.part j).plus k' a' in let t = h.plus j k' a' in omega arith;
        minus = h.minus;
      }

  pub follow_next : (u w : World S A) → g ≤ machine.key i (number (u.part i).first (u.part i).done) → Follows machine g i p m u w → Follows machine g i p m (next_own machine i u) (next_own machine i w)
  follow_next u w l f = subst (λ (v : World S A). Follows machine g i p m (next_own machine i u) v) (sym same) (go (ltb (machine.key i n) machine.top))
    where
      n : ℕ
      n = number (u.part i).first (u.part i).done

      s : S
      s = replay machine i (u.part i).base (u.part i).done

      own : ℕ → S → World S A
      own n' s' = cond (ltb (machine.key i n') machine.top) (process_own machine i (machine.key i n') (machine.outcome i n' s') w) w

      number_same : number (w.part i).first (w.part i).done ≡ n
      number_same = rw (f.part.first, f.part.done) (number_split g (u.part i).first (u.part i).done)

      replay_same : replay machine i (w.part i).base (w.part i).done ≡ s
      replay_same = rw (f.part.base, f.part.done) (replay_split machine law i g (u.part i).base (u.part i).done)

      same : next_own machine i w ≡ own n s
      same = ap (λ (x : ℕ). own x (replay machine i (w.part i).base (w.part i).done)) number_same ∙ ap (own n) replay_same

      go : (b : Bool) → Follows machine g i p m (cond b (process_own machine i (machine.key i n) (machine.outcome i n s) u) u) (cond b (process_own machine i (machine.key i n) (machine.outcome i n s) w) w)
      go true = follow_own u w (machine.key i n) (machine.outcome i n s) l f
      go false = f

  pub follow_from : (xs : List (Item A)) (u w : World S A) → g ≤ machine.key i (number (u.part i).first (u.part i).done) → AllFrom g xs → Follows machine g i p m u w → Follows machine g i p m (process_from machine i xs u) (process_from machine i xs w)
  follow_from [] u w l a f = follow_next u w l f
  follow_from (x ∷ xs) u w l a f =
      subst (λ (n : ℕ). Follows machine g i p m (process_from machine i (x ∷ xs) u) (cond (ltb x.key (machine.key i n)) (process_input i x xs w) (next_own machine i w))) (sym number_same)
      (go (ltb x.key (machine.key i (number (u.part i).first (u.part i).done))))
    where
      number_same : number (w.part i).first (w.part i).done ≡ number (u.part i).first (u.part i).done
      number_same = rw (f.part.first, f.part.done) (number_split g (u.part i).first (u.part i).done)

      go : (b : Bool) → Follows machine g i p m (cond b (process_input i x xs u) (next_own machine i u)) (cond b (process_input i x xs w) (next_own machine i w))
      go true = follow_put u w (with_done (u.part i) (Input x ∷ (u.part i).done) xs) (with_done (w.part i) (Input x ∷ (w.part i).done) xs) f (cut_more (u.part i) (w.part i) (Input x) xs a.0 f.part) (λ k a. omega arith) (λ k a. omega arith)
      go false = follow_next u w l f

  -- Process
  pub follow_process : (u w : World S A) → g ≤ machine.key i (number (u.part i).first (u.part i).done) → AllFrom g (u.part i).pending → Follows machine g i p m u w → Follows machine g i p m (walk_on machine i u) (walk_on machine i w)
  follow_process u w l a f = subst (λ (xs : List (Item A)). Follows machine g i p m (walk_on machine i u) (process_from machine i xs w)) (sym f.part.pending) (follow_from (u.part i).pending u w l a f)

  -- RollBack of an entry behind the cut
  pub follow_undo : (e : Entry A) (es : List (Entry A)) (u w : World S A) → (u.part i).done ≡ e ∷ es → g ≤ entry_key e → Follows machine g i p m u w → Follows machine g i p m (undo machine i (e ∷ es) u) (undo machine i (e ∷ from g es) w)
  follow_undo (Own k o) es u w h l f =
      let c : Part S A = with_done (u.part i) es (u.part i).pending in
      let d : Part S A = with_done (w.part i) (from g es) (w.part i).pending in
      let q : IsCut machine g i c d = let r = cut_less (u.part i) (w.part i) (Own k o) es (u.part i).pending l h f.part in record { base = r.base; first = r.first; done = r.done; pending = f.part.pending; owed = r.owed } in
      let z = follow_put u w c d f q (λ k a. omega arith) (λ k a. omega arith) in
      record {
        part = record { base = z.part.base; first = z.part.first; done = z.part.done; pending = z.part.pending; owed = z.part.owed };
        plus = z.plus;
        minus = λ j k' a'. let s = sent_adds k o j (put i c u.part j).minus (put i d w.part j).minus k' a' in let t = z.minus j k' a' in omega arith;
      }
  follow_undo (Input x) es u w h l f =
      let c : Part S A = with_done (u.part i) es (insert machine x (u.part i).pending) in
      let d : Part S A = with_done (w.part i) (from g es) (insert machine x (w.part i).pending) in
      let q : IsCut machine g i c d = let r = cut_less (u.part i) (w.part i) (Input x) es (u.part i).pending l h f.part in record { base = r.base; first = r.first; done = r.done; pending = ap (insert machine x) f.part.pending; owed = r.owed } in
      follow_put u w c d f q (λ k a. omega arith) (λ k a. omega arith)

  pub follow_back : (e : Entry A) (es : List (Entry A)) (u w : World S A) → (u.part i).done ≡ e ∷ es → g ≤ entry_key e → Follows machine g i p m u w → Follows machine g i p m (walk_back machine i u) (walk_back machine i w)
  follow_back e es u w h l f =
      subst (λ (fs : List (Entry A)). Follows machine g i p m (undo machine i fs u) (walk_back machine i w)) (sym h)
      (subst (λ (fs : List (Entry A)). Follows machine g i p m (undo machine i (e ∷ es) u) (undo machine i fs w)) (sym (cut_done (u.part i) (w.part i) e es l h f.part)) (follow_undo e es u w h l f))

  pub follow_past : (x : Item A) (es : List (Entry A)) (u w : World S A) → (u.part i).done ≡ es → g ≤ x.key → Follows machine g i p m u w → Follows machine g i p m (back_past machine i x es u) (back_past machine i x (from g es) w)
  follow_past x [] u w h l f = f
  follow_past x (e ∷ es) u w h l f = go (stays machine x e) refl (cases_lt (entry_key e) g) (λ (k : g ≤ entry_key e). follow_past x es (walk_back machine i u) (walk_back machine i w) (roll_back_done machine law i e es u h) l (follow_back e es u w h k f))
    where
      later : (d : Entry A) → stays machine x d ≡ false → g ≤ entry_key d
      later (Own k o) s = let n = leb-false k x.key s in omega arith
      later (Input y) s = let n = first_low machine x y (first_total machine law y x s) in omega arith

      go : (v : Bool) → stays machine x e ≡ v → (entry_key e < g) ⊎ (g ≤ entry_key e) → (g ≤ entry_key e → Follows machine g i p m (back_past machine i x es (walk_back machine i u)) (back_past machine i x (from g es) (walk_back machine i w)))
          → Follows machine g i p m (back_past machine i x (e ∷ es) u) (back_past machine i x (from g (e ∷ es)) w)
      go true s (inl k) ih = rw (from_at g e es k, s) f
      go true s (inr k) ih = rw (from_past g e es k, s) f
      go false s k ih = rw (from_past g e es (later e s), s) (ih (later e s))

  -- DeliverMessage of a message
  pub follow_plus : (x : Item A) (u w : World S A) → g ≤ x.key → 0 < times machine (u.part i).plus x.key x.action → ((v : World S A) → v ≡ back_past machine i x (u.part i).done u → (v.part i).plus ≡ (u.part i).plus) → Follows machine g i p m u w → Follows machine g i p m (walk_plus machine i x u) (walk_plus machine i x w)
  follow_plus x u w l h keeps f = subst (λ (xs : List (Item A)). Follows machine g i p m (walk_plus machine i x u) (cond (has machine x xs) (pay machine i x w) (accept machine i x (back_past machine i x (w.part i).done w)))) (sym f.part.owed)
      (subst (λ (es : List (Entry A)). Follows machine g i p m (walk_plus machine i x u) (cond (has machine x (u.part i).owed) (pay machine i x w) (accept machine i x (back_past machine i x es w)))) (sym f.part.done) (go (has machine x (u.part i).owed)))
    where
      u' : World S A
      u' = back_past machine i x (u.part i).done u

      w' : World S A
      w' = back_past machine i x (from g (u.part i).done) w

      f' : Follows machine g i p m u' w'
      f' = follow_past x (u.part i).done u w refl l f

      gone : (a b : World S A) → Follows machine g i p m a b → 0 < times machine (a.part i).plus x.key x.action → (k : ℕ) (c : A)
          → times machine (remove machine x (b.part i).plus) k c + times machine (a.part i).plus k c ≡ times machine (remove machine x (a.part i).plus) k c + times machine (b.part i).plus k c
      gone a b q n k c =
          let z = q.plus i x.key x.action in
          let s = times-remove machine law x (a.part i).plus k c n in
          let t = times-remove machine law x (b.part i).plus k c (omega arith) in
          omega arith

      go : (t : Bool) → Follows machine g i p m (cond t (pay machine i x u) (accept machine i x u')) (cond t (pay machine i x w) (accept machine i x w'))
      go true = follow_put u w _ _ f (record { base = f.part.base; first = f.part.first; done = f.part.done; pending = f.part.pending; owed = ap (remove machine x) f.part.owed }) (gone u w f h) (λ k a. omega arith)
      go false = follow_put u' w' _ _ f' (record { base = f'.part.base; first = f'.part.first; done = f'.part.done; pending = ap (insert machine x) f'.part.pending; owed = f'.part.owed })
          (gone u' w' f' (let k : times machine (u'.part i).plus x.key x.action ≡ times machine (u.part i).plus x.key x.action = ap (λ (xs : List (Item A)). times machine xs x.key x.action) (keeps u' refl) in omega arith)) (λ k a. omega arith)

  pub follow_to : {off : Outside A} → (x : Item A) (es : List (Entry A)) (u w : World S A) → IsOpen machine off u → (u.part i).done ≡ es → g ≤ x.key → 0 < inputs machine es x.key x.action → Follows machine g i p m u w
      → Follows machine g i p m (back_to machine i x es u) (back_to machine i x (from g es) w)
  follow_to {off} x [] u w is h l some f = f
  follow_to {off} x (e ∷ es) u w is h l some f =
      rw (from_past g e es low) (go e some (is_input machine x e) refl (follow_back e es u w h low f)
      (λ (n : 0 < inputs machine es x.key x.action). follow_to x es (walk_back machine i u) (walk_back machine i w) (roll_back_kept machine law i u is) (roll_back_done machine law i e es u h) l n (follow_back e es u w h low f)))
    where
      low : g ≤ entry_key e
      low = let n = done_low machine law i u.bound (u.part i).first (u.part i).base x (e ∷ es) (subst (λ (fs : List (Entry A)). IsDone machine i u.bound (u.part i).first (u.part i).base fs) h (is.proper i).done) some in omega arith

      go : (d : Entry A) → 0 < inputs machine (d ∷ es) x.key x.action → (v : Bool) → is_input machine x d ≡ v → Follows machine g i p m (walk_back machine i u) (walk_back machine i w)
          → (0 < inputs machine es x.key x.action → Follows machine g i p m (back_to machine i x es (walk_back machine i u)) (back_to machine i x (from g es) (walk_back machine i w)))
          → Follows machine g i p m (cond (is_input machine x d) (walk_back machine i u) (back_to machine i x es (walk_back machine i u))) (cond (is_input machine x d) (walk_back machine i w) (back_to machine i x (from g es) (walk_back machine i w)))
      go (Own k o) n v s b ih = ih n
      go (Input y) n true s b ih = rw s b
      go (Input y) n false s b ih = let z : hit machine y x.key x.action ≡ 0 = hit_not machine law y x s in rw s (ih (omega arith))

  -- DeliverMessage of an antimessage
  pub follow_minus : {off : Outside A} → (x : Item A) (u w : World S A) → IsOpen machine off u → g ≤ x.key → 0 < times machine (u.part i).minus x.key x.action → Follows machine g i p m u w
      → Follows machine g i p m (walk_minus machine i x u) (walk_minus machine i x w)
  follow_minus {off} x u w is l h f =
      subst (λ (xs : List (Item A)). Follows machine g i p m (walk_minus machine i x u) (cond (has machine x xs) (cancel machine i x w) (cond (ltb 0 (inputs machine (w.part i).done x.key x.action)) (cancel machine i x (back_to machine i x (w.part i).done w)) (owe machine i x w)))) (sym f.part.pending)
      (subst (λ (es : List (Entry A)). Follows machine g i p m (walk_minus machine i x u) (cond (has machine x (u.part i).pending) (cancel machine i x w) (cond (ltb 0 (inputs machine es x.key x.action)) (cancel machine i x (back_to machine i x es w)) (owe machine i x w)))) (sym f.part.done)
      (subst (λ (n : ℕ). Follows machine g i p m (walk_minus machine i x u) (cond (has machine x (u.part i).pending) (cancel machine i x w) (cond (ltb 0 n) (cancel machine i x w') (owe machine i x w)))) (sym count) (go (has machine x (u.part i).pending))))
    where
      u' : World S A
      u' = back_to machine i x (u.part i).done u

      w' : World S A
      w' = back_to machine i x (from g (u.part i).done) w

      count : inputs machine (from g (u.part i).done) x.key x.action ≡ inputs machine (u.part i).done x.key x.action
      count = inputs_from machine law i u.bound (u.part i).first (u.part i).base g (u.part i).done (is.proper i).done x.key l x.action

      gone : (a b : World S A) → Follows machine g i p m a b → 0 < times machine (a.part i).minus x.key x.action → (k : ℕ) (c : A)
          → times machine (remove machine x (b.part i).minus) k c + times machine (a.part i).minus k c ≡ times machine (remove machine x (a.part i).minus) k c + times machine (b.part i).minus k c
      gone a b q n k c =
          let z = q.minus i x.key x.action in
          let s = times-remove machine law x (a.part i).minus k c n in
          let t = times-remove machine law x (b.part i).minus k c (omega arith) in
          omega arith

      drop : (a b : World S A) → Follows machine g i p m a b → 0 < times machine (a.part i).minus x.key x.action → Follows machine g i p m (cancel machine i x a) (cancel machine i x b)
      drop a b q n = follow_put a b _ _ q (record { base = q.part.base; first = q.part.first; done = q.part.done; pending = ap (remove machine x) q.part.pending; owed = q.part.owed }) (λ k c. omega arith) (gone a b q n)

      rest : (t : Bool) → ltb 0 (inputs machine (u.part i).done x.key x.action) ≡ t → Follows machine g i p m (cond t (cancel machine i x u') (owe machine i x u)) (cond t (cancel machine i x w') (owe machine i x w))
      rest true s =
          let some = ltb-true 0 (inputs machine (u.part i).done x.key x.action) s in
          let b = (back_to_kept machine law i x (u.part i).done u refl is some).1 in
          let k : times machine (u'.part i).minus x.key x.action ≡ times machine (u.part i).minus x.key x.action = ap (λ (xs : List (Item A)). times machine xs x.key x.action) b.minus in
          drop u' w' (follow_to x (u.part i).done u w is refl l some f) (omega arith)
      rest false s = follow_put u w _ _ f (record { base = f.part.base; first = f.part.first; done = f.part.done; pending = f.part.pending; owed = ap (insert machine x) f.part.owed }) (λ k c. omega arith) (gone u w f h)

      go : (t : Bool) → Follows machine g i p m (cond t (cancel machine i x u) (cond (ltb 0 (inputs machine (u.part i).done x.key x.action)) (cancel machine i x u') (owe machine i x u)))
          (cond t (cancel machine i x w) (cond (ltb 0 (inputs machine (u.part i).done x.key x.action)) (cancel machine i x w') (owe machine i x w)))
      go true = drop u w f h
      go false = rest (ltb 0 (inputs machine (u.part i).done x.key x.action)) refl

  pub follow_plus_open : {off : Outside A} → (x : Item A) (u w : World S A) → IsOpen machine off u → g ≤ x.key → u.bound ≤ x.key → 0 < times machine (u.part i).plus x.key x.action → Follows machine g i p m u w → Follows machine g i p m (walk_plus machine i x u) (walk_plus machine i x w)
  follow_plus_open {off} x u w is l low h f = follow_plus x u w l h (λ v e. subst (λ (y : World S A). (y.part i).plus ≡ (u.part i).plus) (sym e) (back_past_kept machine law i x (u.part i).done u refl is low).1.plus) f
