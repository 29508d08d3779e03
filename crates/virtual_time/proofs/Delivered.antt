-- A message and its antimessage delivered one after the other, where neither rolls back, leave what their meeting leaves.
use Rattle.std.proofs.Common.{◌≡◌, ℕ, ◌<◌, ◌==◌, ◌⊎◌, inl, inr, Bool, true, false, cond, List, [], ◌∷◌, refl, ap, sym, subst, ◌∙◌, arith, ltb}
use Rattle.std.proofs.lemmas.Bool.{ltb-true, le-ltb, cases_Bool, false_from_ne_true}
use Rattle.virtual_time.specs.Machine.{Lawful, Machine}
use Rattle.virtual_time.specs.Entries.{Item}
use Rattle.virtual_time.specs.Worlds.{Part, World, put, with_parts}
use Rattle.virtual_time.specs.Bags.{IsSorted, comes_first, has, hit, inputs, insert, remove, same_item, times}
use Rattle.virtual_time.proofs.Moves.{accept, back_past, cancel, owe, pay, walk_meet, walk_minus, walk_plus}
use Rattle.virtual_time.specs.Rules.{IsWorld}
use Rattle.virtual_time.proofs.Counts.{hit_not, same_item_is, same_item_self}
use Rattle.virtual_time.proofs.Lists.{insert_front, first_cases, put_same}
use Rattle.virtual_time.proofs.Inverse.{has_insert, remove_insert}

module _ {S A : Type 0} (machine : Machine S A) (law : Lawful machine) where
  pub first_one : (x y : Item A) → comes_first machine x y ≡ true → comes_first machine y x ≡ true → x ≡ y
  first_one x y h k = go (first_cases machine x y h) (first_cases machine y x k)
    where
      go : (x.key < y.key) ⊎ ((x.key ≡ y.key) × (machine.before x.action y.action ≡ true)) → (y.key < x.key) ⊎ ((y.key ≡ x.key) × (machine.before y.action x.action ≡ true)) → x ≡ y
      go (inl a) (inl b) = absurd (omega arith)
      go (inl a) (inr b) = let e = b.0 in absurd (omega arith)
      go (inr a) (inl b) = let e = a.0 in absurd (omega arith)
      go (inr a) (inr b) = let e = law.one x.action y.action a.1 b.1 in λ i. record { key = a.0 i; action = e i }

  -- an item that is there comes behind the first
  pub behind : (x : Item A) (P : Item A → Type 0) (ys : List (Item A)) → 0 < times machine ys x.key x.action → Rattle.virtual_time.specs.Bags.Each P ys → P x
  behind x P [] h p = absurd (omega arith)
  behind x P (y ∷ ys) h p = go (λ (l : 0 < times machine ys x.key x.action). behind x P ys l p.1) (cases_Bool (same_item machine y x))
    where
      go : (0 < times machine ys x.key x.action → P x) → (same_item machine y x ≡ true) ⊎ (same_item machine y x ≡ false) → P x
      go ih (inl e) = subst P (same_item_is machine law y x e) p.0
      go ih (inr e) = let z = hit_not machine law y x e in ih (omega arith)

  pub insert_remove : (x : Item A) (xs : List (Item A)) → IsSorted machine xs → 0 < times machine xs x.key x.action → insert machine x (remove machine x xs) ≡ xs
  insert_remove x [] so h = absurd (omega arith)
  insert_remove x (y ∷ ys) so h = go (λ (l : 0 < times machine ys x.key x.action). insert_remove x ys so.1 l) (cases_Bool (same_item machine y x))
    where
      go : (0 < times machine ys x.key x.action → insert machine x (remove machine x ys) ≡ ys) → (same_item machine y x ≡ true) ⊎ (same_item machine y x ≡ false) → insert machine x (remove machine x (y ∷ ys)) ≡ y ∷ ys
      go ih (inl e) =
          let same : y ≡ x = same_item_is machine law y x e in
          rw e (insert_front machine x ys (subst (λ (z : Item A). Rattle.virtual_time.specs.Bags.Each (λ w. comes_first machine z w ≡ true) ys) same so.0) ∙ ap (λ (z : Item A). z ∷ ys) (sym same))
      go ih (inr e) =
          let z = hit_not machine law y x e in
          let l : 0 < times machine ys x.key x.action = omega arith in
          let a : comes_first machine y x ≡ true = behind x (λ w. comes_first machine y w ≡ true) ys l so.0 in
          let b : comes_first machine x y ≡ false = false_from_ne_true (comes_first machine x y) (λ f. differ e (first_one y x a f)) in
          rw (e, b) (ap (λ (zs : List (Item A)). y ∷ zs) (ih l))
        where
          differ : same_item machine y x ≡ false → y ≡ x → ⊥
          differ e same =
              let t : same_item machine y x ≡ true = subst (λ (z : Item A). same_item machine z x ≡ true) (sym same) (same_item_self machine law x) in
              let f : true ≡ false = sym t ∙ e in
              cc

  pub put_put : (j : ℕ) (c d : Part S A) (parts : ℕ → Part S A) (l : ℕ) → put j d (put j c parts) l ≡ put j d parts l
  put_put j c d parts l = go (l == j)
    where
      go : (b : Bool) → cond b d (cond b c (parts l)) ≡ cond b d (parts l)
      go true = refl
      go false = refl

  -- two changes of one component
  pub twice : (j : ℕ) (c d e : Part S A) (w : World S A) → d ≡ e → with_parts (with_parts w (put j c w.part)) (put j d (put j c w.part)) ≡ with_parts w (put j e w.part)
  twice j c d e w h = λ v. record { part = λ l. (put_put j c d w.part l ∙ ap (λ (f : Part S A). put j f w.part l) h) v; bound = w.bound; committed = w.committed }

  -- the message first
  pub plus_minus : (w : World S A) (j : ℕ) (x : Item A) → IsWorld machine w → (has machine x (w.part j).owed ≡ false → back_past machine j x (w.part j).done w ≡ w) → walk_minus machine j x (walk_plus machine j x w) ≡ walk_meet machine j x w
  plus_minus w j x is stay = go (cases_Bool (has machine x (w.part j).owed))
    where
      paid : Part S A → Part S A
      paid c = record { base = c.base; first = c.first; done = c.done; pending = c.pending; owed = remove machine x c.owed; plus = remove machine x c.plus; minus = c.minus }

      owing : Part S A → Part S A
      owing c = record { base = c.base; first = c.first; done = c.done; pending = c.pending; owed = insert machine x c.owed; plus = c.plus; minus = remove machine x c.minus }

      taken : Part S A → Part S A
      taken c = record { base = c.base; first = c.first; done = c.done; pending = insert machine x c.pending; owed = c.owed; plus = remove machine x c.plus; minus = c.minus }

      less : Part S A → Part S A
      less c = record { base = c.base; first = c.first; done = c.done; pending = remove machine x c.pending; owed = c.owed; plus = c.plus; minus = remove machine x c.minus }

      met : Part S A
      met = record { base = (w.part j).base; first = (w.part j).first; done = (w.part j).done; pending = (w.part j).pending; owed = (w.part j).owed; plus = remove machine x (w.part j).plus; minus = remove machine x (w.part j).minus }

      go : (has machine x (w.part j).owed ≡ true) ⊎ (has machine x (w.part j).owed ≡ false) → walk_minus machine j x (walk_plus machine j x w) ≡ walk_meet machine j x w
      go (inl h) =
          let here : (pay machine j x w).part j ≡ paid (w.part j) = put_same j (paid (w.part j)) w.part in
          let some = ltb-true 0 (times machine (w.part j).owed x.key x.action) h in
          let o = (is.proper j).owed x.key x.action in
          let p : has machine x ((pay machine j x w).part j).pending ≡ false = ap (λ (c : Part S A). has machine x c.pending) here ∙ le-ltb 0 (times machine (w.part j).pending x.key x.action) (omega arith) in
          let q : ltb 0 (inputs machine ((pay machine j x w).part j).done x.key x.action) ≡ false = ap (λ (c : Part S A). ltb 0 (inputs machine c.done x.key x.action)) here ∙ le-ltb 0 (inputs machine (w.part j).done x.key x.action) (omega arith) in
          let back : insert machine x (remove machine x (w.part j).owed) ≡ (w.part j).owed = insert_remove x (w.part j).owed (is.proper j).owed_sorted some in
          let first : walk_plus machine j x w ≡ pay machine j x w = rw h in
          ap (walk_minus machine j x) first ∙ rw (p, q) (twice j (paid (w.part j)) (owing ((pay machine j x w).part j)) met w
          (ap owing here ∙ (λ v. record { base = (w.part j).base; first = (w.part j).first; done = (w.part j).done; pending = (w.part j).pending; owed = back v; plus = remove machine x (w.part j).plus; minus = remove machine x (w.part j).minus })))
      go (inr h) =
          let here : (accept machine j x w).part j ≡ taken (w.part j) = put_same j (taken (w.part j)) w.part in
          let p : has machine x ((accept machine j x w).part j).pending ≡ true = ap (λ (c : Part S A). has machine x c.pending) here ∙ has_insert machine law x (w.part j).pending in
          let first : walk_plus machine j x w ≡ accept machine j x w = rw h (ap (accept machine j x) (stay h)) in
          ap (walk_minus machine j x) first ∙ rw p (twice j (taken (w.part j)) (less ((accept machine j x w).part j)) met w
          (ap less here ∙ (λ v. record { base = (w.part j).base; first = (w.part j).first; done = (w.part j).done; pending = remove_insert machine law x (w.part j).pending v; owed = (w.part j).owed; plus = remove machine x (w.part j).plus; minus = remove machine x (w.part j).minus })))

  -- the antimessage first
  pub minus_plus : (w : World S A) (j : ℕ) (x : Item A) → IsWorld machine w → (has machine x (w.part j).pending ≡ true) ⊎ (inputs machine (w.part j).done x.key x.action ≡ 0)
      → (has machine x (w.part j).pending ≡ true → back_past machine j x ((cancel machine j x w).part j).done (cancel machine j x w) ≡ cancel machine j x w) → walk_plus machine j x (walk_minus machine j x w) ≡ walk_meet machine j x w
  minus_plus w j x is none stay = go (cases_Bool (has machine x (w.part j).pending)) none
    where
      paid : Part S A → Part S A
      paid c = record { base = c.base; first = c.first; done = c.done; pending = c.pending; owed = remove machine x c.owed; plus = remove machine x c.plus; minus = c.minus }

      owing : Part S A → Part S A
      owing c = record { base = c.base; first = c.first; done = c.done; pending = c.pending; owed = insert machine x c.owed; plus = c.plus; minus = remove machine x c.minus }

      taken : Part S A → Part S A
      taken c = record { base = c.base; first = c.first; done = c.done; pending = insert machine x c.pending; owed = c.owed; plus = remove machine x c.plus; minus = c.minus }

      less : Part S A → Part S A
      less c = record { base = c.base; first = c.first; done = c.done; pending = remove machine x c.pending; owed = c.owed; plus = c.plus; minus = remove machine x c.minus }

      met : Part S A
      met = record { base = (w.part j).base; first = (w.part j).first; done = (w.part j).done; pending = (w.part j).pending; owed = (w.part j).owed; plus = remove machine x (w.part j).plus; minus = remove machine x (w.part j).minus }

      go : (has machine x (w.part j).pending ≡ true) ⊎ (has machine x (w.part j).pending ≡ false) → (has machine x (w.part j).pending ≡ true) ⊎ (inputs machine (w.part j).done x.key x.action ≡ 0)
          → walk_plus machine j x (walk_minus machine j x w) ≡ walk_meet machine j x w
      go (inl h) n =
          let here : (cancel machine j x w).part j ≡ less (w.part j) = put_same j (less (w.part j)) w.part in
          let some = ltb-true 0 (times machine (w.part j).pending x.key x.action) h in
          let o = (is.proper j).owed x.key x.action in
          let p : has machine x ((cancel machine j x w).part j).owed ≡ false = ap (λ (c : Part S A). has machine x c.owed) here ∙ le-ltb 0 (times machine (w.part j).owed x.key x.action) (omega arith) in
          let back : insert machine x (remove machine x (w.part j).pending) ≡ (w.part j).pending = insert_remove x (w.part j).pending (is.proper j).sorted some in
          let first : walk_minus machine j x w ≡ cancel machine j x w = rw h in
          let second : walk_plus machine j x (cancel machine j x w) ≡ accept machine j x (cancel machine j x w) = rw p (ap (accept machine j x) (stay h)) in
          ap (walk_plus machine j x) first ∙ second ∙ twice j (less (w.part j)) (taken ((cancel machine j x w).part j)) met w
          (ap taken here ∙ (λ v. record { base = (w.part j).base; first = (w.part j).first; done = (w.part j).done; pending = back v; owed = (w.part j).owed; plus = remove machine x (w.part j).plus; minus = remove machine x (w.part j).minus }))
      go (inr h) (inl t) = let f : true ≡ false = sym t ∙ h in cc
      go (inr h) (inr z) =
          let here : (owe machine j x w).part j ≡ owing (w.part j) = put_same j (owing (w.part j)) w.part in
          let p : has machine x ((owe machine j x w).part j).owed ≡ true = ap (λ (c : Part S A). has machine x c.owed) here ∙ has_insert machine law x (w.part j).owed in
          let q : ltb 0 (inputs machine (w.part j).done x.key x.action) ≡ false = le-ltb 0 (inputs machine (w.part j).done x.key x.action) (omega arith) in
          let first : walk_minus machine j x w ≡ owe machine j x w = rw (h, q) in
          let second : walk_plus machine j x (owe machine j x w) ≡ pay machine j x (owe machine j x w) = rw p in
          ap (walk_plus machine j x) first ∙ second ∙ twice j (owing (w.part j)) (paid ((owe machine j x w).part j)) met w
          (ap paid here ∙ (λ v. record { base = (w.part j).base; first = (w.part j).first; done = (w.part j).done; pending = (w.part j).pending; owed = remove_insert machine law x (w.part j).owed v; plus = remove machine x (w.part j).plus; minus = remove machine x (w.part j).minus }))
