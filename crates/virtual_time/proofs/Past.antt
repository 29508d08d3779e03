-- Global virtual time: no step but a roll-back unasked lowers it, and it is not below the bound.
use Rattle.std.proofs.Common.{◌≡◌, ℕ, ◌<◌, ◌≤◌, ◌&&◌, ◌⊎◌, inl, inr, Bool, true, false, cond, Option, List, [], ◌∷◌, refl, ap, sym, subst, arith, ltb}
use Rattle.std.proofs.lemmas.Bool.{ltb-true, leb-false}
use Rattle.virtual_time.specs.Machine.{Lawful, Machine}
use Rattle.virtual_time.specs.Bags.{AllFrom, has, hit, inputs, insert, times}
use Rattle.virtual_time.specs.Entries.{Entry, Input, Item, Own, entry_key, latest, number}
use Rattle.virtual_time.specs.Worlds.{Past, Commit, DeliverAntimessage, DeliverMessage, IsPast, Meet, Part, Process, RollBack, Step, World, commit, put, with_parts}
use Rattle.virtual_time.proofs.Moves.{Walks, accept, back_past, back_to, cancel, next_own, owe, pay, process_from, process_input, process_own, undo, walk_back, walk_meet, walk_minus, walk_plus, with_done}
use Rattle.virtual_time.specs.Records.{is_input, stays}
use Rattle.virtual_time.specs.Rules.{IsDone, IsOpen, IsRollBack, IsWorld, Outside}
use Rattle.virtual_time.proofs.Counts.{hit_cases, hit_not}
use Rattle.virtual_time.proofs.Lists.{put_each, AllFrom-insert, AllFrom-remove, AllFrom-sent, first_low, first_total, reach, base_low, follow_low, Each-weaken}
use Rattle.virtual_time.proofs.Messages.{all_low, roll_back_done}
use Rattle.virtual_time.proofs.Kept.{roll_back_kept}
use Rattle.virtual_time.proofs.Commits.{number_split}

module _ {S A : Type 0} (machine : Machine S A) (law : Lawful machine) where
  -- at least the committed bound
  pub bound_past : (w : World S A) → IsWorld machine w → Past machine w.bound w
  bound_past w is j =
      let p = is.proper j in
      let c : Part S A = w.part j in
      let near = reach machine law j w.bound c.first c.base c.done p.done in
      let low = base_low machine law j w.bound c.first c.base c.done p.done in
      record {
        turn = omega arith;
        pending = Each-weaken _ (λ (x : Item A). w.bound ≤ x.key) c.pending (λ x f. let f' = follow_low machine w.bound c.done x f in omega arith) p.pending;
        plus = p.plus;
        minus = p.minus;
      }

  pub undo_past : {off : Outside A} → (b i : ℕ) (e : Entry A) (es : List (Entry A)) (w : World S A) → IsOpen machine off w → (w.part i).done ≡ e ∷ es → b ≤ entry_key e → Past machine b w → Past machine b (undo machine i (e ∷ es) w)
  undo_past {off} b i (Own k o) es w is h l past = λ j. let p = q j in record { turn = p.turn; pending = p.pending; plus = p.plus; minus = AllFrom-sent machine b i k o j (put i c w.part j).minus l p.minus }
    where
      c : Part S A
      c = with_done (w.part i) es (w.part i).pending

      d : IsDone machine i w.bound (w.part i).first (w.part i).base (Own k o ∷ es)
      d = subst (λ (fs : List (Entry A)). IsDone machine i w.bound (w.part i).first (w.part i).base fs) h (is.proper i).done

      q : (j : ℕ) → IsPast machine b j (put i c w.part j)
      q = put_each (λ j v. IsPast machine b j v) i c w.part (record { turn = subst (λ (m : ℕ). b ≤ m) d.0 l; pending = (past i).pending; plus = (past i).plus; minus = (past i).minus }) past
  undo_past {off} b i (Input x) es w is h l past =
      put_each (λ j v. IsPast machine b j v) i (with_done (w.part i) es (insert machine x (w.part i).pending)) w.part
      (record { turn = turn; pending = AllFrom-insert machine b x (w.part i).pending l (past i).pending; plus = (past i).plus; minus = (past i).minus }) past
    where
      turn : b ≤ machine.key i (number (w.part i).first es)
      turn = subst (λ (fs : List (Entry A)). b ≤ machine.key i (number (w.part i).first fs)) h (past i).turn

  pub roll_back_past : {off : Outside A} → (b i : ℕ) (e : Entry A) (es : List (Entry A)) (w : World S A) → IsOpen machine off w → (w.part i).done ≡ e ∷ es → b ≤ entry_key e → Past machine b w → Past machine b (walk_back machine i w)
  roll_back_past {off} b i e es w is h l past = subst (λ (fs : List (Entry A)). Past machine b (undo machine i fs w)) (sym h) (undo_past b i e es w is h l past)

  pub back_past_past : {off : Outside A} → (b i : ℕ) (x : Item A) (es : List (Entry A)) (w : World S A) → IsOpen machine off w → (w.part i).done ≡ es → b ≤ x.key → Past machine b w → Past machine b (back_past machine i x es w)
  back_past_past {off} b i x [] w is h l past = past
  back_past_past {off} b i x (e ∷ es) w is h l past =
      go (stays machine x e) refl (λ (m : b ≤ entry_key e). back_past_past b i x es (walk_back machine i w) (roll_back_kept machine law i w is) (roll_back_done machine law i e es w h) l (roll_back_past b i e es w is h m past))
    where
      later : (f : Entry A) → stays machine x f ≡ false → b ≤ entry_key f
      later (Own k o) s = let m = leb-false k x.key s in omega arith
      later (Input y) s = let m = first_low machine x y (first_total machine law y x s) in omega arith

      go : (v : Bool) → stays machine x e ≡ v → (b ≤ entry_key e → Past machine b (back_past machine i x es (walk_back machine i w))) → Past machine b (back_past machine i x (e ∷ es) w)
      go true s ih = rw s past
      go false s ih = rw s (ih (later e s))

  pub done_low : (i g n : ℕ) (s : S) (x : Item A) (es : List (Entry A)) → IsDone machine i g n s es → 0 < inputs machine es x.key x.action → x.key ≤ latest g es
  done_low i g n s x [] d h = absurd (omega arith)
  done_low i g n s x (Own k o ∷ es) d h = let l = done_low i g n s x es d.4 h in omega arith
  done_low i g n s x (Input y ∷ es) d h = go (hit_cases machine law y x) (λ (m : 0 < inputs machine es x.key x.action). done_low i g n s x es d.2 m)
    where
      go : (hit machine y x.key x.action ≡ 0) ⊎ (y ≡ x) → (0 < inputs machine es x.key x.action → x.key ≤ latest g es) → x.key ≤ y.key
      go (inl e) ih = let l = ih (omega arith) in omega arith
      go (inr e) ih = let k : y.key ≡ x.key = ap (λ (z : Item A). z.key) e in omega arith

  pub back_to_past : {off : Outside A} → (b i : ℕ) (x : Item A) (es : List (Entry A)) (w : World S A) → IsOpen machine off w → (w.part i).done ≡ es → 0 < inputs machine es x.key x.action → b ≤ x.key → Past machine b w → Past machine b (back_to machine i x es w)
  back_to_past {off} b i x [] w is h some l past = past
  back_to_past {off} b i x (e ∷ es) w is h some l past =
      go e h some (is_input machine x e) refl (roll_back_past b i e es w is h low past)
      (λ (m : 0 < inputs machine es x.key x.action). back_to_past b i x es (walk_back machine i w) (roll_back_kept machine law i w is) (roll_back_done machine law i e es w h) m l (roll_back_past b i e es w is h low past))
    where
      low : b ≤ entry_key e
      low = let m = done_low i w.bound (w.part i).first (w.part i).base x (e ∷ es) (subst (λ (fs : List (Entry A)). IsDone machine i w.bound (w.part i).first (w.part i).base fs) h (is.proper i).done) some in omega arith

      go : (f : Entry A) → (w.part i).done ≡ f ∷ es → 0 < inputs machine (f ∷ es) x.key x.action → (v : Bool) → is_input machine x f ≡ v → Past machine b (walk_back machine i w) → (0 < inputs machine es x.key x.action → Past machine b (back_to machine i x es (walk_back machine i w)))
          → Past machine b (cond (is_input machine x f) (walk_back machine i w) (back_to machine i x es (walk_back machine i w)))
      go (Own k o) h' some' v s p ih = ih some'
      go (Input y) h' some' true s p ih = rw s p
      go (Input y) h' some' false s p ih = let z : hit machine y x.key x.action ≡ 0 = hit_not machine law y x s in rw s (ih (omega arith))

  -- one component changes
  pub local_past : (b i : ℕ) (c : Part S A) (w : World S A) → IsPast machine b i c → Past machine b w → Past machine b (with_parts w (put i c w.part))
  local_past b i c w here past = put_each (λ j v. IsPast machine b j v) i c w.part here past

  pub process_own_past : (b i : ℕ) (o : Option A) (w : World S A) → machine.key i (number (w.part i).first (w.part i).done) < machine.top → Past machine b w
      → Past machine b (process_own machine i (machine.key i (number (w.part i).first (w.part i).done)) o w)
  process_own_past b i o w l past = λ j. let p = q j in record { turn = p.turn; pending = p.pending; plus = AllFrom-sent machine b i k o j (put i c w.part j).plus (past i).turn p.plus; minus = p.minus }
    where
      k : ℕ
      k = machine.key i (number (w.part i).first (w.part i).done)

      c : Part S A
      c = with_done (w.part i) (Own k o ∷ (w.part i).done) (w.part i).pending

      q : (j : ℕ) → IsPast machine b j (put i c w.part j)
      q = let up = law.rises i (number (w.part i).first (w.part i).done) l in let low = (past i).turn in
          put_each (λ j v. IsPast machine b j v) i c w.part (record { turn = omega arith; pending = (past i).pending; plus = (past i).plus; minus = (past i).minus }) past

  pub next_own_past : (b i : ℕ) (w : World S A) → Past machine b w → Past machine b (next_own machine i w)
  next_own_past b i w past = go (ltb (machine.key i (number (w.part i).first (w.part i).done)) machine.top) refl
    where
      go : (v : Bool) → ltb (machine.key i (number (w.part i).first (w.part i).done)) machine.top ≡ v → Past machine b (next_own machine i w)
      go true h = rw h (process_own_past b i _ w (ltb-true (machine.key i (number (w.part i).first (w.part i).done)) machine.top h) past)
      go false h = rw h past

  pub process_from_past : (b i : ℕ) (xs : List (Item A)) (w : World S A) → (w.part i).pending ≡ xs → Past machine b w → Past machine b (process_from machine i xs w)
  process_from_past b i [] w e past = next_own_past b i w past
  process_from_past b i (x ∷ xs) w e past = go (ltb x.key (machine.key i (number (w.part i).first (w.part i).done)))
    where
      p : AllFrom b (x ∷ xs)
      p = subst (λ (ys : List (Item A)). AllFrom b ys) e (past i).pending

      go : (v : Bool) → Past machine b (cond v (process_input i x xs w) (next_own machine i w))
      go true = local_past b i (with_done (w.part i) (Input x ∷ (w.part i).done) xs) w (record { turn = (past i).turn; pending = p.1; plus = (past i).plus; minus = (past i).minus }) past
      go false = next_own_past b i w past

  pub deliver_plus_past : {off : Outside A} → (b j : ℕ) (x : Item A) (w : World S A) → IsOpen machine off w → 0 < times machine (w.part j).plus x.key x.action → Past machine b w → Past machine b (walk_plus machine j x w)
  deliver_plus_past {off} b j x w is hp past = go (has machine x (w.part j).owed)
    where
      low : b ≤ x.key
      low = all_low machine law b x (w.part j).plus (past j).plus hp

      v : World S A
      v = back_past machine j x (w.part j).done w

      then : Past machine b v
      then = back_past_past b j x (w.part j).done w is refl low past

      go : (t : Bool) → Past machine b (cond t (pay machine j x w) (accept machine j x v))
      go true = local_past b j _ w (record { turn = (past j).turn; pending = (past j).pending; plus = AllFrom-remove machine b x (w.part j).plus (past j).plus; minus = (past j).minus }) past
      go false = local_past b j _ v (record { turn = (then j).turn; pending = AllFrom-insert machine b x (v.part j).pending low (then j).pending; plus = AllFrom-remove machine b x (v.part j).plus (then j).plus; minus = (then j).minus }) then

  pub cancel_past : (b j : ℕ) (x : Item A) (w : World S A) → Past machine b w → Past machine b (cancel machine j x w)
  cancel_past b j x w past = local_past b j _ w (record { turn = (past j).turn; pending = AllFrom-remove machine b x (w.part j).pending (past j).pending; plus = (past j).plus; minus = AllFrom-remove machine b x (w.part j).minus (past j).minus }) past

  pub deliver_minus_past : {off : Outside A} → (b j : ℕ) (x : Item A) (w : World S A) → IsOpen machine off w → 0 < times machine (w.part j).minus x.key x.action → Past machine b w → Past machine b (walk_minus machine j x w)
  deliver_minus_past {off} b j x w is hm past = go (has machine x (w.part j).pending)
    where
      rest : (t : Bool) → ltb 0 (inputs machine (w.part j).done x.key x.action) ≡ t → Past machine b (cond t (cancel machine j x (back_to machine j x (w.part j).done w)) (owe machine j x w))
      rest true h = cancel_past b j x (back_to machine j x (w.part j).done w) (back_to_past b j x (w.part j).done w is refl (ltb-true 0 (inputs machine (w.part j).done x.key x.action) h) (all_low machine law b x (w.part j).minus (past j).minus hm) past)
      rest false h = local_past b j _ w (record { turn = (past j).turn; pending = (past j).pending; plus = (past j).plus; minus = AllFrom-remove machine b x (w.part j).minus (past j).minus }) past

      go : (t : Bool) → Past machine b (cond t (cancel machine j x w) (cond (ltb 0 (inputs machine (w.part j).done x.key x.action)) (cancel machine j x (back_to machine j x (w.part j).done w)) (owe machine j x w)))
      go true = cancel_past b j x w past
      go false = rest (ltb 0 (inputs machine (w.part j).done x.key x.action)) refl

  pub commit_past : (b c : ℕ) (w : World S A) → Past machine b w → Past machine b (commit machine c w)
  commit_past b c w past j = record { turn = rw (number_split c (w.part j).first (w.part j).done) (past j).turn; pending = (past j).pending; plus = (past j).plus; minus = (past j).minus }

  pub step_past : (b : ℕ) (w : World S A) (step : Step A) (v : World S A) → IsWorld machine w → (IsRollBack step → ⊥) → Walks machine w step v → Past machine b w → Past machine b v
  step_past b w (Process i) v is nr h past = rw h (process_from_past b i (w.part i).pending w refl past)
  step_past b w (RollBack i) v is nr h past = absurd (nr tt)
  step_past b w (DeliverMessage j x) v is nr h past = rw h (go (has machine x (w.part j).plus) refl)
    where
      go : (t : Bool) → has machine x (w.part j).plus ≡ t → Past machine b (cond t (walk_plus machine j x w) w)
      go true e = deliver_plus_past b j x w is (ltb-true 0 (times machine (w.part j).plus x.key x.action) e) past
      go false e = past
  step_past b w (DeliverAntimessage j x) v is nr h past = rw h (go (has machine x (w.part j).minus) refl)
    where
      go : (t : Bool) → has machine x (w.part j).minus ≡ t → Past machine b (cond t (walk_minus machine j x w) w)
      go true e = deliver_minus_past b j x w is (ltb-true 0 (times machine (w.part j).minus x.key x.action) e) past
      go false e = past
  step_past b w (Meet j x) v is nr h past = rw h (go (has machine x (w.part j).plus && has machine x (w.part j).minus))
    where
      go : (t : Bool) → Past machine b (cond t (walk_meet machine j x w) w)
      go true = local_past b j _ w (record { turn = (past j).turn; pending = (past j).pending; plus = AllFrom-remove machine b x (w.part j).plus (past j).plus; minus = AllFrom-remove machine b x (w.part j).minus (past j).minus }) past
      go false = past
  step_past b w (Commit c) v is nr (inl h) past = rw h.1 (commit_past b c w past)
  step_past b w (Commit c) v is nr (inr h) past = rw h.1 past
