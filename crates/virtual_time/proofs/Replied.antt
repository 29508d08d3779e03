-- Steps with their replies: what they keep, global virtual time, and commits.
use Rattle.std.proofs.Common.{◌≡◌, ℕ, zero, suc, ◌+◌, ◌-◌, ◌≤◌, ◌⊎◌, inl, inr, Bool, true, false, cond, Option, None, Some, List, [], ◌∷◌, ◌++◌, refl, ap, sym, subst, ◌∙◌, arith, ltb}
use Rattle.std.proofs.lemmas.Bool.{ltb-false}
use Rattle.virtual_time.specs.Machine.{Machine, Lawful}
use Rattle.virtual_time.specs.Reference.{Turn, IsReference, add_turn}
use Rattle.virtual_time.specs.Entries.{Entry, Own, Input, Item, number, replay, turn_at}
use Rattle.virtual_time.specs.Bags.{AllFrom, IsSorted, has}
use Rattle.virtual_time.specs.Records.{Record, own_next, next_of, least_of}
use Rattle.virtual_time.specs.Worlds.{Part, World, Step, Process, RollBack, DeliverMessage, DeliverAntimessage, Meet, Commit, IsPast, Past, CanCommit, Happens, record_of, can_meet, commit, gather, process_entry, undo_entry, start_world}
use Rattle.virtual_time.specs.Rules.{IsWorld, IsRollBack}
use Rattle.virtual_time.specs.Replies.{Reply, Answers, Runs, IsReached, IsVirtualTime, IsAt, HasKey, IsAtRest, Committed, Refused}
use Rattle.virtual_time.proofs.Lists.{Each-weaken, first_low, AllFrom-weaken}
use Rattle.virtual_time.proofs.Commits.{step_kept, start_kept}
use Rattle.virtual_time.proofs.Past.{bound_past, step_past}
use Rattle.virtual_time.proofs.Tied.{walks}
use Rattle.virtual_time.proofs.Cuts.{Some≢None}

module _ {S A : Type 0} (machine : Machine S A) where
  -- nothing is below less
  pub past_less : (g b : ℕ) (w : World S A) → b ≤ g → Past machine g w → Past machine b w
  past_less g b w l past j =
      let p = past j in
      let t = p.turn in
      record { turn = omega arith; pending = AllFrom-weaken b g (w.part j).pending l p.pending; plus = AllFrom-weaken b g (w.part j).plus l p.plus; minus = AllFrom-weaken b g (w.part j).minus l p.minus }

  -- a step is refused, or happens
  pub answered : (count : ℕ) (w : World S A) (step : Step A) (reply : Reply) (v : World S A) → Answers machine count w step reply v → (v ≡ w) ⊎ Happens machine w step v
  answered count w (Process i) reply v (inl h) = inl h.1.stays
  answered count w (Process i) reply v (inr (inl h)) = inl h.2.stays
  answered count w (Process i) reply v (inr (inr (e, l, n, inl h))) = inl h.stays
  answered count w (Process i) reply v (inr (inr (e, l, n, inr h))) = inr h.1
  answered count w (RollBack i) reply v (inl h) = inl h.1.stays
  answered count w (RollBack i) reply v (inr (inl h)) = inl h.2.stays
  answered count w (RollBack i) reply v (inr (inr h)) = inr h.5
  answered count w (DeliverMessage j x) reply v (inl h) = inl h.1.stays
  answered count w (DeliverMessage j x) reply v (inr h) = inr (rw h.0 h.2)
  answered count w (DeliverAntimessage j x) reply v (inl h) = inl h.1.stays
  answered count w (DeliverAntimessage j x) reply v (inr h) = inr (rw h.0 h.2)
  answered count w (Meet j x) reply v (inl h) = inl h.1.stays
  answered count w (Meet j x) reply v (inr h) = inr (rw h.0 h.2)
  answered count w (Commit b) reply v (inl h) = inl h.1.stays
  answered count w (Commit b) reply v (inr (inl h)) = inl h.3.stays
  answered count w (Commit b) reply v (inr (inr h)) = inr (inl (record { not_behind = h.3; not_ahead = past_less h.0 b w h.4 h.2.least }, h.7))

  pub key_from : (b g : ℕ) (xs : List (Item A)) → AllFrom b xs → HasKey g xs → b ≤ g
  key_from b g [] p h = absurd h
  key_from b g (x ∷ xs) p (inl e) = let l = p.0 in omega arith
  key_from b g (x ∷ xs) p (inr h) = key_from b g xs p.1 h

  pub at_from : (b g j : ℕ) (c : Part S A) → IsPast machine b j c → IsAt machine g j c → b ≤ g
  at_from b g j c p (inl e) = let l = p.turn in omega arith
  at_from b g j c p (inr (inl h)) = key_from b g c.pending p.pending h
  at_from b g j c p (inr (inr (inl h))) = key_from b g c.plus p.plus h
  at_from b g j c p (inr (inr (inr h))) = key_from b g c.minus p.minus h

module _ {S A : Type 0} (machine : Machine S A) (law : Lawful machine) where
  -- nothing is past the end
  pub end_past : (b : ℕ) (w : World S A) → Past machine b w → b ≤ machine.top
  end_past b w past = let l = (past 0).turn in let m = law.bounded 0 (number (w.part 0).first (w.part 0).done) in omega arith

  pub most : (w : World S A) (g b : ℕ) → IsVirtualTime machine w g → Past machine b w → b ≤ g
  most w g b is past = go is.reached
    where
      go : (g ≡ machine.top) ⊎ ((j : ℕ) × IsAt machine g j (w.part j)) → b ≤ g
      go (inl e) = let l = end_past b w past in omega arith
      go (inr h) = at_from machine b g h.0 (w.part h.0) (past h.0) h.1

  pub virtual_one : (w : World S A) (g h : ℕ) → IsVirtualTime machine w g → IsVirtualTime machine w h → g ≡ h
  virtual_one w g h p q = let a = most w g h p q.least in let b = most w h g q p.least in omega arith

  pub answer_kept : (count : ℕ) (w : World S A) (step : Step A) (reply : Reply) (v : World S A) → IsWorld machine w → Answers machine count w step reply v → IsWorld machine v
  answer_kept count w step reply v is h = go (answered machine count w step reply v h)
    where
      go : (v ≡ w) ⊎ Happens machine w step v → IsWorld machine v
      go (inl e) = subst (λ (u : World S A). IsWorld machine u) (sym e) is
      go (inr d) = step_kept machine law w step v is (walks machine w step v d)

  pub runs_kept : (count : ℕ) (w : World S A) (steps : List (Step A)) (replies : List Reply) (v : World S A) → IsWorld machine w → Runs machine count w steps replies v → IsWorld machine v
  runs_kept count w [] [] v is h = subst (λ (u : World S A). IsWorld machine u) (sym h) is
  runs_kept count w [] (r ∷ rs) v is h = absurd h
  runs_kept count w (s ∷ ss) [] v is h = absurd h
  runs_kept count w (s ∷ ss) (r ∷ rs) v is h = runs_kept count h.0 ss rs v (answer_kept count w s r h.0 is h.1) h.2

  pub reached_kept : (count : ℕ) (w : World S A) → IsReached machine count w → IsWorld machine w
  reached_kept count w h = runs_kept count (start_world machine) h.steps h.replies w (start_kept machine law) h.run

  pub rises : (count : ℕ) (w : World S A) (step : Step A) (reply : Reply) (v : World S A) (g h : ℕ) → IsWorld machine w → Answers machine count w step reply v → (IsRollBack step → ⊥)
      → IsVirtualTime machine w g → IsVirtualTime machine v h → g ≤ h
  rises count w step reply v g h is ans nr p q = go (answered machine count w step reply v ans)
    where
      go : (v ≡ w) ⊎ Happens machine w step v → g ≤ h
      go (inl e) = most v h g q (subst (λ (u : World S A). Past machine g u) (sym e) p.least)
      go (inr d) = most v h g q (step_past machine law g w step v is nr (walks machine w step v d) p.least)

  pub commit_can : (w : World S A) (g b : ℕ) → IsVirtualTime machine w g → w.bound ≤ b → b ≤ g → CanCommit machine w b
  commit_can w g b p l m = record { not_behind = l; not_ahead = past_less machine g b w m p.least }

  pub commit_accepted : (count : ℕ) (w v : World S A) (g b : ℕ) (reply : Reply) → IsVirtualTime machine w g → w.bound ≤ b → b ≤ g → Answers machine count w (Commit b) reply v
      → (k : ℕ) × (reply ≡ Committed k) × (v ≡ commit machine b w)
  commit_accepted count w v g b reply p l m (inl h) = let n = h.0 in absurd (omega arith)
  commit_accepted count w v g b reply p l m (inr (inl h)) = let n = h.2 in let e = virtual_one w g h.0 p h.1 in absurd (omega arith)
  commit_accepted count w v g b reply p l m (inr (inr h)) = (h.1, h.5, h.7)

  refused_not : (n k : ℕ) → Committed k ≡ Refused n → ⊥
  refused_not n k e = cc

  pub commit_between : (count : ℕ) (w v : World S A) (g b k : ℕ) → IsVirtualTime machine w g → Answers machine count w (Commit b) (Committed k) v → (w.bound ≤ b) × (b ≤ g)
  commit_between count w v g b k p (inl h) = absurd (refused_not 35 k h.1.reply_is)
  commit_between count w v g b k p (inr (inl h)) = absurd (refused_not 34 k h.3.reply_is)
  commit_between count w v g b k p (inr (inr h)) = let e = virtual_one w g h.0 p h.2 in let l = h.4 in (h.3, omega arith)

  -- Rest.
  own_none : (j : ℕ) (r : Record S A) → own_next machine j r ≡ None → machine.top ≤ machine.key j (number r.first r.done)
  own_none j r = go (ltb (machine.key j (number r.first r.done)) machine.top) refl
    where
      own : Entry A
      own = Own (machine.key j (number r.first r.done)) (machine.outcome j (number r.first r.done) (replay machine j r.base r.done))

      go : (b : Bool) → ltb (machine.key j (number r.first r.done)) machine.top ≡ b → cond b (Some own) None ≡ None → machine.top ≤ machine.key j (number r.first r.done)
      go true e h = absurd (Some≢None own h)
      go false e h = ltb-false (machine.key j (number r.first r.done)) machine.top e

  at_end : (j : ℕ) (r : Record S A) (xs : List (Item A)) → IsSorted machine xs → least_of machine j r xs ≡ None → (machine.top ≤ machine.key j (number r.first r.done)) × AllFrom machine.top xs
  at_end j r [] so h = (own_none j r h, tt)
  at_end j r (x ∷ xs) so h = go (ltb x.key (machine.key j (number r.first r.done))) refl h
    where
      go : (b : Bool) → ltb x.key (machine.key j (number r.first r.done)) ≡ b → cond b (Some (Input x)) (own_next machine j r) ≡ None
          → (machine.top ≤ machine.key j (number r.first r.done)) × AllFrom machine.top (x ∷ xs)
      go true e f = absurd (Some≢None (Input x) f)
      go false e f =
          let l = own_none j r f in
          let m = ltb-false x.key (machine.key j (number r.first r.done)) e in
          (l, (omega arith, Each-weaken _ (λ (y : Item A). machine.top ≤ y.key) xs (λ y c. let n = first_low machine x y c in omega arith) so.0))

  pub rest_is : (w : World S A) → IsWorld machine w → IsAtRest machine w → IsVirtualTime machine w machine.top
  rest_is w is rest =
      record {
        least = λ j.
            let p = at_end j (record_of (w.part j)) (w.part j).pending (is.proper j).sorted (rest.next j) in
            record { turn = p.0; pending = p.1; plus = subst (λ (xs : List (Item A)). AllFrom machine.top xs) (sym (rest.plus j)) tt; minus = subst (λ (xs : List (Item A)). AllFrom machine.top xs) (sym (rest.minus j)) tt };
        reached = inl refl;
      }

  pub rest_commits : (count : ℕ) (w v : World S A) (reply : Reply) → IsWorld machine w → IsAtRest machine w → Answers machine count w (Commit machine.top) reply v → IsReference machine machine.top v.committed
  rest_commits count w v reply is rest ans =
      let l = end_past w.bound w (bound_past machine law w is) in
      let r = commit_accepted count w v machine.top machine.top reply (rest_is w is rest) l (omega arith) ans in
      let k = answer_kept count w (Commit machine.top) reply v is ans in
      let b : v.bound ≡ machine.top = ap (λ (u : World S A). u.bound) r.2 in
      subst (λ (c : ℕ). IsReference machine c v.committed) b k.reference

-- What was committed stays.
module _ {S A : Type 0} (machine : Machine S A) where
  add_more : (k : ℕ) (t : Option (Option A)) (us ts : List (Turn A)) → (extra : List (Turn A)) × (us ≡ extra ++ ts) → (extra : List (Turn A)) × (add_turn k t us ≡ extra ++ ts)
  add_more k None us ts h = h
  add_more k (Some o) us ts h = (record { key = k; outcome = o } ∷ h.0, ap (λ (vs : List (Turn A)). record { key = k; outcome = o } ∷ vs) h.1)

  pub gather_more : (parts : ℕ → Part S A) (g d : ℕ) (ts : List (Turn A)) → (extra : List (Turn A)) × (gather machine parts g d ts ≡ extra ++ ts)
  gather_more parts g zero ts = ([], refl)
  gather_more parts g (suc d) ts = add_more (g + d) (turn_at (g + d) (parts (machine.owner (g + d))).done) (gather machine parts g d ts) ts (gather_more parts g d ts)

  same_list : (ts us : List (Turn A)) → us ≡ ts → (extra : List (Turn A)) × (us ≡ extra ++ ts)
  same_list ts us e = ([], e)

  process_list : (i : ℕ) (e : Option (Entry A)) (w : World S A) → (process_entry machine i e w).committed ≡ w.committed
  process_list i None w = refl
  process_list i (Some e) w = refl

  undo_list : (i : ℕ) (es : List (Entry A)) (w : World S A) → (undo_entry machine i es w).committed ≡ w.committed
  undo_list i [] w = refl
  undo_list i (e ∷ es) w = refl

  guarded_list : (b : Bool) (u w : World S A) → u.committed ≡ w.committed → (cond b u w).committed ≡ w.committed
  guarded_list true u w e = e
  guarded_list false u w e = refl

  happens_more : (w : World S A) (step : Step A) (v : World S A) → Happens machine w step v → (extra : List (Turn A)) × (v.committed ≡ extra ++ w.committed)
  happens_more w (Process i) v h = same_list w.committed v.committed (ap (λ (u : World S A). u.committed) h ∙ process_list i (next_of machine i (record_of (w.part i))) w)
  happens_more w (RollBack i) v h = same_list w.committed v.committed (ap (λ (u : World S A). u.committed) h ∙ undo_list i (w.part i).done w)
  happens_more w (DeliverMessage j x) v h = same_list w.committed v.committed (ap (λ (u : World S A). u.committed) h ∙ guarded_list (has machine x (w.part j).plus) _ w refl)
  happens_more w (DeliverAntimessage j x) v h = same_list w.committed v.committed (ap (λ (u : World S A). u.committed) h ∙ guarded_list (has machine x (w.part j).minus) _ w refl)
  happens_more w (Meet j x) v h = same_list w.committed v.committed (ap (λ (u : World S A). u.committed) h ∙ guarded_list (can_meet machine j x w) _ w refl)
  happens_more w (Commit b) v (inl h) = let r = gather_more w.part w.bound (b - w.bound) w.committed in (r.0, ap (λ (u : World S A). u.committed) h.1 ∙ r.1)
  happens_more w (Commit b) v (inr h) = same_list w.committed v.committed (ap (λ (u : World S A). u.committed) h.1)

  pub answer_more : (count : ℕ) (w : World S A) (step : Step A) (reply : Reply) (v : World S A) → Answers machine count w step reply v → (extra : List (Turn A)) × (v.committed ≡ extra ++ w.committed)
  answer_more count w step reply v h = go (answered machine count w step reply v h)
    where
      go : (v ≡ w) ⊎ Happens machine w step v → (extra : List (Turn A)) × (v.committed ≡ extra ++ w.committed)
      go (inl e) = same_list w.committed v.committed (ap (λ (u : World S A). u.committed) e)
      go (inr d) = happens_more w step v d

  joined : (xs ys zs : List (Turn A)) → xs ++ (ys ++ zs) ≡ (xs ++ ys) ++ zs
  joined [] ys zs = refl
  joined (x ∷ xs) ys zs = ap (λ (us : List (Turn A)). x ∷ us) (joined xs ys zs)

  pub runs_more : (count : ℕ) (w : World S A) (steps : List (Step A)) (replies : List Reply) (v : World S A) → Runs machine count w steps replies v → (extra : List (Turn A)) × (v.committed ≡ extra ++ w.committed)
  runs_more count w [] [] v h = same_list w.committed v.committed (ap (λ (u : World S A). u.committed) h)
  runs_more count w [] (r ∷ rs) v h = absurd h
  runs_more count w (s ∷ ss) [] v h = absurd h
  runs_more count w (s ∷ ss) (r ∷ rs) v h =
      let a = answer_more count w s r h.0 h.1 in
      let b = runs_more count h.0 ss rs v h.2 in
      (b.0 ++ a.0, b.1 ∙ ap (λ (us : List (Turn A)). b.0 ++ us) a.1 ∙ joined b.0 a.0 w.committed)
