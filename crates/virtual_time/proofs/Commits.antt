-- A commit keeps what holds of a world, and so does each step.
use Rattle.std.proofs.Common.{◌≡◌, ℕ, suc, ◌+◌, ◌-◌, ◌<◌, ◌≤◌, ◌&&◌, ◌⊎◌, inl, inr, Bool, true, false, cond, None, Some, List, [], ◌∷◌, refl, ap, sym, subst, arith, ltb}
use Rattle.std.proofs.lemmas.Bool.{ltb-true, lt-ltb, le-ltb, and_parts, cases_lt}
use Rattle.virtual_time.specs.Machine.{Lawful, Machine}
use Rattle.virtual_time.specs.Reference.{Turn}
use Rattle.virtual_time.specs.Entries.{Entry, Input, Item, Own, below, entry_key, from, latest, number, replay}
use Rattle.virtual_time.specs.Worlds.{CanCommit, Commit, DeliverAntimessage, DeliverMessage, IsPast, Meet, Process, RollBack, Step, World, commit, cut, gather, start_world}
use Rattle.virtual_time.specs.Bags.{has, hit, hit_own, inputs, owns, sends, times}
use Rattle.virtual_time.proofs.Moves.{Leads, Walks, walk_meet, walk_minus, walk_plus}
use Rattle.virtual_time.specs.Rules.{IsDone, IsProper, IsWorld, MayFollow}
use Rattle.virtual_time.proofs.Lists.{Each-both}
use Rattle.virtual_time.proofs.Cuts.{cut_reach, no_input, no_turn, no_owns, below_at, below_past}
use Rattle.virtual_time.proofs.Joint.{Reached, joint-all}
use Rattle.virtual_time.proofs.Kept.{process_kept, roll_back_kept}
use Rattle.virtual_time.proofs.Messages.{deliver_plus_kept, deliver_minus_kept, meet_kept}

pub from_at : {A : Type 0} (c : ℕ) (e : Entry A) (es : List (Entry A)) → entry_key e < c → from c (e ∷ es) ≡ []
from_at c e es h = rw (lt-ltb (entry_key e) c h)

pub from_past : {A : Type 0} (c : ℕ) (e : Entry A) (es : List (Entry A)) → c ≤ entry_key e → from c (e ∷ es) ≡ e ∷ from c es
from_past c e es h = rw (le-ltb (entry_key e) c h)

pub number_split : {A : Type 0} (b n : ℕ) (es : List (Entry A)) → number (number n (below b es)) (from b es) ≡ number n es
number_split b n [] = refl
number_split b n (Own k o ∷ es) = go (number_split b n es) (ltb k b)
  where
    go : number (number n (below b es)) (from b es) ≡ number n es → (v : Bool) → number (number n (cond v (Own k o ∷ es) (below b es))) (cond v [] (Own k o ∷ from b es)) ≡ suc (number n es)
    go ih true = refl
    go ih false = ap suc ih
number_split b n (Input x ∷ es) = go (number_split b n es) (ltb x.key b)
  where
    go : number (number n (below b es)) (from b es) ≡ number n es → (v : Bool) → number (number n (cond v (Input x ∷ es) (below b es))) (cond v [] (Input x ∷ from b es)) ≡ number n es
    go ih true = refl
    go ih false = ih

pub latest_low : {A : Type 0} (g b k : ℕ) (es : List (Entry A)) → b ≤ k → latest g es ≤ k → latest b (from b es) ≤ k
latest_low g b k [] p q = p
latest_low g b k (e ∷ es) p q = go (ltb (entry_key e) b)
  where
    go : (v : Bool) → latest b (cond v [] (e ∷ from b es)) ≤ k
    go true = p
    go false = q

pub follow_from : {S A : Type 0} (machine : Machine S A) (g b : ℕ) (es : List (Entry A)) (x : Item A) → b ≤ x.key → MayFollow machine g es x → MayFollow machine b (from b es) x
follow_from machine g b [] x l h = l
follow_from machine g b (Own k o ∷ es) x l h = go (ltb k b)
  where
    go : (v : Bool) → MayFollow machine b (cond v [] (Own k o ∷ from b es)) x
    go true = l
    go false = h
follow_from machine g b (Input y ∷ es) x l h = go (ltb y.key b)
  where
    go : (v : Bool) → MayFollow machine b (cond v [] (Input y ∷ from b es)) x
    go true = l
    go false = h

module _ {S A : Type 0} (machine : Machine S A) (law : Lawful machine) where
  pub replay_split : (i b : ℕ) (s : S) (es : List (Entry A)) → replay machine i (replay machine i s (below b es)) (from b es) ≡ replay machine i s es
  replay_split i b s [] = refl
  replay_split i b s (Own k None ∷ es) = go (replay_split i b s es) (ltb k b)
    where
      go : replay machine i (replay machine i s (below b es)) (from b es) ≡ replay machine i s es
          → (v : Bool) → replay machine i (replay machine i s (cond v (Own k None ∷ es) (below b es))) (cond v [] (Own k None ∷ from b es)) ≡ replay machine i s es
      go ih true = refl
      go ih false = ih
  replay_split i b s (Own k (Some a) ∷ es) = go (replay_split i b s es) (ltb k b)
    where
      go : replay machine i (replay machine i s (below b es)) (from b es) ≡ replay machine i s es
          → (v : Bool) → replay machine i (replay machine i s (cond v (Own k (Some a) ∷ es) (below b es))) (cond v [] (Own k (Some a) ∷ from b es)) ≡ machine.apply i a (replay machine i s es)
      go ih true = refl
      go ih false = ap (machine.apply i a) ih
  replay_split i b s (Input x ∷ es) = go (replay_split i b s es) (ltb x.key b)
    where
      go : replay machine i (replay machine i s (below b es)) (from b es) ≡ replay machine i s es
          → (v : Bool) → replay machine i (replay machine i s (cond v (Input x ∷ es) (below b es))) (cond v [] (Input x ∷ from b es)) ≡ machine.apply i x.action (replay machine i s es)
      go ih true = refl
      go ih false = ap (machine.apply i x.action) ih

  pub inputs_split : (b : ℕ) (es : List (Entry A)) (k : ℕ) (a : A) → inputs machine (from b es) k a ≤ inputs machine es k a
  inputs_split b [] k a = omega arith
  inputs_split b (Own k' o ∷ es) k a = go (inputs_split b es k a) (ltb k' b)
    where
      go : inputs machine (from b es) k a ≤ inputs machine es k a → (v : Bool) → inputs machine (cond v [] (Own k' o ∷ from b es)) k a ≤ inputs machine es k a
      go ih true = omega arith
      go ih false = ih
  inputs_split b (Input x ∷ es) k a = go (inputs_split b es k a) (ltb x.key b)
    where
      go : inputs machine (from b es) k a ≤ inputs machine es k a → (v : Bool) → inputs machine (cond v [] (Input x ∷ from b es)) k a ≤ hit machine x k a + inputs machine es k a
      go ih true = omega arith
      go ih false = omega arith

  module _ (i g n : ℕ) (s : S) (b : ℕ) where
    pub IsDone-from : (es : List (Entry A)) → IsDone machine i g n s es → b ≤ machine.key i (number n es)
        → IsDone machine i b (number n (below b es)) (replay machine i s (below b es)) (from b es)
    IsDone-from [] d h = h
    IsDone-from (Own k o ∷ es) d h = go (IsDone-from es d.4) (cases_lt k b)
      where
        go : (b ≤ machine.key i (number n es) → IsDone machine i b (number n (below b es)) (replay machine i s (below b es)) (from b es)) → (k < b) ⊎ (b ≤ k)
            → IsDone machine i b (number n (below b (Own k o ∷ es))) (replay machine i s (below b (Own k o ∷ es))) (from b (Own k o ∷ es))
        go ih (inl l) = rw (below_at b (Own k o) es l, from_at b (Own k o) es l) h
        go ih (inr l) =
            let e = number_split b n es in
            let r = replay_split i b s es in
            rw (below_past b (Own k o) es l, from_past b (Own k o) es l) (rw e d.0, d.1, rw (e, r) d.2, latest_low g b k es l d.3, ih (omega arith))
    IsDone-from (Input x ∷ es) d h = go (IsDone-from es d.2) (cases_lt x.key b)
      where
        go : (b ≤ machine.key i (number n es) → IsDone machine i b (number n (below b es)) (replay machine i s (below b es)) (from b es)) → (x.key < b) ⊎ (b ≤ x.key)
            → IsDone machine i b (number n (below b (Input x ∷ es))) (replay machine i s (below b (Input x ∷ es))) (from b (Input x ∷ es))
        go ih (inl l) = rw (below_at b (Input x) es l, from_at b (Input x) es l) h
        go ih (inr l) =
            let e = number_split b n es in
            let f = d.0 in
            rw (below_past b (Input x) es l, from_past b (Input x) es l) (rw e d.0, latest_low g b x.key es l d.1, ih (omega arith), follow_from machine g b es x l d.3)

    pub inputs_from : (es : List (Entry A)) → IsDone machine i g n s es → (k : ℕ) → b ≤ k → (a : A) → inputs machine (from b es) k a ≡ inputs machine es k a
    inputs_from [] d k h a = refl
    inputs_from (Own k' o ∷ es) d k h a = go (inputs_from es d.4 k h a) (cases_lt k' b)
      where
        go : inputs machine (from b es) k a ≡ inputs machine es k a → (k' < b) ⊎ (b ≤ k') → inputs machine (from b (Own k' o ∷ es)) k a ≡ inputs machine es k a
        go ih (inl l) = rw (from_at b (Own k' o) es l) (sym (no_input machine law i g n s k (Own k' o ∷ es) d (omega arith) a))
        go ih (inr l) = rw (from_past b (Own k' o) es l) ih
    inputs_from (Input x ∷ es) d k h a = go (inputs_from es d.2 k h a) (cases_lt x.key b)
      where
        go : inputs machine (from b es) k a ≡ inputs machine es k a → (x.key < b) ⊎ (b ≤ x.key) → inputs machine (from b (Input x ∷ es)) k a ≡ hit machine x k a + inputs machine es k a
        go ih (inl l) = rw (from_at b (Input x) es l) (sym (no_input machine law i g n s k (Input x ∷ es) d (omega arith) a))
        go ih (inr l) = rw (from_past b (Input x) es l) (omega arith)

    pub owns_from : (es : List (Entry A)) → IsDone machine i g n s es → (k : ℕ) → b ≤ k → (a : A) → owns machine (from b es) k a ≡ owns machine es k a
    owns_from [] d k h a = refl
    owns_from (Own k' o ∷ es) d k h a = go (owns_from es d.4 k h a) (cases_lt k' b)
      where
        go : owns machine (from b es) k a ≡ owns machine es k a → (k' < b) ⊎ (b ≤ k') → owns machine (from b (Own k' o ∷ es)) k a ≡ hit_own machine k' o k a + owns machine es k a
        go ih (inl l) = rw (from_at b (Own k' o) es l) (sym (no_owns machine law i g n s k (Own k' o ∷ es) (no_turn machine law i g n s k (Own k' o ∷ es) d (omega arith)) a))
        go ih (inr l) = rw (from_past b (Own k' o) es l) (omega arith)
    owns_from (Input x ∷ es) d k h a = go (owns_from es d.2 k h a) (cases_lt x.key b)
      where
        go : owns machine (from b es) k a ≡ owns machine es k a → (x.key < b) ⊎ (b ≤ x.key) → owns machine (from b (Input x ∷ es)) k a ≡ owns machine es k a
        go ih (inl l) = rw (from_at b (Input x) es l) (sym (no_owns machine law i g n s k (Input x ∷ es) (no_turn machine law i g n s k (Input x ∷ es) d (omega arith)) a))
        go ih (inr l) = rw (from_past b (Input x) es l) ih

  pub sends_from : (i g n : ℕ) (s : S) (b : ℕ) (es : List (Entry A)) → IsDone machine i g n s es → (k : ℕ) → b ≤ k → (a : A) (j : ℕ) → sends machine (from b es) k a j ≡ sends machine es k a j
  unfolding sends
  sends_from i g n s b es d k h a j = ap (λ (m : ℕ). cond (machine.receives (machine.owner k) a j) m 0) (owns_from i g n s b es d k h a)

  pub commit_kept : (b : ℕ) (w : World S A) → IsWorld machine w → CanCommit machine w b → IsWorld machine (commit machine b w)
  commit_kept b w is can =
      let ts : List (Turn A) = gather machine w.part w.bound (b - w.bound) w.committed in
      let notb = can.not_behind in
      let full : w.bound + (b - w.bound) ≡ b = omega arith in
      let r : Reached machine law w b ts = subst (λ (c : ℕ). Reached machine law w c ts) full (joint-all machine law w is b can (b - w.bound) (omega arith)) in
      record {
        proper = λ j. proper j (is.proper j) (can.not_ahead j);
        balance = λ j k a low. let b = is.balance j k a (omega arith) in let c = balance j k a low (omega arith) in omega arith;
        reference = record {
          run = r.run;
          below = r.below_c;
          all = λ j. rw (r.next j) (cut_reach machine law j w.bound (w.part j).first (w.part j).base b (w.part j).done (is.proper j).done (can.not_ahead j).turn);
        };
        next = λ j. sym (r.next j);
        grounded = λ j. sym (r.state j);
      }
    where
      proper : (j : ℕ) → IsProper machine w.bound j (w.part j) → IsPast machine b j (w.part j) → IsProper machine b j (cut machine b j (w.part j))
      proper j p past =
          record {
            done = IsDone-from j w.bound (w.part j).first (w.part j).base b (w.part j).done p.done past.turn;
            pending = Each-both (λ y. b ≤ y.key) (MayFollow machine w.bound (w.part j).done) (MayFollow machine b (from b (w.part j).done)) (w.part j).pending (λ y l f. follow_from machine w.bound b (w.part j).done y l f) past.pending p.pending;
            sorted = p.sorted;
            owed_sorted = p.owed_sorted;
            plus = past.plus;
            minus = past.minus;
            owed = λ k a. less k a (p.owed k a) (inputs_split b (w.part j).done k a);
          }
        where
          less : (k : ℕ) (a : A) → (times machine (w.part j).owed k a ≡ 0) ⊎ (times machine (w.part j).pending k a + inputs machine (w.part j).done k a ≡ 0)
              → inputs machine (from b (w.part j).done) k a ≤ inputs machine (w.part j).done k a
              → (times machine (w.part j).owed k a ≡ 0) ⊎ (times machine (w.part j).pending k a + inputs machine (from b (w.part j).done) k a ≡ 0)
          less k a (inl h) l = inl h
          less k a (inr h) l = inr (omega arith)

      balance : (j k : ℕ) (a : A) → b ≤ k
          → sends machine (w.part (machine.owner k)).done k a j + times machine (w.part j).owed k a + times machine (w.part j).minus k a
          ≡ inputs machine (w.part j).done k a + times machine (w.part j).pending k a + times machine (w.part j).plus k a
          → sends machine (from b (w.part (machine.owner k)).done) k a j + times machine (w.part j).owed k a + times machine (w.part j).minus k a
          ≡ inputs machine (from b (w.part j).done) k a + times machine (w.part j).pending k a + times machine (w.part j).plus k a
      balance j k a low bal =
          let x = sends_from (machine.owner k) w.bound (w.part (machine.owner k)).first (w.part (machine.owner k)).base b (w.part (machine.owner k)).done (is.proper (machine.owner k)).done k low a j in
          let y = inputs_from j w.bound (w.part j).first (w.part j).base b (w.part j).done (is.proper j).done k low a in
          omega arith

  pub start_kept : IsWorld machine (start_world machine)
  unfolding sends
  start_kept =
      record {
        proper = λ j. record { done = omega arith; pending = tt; sorted = tt; owed_sorted = tt; plus = tt; minus = tt; owed = λ k a. inl refl };
        balance = λ j k a low. none (machine.receives (machine.owner k) a j);
        reference = record { run = tt; below = tt; all = λ j. omega arith };
        next = λ j. refl;
        grounded = λ j. refl;
      }
    where
      none : (v : Bool) → cond v 0 0 + 0 + 0 + 0 ≡ 0 + 0 + 0 + 0
      none true = refl
      none false = refl

  pub step_kept : (w : World S A) (step : Step A) (v : World S A) → IsWorld machine w → Walks machine w step v → IsWorld machine v
  step_kept w (Process i) v is h = rw h (process_kept machine law i w is)
  step_kept w (RollBack i) v is h = rw h (roll_back_kept machine law i w is)
  step_kept w (DeliverMessage j x) v is h = rw h (go (has machine x (w.part j).plus) refl)
    where
      go : (b : Bool) → has machine x (w.part j).plus ≡ b → IsWorld machine (cond b (walk_plus machine j x w) w)
      go true e = deliver_plus_kept machine law w j x is (ltb-true 0 (times machine (w.part j).plus x.key x.action) e)
      go false e = is
  step_kept w (DeliverAntimessage j x) v is h = rw h (go (has machine x (w.part j).minus) refl)
    where
      go : (b : Bool) → has machine x (w.part j).minus ≡ b → IsWorld machine (cond b (walk_minus machine j x w) w)
      go true e = deliver_minus_kept machine law w j x is (ltb-true 0 (times machine (w.part j).minus x.key x.action) e)
      go false e = is
  step_kept w (Meet j x) v is h = rw h (go (has machine x (w.part j).plus && has machine x (w.part j).minus) refl)
    where
      go : (b : Bool) → (has machine x (w.part j).plus && has machine x (w.part j).minus) ≡ b → IsWorld machine (cond b (walk_meet machine j x w) w)
      go true e =
          let p = and_parts (has machine x (w.part j).plus) (has machine x (w.part j).minus) e in
          meet_kept machine law w j x is (ltb-true 0 (times machine (w.part j).plus x.key x.action) p.0) (ltb-true 0 (times machine (w.part j).minus x.key x.action) p.1)
      go false e = is
  step_kept w (Commit b) v is (inl h) = rw h.1 (commit_kept b w is h.0)
  step_kept w (Commit b) v is (inr h) = rw h.1 is

  pub run_kept : (steps : List (Step A)) (w v : World S A) → IsWorld machine w → Leads machine w steps v → IsWorld machine v
  run_kept [] w v is h = rw h is
  run_kept (s ∷ ss) w v is h = run_kept ss h.0 v (step_kept w s h.0 is h.1) h.2
