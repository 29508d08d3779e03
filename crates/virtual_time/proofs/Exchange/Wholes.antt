-- A commit of the exchange is one Commit of the whole world, and a meeting is Meets.
use Rattle.std.proofs.Common.{◌≡◌, ℕ, ◌+◌, ◌<◌, ◌≤◌, ◌==◌, ◌⊎◌, inl, inr, Bool, true, false, cond, List, [], ◌∷◌, refl, ap, sym, subst, ◌∙◌, arith}
use Rattle.std.proofs.lemmas.Bool.{lt-ltb, eqb-true, eq-eqb, ne_eqb, cases_eq, cases_lt}
use Rattle.virtual_time.specs.Inverses.{Pair, meets_of, times_to}
use Rattle.virtual_time.specs.Machine.{Lawful, Machine}
use Rattle.virtual_time.specs.Entries.{Entry, Item, below, entry_key, from, number, replay}
use Rattle.virtual_time.specs.Worlds.{CanCommit, Commit, Part, World, commit, put, start_world}
use Rattle.virtual_time.specs.Bags.{AllFrom, hit, remove, times}
use Rattle.virtual_time.proofs.Moves.{Leads, walk_meet}
use Rattle.virtual_time.specs.Rules.{IsWorld}
use Rattle.virtual_time.specs.Reference.{reference_below}
use Rattle.virtual_time.specs.Exchange.Stubs.{Exchange, IsSound, Stub, start_exchange}
use Rattle.virtual_time.specs.Exchange.Leases.{IsLease, Lease, Matches, start_lease}
use Rattle.virtual_time.specs.Exchange.Meetings.{IsClear, IsCommit, Met}
use Rattle.virtual_time.specs.Exchange.Wholes.{IsWholeWorld, put_lease}
use Rattle.virtual_time.proofs.Counts.{hit_self, times-remove}
use Rattle.virtual_time.proofs.Lists.{AllFrom-weaken, put_same, put_other}
use Rattle.virtual_time.proofs.Cuts.{below_at, below_past}
use Rattle.virtual_time.proofs.Joint.{all_zero}
use Rattle.virtual_time.proofs.Commits.{from_at, from_past, number_split, replay_split, commit_kept}
use Rattle.virtual_time.proofs.Prefix.{reference_one}
use Rattle.virtual_time.proofs.Refs.{ref_is}

-- a cut and a later one are the later one
pub number_twice : {A : Type 0} (g b n : ℕ) (es : List (Entry A)) → g ≤ b → number (number n (below g es)) (below b (from g es)) ≡ number n (below b es)
number_twice g b n [] l = refl
number_twice {A} g b n (e ∷ es) l = go (number_twice g b n es l) (cases_lt (entry_key e) g) (cases_lt (entry_key e) b)
  where
    go : number (number n (below g es)) (below b (from g es)) ≡ number n (below b es) → (entry_key e < g) ⊎ (g ≤ entry_key e) → (entry_key e < b) ⊎ (b ≤ entry_key e)
        → number (number n (below g (e ∷ es))) (below b (from g (e ∷ es))) ≡ number n (below b (e ∷ es))
    go ih (inl h) k = rw (from_at g e es h, below_at g e es h, below_at b e es (omega arith))
    go ih (inr h) (inl k) =
        let s = number_split g n (e ∷ es) in
        let t : number (number n (below g es)) (e ∷ from g es) ≡ number n (e ∷ es) = subst (λ (fs : List (Entry A)). number (number n fs) (e ∷ from g es) ≡ number n (e ∷ es)) (below_past g e es h) (subst (λ (fs : List (Entry A)). number (number n (below g (e ∷ es))) fs ≡ number n (e ∷ es)) (from_past g e es h) s) in
        rw (from_past g e es h, below_past g e es h, below_at b e (from g es) k, below_at b e es k) t
    go ih (inr h) (inr k) = rw (from_past g e es h, below_past g e es h, below_past b e (from g es) k, below_past b e es k) ih

pub from_twice : {A : Type 0} (g b : ℕ) (es : List (Entry A)) → g ≤ b → from b (from g es) ≡ from b es
from_twice g b [] l = refl
from_twice g b (e ∷ es) l = go (from_twice g b es l) (cases_lt (entry_key e) g) (cases_lt (entry_key e) b)
  where
    go : from b (from g es) ≡ from b es → (entry_key e < g) ⊎ (g ≤ entry_key e) → (entry_key e < b) ⊎ (b ≤ entry_key e) → from b (from g (e ∷ es)) ≡ from b (e ∷ es)
    go ih (inl h) k = rw (from_at g e es h, from_at b e es (omega arith))
    go ih (inr h) (inl k) = rw (from_past g e es h, from_at b e (from g es) k, from_at b e es k)
    go ih (inr h) (inr k) = rw (from_past g e es h, from_past b e (from g es) k, from_past b e es k, ih)

module _ {S A : Type 0} (machine : Machine S A) (law : Lawful machine) where
  pub replay_twice : (i g b : ℕ) (s : S) (es : List (Entry A)) → g ≤ b → replay machine i (replay machine i s (below g es)) (below b (from g es)) ≡ replay machine i s (below b es)
  replay_twice i g b s [] l = refl
  replay_twice i g b s (e ∷ es) l = go (replay_twice i g b s es l) (cases_lt (entry_key e) g) (cases_lt (entry_key e) b)
    where
      go : replay machine i (replay machine i s (below g es)) (below b (from g es)) ≡ replay machine i s (below b es) → (entry_key e < g) ⊎ (g ≤ entry_key e) → (entry_key e < b) ⊎ (b ≤ entry_key e)
          → replay machine i (replay machine i s (below g (e ∷ es))) (below b (from g (e ∷ es))) ≡ replay machine i s (below b (e ∷ es))
      go ih (inl h) k = rw (from_at g e es h, below_at g e es h, below_at b e es (omega arith))
      go ih (inr h) (inl k) =
          let t = replay_split machine law i g s (e ∷ es) in
          let u : replay machine i (replay machine i s (below g es)) (e ∷ from g es) ≡ replay machine i s (e ∷ es) = subst (λ (fs : List (Entry A)). replay machine i (replay machine i s fs) (e ∷ from g es) ≡ replay machine i s (e ∷ es)) (below_past g e es h) (subst (λ (fs : List (Entry A)). replay machine i (replay machine i s (below g (e ∷ es))) fs ≡ replay machine i s (e ∷ es)) (from_past g e es h) t) in
          rw (from_past g e es h, below_past g e es h, below_at b e (from g es) k, below_at b e es k) u
      go ih (inr h) (inr k) = rw (from_past g e es h, below_past g e es h, below_past b e (from g es) k, below_past b e es k) ih

  pub low_counts : (b : ℕ) (xs : List (Item A)) → ((k : ℕ) (a : A) → k < b → times machine xs k a ≡ 0) → AllFrom b xs
  low_counts b [] h = tt
  low_counts b (x ∷ xs) h = (here (cases_lt x.key b), low_counts b xs (λ k a l. let z = h k a l in omega arith))
    where
      here : (x.key < b) ⊎ (b ≤ x.key) → b ≤ x.key
      here (inl l) = let z = h x.key x.action l in let o = hit_self machine law x in absurd (omega arith)
      here (inr l) = l

  module _ {count : ℕ} (e : Exchange A) (is : IsSound machine count e) (ls : ℕ → Lease S A) (leases : (j : ℕ) → IsLease machine j (ls j)) (match : (j : ℕ) → Matches machine j (e.stub j) (ls j)) (w : World S A) (whole : IsWholeWorld machine e ls w) where
    pub can : (b : ℕ) → e.bound ≤ b → IsClear machine e b → CanCommit machine w b
    can b up clear =
        record {
          not_behind = let h = whole.bound in omega arith;
          not_ahead = λ j. record {
            turn = let n = number_split e.bound (ls j).part.first (ls j).part.done in let t = (leases j).past.turn in rw (whole.first j, whole.done j, n) (omega (arith, high j));
            pending = rw (whole.pending j) (AllFrom-weaken b (ls j).floor (ls j).part.pending (high j) (leases j).past.pending);
            plus = low_counts b (w.part j).plus (λ k a l.
                let h = high j in
                let o = high (machine.owner k) in
                let x = whole.plus j k a in
                let p = all_zero machine law (ls j).floor k (ls j).part.plus (leases j).past.plus (omega arith) a in
                let q = all_zero machine law b k (e.stub j).plus (clear.plus j) l a in
                let r = all_zero machine law (ls (machine.owner k)).floor k ((ls (machine.owner k)).out_plus j) ((leases (machine.owner k)).out_plus j) (omega arith) a in
                omega arith);
            minus = low_counts b (w.part j).minus (λ k a l.
                let h = high j in
                let o = high (machine.owner k) in
                let x = whole.minus j k a in
                let p = all_zero machine law (ls j).floor k (ls j).part.minus (leases j).past.minus (omega arith) a in
                let q = all_zero machine law b k (e.stub j).minus (clear.minus j) l a in
                let r = all_zero machine law (ls (machine.owner k)).floor k ((ls (machine.owner k)).out_minus j) ((leases (machine.owner k)).out_minus j) (omega arith) a in
                omega arith);
          };
        }
      where
        high : (j : ℕ) → b ≤ (ls j).floor
        high j = let c = clear.floor j in let m = (match j).floor in omega arith

    -- one Commit
    pub commit_whole : (b : ℕ) → e.bound ≤ b → IsClear machine e b → IsWorld machine w
        → (v : World S A) × Leads machine w (Commit b ∷ []) v × IsWholeWorld machine (record { stub = e.stub; bound = b; held = e.held; given = e.given }) ls v
    commit_whole b up clear isw =
        let c = can b up clear in
        let kept = commit_kept machine law b w isw c in (
          commit machine b w,
          (commit machine b w, inl (c, refl), refl),
          record {
            bound = refl;
            committed = reference_one machine b (commit machine b w).committed (reference_below machine b) kept.reference (ref_is machine law b clear.end);
            base = λ j. rw (whole.base j, whole.done j) (replay_twice j e.bound b (ls j).part.base (ls j).part.done up);
            first = λ j. rw (whole.first j, whole.done j) (number_twice e.bound b (ls j).part.first (ls j).part.done up);
            done = λ j. rw (whole.done j) (from_twice e.bound b (ls j).part.done up);
            pending = whole.pending;
            owed = whole.owed;
            plus = whole.plus;
            minus = whole.minus;
          },
        )

  -- Meets of a list of pairs
  pub record Gone (w v : World S A) (gone : List (Pair A)) : Type 0 where
    pub bound : v.bound ≡ w.bound
    pub committed : v.committed ≡ w.committed
    pub base : (j : ℕ) → (v.part j).base ≡ (w.part j).base
    pub first : (j : ℕ) → (v.part j).first ≡ (w.part j).first
    pub done : (j : ℕ) → (v.part j).done ≡ (w.part j).done
    pub pending : (j : ℕ) → (v.part j).pending ≡ (w.part j).pending
    pub owed : (j : ℕ) → (v.part j).owed ≡ (w.part j).owed
    pub plus : (j k : ℕ) (a : A) → times machine (v.part j).plus k a + times_to machine gone j k a ≡ times machine (w.part j).plus k a
    pub minus : (j k : ℕ) (a : A) → times machine (v.part j).minus k a + times_to machine gone j k a ≡ times machine (w.part j).minus k a

  abbrev pub met_part : ℕ → Item A → World S A → Part S A
  met_part i x w = let c = w.part i in record { base = c.base; first = c.first; done = c.done; pending = c.pending; owed = c.owed; plus = remove machine x c.plus; minus = remove machine x c.minus }

  pub put_cases : (P : Part S A → Part S A → Type 0) (i : ℕ) (c : Part S A) (parts : ℕ → Part S A) → P c (parts i) → ((d : Part S A) → P d d) → (j : ℕ) → P (put i c parts j) (parts j)
  put_cases P i c parts here other j = go (cases_eq j i)
    where
      go : (j ≡ i) ⊎ (j ≡ i → ⊥) → P (put i c parts j) (parts j)
      go (inl e) = subst (λ (m : ℕ). P (put i c parts m) (parts m)) (sym e) (subst (λ (d : Part S A). P d (parts i)) (sym (put_same i c parts)) here)
      go (inr ne) = subst (λ (d : Part S A). P d (parts j)) (sym (put_other i c parts j ne)) (other (parts j))

  pub one_gone : (x : Pair A) (w : World S A) → 0 < times machine (w.part x.to).plus x.item.key x.item.action → 0 < times machine (w.part x.to).minus x.item.key x.item.action → Gone w (walk_meet machine x.to x.item w) (x ∷ [])
  one_gone x w hp hm =
      record {
        bound = refl;
        committed = refl;
        base = put_cases (λ c d. c.base ≡ d.base) x.to (met_part x.to x.item w) w.part refl (λ d. refl);
        first = put_cases (λ c d. c.first ≡ d.first) x.to (met_part x.to x.item w) w.part refl (λ d. refl);
        done = put_cases (λ c d. c.done ≡ d.done) x.to (met_part x.to x.item w) w.part refl (λ d. refl);
        pending = put_cases (λ c d. c.pending ≡ d.pending) x.to (met_part x.to x.item w) w.part refl (λ d. refl);
        owed = put_cases (λ c d. c.owed ≡ d.owed) x.to (met_part x.to x.item w) w.part refl (λ d. refl);
        plus = λ j k a. plus j k a (cases_eq j x.to);
        minus = λ j k a. minus j k a (cases_eq j x.to);
      }
    where
      plus : (j k : ℕ) (a : A) → (j ≡ x.to) ⊎ (j ≡ x.to → ⊥) → times machine (put x.to (met_part x.to x.item w) w.part j).plus k a + (cond (x.to == j) (hit machine x.item k a) 0 + 0) ≡ times machine (w.part j).plus k a
      plus j k a (inl e) =
          let t = times-remove machine law x.item (w.part x.to).plus k a hp in
          subst (λ (m : ℕ). times machine (put x.to (met_part x.to x.item w) w.part m).plus k a + (cond (x.to == m) (hit machine x.item k a) 0 + 0) ≡ times machine (w.part m).plus k a) (sym e)
          (rw (eq-eqb x.to x.to refl) (omega arith))
      plus j k a (inr ne) =
          let z : times machine (put x.to (met_part x.to x.item w) w.part j).plus k a ≡ times machine (w.part j).plus k a = ap (λ (c : Part S A). times machine c.plus k a) (put_other x.to (met_part x.to x.item w) w.part j ne) in
          rw (ne_eqb x.to j (λ (e : x.to ≡ j). ne (sym e))) (omega arith)

      minus : (j k : ℕ) (a : A) → (j ≡ x.to) ⊎ (j ≡ x.to → ⊥) → times machine (put x.to (met_part x.to x.item w) w.part j).minus k a + (cond (x.to == j) (hit machine x.item k a) 0 + 0) ≡ times machine (w.part j).minus k a
      minus j k a (inl e) =
          let t = times-remove machine law x.item (w.part x.to).minus k a hm in
          subst (λ (m : ℕ). times machine (put x.to (met_part x.to x.item w) w.part m).minus k a + (cond (x.to == m) (hit machine x.item k a) 0 + 0) ≡ times machine (w.part m).minus k a) (sym e)
          (rw (eq-eqb x.to x.to refl) (omega arith))
      minus j k a (inr ne) =
          let z : times machine (put x.to (met_part x.to x.item w) w.part j).minus k a ≡ times machine (w.part j).minus k a = ap (λ (c : Part S A). times machine c.minus k a) (put_other x.to (met_part x.to x.item w) w.part j ne) in
          rw (ne_eqb x.to j (λ (e : x.to ≡ j). ne (sym e))) (omega arith)

  pub meets_all : (gone : List (Pair A)) (w : World S A)
      → ((j k : ℕ) (a : A) → times_to machine gone j k a ≤ times machine (w.part j).plus k a) → ((j k : ℕ) (a : A) → times_to machine gone j k a ≤ times machine (w.part j).minus k a)
      → (v : World S A) × Leads machine w (meets_of gone) v × Gone w v gone
  meets_all [] w hp hm = (
    w,
    refl,
    record {
      bound = refl;
      committed = refl;
      base = λ j. refl;
      first = λ j. refl;
      done = λ j. refl;
      pending = λ j. refl;
      owed = λ j. refl;
      plus = λ j k a. omega arith;
      minus = λ j k a. omega arith;
    },
  )
  meets_all (x ∷ xs) w hp hm =
      let k : ℕ = x.item.key in
      let a : A = x.item.action in
      let same : cond (x.to == x.to) (hit machine x.item x.item.key x.item.action) 0 ≡ 1 = rw (eq-eqb x.to x.to refl) (hit_self machine law x.item) in
      let p = hp x.to x.item.key x.item.action in
      let m = hm x.to x.item.key x.item.action in
      let o = one_gone x w (omega arith) (omega arith) in
      let r = meets_all xs (walk_meet machine x.to x.item w) (λ j k a. let t = o.plus j k a in let h = hp j k a in omega arith) (λ j k a. let t = o.minus j k a in let h = hm j k a in omega arith) in
      (r.0, (walk_meet machine x.to x.item w, rw (lt-ltb 0 (times machine (w.part x.to).plus x.item.key x.item.action) (omega arith), lt-ltb 0 (times machine (w.part x.to).minus x.item.key x.item.action) (omega arith)), r.1), then {v = r.0} o r.2)
    where
      then : {u v : World S A} → Gone w u (x ∷ []) → Gone u v xs → Gone w v (x ∷ xs)
      then o r =
          record {
            bound = r.bound ∙ o.bound;
            committed = r.committed ∙ o.committed;
            base = λ j. r.base j ∙ o.base j;
            first = λ j. r.first j ∙ o.first j;
            done = λ j. r.done j ∙ o.done j;
            pending = λ j. r.pending j ∙ o.pending j;
            owed = λ j. r.owed j ∙ o.owed j;
            plus = λ j k a. let s = o.plus j k a in let t = r.plus j k a in omega arith;
            minus = λ j k a. let s = o.minus j k a in let t = r.minus j k a in omega arith;
          }

  module _ (i : ℕ) (e : Exchange A) (ls : ℕ → Lease S A) (leases : (j : ℕ) → IsLease machine j (ls j)) (w : World S A) (whole : IsWholeWorld machine e ls w)
      (e' : Exchange A) (l' : Lease S A) (met : Met machine i e (ls i) e' l') where
    abbrev Out_plus : (ℕ → Lease S A) → ℕ → ℕ → A → ℕ
    Out_plus fs j k a = times machine ((fs (machine.owner k)).out_plus j) k a

    abbrev Out_minus : (ℕ → Lease S A) → ℕ → ℕ → A → ℕ
    Out_minus fs j k a = times machine ((fs (machine.owner k)).out_minus j) k a

    -- what the meeting lease has out is part of what is out
    pub out_parts : (j k : ℕ) (a : A) → (Out_plus ls j k a ≡ times machine ((ls i).out_plus j) k a + Out_plus (put_lease i l' ls) j k a) × (Out_minus ls j k a ≡ times machine ((ls i).out_minus j) k a + Out_minus (put_lease i l' ls) j k a)
    out_parts j k a = go (cases_eq (machine.owner k) i)
      where
        go : (machine.owner k ≡ i) ⊎ (machine.owner k ≡ i → ⊥) → (Out_plus ls j k a ≡ times machine ((ls i).out_plus j) k a + Out_plus (put_lease i l' ls) j k a) × (Out_minus ls j k a ≡ times machine ((ls i).out_minus j) k a + Out_minus (put_lease i l' ls) j k a)
        go (inl own) =
            let x : Out_plus ls j k a ≡ times machine ((ls i).out_plus j) k a = ap (λ (m : ℕ). times machine ((ls m).out_plus j) k a) own in
            let y : Out_minus ls j k a ≡ times machine ((ls i).out_minus j) k a = ap (λ (m : ℕ). times machine ((ls m).out_minus j) k a) own in
            let p : Out_plus (put_lease i l' ls) j k a ≡ 0 = rw (eq-eqb (machine.owner k) i own, met.out_plus j) refl in
            let q : Out_minus (put_lease i l' ls) j k a ≡ 0 = rw (eq-eqb (machine.owner k) i own, met.out_minus j) refl in
            (omega arith, omega arith)
        go (inr ne) =
            let x = (leases i).mine_plus j k a ne in
            let y = (leases i).mine_minus j k a ne in
            let p : Out_plus (put_lease i l' ls) j k a ≡ Out_plus ls j k a = rw (ne_eqb (machine.owner k) i ne) refl in
            let q : Out_minus (put_lease i l' ls) j k a ≡ Out_minus ls j k a = rw (ne_eqb (machine.owner k) i ne) refl in
            (omega arith, omega arith)

    pub room_plus : (j k : ℕ) (a : A) → times_to machine met.gone j k a ≤ times machine (w.part j).plus k a
    room_plus j k a = let x = whole.plus j k a in let o = (out_parts j k a).0 in let b = met.by_plus j k a in omega arith

    pub room_minus : (j k : ℕ) (a : A) → times_to machine met.gone j k a ≤ times machine (w.part j).minus k a
    room_minus j k a = let x = whole.minus j k a in let o = (out_parts j k a).1 in let b = met.by_minus j k a in omega arith

    -- Meets
    pub meet_whole : (v : World S A) × Leads machine w (meets_of met.gone) v × IsWholeWorld machine e' (put_lease i l' ls) v
    meet_whole = let r = meets_all met.gone w room_plus room_minus in (r.0, r.1, whole_new r.0 r.2)
      where
        tray_in : (j k : ℕ) (a : A) → (j ≡ i) ⊎ (j ≡ i → ⊥)
            → (times machine ((put_lease i l' ls) j).part.plus k a + times machine (e'.stub j).plus k a ≡ times machine (ls j).part.plus k a + times machine (met.p j) k a)
            × (times machine ((put_lease i l' ls) j).part.minus k a + times machine (e'.stub j).minus k a ≡ times machine (ls j).part.minus k a + times machine (met.m j) k a)
        tray_in j k a (inl f) =
            subst (λ (n : ℕ). (times machine ((put_lease i l' ls) n).part.plus k a + times machine (e'.stub n).plus k a ≡ times machine (ls n).part.plus k a + times machine (met.p n) k a)
            × (times machine ((put_lease i l' ls) n).part.minus k a + times machine (e'.stub n).minus k a ≡ times machine (ls n).part.minus k a + times machine (met.m n) k a)) (sym f)
            (let t = met.tray_plus k a in let u = met.tray_minus k a in rw (eq-eqb i i refl, met.inbox_plus, met.inbox_minus) (omega arith, omega arith))
        tray_in j k a (inr ne) =
            let p : times machine (e'.stub j).plus k a ≡ times machine (met.p j) k a = ap (λ (st : Stub A). times machine st.plus k a) (met.others j ne) in
            let m : times machine (e'.stub j).minus k a ≡ times machine (met.m j) k a = ap (λ (st : Stub A). times machine st.minus k a) (met.others j ne) in
            rw (ne_eqb j i ne) (omega arith, omega arith)

        here : (P : ℕ → Lease S A → Type 0) → P i l' → ((j : ℕ) → P j (ls j)) → (j : ℕ) → P j (put_lease i l' ls j)
        here P h o j = pick (j == i) refl
          where
            pick : (b : Bool) → (j == i) ≡ b → P j (cond b l' (ls j))
            pick true f = subst (λ (n : ℕ). P n l') (sym (eqb-true j i f)) h
            pick false f = o j

        whole_new : (v : World S A) → Gone w v met.gone → IsWholeWorld machine e' (put_lease i l' ls) v
        whole_new v g =
            record {
              bound = g.bound ∙ whole.bound ∙ sym met.bound;
              committed = rw met.bound (g.committed ∙ whole.committed);
              base = rw met.bound (here (λ j l. (v.part j).base ≡ replay machine j l.part.base (below e.bound l.part.done))
                  (g.base i ∙ whole.base i ∙ rw (met.state, met.done) (sym (replay_twice i e.bound e.bound (ls i).part.base (ls i).part.done (omega arith)))) (λ j. g.base j ∙ whole.base j));
              first = rw met.bound (here (λ j l. (v.part j).first ≡ number l.part.first (below e.bound l.part.done))
                  (g.first i ∙ whole.first i ∙ rw (met.first, met.done) (sym (number_twice e.bound e.bound (ls i).part.first (ls i).part.done (omega arith)))) (λ j. g.first j ∙ whole.first j));
              done = rw met.bound (here (λ j l. (v.part j).done ≡ from e.bound l.part.done)
                  (g.done i ∙ whole.done i ∙ rw met.done (sym (from_twice e.bound e.bound (ls i).part.done (omega arith)))) (λ j. g.done j ∙ whole.done j));
              pending = here (λ j l. (v.part j).pending ≡ l.part.pending) (g.pending i ∙ whole.pending i ∙ sym met.pending) (λ j. g.pending j ∙ whole.pending j);
              owed = here (λ j l. (v.part j).owed ≡ l.part.owed) (g.owed i ∙ whole.owed i ∙ sym met.owed) (λ j. g.owed j ∙ whole.owed j);
              plus = λ j k a. let x = whole.plus j k a in let o = (out_parts j k a).0 in let b = met.by_plus j k a in let t = (tray_in j k a (cases_eq j i)).0 in let h = g.plus j k a in omega arith;
              minus = λ j k a. let x = whole.minus j k a in let o = (out_parts j k a).1 in let b = met.by_minus j k a in let t = (tray_in j k a (cases_eq j i)).1 in let h = g.minus j k a in omega arith;
            }

  pub commit_leads : {count : ℕ} (e e' : Exchange A) (ls : ℕ → Lease S A) (w : World S A) → IsSound machine count e → ((j : ℕ) → IsLease machine j (ls j)) → ((j : ℕ) → Matches machine j (e.stub j) (ls j)) → IsWholeWorld machine e ls w → IsWorld machine w → IsCommit machine e e'
      → (v : World S A) × Leads machine w (Commit e'.bound ∷ []) v × IsWholeWorld machine e' ls v
  commit_leads e e' ls w is leases match whole isw c =
      let up = c.most e.bound (record { end = is.end; floor = is.floor; plus = is.plus; minus = is.minus }) in
      let r = commit_whole e is ls leases match w whole e'.bound up c.clear isw in
      (r.0, r.1, subst (λ (x : Exchange A). IsWholeWorld machine x ls r.0) (sym c.rest) r.2)

  pub start_whole : IsWholeWorld machine (start_exchange machine) (start_lease machine) (start_world machine)
  start_whole =
      record {
        bound = refl;
        committed = refl;
        base = λ j. refl;
        first = λ j. refl;
        done = λ j. refl;
        pending = λ j. refl;
        owed = λ j. refl;
        plus = λ j k a. omega arith;
        minus = λ j k a. omega arith;
      }
