-- the reference by going up the key, and one component's done entries against it.
use Rattle.std.proofs.Common.{◌≡◌, ℕ, zero, suc, ◌+◌, ◌<◌, ◌≤◌, ◌==◌, ◌&&◌, ◌⊎◌, inl, inr, Bool, true, false, cond, Option, None, Some, List, ◌∷◌, refl, ap, sym, subst, ◌∙◌, arith, ltb}
use Rattle.std.proofs.lemmas.Bool.{ltb-true, lt-ltb, eqb-true, eq-eqb, ne_eqb, and_parts, cases_eq, cases_lt}
use Rattle.virtual_time.specs.Machine.{Lawful, Machine}
use Rattle.virtual_time.specs.Reference.{IsReference, Point, add_turn, after, joint, next_turn, point, reference_below, reference_turn}
use Rattle.virtual_time.specs.Entries.{Entry, Input, Item, Own, below, number, replay, turn_at}
use Rattle.virtual_time.specs.Bags.{hit, inputs, owns, sends}
use Rattle.virtual_time.specs.Rules.{IsDone}
use Rattle.virtual_time.specs.Exchange.Stubs.{hit_turn, reference_sends}
use Rattle.virtual_time.proofs.Counts.{hit_cases}
use Rattle.virtual_time.proofs.Cuts.{Some≢None, cut_skip, cut_own, cut_input, cut_reach, owns_at, no_owns}
use Rattle.virtual_time.proofs.Joint.{own_owner, own_at, AllBelow-weaken}

module _ {S A : Type 0} (machine : Machine S A) (law : Lawful machine) where
  -- the simulator has a turn at c, where its component's next turn has the key
  pub turn_there : (c : ℕ) (p : Point S) → c < machine.top → machine.key (machine.owner c) (p.next (machine.owner c)) ≡ c
      → next_turn machine c p ≡ Some (machine.outcome (machine.owner c) (p.next (machine.owner c)) (p.state (machine.owner c)))
  turn_there c p l e = rw (lt-ltb c machine.top l, eq-eqb (machine.key (machine.owner c) (p.next (machine.owner c))) c e)

  pub record There (c : ℕ) (p : Point S) (o : Option A) : Type 0 where
    pub low : c < machine.top
    pub key : machine.key (machine.owner c) (p.next (machine.owner c)) ≡ c
    pub outcome : o ≡ machine.outcome (machine.owner c) (p.next (machine.owner c)) (p.state (machine.owner c))

  pub turn_is : (c : ℕ) (p : Point S) (o : Option A) → next_turn machine c p ≡ Some o → There c p o
  turn_is c p o h = go (ltb c machine.top && (machine.key (machine.owner c) (p.next (machine.owner c)) == c)) refl h
    where
      go : (b : Bool) → (ltb c machine.top && (machine.key (machine.owner c) (p.next (machine.owner c)) == c)) ≡ b
          → cond b (Some (machine.outcome (machine.owner c) (p.next (machine.owner c)) (p.state (machine.owner c)))) None ≡ Some o → There c p o
      go true e f =
          let q = and_parts (ltb c machine.top) (machine.key (machine.owner c) (p.next (machine.owner c)) == c) e in
          record { low = ltb-true c machine.top q.0; key = eqb-true (machine.key (machine.owner c) (p.next (machine.owner c))) c q.1; outcome = cc }
      go false e f = absurd (Some≢None o (sym f))

  -- a component that has some turn has a first one
  pub has_first : (i m : ℕ) → machine.key i m < machine.top → machine.key i 0 < machine.top
  has_first i zero l = l
  has_first i (suc m) l = go (has_first i m) (cases_lt (machine.key i m) machine.top)
    where
      go : (machine.key i m < machine.top → machine.key i 0 < machine.top) → (machine.key i m < machine.top) ⊎ (machine.top ≤ machine.key i m) → machine.key i 0 < machine.top
      go ih (inl h) = ih h
      go ih (inr h) = let e = law.ends i m h in absurd (omega arith)

  -- the simulator has no turn of a component that has none
  pub no_turn : (k : ℕ) → (machine.key (machine.owner k) 0 < machine.top → ⊥) → reference_turn machine k ≡ None
  no_turn k none = go (reference_turn machine k) refl
    where
      go : (t : Option (Option A)) → reference_turn machine k ≡ t → reference_turn machine k ≡ None
      go None e = e
      go (Some o) e =
          let q = turn_is k (point machine k) o e in
          let h = q.key in
          let l = q.low in
          absurd (none (has_first (machine.owner k) ((point machine k).next (machine.owner k)) (omega arith)))

  -- the reference by going up the keys is the reference
  pub ref_is : (c : ℕ) → c ≤ machine.top → IsReference machine c (reference_below machine c)
  ref_is zero l = record { run = tt; below = tt; all = λ j. omega arith }
  ref_is (suc c) l = go (reference_turn machine c) refl (ref_is c (omega arith))
    where
      go : (t : Option (Option A)) → reference_turn machine c ≡ t → IsReference machine c (reference_below machine c) → IsReference machine (suc c) (add_turn c t (reference_below machine c))
      go None e r = record { run = r.run; below = AllBelow-weaken machine law c (suc c) (reference_below machine c) (omega arith) r.below; all = λ j. all j (r.all j) (cases_eq (machine.key j ((point machine c).next j)) c) }
        where
          all : (j : ℕ) → c ≤ machine.key j ((point machine c).next j) → (machine.key j ((point machine c).next j) ≡ c) ⊎ (machine.key j ((point machine c).next j) ≡ c → ⊥) → suc c ≤ machine.key j ((point machine c).next j)
          all j h (inr ne) = omega arith
          all j h (inl f) =
              let own : machine.owner c ≡ j = ap machine.owner (sym f) ∙ law.owned j ((point machine c).next j) (omega arith) in
              let k : machine.key (machine.owner c) ((point machine c).next (machine.owner c)) ≡ c = subst (λ (m : ℕ). machine.key m ((point machine c).next m) ≡ c) (sym own) f in
              absurd (Some≢None _ (sym (turn_there c (point machine c) (omega arith) k) ∙ e))
      go (Some o) e r =
          let q = turn_is c (point machine c) o e in
          record {
            run = (record { its_key = sym q.key; exists = q.low; least = r.all; its_outcome = q.outcome }, r.run);
            below = (omega arith, AllBelow-weaken machine law c (suc c) (reference_below machine c) (omega arith) r.below);
            all = λ j. all j q.key (r.all j) (cases_eq j (machine.owner c));
          }
        where
          all : (j : ℕ) → machine.key (machine.owner c) ((point machine c).next (machine.owner c)) ≡ c → c ≤ machine.key j ((point machine c).next j) → (j ≡ machine.owner c) ⊎ (j ≡ machine.owner c → ⊥)
              → suc c ≤ machine.key j (cond (j == machine.owner c) (suc ((point machine c).next j)) ((point machine c).next j))
          all j k h (inl f) =
              let up = law.rises (machine.owner c) ((point machine c).next (machine.owner c)) (omega arith) in
              let here : suc c ≤ machine.key (machine.owner c) (suc ((point machine c).next (machine.owner c))) = omega arith in
              rw (eq-eqb j (machine.owner c) f) (subst (λ (m : ℕ). suc c ≤ machine.key m (suc ((point machine c).next m))) (sym f) here)
          all j k h (inr ne) = rw (ne_eqb j (machine.owner c) ne) (other (cases_eq (machine.key j ((point machine c).next j)) c))
            where
              other : (machine.key j ((point machine c).next j) ≡ c) ⊎ (machine.key j ((point machine c).next j) ≡ c → ⊥) → suc c ≤ machine.key j ((point machine c).next j)
              other (inl f) = absurd (ne (sym (law.owned j ((point machine c).next j) (omega arith)) ∙ ap machine.owner f))
              other (inr nf) = omega arith

  -- no component receives its own message
  pub none_self : (c : ℕ) (a : A) → reference_sends machine c a (machine.owner c) ≡ 0
  none_self c a = rw (law.others (machine.owner c) a)

  -- Done entries of component i from a base on: where they stand at c.
  module _ (i g n : ℕ) (s : S) (es : List (Entry A)) (d : IsDone machine i g n s es) where
    pub record At (c : ℕ) : Type 0 where
      pub next : number n (below c es) ≡ (point machine c).next i
      pub state : replay machine i s (below c es) ≡ (point machine c).state i

    -- with no input at c the own turn at c is the reference's
    pub own_turn : (c : ℕ) → c < machine.key i (number n es) → machine.owner c ≡ i → ((a : A) → inputs machine es c a ≡ 0) → At c → turn_at c es ≡ reference_turn machine c
    own_turn c l own none at = go (turn_at c es) refl
      where
        go : (t : Option (Option A)) → turn_at c es ≡ t → t ≡ reference_turn machine c
        go (Some o) e =
            let q = own_at machine law i g n s c o es d none e in
            let k : machine.key (machine.owner c) ((point machine c).next (machine.owner c)) ≡ c = rw (own, ← at.next) (sym q.0) in
            let f : o ≡ machine.outcome (machine.owner c) ((point machine c).next (machine.owner c)) ((point machine c).state (machine.owner c)) = rw (own, ← at.next, ← at.state) q.2 in
            ap (λ (x : Option A). Some x) f ∙ sym (turn_there c (point machine c) q.1 k)
        go None e = sym (nothing (reference_turn machine c) refl)
          where
            nothing : (t : Option (Option A)) → reference_turn machine c ≡ t → t ≡ None
            nothing None f = refl
            nothing (Some o) f =
                let q = turn_is c (point machine c) o f in
                let k : machine.key i (number n (below c es)) ≡ c = rw at.next (subst (λ (m : ℕ). machine.key m ((point machine c).next m) ≡ c) own q.key) in
                let r : suc c ≤ machine.key i (number n (below (suc c) es)) = cut_reach machine law i g n s (suc c) es d l in
                let r' : suc c ≤ machine.key i (number n (below c es)) = subst (λ (fs : List (Entry A)). suc c ≤ machine.key i (number n fs)) (cut_skip machine law c es none e) r in
                absurd (omega arith)

    pub no_other : (c : ℕ) → (machine.owner c ≡ i → ⊥) → turn_at c es ≡ None
    no_other c ne = go (turn_at c es) refl
      where
        go : (t : Option (Option A)) → turn_at c es ≡ t → t ≡ None
        go None e = refl
        go (Some o) e = absurd (ne (own_owner machine law i g n s c o es d e))

    zero_hit : (v : Bool) (h : ℕ) → h ≡ 0 → cond v h 0 ≡ 0
    zero_hit true h e = e
    zero_hit false h e = refl

    full_hit : (v : Bool) (h : ℕ) → h ≡ 0 → cond v h 0 ≡ h
    full_hit true h e = refl
    full_hit false h e = sym e

    abbrev Moved : ℕ → Option (Option A) → Type 0
    Moved c t = (number n (below (suc c) es) ≡ (after machine (add_turn c t (reference_below machine c))).next i) × (replay machine i s (below (suc c) es) ≡ (after machine (add_turn c t (reference_below machine c))).state i)

    skips : (c : ℕ) → At c → below (suc c) es ≡ below c es → Moved c None
    skips c at e = (rw e at.next, rw e at.state)

    own_moves : (c : ℕ) → machine.owner c ≡ i → ((a : A) → inputs machine es c a ≡ 0) → At c → (t : Option (Option A)) → turn_at c es ≡ t → Moved c t
    own_moves c own none at None e = skips c at (cut_skip machine law c es none e)
    own_moves c own none at (Some o) e =
        let f : below (suc c) es ≡ Own c o ∷ below c es = cut_own machine law i g n s c o es d none e in
        (rw (f, eq-eqb i (machine.owner c) (sym own)) (ap suc at.next), rw f (state o))
      where
        state : (o : Option A) → replay machine i s (Own c o ∷ below c es) ≡ joint machine (machine.owner c) o i ((point machine c).state i)
        state None = at.state
        state (Some a) = rw (eq-eqb i (machine.owner c) (sym own)) (ap (machine.apply i a) at.state)

    other_moves : (c : ℕ) → (machine.owner c ≡ i → ⊥) → (t : Option (Option A)) → ((a : A) → inputs machine es c a ≡ cond (machine.receives (machine.owner c) a i) (hit_turn machine c t a) 0) → At c → Moved c t
    other_moves c ne None ins at = skips c at (cut_skip machine law c es (λ a. ins a ∙ zero_hit (machine.receives (machine.owner c) a i) 0 refl) (no_other c ne))
    other_moves c ne (Some None) ins at =
        let m = skips c at (cut_skip machine law c es (λ a. ins a ∙ zero_hit (machine.receives (machine.owner c) a i) 0 refl) (no_other c ne)) in
        (rw (ne_eqb i (machine.owner c) (λ (e : i ≡ machine.owner c). ne (sym e))) m.0, m.1)
    other_moves c ne (Some (Some a)) ins at = go (machine.receives (machine.owner c) a i) refl
      where
        x : Item A
        x = record { key = c; action = a }

        none : machine.receives (machine.owner c) a i ≡ false → (a' : A) → inputs machine es c a' ≡ 0
        none r a' = pick (hit_cases machine law x (record { key = c; action = a' }))
          where
            pick : (hit machine x c a' ≡ 0) ⊎ (x ≡ record { key = c; action = a' }) → inputs machine es c a' ≡ 0
            pick (inl e) = ins a' ∙ zero_hit (machine.receives (machine.owner c) a' i) (hit machine x c a') e
            pick (inr e) =
                let same : machine.receives (machine.owner c) a' i ≡ false = sym (ap (λ (y : Item A). machine.receives (machine.owner c) y.action i) e) ∙ r in
                ins a' ∙ rw same

        one : machine.receives (machine.owner c) a i ≡ true → (a' : A) → inputs machine es c a' ≡ hit machine x c a'
        one r a' = pick (hit_cases machine law x (record { key = c; action = a' }))
          where
            pick : (hit machine x c a' ≡ 0) ⊎ (x ≡ record { key = c; action = a' }) → inputs machine es c a' ≡ hit machine x c a'
            pick (inl e) = ins a' ∙ full_hit (machine.receives (machine.owner c) a' i) (hit machine x c a') e
            pick (inr e) =
                let same : machine.receives (machine.owner c) a' i ≡ true = sym (ap (λ (y : Item A). machine.receives (machine.owner c) y.action i) e) ∙ r in
                ins a' ∙ rw same

        go : (r : Bool) → machine.receives (machine.owner c) a i ≡ r → Moved c (Some (Some a))
        go true r =
            let f : below (suc c) es ≡ Input x ∷ below c es = cut_input machine law i g n s x es d (one r) (no_other c ne) in
            (rw (ne_eqb i (machine.owner c) (λ (e : i ≡ machine.owner c). ne (sym e)), f) at.next, rw (ne_eqb i (machine.owner c) (λ (e : i ≡ machine.owner c). ne (sym e)), f, r) (ap (machine.apply i a) at.state))
        go false r =
            let m = skips c at (cut_skip machine law c es (none r) (no_other c ne)) in
            (rw (ne_eqb i (machine.owner c) (λ (e : i ≡ machine.owner c). ne (sym e))) m.0, rw (ne_eqb i (machine.owner c) (λ (e : i ≡ machine.owner c). ne (sym e)), r) m.1)

    -- with the reference's inputs at c they go as the reference goes
    pub at_step : (c : ℕ) → c < machine.key i (number n es) → ((a : A) → inputs machine es c a ≡ reference_sends machine c a i) → At c → At (suc c)
    at_step c l ins at = let m = go (cases_eq (machine.owner c) i) in record { next = m.0; state = m.1 }
      where
        go : (machine.owner c ≡ i) ⊎ (machine.owner c ≡ i → ⊥) → Moved c (reference_turn machine c)
        go (inl own) =
            let none : (a : A) → inputs machine es c a ≡ 0 = λ a. ins a ∙ subst (λ (m : ℕ). reference_sends machine c a m ≡ 0) own (none_self c a) in
            own_moves c own none at (reference_turn machine c) (own_turn c l own none at)
        go (inr ne) = other_moves c ne (reference_turn machine c) ins at

    -- what they send at c is what the reference sends
    pub sends_ref : (c : ℕ) → c < machine.key i (number n es) → machine.owner c ≡ i → ((a : A) → inputs machine es c a ≡ 0) → At c → (a : A) (j : ℕ) → sends machine es c a j ≡ reference_sends machine c a j
    unfolding sends
    sends_ref c l own none at a j = ap (λ (m : ℕ). cond (machine.receives (machine.owner c) a j) m 0) (go (reference_turn machine c) (own_turn c l own none at))
      where
        go : (t : Option (Option A)) → turn_at c es ≡ t → owns machine es c a ≡ hit_turn machine c t a
        go None e = no_owns machine law i g n s c es e a
        go (Some o) e = owns_at machine law i g n s c o es d e a

    -- from the base on
    pub at_all : (b e : ℕ) → At b → ((c : ℕ) (a : A) → b ≤ c → c < b + e → inputs machine es c a ≡ reference_sends machine c a i) → b + e ≤ machine.key i (number n es) → At (b + e)
    at_all b zero at ins l = let z : b + 0 ≡ b = omega arith in rw z at
    at_all b (suc e) at ins l =
        let z : b + suc e ≡ suc (b + e) = omega arith in
        rw z (at_step (b + e) (omega arith) (λ a. ins (b + e) a (omega arith) (omega arith)) (at_all b e at (λ c a h k. ins c a h (omega arith)) (omega arith)))
