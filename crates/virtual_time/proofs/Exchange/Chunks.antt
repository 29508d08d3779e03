-- A chunk is the reference's turns below the least base that no chunk has given, and the start is sound.
use Rattle.std.proofs.Common.{◌≡◌, ℕ, zero, suc, ◌+◌, ◌-◌, ◌<◌, ◌≤◌, ◌&&◌, ◌⊎◌, inl, inr, Bool, true, false, cond, Option, None, Some, List, [], ◌∷◌, ◌++◌, length, refl, ap, sym, subst, ◌∙◌, arith, ltb, leb, length-append}
use Rattle.std.proofs.lemmas.Bool.{lt-ltb, le-ltb, le-leb, lt-leb, eq-eqb, ne_eqb, cases_lt, cases_order}
use Rattle.virtual_time.specs.Machine.{HasCount, Lawful, Machine}
use Rattle.virtual_time.specs.Reference.{AllBelow, Turn, add_turn, reference_below, reference_turn, Falls, outcome_at}
use Rattle.virtual_time.specs.Bags.{sends}
use Rattle.virtual_time.specs.Exchange.Stubs.{Exchange, IsHeld, IsSound, start_exchange, start_stub}
use Rattle.virtual_time.specs.Exchange.Leases.{IsLease, Matches, start_lease}
use Rattle.virtual_time.specs.Exchange.Meetings.{IsChunk, turns_below, turns_from}
use Rattle.virtual_time.proofs.Cuts.{Some≢None}
use Rattle.virtual_time.proofs.Refs.{no_turn}

pub look_none : {A : Type 0} (c : ℕ) (ts : List (Turn A)) → AllBelow c ts → (k : ℕ) → c ≤ k → outcome_at k ts ≡ None
look_none c [] p k l = refl
look_none c (t ∷ ts) p k l = let h = p.0 in rw (ne_eqb t.key k (λ (e : t.key ≡ k). omega arith)) (look_none c ts p.1 k l)

pub below_all : {A : Type 0} (c : ℕ) (ts : List (Turn A)) → AllBelow c ts → turns_below c ts ≡ ts
below_all c [] p = refl
below_all c (t ∷ ts) p = rw (lt-ltb t.key c p.0)

pub below_step : {A : Type 0} (c : ℕ) (ts : List (Turn A)) → Falls ts → turns_below (suc c) ts ≡ add_turn c (outcome_at c ts) (turns_below c ts)
below_step c [] f = refl
below_step {A} c (t ∷ ts) f = go (below_step c ts f.1) (cases_order t.key c)
  where
    go : turns_below (suc c) ts ≡ add_turn c (outcome_at c ts) (turns_below c ts) → (t.key ≡ c) ⊎ ((t.key < c) ⊎ (c < t.key))
        → turns_below (suc c) (t ∷ ts) ≡ add_turn c (outcome_at c (t ∷ ts)) (turns_below c (t ∷ ts))
    go ih (inl e) =
        let b : AllBelow c ts = subst (λ (k : ℕ). AllBelow k ts) e f.0 in
        let same : t ≡ record { key = c; outcome = t.outcome } = λ v. record { key = e v; outcome = t.outcome } in
        rw (lt-ltb t.key (suc c) (omega arith), le-ltb t.key c (omega arith), eq-eqb t.key c e, below_all c ts b) (ap (λ (u : Turn A). u ∷ ts) same)
    go ih (inr (inl l)) = rw (lt-ltb t.key (suc c) (omega arith), lt-ltb t.key c l, ne_eqb t.key c (λ (e : t.key ≡ c). omega arith), look_none t.key ts f.0 c (omega arith))
    go ih (inr (inr l)) = rw (le-ltb t.key (suc c) l, le-ltb t.key c (omega arith), ne_eqb t.key c (λ (e : t.key ≡ c). omega arith)) ih

pub below_empty : {A : Type 0} (b : ℕ) (ts : List (Turn A)) → ((k : ℕ) → k < b → outcome_at k ts ≡ None) → turns_below b ts ≡ []
below_empty b [] h = refl
below_empty b (t ∷ ts) h = go (below_empty b ts) (cases_lt t.key b)
  where
    go : (((k : ℕ) → k < b → outcome_at k ts ≡ None) → turns_below b ts ≡ []) → (t.key < b) ⊎ (b ≤ t.key) → turns_below b (t ∷ ts) ≡ []
    go ih (inl l) = let e : outcome_at t.key (t ∷ ts) ≡ Some t.outcome = rw (eq-eqb t.key t.key refl) in absurd (Some≢None t.outcome (sym e ∙ h t.key l))
    go ih (inr l) = rw (le-ltb t.key b l) (ih (λ k m. let e : outcome_at k (t ∷ ts) ≡ outcome_at k ts = rw (ne_eqb t.key k (λ (f : t.key ≡ k). omega arith)) in sym e ∙ h k m))

pub falls_from : {A : Type 0} (b : ℕ) (ts : List (Turn A)) → Falls ts → Falls (turns_from b ts)
falls_from b [] f = tt
falls_from {A} b (t ∷ ts) f = go (falls_from b ts f.1) (ltb t.key b)
  where
    low : (c : ℕ) (us : List (Turn A)) → AllBelow c us → AllBelow c (turns_from b us)
    low c [] p = tt
    low c (u ∷ us) p = pick (low c us p.1) (ltb u.key b)
      where
        pick : AllBelow c (turns_from b us) → (v : Bool) → AllBelow c (cond v [] (u ∷ turns_from b us))
        pick ih true = tt
        pick ih false = (p.0, ih)

    go : Falls (turns_from b ts) → (v : Bool) → Falls (cond v [] (t ∷ turns_from b ts))
    go ih true = tt
    go ih false = (low t.key ts f.0, ih)

pub look_from : {A : Type 0} (b k : ℕ) (ts : List (Turn A)) → Falls ts → b ≤ k → outcome_at k (turns_from b ts) ≡ outcome_at k ts
look_from b k [] f l = refl
look_from b k (t ∷ ts) f l = go (look_from b k ts f.1 l) (cases_lt t.key b)
  where
    go : outcome_at k (turns_from b ts) ≡ outcome_at k ts → (t.key < b) ⊎ (b ≤ t.key) → outcome_at k (turns_from b (t ∷ ts)) ≡ outcome_at k (t ∷ ts)
    go ih (inl h) = rw (lt-ltb t.key b h, ne_eqb t.key k (λ (e : t.key ≡ k). omega arith)) (sym (look_none t.key ts f.0 k (omega arith)))
    go ih (inr h) = rw (le-ltb t.key b h, ih)

pub look_gone : {A : Type 0} (b k : ℕ) (ts : List (Turn A)) → k < b → outcome_at k (turns_from b ts) ≡ None
look_gone b k [] l = refl
look_gone b k (t ∷ ts) l = go (look_gone b k ts l) (cases_lt t.key b)
  where
    go : outcome_at k (turns_from b ts) ≡ None → (t.key < b) ⊎ (b ≤ t.key) → outcome_at k (turns_from b (t ∷ ts)) ≡ None
    go ih (inl h) = rw (lt-ltb t.key b h)
    go ih (inr h) = rw (le-ltb t.key b h, ne_eqb t.key k (λ (e : t.key ≡ k). omega arith)) ih

pub add_append : {A : Type 0} (c : ℕ) (t : Option (Option A)) (xs ys : List (Turn A)) → add_turn c t (xs ++ ys) ≡ add_turn c t xs ++ ys
add_append c None xs ys = refl
add_append c (Some o) xs ys = refl

module _ {S A : Type 0} (machine : Machine S A) (law : Lawful machine) where
  module _ {count : ℕ} (e : Exchange A) (g : ℕ) (is : IsHeld machine count e g) (b : ℕ) (low : (j : ℕ) → machine.key j 0 < machine.top → b ≤ (e.stub j).base) where
    -- what is held at a key below b is the simulator's turn there
    held_at : (k : ℕ) → g ≤ k → k < b → outcome_at k e.held ≡ reference_turn machine k
    held_at k l m = is.turns k ∙ rw (le-leb g k l) (go (cases_lt k (e.stub (machine.owner k)).base))
      where
        go : (k < (e.stub (machine.owner k)).base) ⊎ ((e.stub (machine.owner k)).base ≤ k) → cond (ltb k (e.stub (machine.owner k)).base) (reference_turn machine k) None ≡ reference_turn machine k
        go (inl h) = rw (lt-ltb k (e.stub (machine.owner k)).base h)
        go (inr h) = rw (le-ltb k (e.stub (machine.owner k)).base h) (sym (no_turn machine law k (λ has. let f = low (machine.owner k) has in omega arith)))

    pub held_all : (d : ℕ) → g + d ≤ b → reference_below machine (g + d) ≡ turns_below (g + d) e.held ++ reference_below machine g
    held_all zero l =
        let z : g + 0 ≡ g = omega arith in
        rw (z, below_empty g e.held (λ k m. is.turns k ∙ rw (lt-leb g k m)))
    held_all (suc d) l =
        let z : g + suc d ≡ suc (g + d) = omega arith in
        let t : outcome_at (g + d) e.held ≡ reference_turn machine (g + d) = held_at (g + d) (omega arith) (omega arith) in
        let ih = held_all d (omega arith) in
        rw z (ap (λ (ts : List (Turn A)). add_turn (g + d) (reference_turn machine (g + d)) ts) ih ∙ add_append (g + d) (reference_turn machine (g + d)) (turns_below (g + d) e.held) (reference_below machine g)
        ∙ ap (λ (ts : List (Turn A)). ts ++ reference_below machine g) (ap (λ (o : Option (Option A)). add_turn (g + d) o (turns_below (g + d) e.held)) (sym t) ∙ sym (below_step (g + d) e.held is.falls)))

    -- with what was given before the chunk is the reference below b
    pub chunk_ref : g ≤ b → reference_below machine b ≡ turns_below b e.held ++ reference_below machine g
    chunk_ref l = let z : g + (b - g) ≡ b = omega arith in subst (λ (c : ℕ). reference_below machine c ≡ turns_below c e.held ++ reference_below machine g) z (held_all (b - g) (omega arith))

  pub chunk_sound : (count : ℕ) → HasCount machine count → (e : Exchange A) (b : ℕ) (e' : Exchange A) (ts : List (Turn A)) → IsSound machine count e → IsChunk machine count e b e' ts
      → IsSound machine count e' × (g : ℕ) × (e.given ≡ length (reference_below machine g)) × (reference_below machine b ≡ ts ++ reference_below machine g)
  chunk_sound count counted e b e' ts is ch = (sym_sound, g, is.held.1.given, all)
    where
      g : ℕ
      g = is.held.0

      low : g ≤ b
      low = ch.most g is.held.1.end is.held.1.counted

      has_low : (j : ℕ) → machine.key j 0 < machine.top → b ≤ (e.stub j).base
      has_low j has = go (cases_lt j count)
        where
          go : (j < count) ⊎ (count ≤ j) → b ≤ (e.stub j).base
          go (inl h) = ch.low j h
          go (inr h) = let s = counted.silent j 0 h in absurd (omega arith)

      all : reference_below machine b ≡ ts ++ reference_below machine g
      all = rw ch.turns (chunk_ref e g is.held.1 b has_low low)

      many : e.given + length ts ≡ length (reference_below machine b)
      many = let h = is.held.1.given in let k = ap length all ∙ length-append ts (reference_below machine g) in omega arith

      turns : (k : ℕ) → (k < b) ⊎ (b ≤ k) → outcome_at k (turns_from b e.held) ≡ cond (leb b k && ltb k (e.stub (machine.owner k)).base) (reference_turn machine k) None
      turns k (inl l) = rw (lt-leb b k l) (look_gone b k e.held l)
      turns k (inr l) = rw (le-leb b k l) (look_from b k e.held is.held.1.falls l ∙ is.held.1.turns k ∙ rw (le-leb g k (omega (arith, low))))

      held : IsHeld machine count (record { stub = e.stub; bound = e.bound; held = turns_from b e.held; given = e.given + length ts }) b
      held = record { end = ch.end; low = has_low; counted = ch.low; given = many; falls = falls_from b e.held is.held.1.falls; turns = λ k. turns k (cases_lt k b) }

      sym_sound : IsSound machine count e'
      sym_sound =
          rw ch.rest (record {
            end = is.end;
            base = is.base;
            floor = is.floor;
            plus = is.plus;
            minus = is.minus;
            even = is.even;
            settled = is.settled;
            sent = is.sent;
            runs = is.runs;
            one_taken = is.one_taken;
            one_standing = is.one_standing;
            low_taken = is.low_taken;
            low_standing = is.low_standing;
            held = (b, held);
          })

  pub no_sends : (k : ℕ) (a : A) (j : ℕ) → sends machine [] k a j ≡ 0
  unfolding sends
  no_sends k a j = go (machine.receives (machine.owner k) a j)
    where
      go : (v : Bool) → ◌≡◌ {A = ℕ} (cond v 0 0) 0
      go true = refl
      go false = refl

  pub start_sound : (count : ℕ) → IsSound machine count (start_exchange machine)
  start_sound count =
      record {
        end = omega arith;
        base = λ j. omega arith;
        floor = λ j. omega arith;
        plus = λ j. tt;
        minus = λ j. tt;
        even = λ j k a l. refl;
        settled = λ j k a l h. absurd (omega arith);
        sent = λ j k a l h. absurd (omega arith);
        runs = λ j. record { es = []; done = omega arith; next = omega arith; ins = λ k a l h. refl; outs = λ k a m own l h. no_sends k a m };
        one_taken = λ j k a. omega arith;
        one_standing = λ j k a. omega arith;
        low_taken = λ j k a l. refl;
        low_standing = λ j k a l. refl;
        held = (0, record { end = omega arith; low = λ j has. omega arith; counted = λ j within. omega arith; given = refl; falls = tt; turns = λ k. none_held k });
      }
    where
      none_held : (k : ℕ) → None ≡ cond (leb 0 k && ltb k 0) (reference_turn machine k) None
      none_held k = rw (le-leb 0 k (omega arith), le-ltb k 0 (omega arith))

  pub start_lease_is : (j : ℕ) → IsLease machine j (start_lease machine j)
  start_lease_is j =
      record {
        end = omega arith;
        low = omega arith;
        proper = record { done = omega arith; pending = tt; sorted = tt; owed_sorted = tt; plus = tt; minus = tt; owed = λ k a. inl refl };
        first = refl;
        grounded = refl;
        past = record { turn = omega arith; pending = tt; plus = tt; minus = tt };
        owed = tt;
        out_plus = λ l. tt;
        out_minus = λ l. tt;
        self_plus = refl;
        self_minus = refl;
        mine_plus = λ l k a ne. refl;
        mine_minus = λ l k a ne. refl;
      }

  pub start_matches : (j : ℕ) → Matches machine j (start_stub machine j) (start_lease machine j)
  start_matches j = record { base = refl; floor = refl; taken = λ k a. refl; standing = λ k a l own. sym (rw (no_sends k a l)) }
