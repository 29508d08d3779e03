-- A chunk of the exchange of groups is the reference's turns below the least base that no chunk has given.
use Rattle.std.proofs.Common.{◌≡◌, ℕ, zero, suc, ◌+◌, ◌-◌, ◌<◌, ◌≤◌, ◌&&◌, ◌⊎◌, inl, inr, cond, Option, None, List, ◌++◌, length, ap, sym, subst, ◌∙◌, arith, ltb, leb, length-append}
use Rattle.std.proofs.lemmas.Bool.{lt-ltb, le-ltb, le-leb, lt-leb, cases_lt}
use Rattle.virtual_time.specs.Machine.{HasCount, Lawful, Machine}
use Rattle.virtual_time.specs.Reference.{Turn, add_turn, reference_below, reference_turn, outcome_at}
use Rattle.virtual_time.specs.Exchange.Meetings.{turns_below, turns_from}
use Rattle.virtual_time.specs.Groups.Stubs.{Exchange, IsHeld, IsSound}
use Rattle.virtual_time.specs.Groups.Meetings.{IsChunk}
use Rattle.virtual_time.proofs.Refs.{no_turn}
use Rattle.virtual_time.proofs.Exchange.Chunks.{add_append, below_empty, below_step, falls_from, look_from, look_gone}

module _ {S A : Type 0} (machine : Machine S A) (law : Lawful machine) (group : ℕ → ℕ) where
  module _ {count : ℕ} (e : Exchange A) (g : ℕ) (is : IsHeld machine group count e g) (b : ℕ) (low : (j : ℕ) → machine.key j 0 < machine.top → b ≤ (e.stub (group j)).base) where
    -- what is held at a key below b is the simulator's turn there
    pub held_at : (k : ℕ) → g ≤ k → k < b → outcome_at k e.held ≡ reference_turn machine k
    held_at k l m = is.turns k ∙ rw (le-leb g k l) (go (cases_lt k (e.stub (group (machine.owner k))).base))
      where
        go : (k < (e.stub (group (machine.owner k))).base) ⊎ ((e.stub (group (machine.owner k))).base ≤ k) → cond (ltb k (e.stub (group (machine.owner k))).base) (reference_turn machine k) None ≡ reference_turn machine k
        go (inl h) = rw (lt-ltb k (e.stub (group (machine.owner k))).base h)
        go (inr h) = rw (le-ltb k (e.stub (group (machine.owner k))).base h) (sym (no_turn machine law k (λ has. let f = low (machine.owner k) has in omega arith)))

    pub held_all : (d : ℕ) → g + d ≤ b → reference_below machine (g + d) ≡ turns_below (g + d) e.held ++ reference_below machine g
    held_all zero l =
        let z : g + 0 ≡ g = omega arith in
        rw (z, below_empty g e.held (λ k m. is.turns k ∙ rw (lt-leb g k m)))
    held_all (suc d) l =
        let z : g + suc d ≡ suc (g + d) = omega arith in
        let t : outcome_at (g + d) e.held ≡ reference_turn machine (g + d) = held_at (g + d) (omega arith) (omega arith) in
        let ih = held_all d (omega arith) in
        rw z (ap (λ (ts : List (Turn A)). add_turn (g + d) (reference_turn machine (g + d)) ts) ih ∙ add_append (g + d) (reference_turn machine (g + d)) (turns_below (g + d) e.held) (reference_below machine g)
        ∙ ap (λ (ts : List (Turn A)). ts ++ reference_below machine g) (ap (λ (o : Option (Option A)). add_turn (g + d) o (turns_below (g + d) e.held)) (sym t) ∙ sym (below_step (g + d) e.held is.falls)))

    -- with what was given before the chunk is the reference below b
    pub chunk_ref : g ≤ b → reference_below machine b ≡ turns_below b e.held ++ reference_below machine g
    chunk_ref l = let z : g + (b - g) ≡ b = omega arith in subst (λ (c : ℕ). reference_below machine c ≡ turns_below c e.held ++ reference_below machine g) z (held_all (b - g) (omega arith))

  pub chunk_sound : (count : ℕ) → HasCount machine count → (e : Exchange A) (b : ℕ) (e' : Exchange A) (ts : List (Turn A)) → IsSound machine group count e → IsChunk machine group count e b e' ts
      → IsSound machine group count e' × (g : ℕ) × (e.given ≡ length (reference_below machine g)) × (reference_below machine b ≡ ts ++ reference_below machine g)
  chunk_sound count counted e b e' ts is ch = (sound, g, is.held.1.given, all)
    where
      g : ℕ
      g = is.held.0

      low : g ≤ b
      low = ch.most g is.held.1.end is.held.1.counted

      has_low : (j : ℕ) → machine.key j 0 < machine.top → b ≤ (e.stub (group j)).base
      has_low j has = go (cases_lt j count)
        where
          go : (j < count) ⊎ (count ≤ j) → b ≤ (e.stub (group j)).base
          go (inl h) = ch.low j h
          go (inr h) = let s = counted.silent j 0 h in absurd (omega arith)

      all : reference_below machine b ≡ ts ++ reference_below machine g
      all = rw ch.turns (chunk_ref e g is.held.1 b has_low low)

      many : e.given + length ts ≡ length (reference_below machine b)
      many = let h = is.held.1.given in let k = ap length all ∙ length-append ts (reference_below machine g) in omega arith

      turns : (k : ℕ) → (k < b) ⊎ (b ≤ k) → outcome_at k (turns_from b e.held) ≡ cond (leb b k && ltb k (e.stub (group (machine.owner k))).base) (reference_turn machine k) None
      turns k (inl l) = rw (lt-leb b k l) (look_gone b k e.held l)
      turns k (inr l) = rw (le-leb b k l) (look_from b k e.held is.held.1.falls l ∙ is.held.1.turns k ∙ rw (le-leb g k (omega (arith, low))))

      held : IsHeld machine group count (record { stub = e.stub; plus = e.plus; minus = e.minus; bound = e.bound; held = turns_from b e.held; given = e.given + length ts }) b
      held = record { end = ch.end; low = has_low; counted = ch.low; given = many; falls = falls_from b e.held is.held.1.falls; turns = λ k. turns k (cases_lt k b) }

      sound : IsSound machine group count e'
      sound =
          rw ch.rest (record {
            end = is.end;
            base = is.base;
            floor = is.floor;
            plus = is.plus;
            minus = is.minus;
            even = is.even;
            settled = is.settled;
            sent = is.sent;
            runs = is.runs;
            one_taken = is.one_taken;
            one_standing = is.one_standing;
            low_taken = is.low_taken;
            low_standing = is.low_standing;
            held = (b, held);
          })
