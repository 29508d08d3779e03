-- What the chunks of calls give is a beginning of the reference.
use Rattle.std.proofs.Common.{◌≡◌, ℕ, zero, suc, ◌+◌, ◌-◌, ◌<◌, ◌≤◌, ◌⊎◌, inl, inr, Option, None, Some, List, [], ◌∷◌, ◌++◌, length, length-append, append_assoc, refl, ap, sym, subst, ◌∙◌, arith}
use Rattle.std.proofs.lemmas.Bool.{cases_lt}
use Rattle.virtual_time.specs.Machine.{HasCount, Lawful, Machine}
use Rattle.virtual_time.specs.Reference.{Turn, add_turn, reference_below, reference_turn}
use Rattle.virtual_time.specs.Exchange.Calls.{Call, CallAlone, CallChunk, CallCommit, CallMeet}
use Rattle.virtual_time.specs.Groups.Stubs.{Exchange}
use Rattle.virtual_time.specs.Groups.Calls.{Calls, IsShared, Shared, given_by, start_shared}
use Rattle.virtual_time.proofs.Groups.Called.{call_kept, start_is_shared}
use Rattle.virtual_time.proofs.Groups.Chunks.{chunk_sound}

module _ {S A : Type 0} (machine : Machine S A) where
  -- the reference below a bound ends with that below a lesser one
  abbrev Ends : ℕ → List (Turn A) → Type 0
  Ends g ts = (more : List (Turn A)) × (ts ≡ more ++ reference_below machine g)

  ends : (g d : ℕ) → Ends g (reference_below machine (g + d))
  ends g zero = let z : g + 0 ≡ g = omega arith in ([], ap (reference_below machine) z)
  ends g (suc d) =
      let z : suc (g + d) ≡ g + suc d = omega arith in
      subst (λ (c : ℕ). Ends g (reference_below machine c)) z (go (reference_turn machine (g + d)) (ends g d))
    where
      go : (t : Option (Option A)) → Ends g (reference_below machine (g + d)) → Ends g (add_turn (g + d) t (reference_below machine (g + d)))
      go None e = e
      go (Some o) e = (record { key = g + d; outcome = o } ∷ e.0, ap (λ (ts : List (Turn A)). record { key = g + d; outcome = o } ∷ ts) e.1)

  -- so its length tells it
  same_up : (g c : ℕ) → g ≤ c → length (reference_below machine g) ≡ length (reference_below machine c) → reference_below machine g ≡ reference_below machine c
  same_up g c l n =
      let z : g + (c - g) ≡ c = omega arith in
      let e = subst (λ (m : ℕ). Ends g (reference_below machine m)) z (ends g (c - g)) in
      go e.0 e.1
    where
      go : (more : List (Turn A)) → reference_below machine c ≡ more ++ reference_below machine g → reference_below machine g ≡ reference_below machine c
      go [] q = sym q
      go (t ∷ ts) q = let k = ap length q in let s = length-append ts (reference_below machine g) in absurd (omega arith)

  same_length : (g c : ℕ) → length (reference_below machine g) ≡ length (reference_below machine c) → reference_below machine g ≡ reference_below machine c
  same_length g c n = go (cases_lt g c)
    where
      go : (g < c) ⊎ (c ≤ g) → reference_below machine g ≡ reference_below machine c
      go (inl l) = same_up g c (omega arith) n
      go (inr l) = sym (same_up c g l (sym n))

join : {A : Type 0} (later ts first then last : List (Turn A)) → last ≡ later ++ then → then ≡ ts ++ first → last ≡ (later ++ ts) ++ first
join later ts first then last p q = p ∙ ap (λ xs. later ++ xs) q ∙ sym (append_assoc later ts first)

module _ {S A : Type 0} (machine : Machine S A) (law : Lawful machine) (group : ℕ → ℕ) (count : ℕ) (counted : HasCount machine count) where
  -- from the turns below g on that were given
  pub calls_given : (calls : List (Call A)) (u v : Shared S A) → IsShared machine group count u → (h : Calls machine group count u calls v) → (g : ℕ) → u.exchange.given ≡ length (reference_below machine g)
      → (b : ℕ) × (v.exchange.given ≡ length (reference_below machine b)) × (reference_below machine b ≡ given_by machine group count u calls v h ++ reference_below machine g)
  calls_given [] u v is h g n = (g, ap (λ (x : Shared S A). x.exchange.given) h ∙ n, refl)
  calls_given (CallMeet i ∷ cs) u v is h g n =
      calls_given cs h.0 v (call_kept machine law group count counted u (CallMeet i) h.0 is h.1) h.2 g (ap (λ (x : Shared S A). x.exchange.given) h.1.3 ∙ h.1.2.given ∙ n)
  calls_given (CallCommit ∷ cs) u v is h g n =
      calls_given cs h.0 v (call_kept machine law group count counted u CallCommit h.0 is h.1) h.2 g (ap (λ (x : Shared S A). x.exchange.given) h.1.2 ∙ ap (λ (x : Exchange A). x.given) h.1.1.rest ∙ n)
  calls_given (CallChunk ∷ cs) u v is h g n =
      let b : ℕ = h.1.0 in
      let ts : List (Turn A) = h.1.2 in
      let chunk = chunk_sound machine law group count counted u.exchange h.1.0 h.1.1 h.1.2 is.sound h.1.3 in
      let same : reference_below machine chunk.1 ≡ reference_below machine g = same_length machine chunk.1 g (sym chunk.2 ∙ n) in
      let given : reference_below machine h.1.0 ≡ h.1.2 ++ reference_below machine g = chunk.3 ∙ ap (λ (xs : List (Turn A)). h.1.2 ++ xs) same in
      let many : h.0.exchange.given ≡ u.exchange.given + length h.1.2 = ap (λ (x : Shared S A). x.exchange.given) h.1.4 ∙ ap (λ (x : Exchange A). x.given) h.1.3.rest in
      let size = ap length given in
      let added = length-append h.1.2 (reference_below machine g) in
      let r = calls_given cs h.0 v (call_kept machine law group count counted u CallChunk h.0 is h.1) h.2 h.1.0 (omega arith) in
      (r.0, r.1, join (given_by machine group count h.0 cs v h.2) h.1.2 (reference_below machine g) (reference_below machine h.1.0) (reference_below machine r.0) r.2 given)
  calls_given (CallAlone i steps ∷ cs) u v is h g n =
      calls_given cs h.0 v (call_kept machine law group count counted u (CallAlone i steps) h.0 is h.1) h.2 g (ap (λ (x : Shared S A). x.exchange.given) h.1.2 ∙ n)

  -- from the start all that was given is the reference below a bound
  pub start_given : (calls : List (Call A)) (v : Shared S A) → (h : Calls machine group count (start_shared machine group count) calls v)
      → (b : ℕ) × (given_by machine group count (start_shared machine group count) calls v h ≡ reference_below machine b)
  start_given calls v h =
      let r = calls_given calls (start_shared machine group count) v (start_is_shared machine law group count counted) h 0 refl in
      (r.0, sym (r.2 ∙ append_nil (given_by machine group count (start_shared machine group count) calls v h)))
    where
      append_nil : (xs : List (Turn A)) → xs ++ [] ≡ xs
      append_nil [] = refl
      append_nil (x ∷ xs) = ap (λ (ys : List (Turn A)). x ∷ ys) (append_nil xs)
