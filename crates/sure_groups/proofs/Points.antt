-- The states of a component before and after the turns of the reference.
use Rattle.std.proofs.Common.{◌≡◌, ℕ, zero, suc, ◌<◌, ◌≤◌, ◌⊎◌, inl, inr, Bool, true, false, ◌&&◌, not, Option, None, Some, List, cond, refl, ap, sym, ◌∙◌, arith}
use Rattle.std.specs.Prelude.{◌==◌, nat_lt}
use Rattle.std.proofs.lemmas.Bool.{cases_lt, eq-eqb, ne_eqb}
use Rattle.terms.specs.Datum.{Datum}
use Rattle.terms.specs.Named.{Named}
use Rattle.event_keys.specs.Ranks.{owner_of}
use Rattle.io_automata.specs.Signatures.{receives, inputs}
use Rattle.io_automata.specs.Steps.{applied}
use Rattle.virtual_time.specs.Machine.{Machine}
use Rattle.virtual_time.specs.Reference.{Point, add_turn, after, joint, point, reference_below, reference_turn}
use Rattle.task_seed.specs.Machines.{machine, turn_outcome, turn_rank, end_rank}
use Rattle.task_seed.specs.Turning.{System}

module _ (s : System) where
  abbrev m : Machine (List Datum) Named
  m = machine s

  abbrev pub state_of : (j r : ℕ) → List Datum
  state_of j r = (point m r).state j

  -- what a turn leaves of component j's state
  step : (r : ℕ) (t : Option (Option Named)) → reference_turn m r ≡ t → point m (suc r) ≡ after m (add_turn r t (reference_below m r))
  step r t e = ap (λ x. after m (add_turn r x (reference_below m r))) e

  pub no_turn : (j r : ℕ) → reference_turn m r ≡ None → state_of j (suc r) ≡ state_of j r
  no_turn j r e = ap (λ (p : Point (List Datum)). p.state j) (step r None e)

  pub turn_taken : (j r : ℕ) (o : Option Named) → reference_turn m r ≡ Some o → state_of j (suc r) ≡ joint m (owner_of r) o j (state_of j r)
  turn_taken j r o e = ap (λ (p : Point (List Datum)). p.state j) (step r (Some o) e)

  -- the component's own turn
  pub own_idle : (j r : ℕ) → reference_turn m r ≡ Some None → state_of j (suc r) ≡ state_of j r
  own_idle j r e = turn_taken j r None e

  pub own_acts : (j r : ℕ) (a : Named) → reference_turn m r ≡ Some (Some a) → owner_of r ≡ j → state_of j (suc r) ≡ applied s.composition j a (state_of j r)
  own_acts j r a e own = turn_taken j r (Some a) e ∙ ap (λ b. cond b (applied s.composition j a (state_of j r)) (cond (receives s.composition (owner_of r) a j) (applied s.composition j a (state_of j r)) (state_of j r))) (eq-eqb j (owner_of r) (sym own))

  -- who receives doesn't take its own turn
  pub other : (i j : ℕ) (a : Named) → receives s.composition i a j ≡ true → j ≡ i → ⊥
  other i j a e same = let own : (not (j == i) && inputs s.composition j a) ≡ false = ap (λ b. not b && inputs s.composition j a) (eq-eqb j i same) in let both : ◌≡◌ {A = Bool} false true = sym own ∙ e in cc

  pub received : (j r : ℕ) (a : Named) → reference_turn m r ≡ Some (Some a) → receives s.composition (owner_of r) a j ≡ true → state_of j (suc r) ≡ applied s.composition j a (state_of j r)
  received j r a e takes =
      turn_taken j r (Some a) e
      ∙ ap (λ b. cond b (applied s.composition j a (state_of j r)) (cond (receives s.composition (owner_of r) a j) (applied s.composition j a (state_of j r)) (state_of j r))) (ne_eqb j (owner_of r) (other (owner_of r) j a takes))
      ∙ ap (λ b. cond b (applied s.composition j a (state_of j r)) (state_of j r)) takes

  -- a turn that is of another, and whose action the component doesn't take
  pub passed : (j r : ℕ) (o : Option Named) → reference_turn m r ≡ Some o → (owner_of r ≡ j → ⊥) → ((a : Named) → o ≡ Some a → receives s.composition (owner_of r) a j ≡ true → ⊥) → state_of j (suc r) ≡ state_of j r
  passed j r None e apart deaf = own_idle j r e
  passed j r (Some a) e apart deaf =
      turn_taken j r (Some a) e
      ∙ ap (λ b. cond b (applied s.composition j a (state_of j r)) (cond (receives s.composition (owner_of r) a j) (applied s.composition j a (state_of j r)) (state_of j r))) (ne_eqb j (owner_of r) (λ h. apart (sym h)))
      ∙ go (receives s.composition (owner_of r) a j) refl
    where
      go : (b : Bool) → receives s.composition (owner_of r) a j ≡ b → cond b (applied s.composition j a (state_of j r)) (state_of j r) ≡ state_of j r
      go true h = absurd (deaf a refl h)
      go false h = refl

  -- nothing touches the component's state from one rank up to another
  abbrev pub Quiet : (j from to : ℕ) → Type 0
  Quiet j from to = (r : ℕ) (o : Option Named) → from ≤ r → r < to → reference_turn m r ≡ Some o → (owner_of r ≡ j → ⊥) × ((a : Named) → o ≡ Some a → receives s.composition (owner_of r) a j ≡ true → ⊥)

  pub still : (j from to : ℕ) → from ≤ to → Quiet j from to → state_of j to ≡ state_of j from
  still j from zero up quiet = let e : 0 ≡ from = omega (arith, up) in ap (state_of j) e
  still j from (suc t) up quiet = by (cases_lt t from) (λ low. still j from t low (λ r o above below e. quiet r o above (omega (arith, below)) e))
    where
      last : from ≤ t → (x : Option (Option Named)) → reference_turn m t ≡ x → state_of j (suc t) ≡ state_of j t
      last low None e = no_turn j t e
      last low (Some o) e = let out = quiet t o low (omega arith) e in passed j t o e out.0 out.1

      by : (t < from) ⊎ (from ≤ t) → (from ≤ t → state_of j t ≡ state_of j from) → state_of j (suc t) ≡ state_of j from
      by (inl all) rest = let e : suc t ≡ from = omega (arith, all, up) in ap (state_of j) e
      by (inr low) rest = last low (reference_turn m t) refl ∙ rest low

  -- the outcome of a turn is that of its component's state
  pub outcome_at : (r : ℕ) (o : Option Named) → reference_turn m r ≡ Some o → o ≡ turn_outcome s (owner_of r) ((point m r).next (owner_of r)) (state_of (owner_of r) r)
  outcome_at r o e = go (nat_lt r end_rank && (turn_rank s (owner_of r) ((point m r).next (owner_of r)) == r)) e
    where
      go : (b : Bool) → cond b (Some (turn_outcome s (owner_of r) ((point m r).next (owner_of r)) (state_of (owner_of r) r))) None ≡ Some o → o ≡ turn_outcome s (owner_of r) ((point m r).next (owner_of r)) (state_of (owner_of r) r)
      go true h = let same : Some (turn_outcome s (owner_of r) ((point m r).next (owner_of r)) (state_of (owner_of r) r)) ≡ Some o = h in cc
      go false h = let none : None ≡ Some o = h in cc
