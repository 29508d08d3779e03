-- The world at the start.
use Rattle.std.proofs.Common.{◌≡◌, ℕ, zero, suc, ◌+◌, ◌⊎◌, inl, inr, Option, None, Some, [], map, length, refl, ap, sym, subst, ◌∙◌, arith}
use Rattle.std.specs.Prelude.{slice_get}
use Rattle.std.specs.List.{range_with_len}
use Rattle.std.proofs.lemmas.List.FromFn.{length-map-range_with_len}
use Rattle.plans.specs.Plans.{composition}
use Rattle.virtual_time.specs.Worlds.{start_world}
use Rattle.task_seed.specs.declared.setup.Setup.{Setup}
use Rattle.task_seed.specs.declared.turns.Turn.{Turn}
use Rattle.task_seed.specs.Setups.{plan_of, system}
use Rattle.rollback.specs.ComponentView.{ComponentView, machine_of}
use Rattle.world.specs.Simulation.{IsComponent, IsSimulation, Simulation, part_of, record_or_start, start_simulation, world_of}
use Rattle.rollback.specs.ComponentView.{start_held}

some_is : {X : Type 0} (a b : X) → Some a ≡ Some b → a ≡ b
some_is a b e = cc

not_some : {X : Type 0} (a : X) → Some a ≡ None → ⊥
not_some a e = cc

module _ {T : Type 0} (turn_of : T → ℕ → ℕ → Option Turn) (setup : Setup T) where
  -- what stands in the first components
  held_at : (a n j : ℕ) (o : Option (ComponentView (Setup T))) → slice_get (map (start_held turn_of setup) (range_with_len a n)) j ≡ o → (o ≡ Some (start_held turn_of setup (a + j))) ⊎ (o ≡ None)
  held_at a zero j o e = inr (sym e)
  held_at a (suc n) zero o e = inl (sym e ∙ ap (λ i. Some (start_held turn_of setup i)) (omega arith))
  held_at a (suc n) (suc j) o e = go (held_at (a + 1) n j o e)
    where
      go : (o ≡ Some (start_held turn_of setup (a + 1 + j))) ⊎ (o ≡ None) → (o ≡ Some (start_held turn_of setup (a + suc j))) ⊎ (o ≡ None)
      go (inl h) = inl (h ∙ ap (λ i. Some (start_held turn_of setup i)) (omega arith))
      go (inr h) = inr h

  abbrev n : ℕ
  n = length (composition (plan_of setup))

  abbrev start : Simulation (Setup T)
  start = start_simulation turn_of setup

  abbrev at : (j : ℕ) → (slice_get start.components j ≡ Some (start_held turn_of setup j)) ⊎ (slice_get start.components j ≡ None)
  at j = subst (λ i. (slice_get start.components j ≡ Some (start_held turn_of setup i)) ⊎ (slice_get start.components j ≡ None)) (omega arith) (held_at 0 n j (slice_get start.components j) refl)

  part_is : (j : ℕ) → record_or_start (machine_of turn_of setup) j (slice_get start.components j) ≡ record { base = (machine_of turn_of setup).start j; first = 0; done = []; pending = []; owed = [] }
  part_is j = go (at j)
    where
      go : (slice_get start.components j ≡ Some (start_held turn_of setup j)) ⊎ (slice_get start.components j ≡ None) → record_or_start (machine_of turn_of setup) j (slice_get start.components j) ≡ record { base = (machine_of turn_of setup).start j; first = 0; done = []; pending = []; owed = [] }
      go (inl h) = ap (record_or_start (machine_of turn_of setup) j) h
      go (inr h) = ap (record_or_start (machine_of turn_of setup) j) h

  -- it is the theory's
  pub start_is : world_of (machine_of turn_of setup) start ≡ start_world (machine_of turn_of setup)
  start_is = λ v. record { part = λ j. part_of (part_is j v) [] j; bound = 0; committed = [] }

  -- and has what each world has
  pub start_kept : length (system turn_of setup).composition ≡ n → IsSimulation (system turn_of setup) start
  start_kept many =
      record {
        reached = record { steps = []; replies = []; run = start_is };
        many = length-map-range_with_len (start_held turn_of setup) 0 n ∙ sym many;
        components = λ j c e. each j c e (at j);
        inside = λ sign j l. refl;
      }
    where
      each : (j : ℕ) (c : ComponentView (Setup T)) → slice_get start.components j ≡ Some c → (slice_get start.components j ≡ Some (start_held turn_of setup j)) ⊎ (slice_get start.components j ≡ None) → IsComponent start j c
      each j c e (inl h) =
          let both : Some (start_held turn_of setup j) ≡ Some c = sym h ∙ e in
          let same : start_held turn_of setup j ≡ c = some_is (start_held turn_of setup j) c both in
          subst (IsComponent start j) same (record { number = refl; setup = refl; base = refl })
      each j c e (inr h) = absurd (not_some c (sym e ∙ h))
