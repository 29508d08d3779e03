-- What passes between groups and what stays within.
use Rattle.std.proofs.Common.{◌≡◌, ℕ, ◌+◌, ◌==◌, ◌⊎◌, inl, inr, Bool, true, false, cond, refl, arith}
use Rattle.std.proofs.lemmas.Bool.{eq-eqb, ne_eqb, cases_eq}
use Rattle.virtual_time.specs.Machine.{Machine}
use Rattle.virtual_time.specs.Groups.Stubs.{between, within}

module _ {S A : Type 0} (machine : Machine S A) (group : ℕ → ℕ) where
  -- all either passes or stays
  pub split : (k j n : ℕ) → between machine group k j n + within machine group k j n ≡ n
  split k j n = go (group (machine.owner k) == group j)
    where
      go : (b : Bool) → cond b 0 n + cond b n 0 ≡ n
      go true = omega arith
      go false = omega arith

  pub stays : (k j n : ℕ) → group (machine.owner k) ≡ group j → (between machine group k j n ≡ 0) × (within machine group k j n ≡ n)
  stays k j n e = rw (eq-eqb (group (machine.owner k)) (group j) e) (refl, refl)

  pub passes : (k j n : ℕ) → (group (machine.owner k) ≡ group j → ⊥) → (between machine group k j n ≡ n) × (within machine group k j n ≡ 0)
  passes k j n ne = rw (ne_eqb (group (machine.owner k)) (group j) ne) (refl, refl)

  -- of nothing
  pub none : (k j n : ℕ) → n ≡ 0 → (between machine group k j n ≡ 0) × (within machine group k j n ≡ 0)
  none k j n e = go (cases_eq (group (machine.owner k)) (group j))
    where
      go : (group (machine.owner k) ≡ group j) ⊎ (group (machine.owner k) ≡ group j → ⊥) → (between machine group k j n ≡ 0) × (within machine group k j n ≡ 0)
      go (inl f) = let s = stays k j n f in (s.0, omega arith)
      go (inr ne) = let s = passes k j n ne in (omega arith, s.1)
