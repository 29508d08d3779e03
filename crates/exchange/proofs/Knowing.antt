-- What is known of a component is what its lease has.
use Rattle.std.proofs.Common.{◌≡◌, ℕ, ◌==◌, Bool, true, false, not, Some, refl, sym, subst, arith}
use Rattle.std.specs.Prelude.{slice_get, List, ◌&&◌, nat_eq}
use Rattle.std.proofs.lemmas.Bool.Decides.{nat_tests}
use Rattle.terms.specs.Datum.{Datum}
use Rattle.terms.specs.Named.{Named}
use Rattle.virtual_time.specs.Machine.{Machine}
use Rattle.virtual_time.specs.Exchange.Leases.{Matches}
use Rattle.plans.specs.SamePlans.{same_plan}
use Rattle.task_seed.specs.declared.setup.Setup.{Setup}
use Rattle.task_seed.specs.Turning.{System}
use Rattle.task_seed.specs.Machines.{machine}
use Rattle.exchange.specs.declared.stub.Stub.{Stub}
use Rattle.exchange.specs.LeaseView.{LeaseView, lease_of}
use Rattle.exchange.specs.ExchangeView.{stub_of, stub_or_start}
use Rattle.exchange.specs.Known.{IsKnown}

module _ {P : Type 0} (m : Machine (List Datum) Named) (stub : Stub) (h : LeaseView P) where
  -- a lease that is known matches its stub, and the other way round
  pub known_matches : IsKnown m stub h → Matches m h.component.number (stub_of m h.component.number stub) (lease_of h)
  known_matches k = record { base = k.base; floor = k.floor; taken = k.taken; standing = λ key a j own. k.standing key a j own }

  pub matches_known : Matches m h.component.number (stub_of m h.component.number stub) (lease_of h) → IsKnown m stub h
  matches_known w = record { base = w.base; floor = w.floor; taken = w.taken; standing = λ key a j own. w.standing key a j own }

-- two systems with the same composition, turns and horizon are the same
pub same_system : (s t : System) → s.composition ≡ t.composition → ((i n : ℕ) → s.turn i n ≡ t.turn i n) → s.horizon ≡ t.horizon → s ≡ t
same_system s t composition turn horizon = λ v. record { composition = composition v; turn = λ i n. turn i n v; horizon = horizon v }

pub same_number : (a b : ℕ) → (a == b) ≡ true → a ≡ b
same_number a b e = grind (arith, nat_tests)

pub untrue : (b : Bool) → not b ≡ false → b ≡ true
untrue true e = refl
untrue false e = cc

module _ {P : Type 0} (s t : System) (same : s ≡ t) (stubs : List Stub) (stub : Stub) (h : LeaseView P) (found : slice_get stubs h.component.number ≡ Some stub) where
  abbrev i : ℕ
  i = h.component.number

  pub to_match : IsKnown (machine t) stub h → Matches (machine s) i (stub_or_start (machine s) i (slice_get stubs i)) (lease_of h)
  to_match k =
      subst (λ o. Matches (machine s) i (stub_or_start (machine s) i o) (lease_of h)) (sym found)
      (subst (λ x. Matches (machine x) i (stub_of (machine x) i stub) (lease_of h)) (sym same) (known_matches (machine t) stub h k))

  pub from_match : Matches (machine s) i (stub_or_start (machine s) i (slice_get stubs i)) (lease_of h) → IsKnown (machine t) stub h
  from_match w =
      matches_known (machine t) stub h (subst (λ x. Matches (machine x) i (stub_of (machine x) i stub) (lease_of h)) same
      (subst (λ o. Matches (machine s) i (stub_or_start (machine s) i o) (lease_of h)) found w))

pub false_true : ◌≡◌ {A = Bool} false true → ⊥
false_true e = cc

-- the test by which two setups are compared
abbrev pub same_setup : {T : Type 0} → (T → T → Bool) → Setup T → Setup T → Bool
same_setup eq a b = same_plan a.plan b.plan && (eq a.turns b.turns && nat_eq a.horizon b.horizon)
