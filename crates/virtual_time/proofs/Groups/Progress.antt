-- Who can go on where the leases of all groups have met and the bound was raised.
use Rattle.std.proofs.Common.{◌≡◌, ℕ, ◌+◌, ◌<◌, ◌≤◌, ◌⊎◌, inl, inr, List, subst, sym, arith}
use Rattle.std.proofs.lemmas.Bool.{cases_lt}
use Rattle.virtual_time.specs.Machine.{HasCount, Lawful, Machine}
use Rattle.virtual_time.specs.Bags.{AllFrom}
use Rattle.virtual_time.specs.Entries.{Item}
use Rattle.virtual_time.specs.Worlds.{IsPast}
use Rattle.virtual_time.specs.Replies.{IsAt}
use Rattle.virtual_time.specs.Exchange.Progress.{CanGoOn}
use Rattle.virtual_time.specs.Groups.Stubs.{Exchange}
use Rattle.virtual_time.specs.Groups.Leases.{Lease}
use Rattle.virtual_time.specs.Groups.Meetings.{IsClear, IsCommit}
use Rattle.virtual_time.specs.Groups.Progress.{HaveAllMet}
use Rattle.virtual_time.proofs.Replied.{at_from}
use Rattle.virtual_time.proofs.Exchange.Progress.{goes_on, low_or_above}
use Rattle.virtual_time.proofs.Groups.Exists.{floor_has}

module _ {S A : Type 0} (machine : Machine S A) (law : Lawful machine) (group : ℕ → ℕ) (groups count : ℕ) (counted : HasCount machine count) where
  pub progress : (e e' : Exchange A) (ls : ℕ → Lease S A) → HaveAllMet machine group groups count e ls → IsCommit machine e e'
      → (e'.bound ≡ machine.top) ⊎ ((g : ℕ) × (i : ℕ) × (g < groups) × (i < count) × (group i ≡ g) × CanGoOn machine i e'.bound ((ls g).part i))
  progress e e' ls met commit = go (cases_lt e'.bound machine.top) (low_or_above (λ g. (e.stub g).floor) e'.bound groups)
    where
      -- were all floors above the bound, it would not be the greatest that is clear
      clear : e'.bound < machine.top → ((g : ℕ) → g < groups → e'.bound < (e.stub g).floor) → IsClear machine e (e'.bound + 1)
      clear l above =
          record {
            end = omega arith;
            floor = λ g. each g (cases_lt g groups);
            plus = λ j. subst (λ (xs : List (Item A)). AllFrom (e'.bound + 1) xs) (sym (met.plus j)) tt;
            minus = λ j. subst (λ (xs : List (Item A)). AllFrom (e'.bound + 1) xs) (sym (met.minus j)) tt;
          }
        where
          each : (g : ℕ) → (g < groups) ⊎ (groups ≤ g) → e'.bound + 1 ≤ (e.stub g).floor
          each g (inl m) = let h = above g m in omega arith
          each g (inr m) = let h = met.beyond g m in let k = l in omega arith

      at : (g : ℕ) → g < groups → (e.stub g).floor ≡ e'.bound → e'.bound < machine.top → ((e.stub g).floor ≡ machine.top) ⊎ ((i : ℕ) × (i < count) × (group i ≡ g) × IsAt machine (e.stub g).floor i ((ls g).part i))
          → (h : ℕ) × (i : ℕ) × (h < groups) × (i < count) × (group i ≡ h) × CanGoOn machine i e'.bound ((ls h).part i)
      at g m same l (inl top) = absurd (omega arith)
      at g m same l (inr h) =
          let i : ℕ = h.0 in
          let here : IsAt machine e'.bound h.0 ((ls g).part h.0) = subst (λ (b : ℕ). IsAt machine b h.0 ((ls g).part h.0)) same h.3 in (
            g,
            h.0,
            m,
            h.1,
            h.2,
            goes_on machine law h.0 (ls g).base e'.bound ((ls g).part h.0) ((met.lease g m).proper h.0 h.2) l
                (subst (λ (b : ℕ). IsPast machine b h.0 ((ls g).part h.0)) same ((met.floor g m).low h.0 h.2))
                (λ p. let n = at_from machine (e'.bound + 1) e'.bound h.0 ((ls g).part h.0) p here in omega arith),
          )

      go : (e'.bound < machine.top) ⊎ (machine.top ≤ e'.bound) → ((g : ℕ) × (g < groups) × ((e.stub g).floor ≤ e'.bound)) ⊎ ((g : ℕ) → g < groups → e'.bound < (e.stub g).floor)
          → (e'.bound ≡ machine.top) ⊎ ((g : ℕ) × (i : ℕ) × (g < groups) × (i < count) × (group i ≡ g) × CanGoOn machine i e'.bound ((ls g).part i))
      go (inr l) r = let h = commit.clear.end in inl (omega arith)
      go (inl l) (inr above) = let h = commit.most (e'.bound + 1) (clear l above) in absurd (omega arith)
      go (inl l) (inl h) =
          let low = commit.clear.floor h.0 in
          let high = h.2 in
          let same : (e.stub h.0).floor ≡ e'.bound = omega arith in
          inr (at h.0 h.1 same l (floor_has machine law count counted group h.0 (ls h.0).part (e.stub h.0).floor (met.among h.0 h.1) (met.floor h.0 h.1)))
