-- Who can go on where all leases have met and the bound was raised.
use Rattle.std.proofs.Common.{◌≡◌, ℕ, zero, suc, ◌+◌, ◌<◌, ◌≤◌, ◌⊎◌, inl, inr, true, Option, Some, List, [], ◌∷◌, refl, ap, sym, subst, arith}
use Rattle.std.proofs.lemmas.Bool.{le-ltb, lt-ltb, cases_eq, cases_lt}
use Rattle.virtual_time.specs.Machine.{Lawful, Machine}
use Rattle.virtual_time.specs.Bags.{AllFrom, IsSorted, comes_first}
use Rattle.virtual_time.specs.Entries.{Entry, Input, Item, Own, from, number, replay}
use Rattle.virtual_time.specs.Records.{cut_of, least_of, own_next}
use Rattle.virtual_time.specs.Worlds.{IsPast, Part, record_of}
use Rattle.virtual_time.specs.Rules.{IsDone, IsProper}
use Rattle.virtual_time.specs.Replies.{HasKey}
use Rattle.virtual_time.specs.Exchange.Stubs.{Exchange}
use Rattle.virtual_time.specs.Exchange.Leases.{Lease}
use Rattle.virtual_time.specs.Exchange.Meetings.{IsClear, IsCommit}
use Rattle.virtual_time.specs.Exchange.Windows.{HasRoom, own_turns}
use Rattle.virtual_time.specs.Exchange.Progress.{CanGoOn, HaveAllMet}
use Rattle.virtual_time.proofs.Commits.{from_at}
use Rattle.virtual_time.proofs.Lists.{Each-weaken, first_low}

-- one of these messages has the key, or all are above it
key_or_above : {A : Type 0} (g : ℕ) (xs : List (Item A)) → AllFrom g xs → HasKey g xs ⊎ AllFrom (g + 1) xs
key_or_above g [] h = inr tt
key_or_above g (x ∷ xs) h = go h.0 (cases_lt g x.key) (key_or_above g xs h.1)
  where
    go : g ≤ x.key → (g < x.key) ⊎ (x.key ≤ g) → HasKey g xs ⊎ AllFrom (g + 1) xs → HasKey g (x ∷ xs) ⊎ AllFrom (g + 1) (x ∷ xs)
    go low (inr l) r = inl (inl (omega arith))
    go low (inl l) (inl r) = inl (inr r)
    go low (inl l) (inr r) = inr (omega arith, r)

-- one of the first n floors is not above g, or all are
pub low_or_above : (floor : ℕ → ℕ) (g n : ℕ) → ((i : ℕ) × (i < n) × (floor i ≤ g)) ⊎ ((j : ℕ) → j < n → g < floor j)
low_or_above floor g zero = inr (λ j l. absurd (omega arith))
low_or_above floor g (suc n) = go (cases_lt g (floor n)) (low_or_above floor g n)
  where
    last : g < floor n → ((j : ℕ) → j < n → g < floor j) → (j : ℕ) → j < suc n → (j ≡ n) ⊎ (j ≡ n → ⊥) → g < floor j
    last l h j m (inl e) = subst (λ (k : ℕ). g < floor k) (sym e) l
    last l h j m (inr ne) = h j (omega arith)

    go : (g < floor n) ⊎ (floor n ≤ g) → ((i : ℕ) × (i < n) × (floor i ≤ g)) ⊎ ((j : ℕ) → j < n → g < floor j) → ((i : ℕ) × (i < suc n) × (floor i ≤ g)) ⊎ ((j : ℕ) → j < suc n → g < floor j)
    go (inr l) r = inl (n, omega arith, l)
    go (inl l) (inl h) = let m = h.1 in inl (h.0, omega arith, h.2)
    go (inl l) (inr h) = inr (λ j m. last l h j m (cases_eq j n))

module _ {S A : Type 0} (machine : Machine S A) where
  -- what comes after a message above g is above g
  above_all : (g : ℕ) (x : Item A) (xs : List (Item A)) → IsSorted machine (x ∷ xs) → g < x.key → AllFrom (g + 1) (x ∷ xs)
  above_all g x xs sorted l = (omega arith, Each-weaken (λ y. comes_first machine x y ≡ true) (λ y. g + 1 ≤ y.key) xs (λ y h. let m = first_low machine x y h in omega arith) sorted.0)

  own_at : (i g : ℕ) (c : Part S A) → g < machine.top → machine.key i (number c.first c.done) ≡ g → (outcome : Option A) × (own_next machine i (record_of c) ≡ Some (Own g outcome))
  own_at i g c l e =
      let m : machine.key i (number c.first c.done) < machine.top = omega arith in
      (machine.outcome i (number c.first c.done) (replay machine i c.base c.done), rw (lt-ltb (machine.key i (number c.first c.done)) machine.top m) (ap (λ (k : ℕ). Some (Own k (machine.outcome i (number c.first c.done) (replay machine i c.base c.done)))) e))

  -- the next entry is the one with the key g, where the pending inputs are these
  next_at : (i g : ℕ) (c : Part S A) (xs : List (Item A)) → g < machine.top → g ≤ machine.key i (number c.first c.done) → AllFrom g xs → IsSorted machine xs
      → (g < machine.key i (number c.first c.done) → AllFrom (g + 1) xs → ⊥)
      → ((x : Item A) × (least_of machine i (record_of c) xs ≡ Some (Input x)) × (x.key ≡ g))
      ⊎ ((outcome : Option A) × (least_of machine i (record_of c) xs ≡ Some (Own g outcome)) × (machine.key i (number c.first c.done) ≡ g))
  next_at i g c [] l turn low sorted none = go (cases_lt g (machine.key i (number c.first c.done)))
    where
      go : (g < machine.key i (number c.first c.done)) ⊎ (machine.key i (number c.first c.done) ≤ g)
          → ((x : Item A) × (own_next machine i (record_of c) ≡ Some (Input x)) × (x.key ≡ g)) ⊎ ((outcome : Option A) × (own_next machine i (record_of c) ≡ Some (Own g outcome)) × (machine.key i (number c.first c.done) ≡ g))
      go (inl m) = absurd (none m tt)
      go (inr m) =
          let t = turn in
          let e : machine.key i (number c.first c.done) ≡ g = omega arith in
          let o = own_at i g c l e in
          inr (o.0, o.1, e)
  next_at i g c (x ∷ xs) l turn low sorted none = go (cases_lt x.key (machine.key i (number c.first c.done))) (cases_lt g x.key) (cases_lt g (machine.key i (number c.first c.done)))
    where
      go : (x.key < machine.key i (number c.first c.done)) ⊎ (machine.key i (number c.first c.done) ≤ x.key) → (g < x.key) ⊎ (x.key ≤ g) → (g < machine.key i (number c.first c.done)) ⊎ (machine.key i (number c.first c.done) ≤ g)
          → ((y : Item A) × (least_of machine i (record_of c) (x ∷ xs) ≡ Some (Input y)) × (y.key ≡ g))
          ⊎ ((outcome : Option A) × (least_of machine i (record_of c) (x ∷ xs) ≡ Some (Own g outcome)) × (machine.key i (number c.first c.done) ≡ g))
      go (inl m) (inl a) t = absurd (none (omega arith) (above_all g x xs sorted a))
      go (inl m) (inr a) t = let first = low.0 in inl (x, rw (lt-ltb x.key (machine.key i (number c.first c.done)) m) refl, omega arith)
      go (inr m) a (inl t) = absurd (none t (above_all g x xs sorted (omega arith)))
      go (inr m) a (inr t) =
          let u = turn in
          let e : machine.key i (number c.first c.done) ≡ g = omega arith in
          let o = own_at i g c l e in
          inr (o.0, rw (le-ltb x.key (machine.key i (number c.first c.done)) m) o.1, e)

  -- where nothing at or above g is done, every window has room for an own turn once the entries below g are dropped
  pub room_after : (i g window : ℕ) (part : Part S A) (outcome : Option A) → 0 < window → from g part.done ≡ [] → HasRoom window (cut_of machine i g (record_of part)) (Own g outcome)
  room_after i g window part outcome some nothing = subst (λ (es : List (Entry A)). own_turns es < window) (sym nothing) some

module _ {S A : Type 0} (machine : Machine S A) (law : Lawful machine) where
  -- no done entry is at or above the own next key
  none_from : (i b n : ℕ) (s : S) (es : List (Entry A)) → IsDone machine i b n s es → from (machine.key i (number n es)) es ≡ []
  none_from i b n s [] d = refl
  none_from i b n s (Own k o ∷ es) d = let up = law.rises i (number n es) in from_at (machine.key i (number n (Own k o ∷ es))) (Own k o) es (omega arith)
  none_from i b n s (Input x ∷ es) d = from_at (machine.key i (number n es)) (Input x) es d.0

  pub goes_on : (i b g : ℕ) (c : Part S A) → IsProper machine b i c → g < machine.top → IsPast machine g i c → (IsPast machine (g + 1) i c → ⊥) → CanGoOn machine i g c
  goes_on i b g c proper l past none = tray (key_or_above g c.plus past.plus) (key_or_above g c.minus past.minus)
    where
      next : ((x : Item A) × (least_of machine i (record_of c) c.pending ≡ Some (Input x)) × (x.key ≡ g))
          ⊎ ((outcome : Option A) × (least_of machine i (record_of c) c.pending ≡ Some (Own g outcome)) × (machine.key i (number c.first c.done) ≡ g)) → CanGoOn machine i g c
      next (inl h) = inr (inl (record { input = h.0; next = h.1; key = h.2 }))
      next (inr h) = inr (inr (record { outcome = h.0; next = h.1; nothing = subst (λ (k : ℕ). from k c.done ≡ []) h.2 (none_from i b c.first c.base c.done proper.done) }))

      tray : HasKey g c.plus ⊎ AllFrom (g + 1) c.plus → HasKey g c.minus ⊎ AllFrom (g + 1) c.minus → CanGoOn machine i g c
      tray (inl h) m = inl (inl h)
      tray (inr p) (inl h) = inl (inr h)
      tray (inr p) (inr m) = next (next_at machine i g c c.pending l past.turn past.pending proper.sorted (λ t q. none (record { turn = omega arith; pending = q; plus = p; minus = m })))

  pub progress : (count : ℕ) (e e' : Exchange A) (leases : ℕ → Lease S A) → HaveAllMet machine count e leases → IsCommit machine e e' → (e'.bound ≡ machine.top) ⊎ ((i : ℕ) × (i < count) × CanGoOn machine i e'.bound (leases i).part)
  progress count e e' leases met commit = go (cases_lt e'.bound machine.top) (low_or_above (λ j. (e.stub j).floor) e'.bound count)
    where
      -- were all floors above the bound, it would not be the greatest that is clear
      clear : e'.bound < machine.top → ((j : ℕ) → j < count → e'.bound < (e.stub j).floor) → IsClear machine e (e'.bound + 1)
      clear l above =
          record {
            end = omega arith;
            floor = λ j. each j (cases_lt j count);
            plus = λ j. subst (λ (xs : List (Item A)). AllFrom (e'.bound + 1) xs) (sym (met.plus j)) tt;
            minus = λ j. subst (λ (xs : List (Item A)). AllFrom (e'.bound + 1) xs) (sym (met.minus j)) tt;
          }
        where
          each : (j : ℕ) → (j < count) ⊎ (count ≤ j) → e'.bound + 1 ≤ (e.stub j).floor
          each j (inl m) = let h = above j m in omega arith
          each j (inr m) = let h = met.beyond j m in let k = l in omega arith

      go : (e'.bound < machine.top) ⊎ (machine.top ≤ e'.bound) → ((i : ℕ) × (i < count) × ((e.stub i).floor ≤ e'.bound)) ⊎ ((j : ℕ) → j < count → e'.bound < (e.stub j).floor) → (e'.bound ≡ machine.top) ⊎ ((i : ℕ) × (i < count) × CanGoOn machine i e'.bound (leases i).part)
      go (inr l) r = let h = commit.clear.end in inl (omega arith)
      go (inl l) (inr above) = let h = commit.most (e'.bound + 1) (clear l above) in absurd (omega arith)
      go (inl l) (inl h) =
          let i : ℕ = h.0 in
          let low = commit.clear.floor i in
          let high = h.2 in
          let floor = met.floor i h.1 in
          let same : (e.stub i).floor ≡ e'.bound = omega arith in
          inr (
            i,
            h.1,
            goes_on i (leases i).base e'.bound (leases i).part (met.lease i h.1).proper l
                (subst (λ (b : ℕ). IsPast machine b i (leases i).part) same floor.low)
                (λ p. let m = floor.most (e'.bound + 1) p in omega arith),
          )
