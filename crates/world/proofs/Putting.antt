-- One component changed is the theory's world with its record put back.
use Rattle.std.proofs.Common.{◌≡◌, ℕ, zero, suc, ◌<◌, ◌==◌, ◌⊎◌, inl, inr, Bool, cond, Some, List, [], ◌∷◌, map, length, refl, ap, sym, subst, ◌∙◌, arith}
use Rattle.std.specs.Prelude.{slice_get, slice_set}
use Rattle.std.proofs.lemmas.Bool.{eq-eqb, ne_eqb, cases_eq}
use Rattle.terms.specs.Datum.{Datum}
use Rattle.terms.specs.Named.{Named}
use Rattle.event_keys.specs.Ranks.{rank_of_bound}
use Rattle.event_keys.specs.declared.message.Sign.TheVariants.{Plus, Minus}
use Rattle.event_keys.specs.declared.message.Signed.{Signed}
use Rattle.virtual_time.specs.Entries.{Item}
use Rattle.virtual_time.specs.Machine.{Machine}
use Rattle.virtual_time.specs.Records.{Record}
use Rattle.virtual_time.specs.Worlds.{Part, put_back, record_of, with_record}
use Rattle.task_seed.specs.Taken.{turn_of}
use Rattle.rollback.specs.Flight.{in_flight}
use Rattle.rollback.specs.ComponentView.{ComponentView}
use Rattle.world.specs.Simulation.{Simulation, record_or_start, world_of}

pub get_same : {X : Type 0} (xs : List X) (n : ℕ) (x : X) → n < length xs → slice_get (slice_set xs n x) n ≡ Some x
get_same [] n x h = absurd (omega (arith, h))
get_same (y ∷ ys) zero x h = refl
get_same (y ∷ ys) (suc n) x h = get_same ys n x (omega (arith, h))

pub get_other : {X : Type 0} (xs : List X) (n : ℕ) (x : X) (j : ℕ) → (j ≡ n → ⊥) → slice_get (slice_set xs n x) j ≡ slice_get xs j
get_other [] n x j ne = refl
get_other (y ∷ ys) zero x zero ne = absurd (ne refl)
get_other (y ∷ ys) zero x (suc j) ne = refl
get_other (y ∷ ys) (suc n) x zero ne = refl
get_other (y ∷ ys) (suc n) x (suc j) ne = get_other ys n x j (λ e. ne (ap suc e))

pub set_length : {X : Type 0} (xs : List X) (n : ℕ) (x : X) → length (slice_set xs n x) ≡ length xs
set_length [] n x = refl
set_length (y ∷ ys) zero x = refl
set_length (y ∷ ys) (suc n) x = ap suc (set_length ys n x)

-- an item put where it is
pub set_same : {X : Type 0} (xs : List X) (n : ℕ) (x : X) → slice_get xs n ≡ Some x → slice_set xs n x ≡ xs
set_same [] n x e = refl
set_same (y ∷ ys) zero x e = let same : y ≡ x = cc in ap (λ z. z ∷ ys) (sym same)
set_same (y ∷ ys) (suc n) x e = ap (λ zs. y ∷ zs) (set_same ys n x e)

-- below the length there is an item
pub get_there : {X : Type 0} (xs : List X) (n : ℕ) → n < length xs → (x : X) × (slice_get xs n ≡ Some x)
get_there [] n h = absurd (omega (arith, h))
get_there (x ∷ xs) zero h = (x, refl)
get_there (x ∷ xs) (suc n) h = get_there xs n (omega (arith, h))

-- items of which one was replaced
pub get_set : {X : Type 0} (Q : ℕ → X → Type 0) (xs : List X) (i : ℕ) (d : X) → i < length xs → Q i d → ((j : ℕ) (x : X) → slice_get xs j ≡ Some x → Q j x) → (j : ℕ) (x : X) → slice_get (slice_set xs i d) j ≡ Some x → Q j x
get_set Q xs i d there at others j x e = go (cases_eq j i)
  where
    go : (j ≡ i) ⊎ (j ≡ i → ⊥) → Q j x
    go (inl same) =
        let one : Some d ≡ Some x = sym (get_same xs i d there) ∙ ap (slice_get (slice_set xs i d)) (sym same) ∙ e in
        let is : d ≡ x = cc in
        subst (λ n. Q n x) (sym same) (subst (Q i) is at)
    go (inr ne) = others j x (sym (get_other xs i d j ne) ∙ e)

module _ {P : Type 0} (m : Machine (List Datum) Named) (w : Simulation P) (i : ℕ) (c d : ComponentView P) (there : i < length w.components) (was : slice_get w.components i ≡ Some c)
    (flight : List Signed) (plus minus : ℕ → List (Item Named) → List (Item Named))
    (pluses : (j : ℕ) → in_flight Plus j flight ≡ plus j (in_flight Plus j w.flight)) (minuses : (j : ℕ) → in_flight Minus j flight ≡ minus j (in_flight Minus j w.flight)) where
  abbrev components : List (ComponentView P)
  components = slice_set w.components i d

  abbrev changed : Simulation P
  changed = record w { components = components; flight = flight }

  abbrev old : ℕ → Part (List Datum) Named
  old = (world_of m w).part

  -- component j's part, where its own is put back or not
  abbrev back : ℕ → Bool → Part (List Datum) Named
  back j t = let p = cond t (with_record (old i) d.history) (old j) in record { base = p.base; first = p.first; done = p.done; pending = p.pending; owed = p.owed; plus = plus j p.plus; minus = minus j p.minus }

  -- a part, by its record and what is in flight
  abbrev made : Record (List Datum) Named → List (Item Named) → List (Item Named) → Part (List Datum) Named
  made r ps ms = record { base = r.base; first = r.first; done = r.done; pending = r.pending; owed = r.owed; plus = ps; minus = ms }

  each : (j : ℕ) → (world_of m changed).part j ≡ back j (j == i)
  each j = go (cases_eq j i)
    where
      go : (j ≡ i) ⊎ (j ≡ i → ⊥) → (world_of m changed).part j ≡ back j (j == i)
      go (inl same) =
          let at : slice_get components j ≡ Some d = ap (slice_get components) same ∙ get_same w.components i d there in
          (λ v. made (record_or_start m j (at v)) (pluses j v) (minuses j v))
          ∙ (λ v. made d.history (plus j (in_flight Plus (same v) w.flight)) (minus j (in_flight Minus (same v) w.flight)))
          ∙ ap (back j) (sym (eq-eqb j i same))
      go (inr ne) =
          let at : slice_get components j ≡ slice_get w.components j = get_other w.components i d j ne in
          (λ v. made (record_or_start m j (at v)) (pluses j v) (minuses j v))
          ∙ ap (back j) (sym (ne_eqb j i ne))

  pub put_world : world_of m changed ≡ put_back i d.history plus minus (world_of m w)
  put_world = λ v. record { part = λ j. each j v; bound = rank_of_bound w.bound; committed = map turn_of w.committed }

  -- the record that was there
  pub was_record : record_of (old i) ≡ c.history
  was_record = ap (record_or_start m i) was

-- only what is in flight changed
module _ {P : Type 0} (m : Machine (List Datum) Named) (w : Simulation P) (i : ℕ) (flight : List Signed) (plus minus : ℕ → List (Item Named) → List (Item Named))
    (pluses : (j : ℕ) → in_flight Plus j flight ≡ plus j (in_flight Plus j w.flight)) (minuses : (j : ℕ) → in_flight Minus j flight ≡ minus j (in_flight Minus j w.flight)) where
  abbrev kept : ℕ → Bool → Part (List Datum) Named
  kept j t =
      let old = (world_of m w).part in
      let p = cond t (with_record (old i) (record_of (old i))) (old j) in record { base = p.base; first = p.first; done = p.done; pending = p.pending; owed = p.owed; plus = plus j p.plus; minus = minus j p.minus }

  flown : (j : ℕ) → (world_of m (record w { flight = flight })).part j ≡ kept j (j == i)
  flown j = go (cases_eq j i)
    where
      made : ℕ → List (Item Named) → List (Item Named) → Part (List Datum) Named
      made n ps ms = let q = record_or_start m n (slice_get w.components n) in record { base = q.base; first = q.first; done = q.done; pending = q.pending; owed = q.owed; plus = ps; minus = ms }

      go : (j ≡ i) ⊎ (j ≡ i → ⊥) → (world_of m (record w { flight = flight })).part j ≡ kept j (j == i)
      go (inl same) =
          (λ v. made j (pluses j v) (minuses j v))
          ∙ (λ v. made (same v) (plus j (in_flight Plus (same v) w.flight)) (minus j (in_flight Minus (same v) w.flight)))
          ∙ ap (kept j) (sym (eq-eqb j i same))
      go (inr ne) = (λ v. made j (pluses j v) (minuses j v)) ∙ ap (kept j) (sym (ne_eqb j i ne))

  pub flown_world : world_of m (record w { flight = flight }) ≡ put_back i (record_of ((world_of m w).part i)) plus minus (world_of m w)
  flown_world = λ v. record { part = λ j. flown j v; bound = rank_of_bound w.bound; committed = map turn_of w.committed }
