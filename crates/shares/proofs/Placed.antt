-- At which ranks the reference has a turn.
use Rattle.std.proofs.Common.{◌≡◌, ℕ, zero, suc, ◌+◌, ◌-◌, ◌<◌, ◌≤◌, ◌⊎◌, inl, inr, Option, None, Some, List, [], ◌∷◌, length, refl, ap, sym, subst, ◌∙◌, arith}
use Rattle.std.proofs.lemmas.Bool.{cases_lt}
use Rattle.terms.specs.Datum.{Datum}
use Rattle.terms.specs.Named.{Named}
use Rattle.event_keys.specs.declared.key.Key.{Key}
use Rattle.event_keys.specs.Ranks.{rank}
use Rattle.task_seed.specs.Taken.{turn_of, turned_of}
use Rattle.reference.specs.Agendas.{HasCome}
use Rattle.reference.specs.Queues.{rank_or_end}
use Rattle.virtual_time.specs.Machine.{Machine}
use Rattle.virtual_time.specs.Reference.{Turn, add_turn, reference_below, reference_turn}

head_is : {A : Type 0} (x y : A) (xs ys : List A) → x ∷ xs ≡ y ∷ ys → x ≡ y
head_is x y xs ys e = cc

module _ {S A : Type 0} (m : Machine S A) where
  -- one rank more, where there is a turn and where there is none
  pub below_more : (r : ℕ) (outcome : Option A) → reference_turn m r ≡ Some outcome → reference_below m (suc r) ≡ record { key = r; outcome = outcome } ∷ reference_below m r
  below_more r outcome e = ap (λ o. add_turn r o (reference_below m r)) e

  pub below_same : (r : ℕ) → reference_turn m r ≡ None → reference_below m (suc r) ≡ reference_below m r
  below_same r e = ap (λ o. add_turn r o (reference_below m r)) e

  longer_by : (b d : ℕ) → length (reference_below m b) ≤ length (reference_below m (b + d))
  longer_by b zero = let e : b + 0 ≡ b = omega arith in subst (λ x. length (reference_below m b) ≤ length (reference_below m x)) (sym e) (omega arith)
  longer_by b (suc d) = let e : b + suc d ≡ suc (b + d) = omega arith in subst (λ x. length (reference_below m b) ≤ length (reference_below m x)) (sym e) (go (longer_by b d) (reference_turn m (b + d)) refl)
    where
      go : length (reference_below m b) ≤ length (reference_below m (b + d)) → (o : Option (Option A)) → reference_turn m (b + d) ≡ o → length (reference_below m b) ≤ length (reference_below m (suc (b + d)))
      go i None f =
          let n = ap length (below_same (b + d) f) in
          omega (arith, i, n)
      go i (Some o) f =
          let n = ap length (below_more (b + d) o f) in
          omega (arith, i, n)

  -- there are no fewer turns below a greater rank
  pub longer : (b c : ℕ) → b ≤ c → length (reference_below m b) ≤ length (reference_below m c)
  longer b c l = let e : b + (c - b) ≡ c = omega (arith, l) in subst (λ x. length (reference_below m b) ≤ length (reference_below m x)) e (longer_by b (c - b))

  same_by : (b d : ℕ) → length (reference_below m (b + d)) ≤ length (reference_below m b) → reference_below m (b + d) ≡ reference_below m b
  same_by b zero l = let e : b + 0 ≡ b = omega arith in ap (reference_below m) e
  same_by b (suc d) l =
      let e : b + suc d ≡ suc (b + d) = omega arith in
      ap (reference_below m) e ∙ go (same_by b d) (longer_by b d) (subst (λ x. length (reference_below m x) ≤ length (reference_below m b)) e l) (reference_turn m (b + d)) refl
    where
      go : (length (reference_below m (b + d)) ≤ length (reference_below m b) → reference_below m (b + d) ≡ reference_below m b) → length (reference_below m b) ≤ length (reference_below m (b + d))
          → length (reference_below m (suc (b + d))) ≤ length (reference_below m b) → (o : Option (Option A)) → reference_turn m (b + d) ≡ o → reference_below m (suc (b + d)) ≡ reference_below m b
      go ih i k None f =
          let same = below_same (b + d) f in
          let n = ap length same in
          same ∙ ih (omega (arith, k, n))
      go ih i k (Some o) f =
          let n = ap length (below_more (b + d) o f) in
          absurd (omega (arith, i, n, k))

  -- where there are no more turns below a greater rank, they are the same
  pub same_below : (b c : ℕ) → b ≤ c → length (reference_below m c) ≤ length (reference_below m b) → reference_below m c ≡ reference_below m b
  same_below b c l k =
      let e : b + (c - b) ≡ c = omega (arith, l) in
      subst (λ x. reference_below m x ≡ reference_below m b) e (same_by b (c - b) (subst (λ x. length (reference_below m x) ≤ length (reference_below m b)) (sym e) k))

  some_by : (b d : ℕ) → length (reference_below m b) < length (reference_below m (b + d)) → (r : ℕ) × (outcome : Option A) × (b ≤ r) × (r < b + d) × (reference_turn m r ≡ Some outcome)
  some_by b zero l =
      let e : b + 0 ≡ b = omega arith in
      let n = ap (λ x. length (reference_below m x)) e in
      absurd (omega (arith, l, n))
  some_by b (suc d) l =
      let e : b + suc d ≡ suc (b + d) = omega arith in
      go (some_by b d) (subst (λ x. length (reference_below m b) < length (reference_below m x)) e l) (reference_turn m (b + d)) refl
    where
      go : (length (reference_below m b) < length (reference_below m (b + d)) → (r : ℕ) × (outcome : Option A) × (b ≤ r) × (r < b + d) × (reference_turn m r ≡ Some outcome))
          → length (reference_below m b) < length (reference_below m (suc (b + d))) → (o : Option (Option A)) → reference_turn m (b + d) ≡ o → (r : ℕ) × (outcome : Option A) × (b ≤ r) × (r < b + suc d) × (reference_turn m r ≡ Some outcome)
      go ih k None f =
          let n = ap length (below_same (b + d) f) in
          let found = ih (omega (arith, k, n)) in
          let low = found.2 in
          let high = found.3 in
          (found.0, found.1, low, omega (arith, high), found.4)
      go ih k (Some o) f = (b + d, o, omega arith, omega arith, f)

  -- where there is no turn below a bound, none is at a rank below it
  pub none_placed : (b r : ℕ) (outcome : Option A) → reference_below m b ≡ [] → r < b → reference_turn m r ≡ Some outcome → ⊥
  none_placed b r outcome none l e =
      let i = longer (suc r) b l in
      let n = ap length (below_more r outcome e) in
      let z = ap length none in
      omega (arith, i, n, z)

  -- where below a bound there is one turn more than below another, it is the only one between them
  module _ (low high : ℕ) (outcome : Option A) (one : reference_below m high ≡ record { key = low; outcome = outcome } ∷ reference_below m low) where
    pub goes_up : low < high
    goes_up = go (cases_lt low high)
      where
        go : (low < high) ⊎ (high ≤ low) → low < high
        go (inl l) = l
        go (inr l) =
            let i = longer high low l in
            let n = ap length one in
            absurd (omega (arith, i, n))

    same_turn : (r : ℕ) (came : Option A) → low ≤ r → r < high → reference_turn m r ≡ Some came → ◌≡◌ {A = Turn A} (record { key = r; outcome = came }) (record { key = low; outcome = outcome })
    same_turn r came l h e =
        let more = below_more r came e in
        let from = longer low r l in
        let n = ap length more in
        let k = ap length one in
        let up : suc r ≤ high = h in
        let same = same_below (suc r) high up (omega (arith, from, n, k)) in
        head_is _ _ _ _ (sym more ∙ sym same ∙ one)

    pub only_there : (r : ℕ) (came : Option A) → low ≤ r → r < high → reference_turn m r ≡ Some came → r ≡ low
    only_there r came l h e = ap (λ (t : Turn A). t.key) (same_turn r came l h e)

    pub is_there : reference_turn m low ≡ Some outcome
    is_there =
        let up = goes_up in
        let k = ap length one in
        let e : low + (high - low) ≡ high = omega (arith, up) in
        let found = some_by low (high - low) (subst (λ x. length (reference_below m low) < length (reference_below m x)) (sym e) (omega (arith, k))) in
        let within = found.3 in
        let is = same_turn found.0 found.1 found.2 (omega (arith, within, e)) found.4 in
        turn_there found.0 found.1 is found.4
      where
        turn_there : (r : ℕ) (came : Option A) → ◌≡◌ {A = Turn A} (record { key = r; outcome = came }) (record { key = low; outcome = outcome }) → reference_turn m r ≡ Some came → reference_turn m low ≡ Some outcome
        turn_there r came is e = subst (λ (t : Turn A). reference_turn m t.key ≡ Some t.outcome) is e

-- a turn that came is the one turn from its key up to the next one
pub come_one : (m : Machine (List Datum) Named) (key : Key) (outcome : Option Named) (next : Option Key) → HasCome m key outcome next → reference_below m (rank_or_end next) ≡ record { key = rank key; outcome = outcome } ∷ reference_below m (rank key)
come_one m key outcome next comes = comes ∙ ap (λ t. t ∷ reference_below m (rank key)) (turn_is outcome)
  where
    turn_is : (found : Option Named) → turn_of (turned_of found key) ≡ record { key = rank key; outcome = found }
    turn_is None = refl
    turn_is (Some action) = refl

module _ (m : Machine (List Datum) Named) (key : Key) (outcome : Option Named) (next : Option Key) (comes : HasCome m key outcome next) where
  -- the next turn comes later
  pub comes_before : rank key < rank_or_end next
  comes_before = goes_up m (rank key) (rank_or_end next) outcome (come_one m key outcome next comes)

  -- the reference has it
  pub comes_there : reference_turn m (rank key) ≡ Some outcome
  comes_there = is_there m (rank key) (rank_or_end next) outcome (come_one m key outcome next comes)

  -- and no other before the next one
  pub comes_alone : (r : ℕ) (came : Option Named) → rank key ≤ r → r < rank_or_end next → reference_turn m r ≡ Some came → r ≡ rank key
  comes_alone = only_there m (rank key) (rank_or_end next) outcome (come_one m key outcome next comes)

  pub none_between : (r : ℕ) → rank key < r → r < rank_or_end next → reference_turn m r ≡ None
  none_between r low high = go (reference_turn m r) refl
    where
      go : (o : Option (Option Named)) → reference_turn m r ≡ o → reference_turn m r ≡ None
      go None e = e
      go (Some came) e = let at = comes_alone r came (omega (arith, low)) high e in absurd (omega (arith, at, low))

-- where no turn is below a bound, the reference has none at a rank below it
pub none_before : (m : Machine (List Datum) Named) (b r : ℕ) → reference_below m b ≡ [] → r < b → reference_turn m r ≡ None
none_before m b r none below = go (reference_turn m r) refl
  where
    go : (o : Option (Option Named)) → reference_turn m r ≡ o → reference_turn m r ≡ None
    go None e = e
    go (Some came) e = absurd (none_placed m b r came none below e)
