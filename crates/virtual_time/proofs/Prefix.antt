-- The simulator's turns below a bound are a beginning of those below a greater one.
use Rattle.std.proofs.Common.{◌≡◌, ℕ, suc, ◌<◌, ◌≤◌, ◌⊎◌, inl, inr, List, [], ◌∷◌, ◌++◌, length, refl, ap, sym, subst, ◌∙◌, arith, length-append}
use Rattle.std.proofs.lemmas.Bool.{cases_eq, cases_lt}
use Rattle.virtual_time.specs.Machine.{Machine}
use Rattle.virtual_time.specs.Reference.{AllBelow, IsNext, IsReference, IsRun, Point, Turn, after}

module _ {S A : Type 0} (machine : Machine S A) where
  -- the next turn is determined
  pub next_one : (p : Point S) (t u : Turn A) → IsNext machine p t → IsNext machine p u → t ≡ u
  next_one p t u a b =
      let l : t.key ≤ u.key = subst (λ (k : ℕ). t.key ≤ k) (sym b.its_key) (a.least (machine.owner u.key)) in
      let m : u.key ≤ t.key = subst (λ (k : ℕ). u.key ≤ k) (sym a.its_key) (b.least (machine.owner t.key)) in
      let k : t.key ≡ u.key = omega arith in
      let o : t.outcome ≡ u.outcome = a.its_outcome ∙ ap (λ (n : ℕ). machine.outcome (machine.owner n) (p.next (machine.owner n)) (p.state (machine.owner n))) k ∙ sym b.its_outcome in
      λ i. record { key = k i; outcome = o i }

  pub run_one : (ts us : List (Turn A)) → length ts ≡ length us → IsRun machine ts → IsRun machine us → ts ≡ us
  run_one [] [] e p q = refl
  run_one [] (u ∷ us) e p q = absurd (omega arith)
  run_one (t ∷ ts) [] e p q = absurd (omega arith)
  run_one (t ∷ ts) (u ∷ us) e p q =
      let same : ts ≡ us = run_one ts us (omega arith) p.1 q.1 in
      let first : t ≡ u = next_one (after machine us) t u (subst (λ (vs : List (Turn A)). IsNext machine (after machine vs) t) same p.0) q.0 in
      λ i. first i ∷ same i

  -- the shorter run is what the longer one began with
  pub run_begins : (ts us : List (Turn A)) → length ts ≤ length us → IsRun machine ts → IsRun machine us → (extra : List (Turn A)) × (us ≡ extra ++ ts)
  run_begins ts [] l p q = ([], run_one [] ts (omega arith) tt p)
  run_begins ts (u ∷ us) l p q = go (cases_eq (length ts) (suc (length us))) (λ (h : length ts ≤ length us). run_begins ts us h p q.1)
    where
      go : (length ts ≡ suc (length us)) ⊎ (length ts ≡ suc (length us) → ⊥) → (length ts ≤ length us → (extra : List (Turn A)) × (us ≡ extra ++ ts)) → (extra : List (Turn A)) × (u ∷ us ≡ extra ++ ts)
      go (inl e) ih = ([], run_one (u ∷ us) ts (omega arith) q p)
      go (inr ne) ih = let r = ih (omega arith) in (u ∷ r.0, ap (λ (vs : List (Turn A)). u ∷ vs) r.1)

  -- a run that goes on behind a point has a turn that is next there
  pub goes_on : (b : ℕ) (t : Turn A) (extra us : List (Turn A)) → IsRun machine ((t ∷ extra) ++ us) → AllBelow b ((t ∷ extra) ++ us) → (j : ℕ) × (machine.key j ((after machine us).next j) < b)
  goes_on b t [] us run below = (machine.owner t.key, subst (λ (k : ℕ). k < b) run.0.its_key below.0)
  goes_on b t (u ∷ extra) us run below = goes_on b u extra us run.1 below.1

  pub reference_begins : (b c : ℕ) (ts us : List (Turn A)) → b ≤ c → IsReference machine b ts → IsReference machine c us → (extra : List (Turn A)) × (us ≡ extra ++ ts)
  reference_begins b c ts us l p q = go (cases_lt (length us) (length ts))
    where
      longer : (extra : List (Turn A)) → ts ≡ extra ++ us → length us < length ts → ⊥
      longer [] e h = let n : length ts ≡ length us = ap length e in omega arith
      longer (t ∷ extra) e h =
          let g = goes_on b t extra us (subst (λ (vs : List (Turn A)). IsRun machine vs) e p.run) (subst (λ (vs : List (Turn A)). AllBelow b vs) e p.below) in
          let a = q.all g.0 in
          let f = g.1 in
          omega arith

      go : (length us < length ts) ⊎ (length ts ≤ length us) → (extra : List (Turn A)) × (us ≡ extra ++ ts)
      go (inl h) = let r = run_begins us ts (omega arith) q.run p.run in absurd (longer r.0 r.1 h)
      go (inr h) = run_begins ts us h p.run q.run

  pub reference_one : (b : ℕ) (ts us : List (Turn A)) → IsReference machine b ts → IsReference machine b us → ts ≡ us
  reference_one b ts us p q =
      let r = reference_begins b b ts us (omega arith) p q in
      let r' = reference_begins b b us ts (omega arith) q p in
      let e = ap length r.1 ∙ length-append r.0 ts in
      let e' = ap length r'.1 ∙ length-append r'.0 us in
      run_one ts us (omega arith) p.run q.run
