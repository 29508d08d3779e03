-- Every turn below the bound is in the reference once, in the order of keys, and its schedule is one of an execution.
use Rattle.std.proofs.Common.{◌≡◌, ℕ, zero, suc, ◌+◌, ◌-◌, ◌<◌, ◌≤◌, ◌==◌, ◌⊎◌, inl, inr, Bool, true, false, cond, Option, None, Some, List, [], ◌∷◌, ◌++◌, refl, ap, sym, subst, ◌∙◌, arith}
use Rattle.std.proofs.lemmas.Bool.{eq-eqb, eqb-true, ne_eqb, cases_eq, cases_lt}
use Rattle.virtual_time.specs.Machine.{Machine, Lawful}
use Rattle.virtual_time.specs.Reference.{Turn, joint, after, IsNext, IsRun, AllBelow, IsReference, outcome_at, Falls}
use Rattle.virtual_time.specs.Executions.{IsExecution, add_action, schedule}
use Rattle.virtual_time.proofs.Joint.{AllBelow-weaken}

module _ {S A : Type 0} (machine : Machine S A) where
  abbrev Known : ℕ → List (Turn A) → Type 0
  Known k ts = (o : Option A) × (outcome_at k ts ≡ Some o)

  known_more : (k : ℕ) (t : Turn A) (ts : List (Turn A)) → Known k ts → Known k (t ∷ ts)
  known_more k t ts h = go (t.key == k)
    where
      go : (b : Bool) → (o : Option A) × (cond b (Some t.outcome) (outcome_at k ts) ≡ Some o)
      go true = (t.outcome, refl)
      go false = h

  known_here : (k : ℕ) (t : Turn A) (ts : List (Turn A)) → t.key ≡ k → Known k (t ∷ ts)
  known_here k t ts e = (t.outcome, rw (eq-eqb t.key k e))

  -- the turns before a component's next one are there
  pub taken_known : (ts : List (Turn A)) → IsRun machine ts → (i m : ℕ) → m < (after machine ts).next i → Known (machine.key i m) ts
  taken_known [] run i m l = absurd (omega arith)
  taken_known (t ∷ ts) run i m l = go (λ (p : m < (after machine ts).next i). taken_known ts run.1 i m p) (cases_eq i (machine.owner t.key)) l
    where
      go : (m < (after machine ts).next i → Known (machine.key i m) ts) → (i ≡ machine.owner t.key) ⊎ (i ≡ machine.owner t.key → ⊥) → m < cond (i == machine.owner t.key) (suc ((after machine ts).next i)) ((after machine ts).next i) → Known (machine.key i m) (t ∷ ts)
      go ih (inr ne) n = known_more (machine.key i m) t ts (ih (subst (λ (b : Bool). m < cond b (suc ((after machine ts).next i)) ((after machine ts).next i)) (ne_eqb i (machine.owner t.key) ne) n))
      go ih (inl e) n = here (cases_eq m ((after machine ts).next i)) (subst (λ (b : Bool). m < cond b (suc ((after machine ts).next i)) ((after machine ts).next i)) (eq-eqb i (machine.owner t.key) e) n)
        where
          here : (m ≡ (after machine ts).next i) ⊎ (m ≡ (after machine ts).next i → ⊥) → m < suc ((after machine ts).next i) → Known (machine.key i m) (t ∷ ts)
          here (inl q) p =
              let k : t.key ≡ machine.key i ((after machine ts).next i) = subst (λ (x : ℕ). t.key ≡ machine.key x ((after machine ts).next x)) (sym e) run.0.its_key in
              known_here (machine.key i m) t ts (k ∙ ap (λ (x : ℕ). machine.key i x) (sym q))
          here (inr nq) p = known_more (machine.key i m) t ts (ih (omega arith))

  pub part_run : (us : List (Turn A)) (t : Turn A) (ts : List (Turn A)) → IsRun machine (us ++ t ∷ ts) → IsNext machine (after machine ts) t
  part_run [] t ts run = run.0
  part_run (u ∷ us) t ts run = part_run us t ts run.1

module _ {S A : Type 0} (machine : Machine S A) (law : Lawful machine) where
  pub keys_up : (c i m d : ℕ) → c ≤ machine.top → c ≤ machine.key i m → c ≤ machine.key i (m + d)
  keys_up c i m zero l h = let z : m + 0 ≡ m = omega arith in rw z h
  keys_up c i m (suc d) l h = let z : m + suc d ≡ suc (m + d) = omega arith in rw z (go (keys_up c i m d l h) (cases_lt (machine.key i (m + d)) machine.top))
    where
      go : c ≤ machine.key i (m + d) → (machine.key i (m + d) < machine.top) ⊎ (machine.top ≤ machine.key i (m + d)) → c ≤ machine.key i (suc (m + d))
      go k (inl n) = let up = law.rises i (m + d) n in omega arith
      go k (inr n) = let e = law.ends i (m + d) n in omega arith

  pub complete : (b : ℕ) (ts : List (Turn A)) → IsReference machine b ts → b ≤ machine.top → (i m : ℕ) → machine.key i m < b → Known machine (machine.key i m) ts
  complete b ts r l i m h = go (cases_lt m ((after machine ts).next i))
    where
      go : (m < (after machine ts).next i) ⊎ ((after machine ts).next i ≤ m) → Known machine (machine.key i m) ts
      go (inl p) = taken_known machine ts r.run i m p
      go (inr p) =
          let u = keys_up b i ((after machine ts).next i) (m - (after machine ts).next i) l (r.all i) in
          let e : (after machine ts).next i + (m - (after machine ts).next i) ≡ m = omega arith in
          let v : b ≤ machine.key i m = subst (λ (n : ℕ). b ≤ machine.key i n) e u in
          absurd (omega arith)

  -- all turns of a run have keys below each next turn
  pub run_below : (ts : List (Turn A)) → IsRun machine ts → (j : ℕ) → AllBelow (machine.key j ((after machine ts).next j)) ts
  run_below [] run j = tt
  run_below (t ∷ ts) run j = go (run_below ts run.1 j) (cases_eq j (machine.owner t.key))
    where
      n : ℕ
      n = (after machine ts).next j

      go : AllBelow (machine.key j n) ts → (j ≡ machine.owner t.key) ⊎ (j ≡ machine.owner t.key → ⊥) → AllBelow (machine.key j (cond (j == machine.owner t.key) (suc n) n)) (t ∷ ts)
      go ih (inl e) =
          let k : t.key ≡ machine.key j n = subst (λ (x : ℕ). t.key ≡ machine.key x ((after machine ts).next x)) (sym e) run.0.its_key in
          let low = run.0.exists in
          let up = law.rises j n (omega arith) in
          subst (λ (b : Bool). AllBelow (machine.key j (cond b (suc n) n)) (t ∷ ts)) (sym (eq-eqb j (machine.owner t.key) e)) (omega arith, AllBelow-weaken machine law (machine.key j n) (machine.key j (suc n)) ts (omega arith) ih)
      go ih (inr ne) =
          let least = run.0.least j in
          let low = run.0.exists in
          let differ : t.key ≡ machine.key j n → ⊥ = λ (e : t.key ≡ machine.key j n). ne (sym (law.owned j n (omega arith)) ∙ sym (ap machine.owner e)) in
          subst (λ (b : Bool). AllBelow (machine.key j (cond b (suc n) n)) (t ∷ ts)) (sym (ne_eqb j (machine.owner t.key) ne)) (strict (cases_eq t.key (machine.key j n)) differ least, ih)
        where
          strict : (t.key ≡ machine.key j n) ⊎ (t.key ≡ machine.key j n → ⊥) → (t.key ≡ machine.key j n → ⊥) → t.key ≤ machine.key j n → t.key < machine.key j n
          strict (inl e) d l = absurd (d e)
          strict (inr d') d l = omega arith

  pub run_falls : (ts : List (Turn A)) → IsRun machine ts → Falls ts
  run_falls [] run = tt
  run_falls (t ∷ ts) run = (subst (λ (k : ℕ). AllBelow k ts) (sym run.0.its_key) (run_below ts run.1 (machine.owner t.key)), run_falls ts run.1)

  -- and what is there is a turn below the bound
  pub only : (b k : ℕ) (o : Option A) (ts : List (Turn A)) → IsRun machine ts → AllBelow b ts → outcome_at k ts ≡ Some o → (k < b) × ((m : ℕ) × (machine.key (machine.owner k) m ≡ k))
  only b k o [] run below h = let f : ◌≡◌ {A = Option (Option A)} None (Some o) = h in cc
  only b k o (t ∷ ts) run below h = go (only b k o ts run.1 below.1) (t.key == k) refl h
    where
      go : (outcome_at k ts ≡ Some o → (k < b) × ((m : ℕ) × (machine.key (machine.owner k) m ≡ k))) → (v : Bool) → (t.key == k) ≡ v → cond v (Some t.outcome) (outcome_at k ts) ≡ Some o → (k < b) × ((m : ℕ) × (machine.key (machine.owner k) m ≡ k))
      go ih true e f =
          let q : t.key ≡ k = eqb-true t.key k e in
          let l = below.0 in
          (omega arith, ((after machine ts).next (machine.owner k), subst (λ (x : ℕ). machine.key (machine.owner x) ((after machine ts).next (machine.owner x)) ≡ x) q (sym run.0.its_key)))
      go ih false e f = ih f

  -- The schedule is one of an execution.
  step_executes : (i m : ℕ) (o : Option A) (actions : List A) (s : ℕ → S) → o ≡ machine.outcome i m (s i) → IsExecution machine actions s → IsExecution machine (add_action o actions) (λ j. joint machine i o j (s j))
  step_executes i m None actions s h e = e
  step_executes i m (Some a) actions s h e = (
    s,
    e,
    record {
      by = i;
      turn = m;
      enabled = sym h;
      own = rw (eq-eqb i i refl);
      input = λ j r. rw (ne_eqb j i (λ (q : j ≡ i). differ j q r), r);
      others = λ j ne r. rw (ne_eqb j i ne, r);
    },
  )
    where
      differ : (j : ℕ) → j ≡ i → machine.receives i a j ≡ true → ⊥
      differ j q r =
          let f : machine.receives i a i ≡ true = subst (λ (x : ℕ). machine.receives i a x ≡ true) q r in
          let g : true ≡ false = sym f ∙ law.others i a in
          cc

  pub run_executes : (ts : List (Turn A)) → IsRun machine ts → IsExecution machine (schedule ts) (after machine ts).state
  run_executes [] run = λ j. refl
  run_executes (t ∷ ts) run =
      step_executes (machine.owner t.key) ((after machine ts).next (machine.owner t.key)) t.outcome (schedule ts) (after machine ts).state run.0.its_outcome (run_executes ts run.1)
