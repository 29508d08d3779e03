-- The number of the reference's turns below a bound.
use Rattle.std.proofs.Common.{◌≡◌, ℕ, zero, suc, ◌+◌, ◌<◌, ◌≤◌, ◌==◌, ◌⊎◌, inl, inr, cond, List, [], ◌∷◌, length, refl, ap, sym, ◌∙◌, arith}
use Rattle.std.proofs.lemmas.Bool.{eq-eqb, ne_eqb, cases_eq, cases_lt}
use Rattle.virtual_time.specs.Machine.{HasCount, Machine}
use Rattle.virtual_time.specs.Reference.{Turn, after, IsRun, turns_of}

module _ {S A : Type 0} (machine : Machine S A) where
  none_of : (n : ℕ) → turns_of (after machine []) n ≡ 0
  none_of zero = refl
  none_of (suc n) = let h = none_of n in omega arith

  -- one turn more, of one component
  past_it : (t : Turn A) (ts : List (Turn A)) (n : ℕ) → n ≤ machine.owner t.key → turns_of (after machine (t ∷ ts)) n ≡ turns_of (after machine ts) n
  past_it t ts zero l = refl
  past_it t ts (suc n) l =
      let h = past_it t ts n (omega arith) in
      rw (ne_eqb n (machine.owner t.key) (λ (e : n ≡ machine.owner t.key). omega arith)) (ap (λ (k : ℕ). (after machine ts).next n + k) h)

  one_more : (t : Turn A) (ts : List (Turn A)) (n : ℕ) → machine.owner t.key < n → turns_of (after machine (t ∷ ts)) n ≡ suc (turns_of (after machine ts) n)
  one_more t ts zero l = absurd (omega arith)
  one_more t ts (suc n) l = go (cases_eq n (machine.owner t.key)) (λ (h : machine.owner t.key < n). one_more t ts n h)
    where
      go : (n ≡ machine.owner t.key) ⊎ (n ≡ machine.owner t.key → ⊥) → (machine.owner t.key < n → turns_of (after machine (t ∷ ts)) n ≡ suc (turns_of (after machine ts) n))
          → cond (n == machine.owner t.key) (suc ((after machine ts).next n)) ((after machine ts).next n) + turns_of (after machine (t ∷ ts)) n ≡ suc ((after machine ts).next n + turns_of (after machine ts) n)
      go (inl e) ih = let h = past_it t ts n (omega arith) in rw (eq-eqb n (machine.owner t.key) e) (omega arith)
      go (inr ne) ih = let h = ih (omega arith) in rw (ne_eqb n (machine.owner t.key) ne) (omega arith)

  pub run_counted : (count : ℕ) → HasCount machine count → (ts : List (Turn A)) → IsRun machine ts → length ts ≡ turns_of (after machine ts) count
  run_counted count counted [] run = sym (none_of count)
  run_counted count counted (t ∷ ts) run = go (cases_lt (machine.owner t.key) count) (run_counted count counted ts run.1)
    where
      go : (machine.owner t.key < count) ⊎ (count ≤ machine.owner t.key) → length ts ≡ turns_of (after machine ts) count → suc (length ts) ≡ turns_of (after machine (t ∷ ts)) count
      go (inl l) ih = ap suc ih ∙ sym (one_more t ts count l)
      go (inr l) ih =
          let k = counted.silent (machine.owner t.key) ((after machine ts).next (machine.owner t.key)) l in
          let n = run.0.its_key in
          let b = run.0.exists in
          absurd (omega arith)
