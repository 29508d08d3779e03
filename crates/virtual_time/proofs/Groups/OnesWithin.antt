-- The bounds of a window where each component is a group of its own.
use Rattle.std.proofs.Common.{◌≡◌, ℕ, zero, suc, ◌+◌, ◌-◌, ◌*◌, ◌<◌, ◌≤◌, ◌⊎◌, inl, inr, length, refl, ap, sym, subst, ◌∙◌, arith}
use Rattle.std.proofs.lemmas.Bool.{eq-eqb, ne_eqb, cases_eq, cases_lt}
use Rattle.std.proofs.Math.Nat.{mul-suc}
use Rattle.virtual_time.specs.Machine.{Lawful, Machine}
use Rattle.virtual_time.specs.Bags.{sends}
use Rattle.virtual_time.specs.Exchange.Stubs.{Exchange, Stub}
use Rattle.virtual_time.specs.Exchange.Windows.{IsExchangeWithin, IsStubWithin, inboxes}
use Rattle.virtual_time.specs.Groups.Windows
use Rattle.virtual_time.specs.Groups.Windows.{crossings, strangers}
use Rattle.virtual_time.specs.Groups.Singles.{ones, single_exchange, single_stub}
use Rattle.virtual_time.proofs.Groups.Singles.{all_between, self_sends}
use Rattle.virtual_time.proofs.Groups.Windowed.{mul_sum}

mul_nest : (x y n : ℕ) → x * (y * n) ≡ x * y * n
mul_nest x y zero = let a : y * 0 ≡ 0 = omega arith in let b : x * y * 0 ≡ 0 = omega arith in let c : x * 0 ≡ 0 = omega arith in ap (λ (m : ℕ). x * m) a ∙ c ∙ sym b
mul_nest x y (suc n) =
    let h = mul_nest x y n in
    let s : y * suc n ≡ y * n + y = mul-suc y n in
    let t : x * (y * n + y) ≡ x * (y * n) + x * y = mul_sum x (y * n) y in
    let u : x * y * suc n ≡ x * y * n + x * y = mul-suc (x * y) n in
    ap (λ (m : ℕ). x * m) s ∙ omega (arith, h, t, u)

-- all others are strangers
strangers_past : (n j : ℕ) → n ≤ j → strangers ones n j ≡ n
strangers_past zero j l = refl
strangers_past (suc n) j l = rw (ne_eqb n j (λ e. omega arith)) (ap suc (strangers_past n j (omega arith)))

pub strangers_of : (n j : ℕ) → j < n → strangers ones n j ≡ n - 1
strangers_of zero j l = absurd (omega arith)
strangers_of (suc n) j l = go (strangers_of n j) (cases_eq n j)
  where
    back : suc n - 1 ≡ n
    back = omega arith

    go : (j < n → strangers ones n j ≡ n - 1) → (n ≡ j) ⊎ (n ≡ j → ⊥) → strangers ones (suc n) j ≡ suc n - 1
    go ih (inl e) = rw (eq-eqb n j e, back) (strangers_past n j (omega arith))
    go ih (inr ne) = let h = ih (omega arith) in rw (ne_eqb n j ne, back) (omega arith)

crossings_of : (count n : ℕ) → n ≤ count → crossings ones count n ≡ (count - 1) * n
crossings_of count zero l = omega arith
crossings_of count (suc n) l =
    let h = crossings_of count n (omega arith) in
    let s = strangers_of count n l in
    let m : (count - 1) * suc n ≡ (count - 1) * n + (count - 1) = mul-suc (count - 1) n in
    omega (arith, h, s, m)

-- the bound on what all inboxes hold
pub inboxes_bound : (v count : ℕ) → 2 * (v * crossings ones count count) ≡ 2 * (v * (count - 1)) * count
inboxes_bound v count =
    ap (λ (n : ℕ). 2 * (v * n)) (crossings_of count count (omega arith)) ∙ ap (λ (n : ℕ). 2 * n) (mul_nest v (count - 1) count) ∙ mul_nest 2 (v * (count - 1)) count

pub inboxes_same : {A : Type 0} (e : Exchange A) (n : ℕ) → Windows.inboxes (single_exchange e) n ≡ inboxes e n
inboxes_same e zero = refl
inboxes_same e (suc n) = ap (λ (m : ℕ). length (e.stub n).plus + length (e.stub n).minus + m) (inboxes_same e n)

module _ {S A : Type 0} (machine : Machine S A) (law : Lawful machine) (v count : ℕ) where
  pub stub_within_to : (j : ℕ) (st : Stub A) → IsStubWithin machine v count j st → Windows.IsStubWithin machine ones v count j (single_stub st)
  stub_within_to j st h =
      record {
        sent = λ i. h.sent;
        turns = λ i e. h.turns;
        standing = λ k a l own. h.standing k a l own ∙ sym (all_between machine k l (sends machine h.sent k a l) (self_sends machine law h.sent k a l));
        silent = λ k a l own c. h.silent (subst (λ (n : ℕ). count ≤ n) own c) k a l;
        took = λ i. h.took;
        few = λ i e. few (cases_lt j count);
        taken = λ i k a e. h.taken k a;
      }
    where
      few : (j < count) ⊎ (count ≤ j) → length h.took ≤ v * strangers ones count j
      few (inl l) = let f = h.few in let s : v * strangers ones count j ≡ v * (count - 1) = ap (λ (n : ℕ). v * n) (strangers_of count j l) in omega arith
      few (inr l) = let s : v * strangers ones count j ≡ v * count = ap (λ (n : ℕ). v * n) (strangers_past count j l) in up count h.few s
        where
          up : (c : ℕ) → length h.took ≤ v * (c - 1) → v * strangers ones count j ≡ v * c → length h.took ≤ v * strangers ones count j
          up zero f s = let z : v * (0 - 1) ≡ v * 0 = ap {A = ℕ} (λ n. v * n) (omega arith) in omega arith
          up (suc c) f s = let b : v * (suc c - 1) ≡ v * c = ap {A = ℕ} (λ n. v * n) (omega arith) in let m : v * suc c ≡ v * c + v = mul-suc v c in omega arith

  pub stub_within_back : (j : ℕ) (st : Stub A) → j < count → Windows.IsStubWithin machine ones v count j (single_stub st) → IsStubWithin machine v count j st
  stub_within_back j st l h =
      record {
        sent = h.sent j;
        turns = h.turns j refl;
        standing = λ k a i own.
            subst (λ (n : ℕ). st.standing k a i ≡ sends machine (h.sent n) k a i) own
            (h.standing k a i own ∙ all_between machine k i (sends machine (h.sent (machine.owner k)) k a i) (self_sends machine law (h.sent (machine.owner k)) k a i));
        silent = λ c. absurd (omega arith);
        took = h.took j;
        few = let f = h.few j refl in let s : v * strangers ones count j ≡ v * (count - 1) = ap (λ (n : ℕ). v * n) (strangers_of count j l) in omega arith;
        taken = λ k a. h.taken j k a refl;
      }

  pub within_to : (e : Exchange A) → IsExchangeWithin machine v count e → Windows.IsExchangeWithin machine ones v count (single_exchange e)
  within_to e h = record { stubs = λ j. stub_within_to j (e.stub j) (h.stubs j); apart = h.apart }
