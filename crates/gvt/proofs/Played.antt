-- A number is put in place of another: up to the root, each node is settled anew.
use Rattle.std.proofs.Common.{◌≡◌, ℕ, ◌+◌, ◌*◌, ◌/◌, ◌%◌, ◌-◌, zero, suc, ◌<◌, ◌≤◌, ◌⊎◌, inl, inr, List, length, refl, ap, sym, subst, ◌∙◌, arith}
use Rattle.std.specs.Prelude.{min, slice_set, replicate}
use Rattle.std.proofs.lemmas.Bool.{cases_eq, cases_lt}
use Rattle.std.proofs.lemmas.List.{get_or-set_same, get_or-set_other, length-set, get_or-replicate, length-replicate}
use Rattle.gvt.specs.Tournaments.{IsTournament, IsSettled, node}

-- the numbers at the nodes where the one at a place has changed
node_same : (nodes : List ℕ) (at number k : ℕ) → at < length nodes → k ≡ at → node (slice_set nodes at number) k ≡ number
node_same nodes at number k within e = subst (λ j. node (slice_set nodes at number) j ≡ number) (sym e) (get_or-set_same nodes at number 18446744073709551615 within)

node_other : (nodes : List ℕ) (at number k : ℕ) → (k ≡ at → ⊥) → node (slice_set nodes at number) k ≡ node nodes k
node_other nodes at number k ne = get_or-set_other nodes at k number 18446744073709551615 ne

settled_other : (nodes : List ℕ) (at number k : ℕ) → (k ≡ at → ⊥) → (2 * k ≡ at → ⊥) → (2 * k + 1 ≡ at → ⊥) → IsSettled nodes k → IsSettled (slice_set nodes at number) k
settled_other nodes at number k own left right settled =
    node_other nodes at number k own ∙ settled ∙ ap (λ a. min a (node nodes (2 * k + 1))) (sym (node_other nodes at number (2 * k) left))
    ∙ ap (λ b. min (node (slice_set nodes at number) (2 * k)) b) (sym (node_other nodes at number (2 * k + 1) right))

-- all nodes but the one above this are settled, and one number has changed
pub record IsPlayed (count index number : ℕ) (old : List ℕ) (at : ℕ) (nodes : List ℕ) : Type 0 where
  pub many : length nodes ≡ 2 * count
  pub low : 1 ≤ at
  pub high : at < 2 * count
  pub settled : (k : ℕ) → 1 ≤ k → k < count → (k ≡ at / 2 → ⊥) → IsSettled nodes k
  pub own : node nodes (count + index) ≡ number
  pub others : (k : ℕ) → k < count → (k ≡ index → ⊥) → node nodes (count + k) ≡ node old (count + k)

pub begun : (count index number : ℕ) (old : List ℕ) → index < count → IsTournament count old → IsPlayed count index number old (count + index) (slice_set old (count + index) number)
begun count index number old within is =
    let many = is.many in
    let at : ℕ = count + index in
    record {
      many = length-set old (count + index) number ∙ many;
      low = omega (arith, within);
      high = omega (arith, within);
      settled = λ k low high ne. settled_other old (count + index) number k
          (λ e. absurd (omega (arith, e, high)))
          (λ e. absurd (ne (omega (arith, e))))
          (λ e. absurd (ne (omega (arith, e))))
          (is.settled k low high);
      own = node_same old (count + index) number (count + index) (omega (arith, within, many)) refl;
      others = λ k high ne. node_other old (count + index) number (count + k) (λ e. absurd (ne (omega (arith, e))));
    }

pub settled_at : (nodes : List ℕ) (p number : ℕ) → p < length nodes → 1 ≤ p → number ≡ min (node nodes (2 * p)) (node nodes (2 * p + 1)) → IsSettled (slice_set nodes p number) p
settled_at nodes p number within low is =
    node_same nodes p number p within refl ∙ is ∙ ap (λ a. min a (node nodes (2 * p + 1))) (sym (node_other nodes p number (2 * p) (λ e. absurd (omega (arith, e, low)))))
    ∙ ap (λ b. min (node (slice_set nodes p number) (2 * p)) b) (sym (node_other nodes p number (2 * p + 1) (λ e. absurd (omega (arith, e, low)))))

pub played_on : (count index number : ℕ) (old : List ℕ) (at : ℕ) (nodes new : List ℕ) → 1 < at → IsPlayed count index number old at nodes
    → new ≡ slice_set nodes (at / 2) (min (node nodes (2 * (at / 2))) (node nodes (2 * (at / 2) + 1))) → IsPlayed count index number old (at / 2) new
played_on count index number old at nodes new above is e = subst (IsPlayed count index number old (at / 2)) (sym e) (go (at / 2) (omega (arith, above)) (omega (arith, high)) (λ k low below ne. is.settled k low below ne)) where
  high : at < 2 * count
  high = is.high

  go : (p : ℕ) → 1 ≤ p → p < count → ((k : ℕ) → 1 ≤ k → k < count → (k ≡ p → ⊥) → IsSettled nodes k) → IsPlayed count index number old p (slice_set nodes p (min (node nodes (2 * p)) (node nodes (2 * p + 1))))
  go p low below settled =
      let many = is.many in
      let least : ℕ = min (node nodes (2 * p)) (node nodes (2 * p + 1)) in
      record {
        many = length-set nodes p (min (node nodes (2 * p)) (node nodes (2 * p + 1))) ∙ many;
        low = low;
        high = omega (arith, below);
        settled = λ k k_low k_below ne. by k k_low k_below ne (cases_eq k p);
        own = node_other nodes p (min (node nodes (2 * p)) (node nodes (2 * p + 1))) (count + index) (λ e. absurd (omega (arith, e, below))) ∙ is.own;
        others = λ k k_below ne. node_other nodes p (min (node nodes (2 * p)) (node nodes (2 * p + 1))) (count + k) (λ e. absurd (omega (arith, e, below))) ∙ is.others k k_below ne;
      } where
        by : (k : ℕ) → 1 ≤ k → k < count → (k ≡ p / 2 → ⊥) → (k ≡ p) ⊎ (k ≡ p → ⊥) → IsSettled (slice_set nodes p (min (node nodes (2 * p)) (node nodes (2 * p + 1)))) k
        by k k_low k_below ne (inl same) =
            let many = is.many in
            subst (IsSettled (slice_set nodes p (min (node nodes (2 * p)) (node nodes (2 * p + 1))))) (sym same)
            (settled_at nodes p (min (node nodes (2 * p)) (node nodes (2 * p + 1))) (omega (arith, below, many)) low refl)
        by k k_low k_below ne (inr other) =
            settled_other nodes p (min (node nodes (2 * p)) (node nodes (2 * p + 1))) k other
            (λ e. absurd (ne (omega (arith, e))))
            (λ e. absurd (ne (omega (arith, e))))
            (settled k k_low k_below other)

pub played : (count index number : ℕ) (old : List ℕ) (at : ℕ) (nodes : List ℕ) → (1 < at → ⊥) → IsPlayed count index number old at nodes → IsTournament count nodes
played count index number old at nodes done is = record {
  many = is.many;
  settled = λ k low below. is.settled k low below (λ e. let l = is.low in absurd (done (omega (arith, e, low))));
}

-- a number, and twice its half
halves : (k : ℕ) → (k ≡ 2 * (k / 2)) ⊎ (k ≡ 2 * (k / 2) + 1)
halves k = go (cases_eq (k % 2) 0) where
  go : (k % 2 ≡ 0) ⊎ (k % 2 ≡ 0 → ⊥) → (k ≡ 2 * (k / 2)) ⊎ (k ≡ 2 * (k / 2) + 1)
  go (inl even) = inl (omega (arith, even))
  go (inr odd) = inr (omega (arith, odd))

-- no number is less than the one at the root
pub root_low : (count : ℕ) (nodes : List ℕ) → IsTournament count nodes → (k : ℕ) → 1 ≤ k → k < 2 * count → node nodes 1 ≤ node nodes k
root_low count nodes is k low high = go k k (omega arith) low high where
  below : (k p : ℕ) → 1 ≤ p → p < count → (k ≡ 2 * p) ⊎ (k ≡ 2 * p + 1) → node nodes 1 ≤ node nodes p → node nodes 1 ≤ node nodes k
  below k p low high (inl even) above =
      let settled : node nodes p ≡ min (node nodes (2 * p)) (node nodes (2 * p + 1)) = is.settled p low high in
      let same : node nodes k ≡ node nodes (2 * p) = ap (node nodes) even in
      omega (arith, above, settled, same)
  below k p low high (inr odd) above =
      let settled : node nodes p ≡ min (node nodes (2 * p)) (node nodes (2 * p + 1)) = is.settled p low high in
      let same : node nodes k ≡ node nodes (2 * p + 1) = ap (node nodes) odd in
      omega (arith, above, settled, same)

  by : (k : ℕ) → 1 ≤ k → k < 2 * count → (1 ≤ k / 2 → k / 2 < 2 * count → node nodes 1 ≤ node nodes (k / 2)) → (k ≡ 1) ⊎ (k ≡ 1 → ⊥) → node nodes 1 ≤ node nodes k
  by k low high above (inl one) = let same : node nodes k ≡ node nodes 1 = ap (node nodes) one in omega (arith, same)
  by k low high above (inr more) = below k (k / 2) (omega (arith, low, more)) (omega (arith, high)) (halves k) (above (omega (arith, low, more)) (omega (arith, high)))

  go : (fuel k : ℕ) → k ≤ fuel → 1 ≤ k → k < 2 * count → node nodes 1 ≤ node nodes k
  go zero k within low high = absurd (omega (arith, within, low))
  go (suc fuel) k within low high = by k low high (λ l h. go fuel (k / 2) (omega (arith, within, low)) l h) (cases_eq k 1)

-- the number at a node is one of the numbers
pub record IsOne (count : ℕ) (nodes : List ℕ) (number : ℕ) : Type 0 where
  pub index : ℕ
  pub within : index < count
  pub is : number ≡ node nodes (count + index)

pub root_reached : (count : ℕ) (nodes : List ℕ) → IsTournament count nodes → 0 < count → IsOne count nodes (node nodes 1)
root_reached count nodes is some = go (2 * count) 1 (omega arith) (omega arith) (omega (arith, some)) where
  on : (a b c : ℕ) → a ≡ min b c → IsOne count nodes b → IsOne count nodes c → (c < b) ⊎ (b ≤ c) → IsOne count nodes a
  on a b c e left right (inl less) = subst (IsOne count nodes) (omega (arith, e, less)) right
  on a b c e left right (inr more) = subst (IsOne count nodes) (omega (arith, e, more)) left

  by : (k : ℕ) → 1 ≤ k → k < 2 * count → (2 * k < 2 * count → IsOne count nodes (node nodes (2 * k))) → (2 * k + 1 < 2 * count → IsOne count nodes (node nodes (2 * k + 1))) → (k < count) ⊎ (count ≤ k) → IsOne count nodes (node nodes k)
  by k low high left right (inl inner) =
      on (node nodes k) (node nodes (2 * k)) (node nodes (2 * k + 1)) (is.settled k low inner) (left (omega (arith, inner))) (right (omega (arith, inner)))
      (cases_lt (node nodes (2 * k + 1)) (node nodes (2 * k)))
  by k low high left right (inr leaf) = let e : k ≡ count + (k - count) = omega (arith, leaf) in record { index = k - count; within = omega (arith, leaf, high); is = ap (node nodes) e }

  go : (fuel k : ℕ) → 2 * count ≤ k + fuel → 1 ≤ k → k < 2 * count → IsOne count nodes (node nodes k)
  go zero k within low high = absurd (omega (arith, within, high))
  go (suc fuel) k within low high =
      by k low high (λ h. go fuel (2 * k) (omega (arith, within, low)) (omega (arith, low)) h) (λ h. go fuel (2 * k + 1) (omega (arith, within, low)) (omega arith) h) (cases_lt k count)

-- where all numbers are the same, they are a tournament
pub all_same : (count : ℕ) (nodes : List ℕ) (number : ℕ) → nodes ≡ replicate (2 * count) number → IsTournament count nodes
all_same count nodes number e = subst (IsTournament count) (sym e) (record { many = length-replicate (2 * count) number; settled = settled }) where
  at : (k : ℕ) → k < 2 * count → node (replicate (2 * count) number) k ≡ number
  at k high = get_or-replicate (2 * count) k number 18446744073709551615 high

  settled : (k : ℕ) → 1 ≤ k → k < count → IsSettled (replicate (2 * count) number) k
  settled k low high =
      let own = at k (omega (arith, high)) in
      let left = at (2 * k) (omega (arith, high)) in
      let right = at (2 * k + 1) (omega (arith, high)) in
      omega (arith, own, left, right)
