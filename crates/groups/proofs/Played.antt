-- A seat is put in place of another: up to the root, each node is settled anew.
use Rattle.std.proofs.Common.{◌≡◌, ℕ, ◌+◌, ◌*◌, ◌/◌, ◌%◌, ◌-◌, zero, suc, ◌<◌, ◌≤◌, ◌⊎◌, inl, inr, List, length, refl, ap, sym, subst, ◌∙◌, arith}
use Rattle.std.specs.Prelude.{Bool, cond, nat_lt, true, false, slice_set, replicate}
use Rattle.std.proofs.lemmas.Bool.{cases_eq, cases_lt, lt-ltb, le-ltb}
use Rattle.std.proofs.lemmas.List.{get_or-set_same, get_or-set_other, length-set, get_or-replicate, length-replicate}
use Rattle.groups.specs.declared.seats.Seat.{Seat}
use Rattle.groups.specs.Tournament.{IsTournament, IsSettled, earlier, empty, key_at, node}

-- the seats at the nodes where the one at a place has changed
node_same : (nodes : List Seat) (at : ℕ) (seat : Seat) (k : ℕ) → at < length nodes → k ≡ at → node (slice_set nodes at seat) k ≡ seat
node_same nodes at seat k within e = subst (λ j. node (slice_set nodes at seat) j ≡ seat) (sym e) (get_or-set_same nodes at seat empty within)

node_other : (nodes : List Seat) (at : ℕ) (seat : Seat) (k : ℕ) → (k ≡ at → ⊥) → node (slice_set nodes at seat) k ≡ node nodes k
node_other nodes at seat k ne = get_or-set_other nodes at k seat empty ne

settled_other : (nodes : List Seat) (at : ℕ) (seat : Seat) (k : ℕ) → (k ≡ at → ⊥) → (2 * k ≡ at → ⊥) → (2 * k + 1 ≡ at → ⊥) → IsSettled nodes k → IsSettled (slice_set nodes at seat) k
settled_other nodes at seat k own left right settled =
    node_other nodes at seat k own ∙ settled ∙ ap (λ a. earlier a (node nodes (2 * k + 1))) (sym (node_other nodes at seat (2 * k) left))
    ∙ ap (λ b. earlier (node (slice_set nodes at seat) (2 * k)) b) (sym (node_other nodes at seat (2 * k + 1) right))

-- all nodes but the one above this are settled, and one seat has changed
pub record IsPlayed (count index : ℕ) (seat : Seat) (old : List Seat) (at : ℕ) (nodes : List Seat) : Type 0 where
  pub many : length nodes ≡ 2 * count
  pub low : 1 ≤ at
  pub high : at < 2 * count
  pub settled : (k : ℕ) → 1 ≤ k → k < count → (k ≡ at / 2 → ⊥) → IsSettled nodes k
  pub own : node nodes (count + index) ≡ seat
  pub others : (k : ℕ) → k < count → (k ≡ index → ⊥) → node nodes (count + k) ≡ node old (count + k)

pub begun : (count index : ℕ) (seat : Seat) (old : List Seat) → index < count → IsTournament count old → IsPlayed count index seat old (count + index) (slice_set old (count + index) seat)
begun count index seat old within is =
    let many = is.many in
    let at : ℕ = count + index in
    record {
      many = length-set old (count + index) seat ∙ many;
      low = omega (arith, within);
      high = omega (arith, within);
      settled = λ k low high ne. settled_other old (count + index) seat k
          (λ e. absurd (omega (arith, e, high)))
          (λ e. absurd (ne (omega (arith, e))))
          (λ e. absurd (ne (omega (arith, e))))
          (is.settled k low high);
      own = node_same old (count + index) seat (count + index) (omega (arith, within, many)) refl;
      others = λ k high ne. node_other old (count + index) seat (count + k) (λ e. absurd (ne (omega (arith, e))));
    }

pub settled_at : (nodes : List Seat) (p : ℕ) (seat : Seat) → p < length nodes → 1 ≤ p → seat ≡ earlier (node nodes (2 * p)) (node nodes (2 * p + 1)) → IsSettled (slice_set nodes p seat) p
settled_at nodes p seat within low is =
    node_same nodes p seat p within refl ∙ is ∙ ap (λ a. earlier a (node nodes (2 * p + 1))) (sym (node_other nodes p seat (2 * p) (λ e. absurd (omega (arith, e, low)))))
    ∙ ap (λ b. earlier (node (slice_set nodes p seat) (2 * p)) b) (sym (node_other nodes p seat (2 * p + 1) (λ e. absurd (omega (arith, e, low)))))

pub played_on : (count index : ℕ) (seat : Seat) (old : List Seat) (at : ℕ) (nodes new : List Seat) → 1 < at → IsPlayed count index seat old at nodes
    → new ≡ slice_set nodes (at / 2) (earlier (node nodes (2 * (at / 2))) (node nodes (2 * (at / 2) + 1))) → IsPlayed count index seat old (at / 2) new
played_on count index seat old at nodes new above is e = subst (IsPlayed count index seat old (at / 2)) (sym e) (go (at / 2) (omega (arith, above)) (omega (arith, high)) (λ k low below ne. is.settled k low below ne)) where
  high : at < 2 * count
  high = is.high

  go : (p : ℕ) → 1 ≤ p → p < count → ((k : ℕ) → 1 ≤ k → k < count → (k ≡ p → ⊥) → IsSettled nodes k) → IsPlayed count index seat old p (slice_set nodes p (earlier (node nodes (2 * p)) (node nodes (2 * p + 1))))
  go p low below settled =
      let many = is.many in
      record {
        many = length-set nodes p (earlier (node nodes (2 * p)) (node nodes (2 * p + 1))) ∙ many;
        low = low;
        high = omega (arith, below);
        settled = λ k k_low k_below ne. by k k_low k_below ne (cases_eq k p);
        own = node_other nodes p (earlier (node nodes (2 * p)) (node nodes (2 * p + 1))) (count + index) (λ e. absurd (omega (arith, e, below))) ∙ is.own;
        others = λ k k_below ne. node_other nodes p (earlier (node nodes (2 * p)) (node nodes (2 * p + 1))) (count + k) (λ e. absurd (omega (arith, e, below))) ∙ is.others k k_below ne;
      } where
        by : (k : ℕ) → 1 ≤ k → k < count → (k ≡ p / 2 → ⊥) → (k ≡ p) ⊎ (k ≡ p → ⊥) → IsSettled (slice_set nodes p (earlier (node nodes (2 * p)) (node nodes (2 * p + 1)))) k
        by k k_low k_below ne (inl same) =
            let many = is.many in
            subst (IsSettled (slice_set nodes p (earlier (node nodes (2 * p)) (node nodes (2 * p + 1))))) (sym same)
            (settled_at nodes p (earlier (node nodes (2 * p)) (node nodes (2 * p + 1))) (omega (arith, below, many)) low refl)
        by k k_low k_below ne (inr other) =
            settled_other nodes p (earlier (node nodes (2 * p)) (node nodes (2 * p + 1))) k other
            (λ e. absurd (ne (omega (arith, e))))
            (λ e. absurd (ne (omega (arith, e))))
            (settled k k_low k_below other)

pub played : (count index : ℕ) (seat : Seat) (old : List Seat) (at : ℕ) (nodes : List Seat) → (1 < at → ⊥) → IsPlayed count index seat old at nodes → IsTournament count nodes
played count index seat old at nodes done is = record {
  many = is.many;
  settled = λ k low below. is.settled k low below (λ e. let l = is.low in absurd (done (omega (arith, e, low))));
}

-- a seat, and twice its half
halves : (k : ℕ) → (k ≡ 2 * (k / 2)) ⊎ (k ≡ 2 * (k / 2) + 1)
halves k = go (cases_eq (k % 2) 0) where
  go : (k % 2 ≡ 0) ⊎ (k % 2 ≡ 0 → ⊥) → (k ≡ 2 * (k / 2)) ⊎ (k ≡ 2 * (k / 2) + 1)
  go (inl even) = inl (omega (arith, even))
  go (inr odd) = inr (omega (arith, odd))

-- neither of two is next before the earlier one
earlier_left : (left right : Seat) → key_at (earlier left right) ≤ key_at left
earlier_left left right = go (cases_lt (key_at right) (key_at left))
  where
    go : (key_at right < key_at left) ⊎ (key_at left ≤ key_at right) → key_at (earlier left right) ≤ key_at left
    go (inl less) = rw (lt-ltb (key_at right) (key_at left) less) (omega (arith, less))
    go (inr more) = rw (le-ltb (key_at right) (key_at left) more) (omega arith)

earlier_right : (left right : Seat) → key_at (earlier left right) ≤ key_at right
earlier_right left right = go (cases_lt (key_at right) (key_at left))
  where
    go : (key_at right < key_at left) ⊎ (key_at left ≤ key_at right) → key_at (earlier left right) ≤ key_at right
    go (inl less) = rw (lt-ltb (key_at right) (key_at left) less) (omega arith)
    go (inr more) = rw (le-ltb (key_at right) (key_at left) more) (omega (arith, more))

-- nobody is next before the one at the root
pub root_low : (count : ℕ) (nodes : List Seat) → IsTournament count nodes → (k : ℕ) → 1 ≤ k → k < 2 * count → key_at (node nodes 1) ≤ key_at (node nodes k)
root_low count nodes is k low high = go k k (omega arith) low high where
  below : (k p : ℕ) → 1 ≤ p → p < count → (k ≡ 2 * p) ⊎ (k ≡ 2 * p + 1) → key_at (node nodes 1) ≤ key_at (node nodes p) → key_at (node nodes 1) ≤ key_at (node nodes k)
  below k p low high (inl even) above =
      let settled : key_at (node nodes p) ≡ key_at (earlier (node nodes (2 * p)) (node nodes (2 * p + 1))) = ap key_at (is.settled p low high) in
      let less = earlier_left (node nodes (2 * p)) (node nodes (2 * p + 1)) in
      let same : key_at (node nodes k) ≡ key_at (node nodes (2 * p)) = ap (λ n. key_at (node nodes n)) even in
      omega (arith, above, settled, less, same)
  below k p low high (inr odd) above =
      let settled : key_at (node nodes p) ≡ key_at (earlier (node nodes (2 * p)) (node nodes (2 * p + 1))) = ap key_at (is.settled p low high) in
      let less = earlier_right (node nodes (2 * p)) (node nodes (2 * p + 1)) in
      let same : key_at (node nodes k) ≡ key_at (node nodes (2 * p + 1)) = ap (λ n. key_at (node nodes n)) odd in
      omega (arith, above, settled, less, same)

  by : (k : ℕ) → 1 ≤ k → k < 2 * count → (1 ≤ k / 2 → k / 2 < 2 * count → key_at (node nodes 1) ≤ key_at (node nodes (k / 2))) → (k ≡ 1) ⊎ (k ≡ 1 → ⊥) → key_at (node nodes 1) ≤ key_at (node nodes k)
  by k low high above (inl one) = let same : key_at (node nodes k) ≡ key_at (node nodes 1) = ap (λ n. key_at (node nodes n)) one in omega (arith, same)
  by k low high above (inr more) = below k (k / 2) (omega (arith, low, more)) (omega (arith, high)) (halves k) (above (omega (arith, low, more)) (omega (arith, high)))

  go : (fuel k : ℕ) → k ≤ fuel → 1 ≤ k → k < 2 * count → key_at (node nodes 1) ≤ key_at (node nodes k)
  go zero k within low high = absurd (omega (arith, within, low))
  go (suc fuel) k within low high = by k low high (λ l h. go fuel (k / 2) (omega (arith, within, low)) l h) (cases_eq k 1)

-- the seat at a node is one of the seats
pub record IsOne (count : ℕ) (nodes : List Seat) (seat : Seat) : Type 0 where
  pub index : ℕ
  pub within : index < count
  pub is : seat ≡ node nodes (count + index)

pub root_reached : (count : ℕ) (nodes : List Seat) → IsTournament count nodes → 0 < count → IsOne count nodes (node nodes 1)
root_reached count nodes is some = go (2 * count) 1 (omega arith) (omega arith) (omega (arith, some)) where
  on : (b c : Seat) → IsOne count nodes b → IsOne count nodes c → IsOne count nodes (earlier b c)
  on b c left right = choose (nat_lt (key_at c) (key_at b))
    where
      choose : (less : Bool) → IsOne count nodes (cond less c b)
      choose true = right
      choose false = left

  by : (k : ℕ) → 1 ≤ k → k < 2 * count → (2 * k < 2 * count → IsOne count nodes (node nodes (2 * k))) → (2 * k + 1 < 2 * count → IsOne count nodes (node nodes (2 * k + 1))) → (k < count) ⊎ (count ≤ k) → IsOne count nodes (node nodes k)
  by k low high left right (inl inner) =
      subst (IsOne count nodes) (sym (is.settled k low inner))
      (on (node nodes (2 * k)) (node nodes (2 * k + 1)) (left (omega (arith, inner))) (right (omega (arith, inner))))
  by k low high left right (inr leaf) = let e : k ≡ count + (k - count) = omega (arith, leaf) in record { index = k - count; within = omega (arith, leaf, high); is = ap (node nodes) e }

  go : (fuel k : ℕ) → 2 * count ≤ k + fuel → 1 ≤ k → k < 2 * count → IsOne count nodes (node nodes k)
  go zero k within low high = absurd (omega (arith, within, high))
  go (suc fuel) k within low high =
      by k low high (λ h. go fuel (2 * k) (omega (arith, within, low)) (omega (arith, low)) h) (λ h. go fuel (2 * k + 1) (omega (arith, within, low)) (omega arith) h) (cases_lt k count)

-- where all seats are empty, they are a tournament
pub all_empty : (count : ℕ) (nodes : List Seat) → nodes ≡ replicate (2 * count) empty → IsTournament count nodes
all_empty count nodes e = subst (IsTournament count) (sym e) (record { many = length-replicate (2 * count) empty; settled = settled }) where
  at : (k : ℕ) → k < 2 * count → node (replicate (2 * count) empty) k ≡ empty
  at k high = get_or-replicate (2 * count) k empty empty high

  settled : (k : ℕ) → 1 ≤ k → k < count → IsSettled (replicate (2 * count) empty) k
  settled k low high =
      at k (omega (arith, high)) ∙ sym (ap (λ a. earlier a (node (replicate (2 * count) empty) (2 * k + 1))) (at (2 * k) (omega (arith, high))) ∙ ap (earlier empty) (at (2 * k + 1) (omega (arith, high))) ∙ none)
    where
      none : earlier empty empty ≡ empty
      none = refl
