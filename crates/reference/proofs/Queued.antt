-- The queue of next keys: its least key, and one key replaced.
use Rattle.std.proofs.Common.{◌≡◌, ℕ, ◌+◌, ◌*◌, ◌/◌, ◌%◌, ◌<◌, ◌≤◌, ◌⊎◌, inl, inr, Bool, true, false, Option, None, Some, List, length, refl, ap, sym, subst, ◌∙◌, arith}
use Rattle.std.specs.Prelude.{if◌then◌else◌, ◌==◌, IfSome, replicate, slice_index_or, slice_set}
use Rattle.std.proofs.lemmas.Bool.{cases_eq, cases_lt, eq-eqb, ne_eqb, lt-ltb}
use Rattle.std.proofs.lemmas.List.{get_or-set_same, get_or-set_other, length-set, get_or-replicate, length-replicate, get_or_past}
use Rattle.event_keys.specs.declared.key.Key.{Key}
use Rattle.event_keys.specs.Ranks.{rank}
use Rattle.task_seed.specs.Turning.{System, key_of, key_at as key_with, ticks, has_turns}
use Rattle.task_seed.specs.Machines.{turn_rank, end_rank}
use Rattle.reference.specs.Queues.{ArePlaced, IsQueue, IsSmall, key_at, least_key, least_rank, place_of, rank_or_end}
use Rattle.gvt.specs.Tournaments.{IsTournament, node}
use Rattle.gvt.proofs.Played.{IsOne, root_low, root_reached}

-- a key of turn n of component j
pub record IsKeyOf (j n : ℕ) (key : Key) : Type 0 where
  pub component : key.component ≡ j
  pub number : key.number ≡ n

pub key_there : (s : System) (j n : ℕ) (key : Key) → Some key ≡ key_of s j n → IsKeyOf j n key
key_there s j n key e = go (has_turns s j (n + 1)) e where
  go : (b : Bool) → Some key ≡ (if b then Some (key_with j n (ticks s j (n + 1))) else None) → IsKeyOf j n key
  go true is =
      let same : key ≡ key_with j n (ticks s j (n + 1)) = cc in
      record { component = ap (λ (x : Key). x.component) same; number = ap (λ (x : Key). x.number) same }
  go false is = cc

-- the rank of a turn is that of its key
pub ranked : (s : System) (j n : ℕ) → j < length s.composition → rank_or_end (key_of s j n) ≡ turn_rank s j n
ranked s j n there = rw (lt-ltb j (length s.composition) there) (go (has_turns s j (n + 1))) where
  k : Key
  k = key_with j n (ticks s j (n + 1))

  go : (b : Bool) → rank_or_end (if b then Some k else None) ≡ (if b then rank k else end_rank)
  go true = refl
  go false = refl

-- the first turns of the components before this one are placed
pub placed_none : (s : System) (n : ℕ) (next : ℕ → ℕ) (places : List ℕ) → IsTournament n places → ArePlaced s n 0 next places
placed_none s n next places is = record { tournament = is; placed = λ j below. absurd (omega (arith, below)); small = λ j below. absurd (omega (arith, below)) }

pub placed_one : (s : System) (n i : ℕ) (next : ℕ → ℕ) (places : List ℕ) → i < n → ArePlaced s n i next places
    → (new : List ℕ) → IsTournament n new → node new (n + i) ≡ place_of (key_of s i (next i)) → ((k : ℕ) → k < n → (k ≡ i → ⊥) → node new (n + k) ≡ node places (n + k))
    → IfSome (key_of s i (next i)) IsSmall → ArePlaced s n (i + 1) next new
placed_one s n i next places within before new is own others small = record { tournament = is; placed = λ j below. placed j below (cases_eq j i); small = λ j below. smalls j below (cases_eq j i) } where
  placed : (j : ℕ) → j < i + 1 → (j ≡ i) ⊎ (j ≡ i → ⊥) → node new (n + j) ≡ place_of (key_of s j (next j))
  placed j below (inl e) = subst (λ k. node new (n + k) ≡ place_of (key_of s k (next k))) (sym e) own
  placed j below (inr ne) = others j (omega (arith, below, within)) ne ∙ before.placed j (omega (arith, below, ne))

  smalls : (j : ℕ) → j < i + 1 → (j ≡ i) ⊎ (j ≡ i → ⊥) → IfSome (key_of s j (next j)) IsSmall
  smalls j below (inl e) = subst (λ k. IfSome (key_of s k (next k)) IsSmall) (sym e) small
  smalls j below (inr ne) = before.small j (omega (arith, below, ne))

pub first_queue : (s : System) (n : ℕ) (places numbers : List ℕ) → ArePlaced s n n (λ j. 0) places → numbers ≡ replicate n 0 → IsQueue s n (λ j. 0) places numbers
first_queue s n places numbers are e = record {
  places = are;
  many = ap length e ∙ length-replicate n 0;
  numbered = λ j below. ap (λ l. slice_index_or l j 0) e ∙ get_or-replicate n j 0 0 below;
}

-- the key of a component's next turn, which stands at the root
pub record IsFirst (s : System) (n : ℕ) (next : ℕ → ℕ) (places : List ℕ) (key : Key) : Type 0 where
  pub there : Some key ≡ key_of s key.component (next key.component)
  pub within : key.component < n
  pub small : IsSmall key
  pub place : node places 1 ≡ key.tick * 65536 + key.component
  pub number : key.number ≡ next key.component

record IsWinner (s : System) (n : ℕ) (next : ℕ → ℕ) (places : List ℕ) : Type 0 where
  pub key : Key
  pub is : IsFirst s n next places key

module _ (s : System) (n : ℕ) (next : ℕ → ℕ) (places numbers : List ℕ) (queue : IsQueue s n next places numbers) where
  winner : 0 < n → (node places 1 ≡ 18446744073709551615 → ⊥) → IsWinner s n next places
  winner some there = go (key_of s one.index (next one.index)) refl where
    one : IsOne n places (node places 1)
    one = root_reached n places queue.places.tournament some

    go : (o : Option Key) → o ≡ key_of s one.index (next one.index) → IsWinner s n next places
    go None e = absurd (there (one.is ∙ queue.places.placed one.index one.within ∙ ap place_of (sym e)))
    go (Some key) e =
        let at = key_there s one.index (next one.index) key e in
        let component = at.component in
        let within = one.within in
        record {
          key = key;
          is = record {
            there = subst (λ k. Some key ≡ key_of s k (next k)) (sym component) e;
            within = omega (arith, component, within);
            small = subst (λ o. IfSome o IsSmall) (sym e) (queue.places.small one.index one.within);
            place = one.is ∙ queue.places.placed one.index one.within ∙ ap place_of (sym e);
            number = at.number ∙ ap next (sym component);
          };
        }

  -- the key at the root's place is this one
  first_is : (key : Key) → IsFirst s n next places key → Some key ≡ least_key places numbers
  first_is key is =
      let place = is.place in
      let tick_small = is.small.tick in
      let component_small = is.small.component in
      let tick : key.tick ≡ node places 1 / 65536 = omega (arith, place, component_small) in
      let component : key.component ≡ node places 1 % 65536 = omega (arith, place, component_small) in
      let number : key.number ≡ slice_index_or numbers (node places 1 % 65536) 0 =
      is.number ∙ sym (queue.numbered key.component is.within) ∙ ap (λ k. slice_index_or numbers k 0) component in
      let other : (node places 1 == 18446744073709551615) ≡ false = ne_eqb (node places 1) 18446744073709551615 (λ e. absurd (omega (arith, e, place, tick_small, component_small))) in
      (λ i. Some (record { tick = tick i; component = component i; number = number i })) ∙ sym (ap (λ b. if b then None else Some (key_at (node places 1) numbers)) other)

  ended_is : node places 1 ≡ 18446744073709551615 → least_key places numbers ≡ None
  ended_is e = ap (λ b. if b then None else Some (key_at (node places 1) numbers)) (eq-eqb (node places 1) 18446744073709551615 e)

  -- what is at the root: nothing, or a first key
  pub record IsLed (o : Option Key) : Type 0 where
    pub is : o ≡ least_key places numbers
    pub first : IfSome o (IsFirst s n next places)

  none_past : (k : ℕ) → length places ≤ k → node places k ≡ 18446744073709551615
  none_past k past = past_default places k 18446744073709551615 past where
    past_default : (xs : List ℕ) (i d : ℕ) → length xs ≤ i → slice_index_or xs i d ≡ d
    past_default xs i d short = get_or_past xs i d short

  pub led : (o : Option Key) → o ≡ least_key places numbers → IfSome o (IsFirst s n next places)
  led None e = tt
  led (Some key) e = go (cases_eq (node places 1) 18446744073709551615) (cases_lt 0 n) where
    same_key : {a b : Key} → Some a ≡ Some b → a ≡ b
    same_key e = cc

    go : (node places 1 ≡ 18446744073709551615) ⊎ (node places 1 ≡ 18446744073709551615 → ⊥) → (0 < n) ⊎ (n ≤ 0) → IsFirst s n next places key
    go (inl none) some = let out : Some key ≡ None = e ∙ ended_is none in cc
    go (inr there) (inl some) =
        let found = winner some there in
        subst (IsFirst s n next places) (same_key (first_is found.key found.is ∙ sym e)) found.is
    go (inr there) (inr none) = let many = queue.places.tournament.many in absurd (there (none_past 1 (omega (arith, many, none))))

  -- the place at the root has a component with a number
  pub has_number : (node places 1 ≡ 18446744073709551615 → ⊥) → node places 1 % 65536 < length numbers
  has_number there = go (cases_lt 0 n) where
    go : (0 < n) ⊎ (n ≤ 0) → node places 1 % 65536 < length numbers
    go (inl some) =
        let found = winner some there in
        let place = found.is.place in
        let component = found.is.small.component in
        let within = found.is.within in
        let many = queue.many in
        omega (arith, place, component, within, many)
    go (inr none) = let many = queue.places.tournament.many in absurd (there (none_past 1 (omega (arith, many, none))))

  -- no component's next turn has a lesser place
  low : (j : ℕ) → j < n → node places 1 ≤ place_of (key_of s j (next j))
  low j below =
      let least = root_low n places queue.places.tournament (n + j) (omega (arith, below)) (omega (arith, below)) in
      let at = queue.places.placed j below in
      omega (arith, least, at)

  module _ (n_is : n ≡ length s.composition) where
    -- no component's next turn has a lesser rank
    pub least_low : (end : (k : Key) → IsSmall k → rank k ≤ end_rank) (j : ℕ) → j < n → least_rank places numbers ≤ turn_rank s j (next j)
    least_low end j below = go (cases_eq (node places 1) 18446744073709551615) (key_of s j (next j)) refl where
      theirs : (o : Option Key) → o ≡ key_of s j (next j) → rank_or_end o ≡ turn_rank s j (next j)
      theirs o e = ap rank_or_end e ∙ ranked s j (next j) (subst (λ m. j < m) n_is below)

      by_place : (a b : Key) → IsSmall a → IsSmall b → a.number ≡ next a.component → b.number ≡ next b.component → a.tick * 65536 + a.component ≤ b.tick * 65536 + b.component → rank a ≤ rank b
      by_place a b a_small b_small a_number b_number le = pick (cases_eq a.component b.component) where
        pick : (a.component ≡ b.component) ⊎ (a.component ≡ b.component → ⊥) → rank a ≤ rank b
        pick (inl e) =
            let numbers_same : a.number ≡ b.number = a_number ∙ ap next e ∙ sym b_number in
            omega (arith, e, numbers_same, le)
        pick (inr ne) =
            let ac = a_small.component in
            let bc = b_small.component in
            let an = a_small.number in
            omega (arith, ne, le, ac, bc, an)

      on : (a : Key) → IsFirst s n next places a → (o : Option Key) → o ≡ key_of s j (next j) → rank a ≤ turn_rank s j (next j)
      on a is None e = let t = theirs None e in let h = end a is.small in omega (arith, t, h)
      on a is (Some b) e =
          let at = key_there s j (next j) b e in
          let low_here : node places 1 ≤ b.tick * 65536 + b.component = subst (λ o. node places 1 ≤ place_of o) (sym e) (low j below) in
          let place = is.place in
          let b_small : IsSmall b = subst (λ o. IfSome o IsSmall) (sym e) (queue.places.small j below) in
          let number : b.number ≡ next b.component = at.number ∙ ap next (sym at.component) in
          let t = theirs (Some b) e in
          let h = by_place a b is.small b_small is.number number (omega (arith, place, low_here)) in
          omega (arith, t, h)

      go : (node places 1 ≡ 18446744073709551615) ⊎ (node places 1 ≡ 18446744073709551615 → ⊥) → (o : Option Key) → o ≡ key_of s j (next j) → least_rank places numbers ≤ turn_rank s j (next j)
      go (inl none) None e = let t = theirs None e in let h = ap rank_or_end (ended_is none) in omega (arith, t, h)
      go (inl none) (Some b) e =
          let low_here : node places 1 ≤ b.tick * 65536 + b.component = subst (λ o. node places 1 ≤ place_of o) (sym e) (low j below) in
          let b_small : IsSmall b = subst (λ o. IfSome o IsSmall) (sym e) (queue.places.small j below) in
          let tick = b_small.tick in
          let component = b_small.component in
          absurd (omega (arith, none, low_here, tick, component))
      go (inr there) o e =
          let found = winner (omega (arith, below)) there in
          let h = on found.key found.is o e in
          let is = ap rank_or_end (first_is found.key found.is) in
          omega (arith, h, is)

-- the component of a key has taken its turn, and its next key is in place of that key
pub refilled : (s : System) (n : ℕ) (next after : ℕ → ℕ) (places numbers : List ℕ) → IsQueue s n next places numbers → (i number : ℕ) → i < n
    → after i ≡ number → ((j : ℕ) → (j ≡ i → ⊥) → after j ≡ next j)
    → (follower : Option Key) → follower ≡ key_of s i number → IfSome follower IsSmall
    → (new : List ℕ) → IsTournament n new → node new (n + i) ≡ place_of follower → ((k : ℕ) → k < n → (k ≡ i → ⊥) → node new (n + k) ≡ node places (n + k))
    → IsQueue s n after new (slice_set numbers i number)
refilled s n next after places numbers queue i number within own stays follower is small new tournament at_own others = record {
  places = record { tournament = tournament; placed = λ j below. placed j below (cases_eq j i); small = λ j below. smalls j below (cases_eq j i) };
  many = length-set numbers i number ∙ queue.many;
  numbered = λ j below. numbered j below (cases_eq j i);
} where
  follows : follower ≡ key_of s i (after i)
  follows = is ∙ ap (key_of s i) (sym own)

  placed : (j : ℕ) → j < n → (j ≡ i) ⊎ (j ≡ i → ⊥) → node new (n + j) ≡ place_of (key_of s j (after j))
  placed j below (inl e) = subst (λ k. node new (n + k) ≡ place_of (key_of s k (after k))) (sym e) (at_own ∙ ap place_of follows)
  placed j below (inr ne) = others j below ne ∙ queue.places.placed j below ∙ ap (λ m. place_of (key_of s j m)) (sym (stays j ne))

  smalls : (j : ℕ) → j < n → (j ≡ i) ⊎ (j ≡ i → ⊥) → IfSome (key_of s j (after j)) IsSmall
  smalls j below (inl e) = subst (λ k. IfSome (key_of s k (after k)) IsSmall) (sym e) (subst (λ o. IfSome o IsSmall) follows small)
  smalls j below (inr ne) = subst (λ m. IfSome (key_of s j m) IsSmall) (sym (stays j ne)) (queue.places.small j below)

  numbered : (j : ℕ) → j < n → (j ≡ i) ⊎ (j ≡ i → ⊥) → slice_index_or (slice_set numbers i number) j 0 ≡ after j
  numbered j below (inl e) =
      let many = queue.many in
      subst (λ k. slice_index_or (slice_set numbers i number) k 0 ≡ after k) (sym e) (get_or-set_same numbers i number 0 (omega (arith, many, within)) ∙ sym own)
  numbered j below (inr ne) = get_or-set_other numbers i j number 0 ne ∙ queue.numbered j below ∙ sym (stays j ne)
