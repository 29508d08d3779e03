-- Turns below a bound are counted.
use Rattle.std.proofs.Common.{◌≡◌, ℕ, suc, List, ◌+◌, ◌<◌, ◌≤◌, ◌⊎◌, inl, inr, Bool, true, false, None, Some, refl, ap, sym, subst, ◌∙◌, arith}
use Rattle.std.specs.Prelude.{if◌then◌else◌, ◌&&◌, nat_lt, ◌==◌, length, IfSome, slice_get, option_map}
use Rattle.std.specs.Prelude.{slice_set, slice_index_or}
use Rattle.std.proofs.lemmas.Option.{slice_get-get_or, slice_get_past, slice_get_within}
use Rattle.std.proofs.lemmas.Bool.{lt-ltb, cases_eq, cases_lt, eq-eqb, ne_eqb}
use Rattle.event_keys.specs.declared.key.Key.{Key}
use Rattle.event_keys.specs.Ranks.{rank}
use Rattle.virtual_time.specs.Machine.{Lawful}
use Rattle.virtual_time.specs.Reference.{point, turns_of}
use Rattle.group_exchange.proofs.Placing.{get_same, get_other}
use Rattle.group_exchange.specs.declared.passage.Passage.{Passage}
use Rattle.task_seed.specs.Turning.{System, key_of, key_at, ticks, has_turns}
use Rattle.task_seed.specs.Machines.{machine, turn_rank, end_rank}
use Rattle.group_exchange.specs.ExchangeView.{passing, IsPassing}

module _ (s : System) (i n : ℕ) where
  -- the key of a turn has its number
  pub number_is : (key : Key) → Some key ≡ key_of s i n → key.number ≡ n
  number_is key e = go (has_turns s i (n + 1)) e
    where
      go : (b : Bool) → Some key ≡ (if b then Some (key_at i n (ticks s i (n + 1))) else None) → key.number ≡ n
      go true h = let one : key ≡ key_at i n (ticks s i (n + 1)) = cc in ap (λ (k : Key). k.number) one
      go false h = cc

  -- its rank is that of its key
  pub rank_some : (key : Key) → i < length s.composition → Some key ≡ key_of s i n → turn_rank s i n ≡ rank key
  rank_some key there e = rw (lt-ltb i (length s.composition) there) (go (has_turns s i (n + 1)) e)
    where
      go : (b : Bool) → Some key ≡ (if b then Some (key_at i n (ticks s i (n + 1))) else None) → (if b then rank (key_at i n (ticks s i (n + 1))) else end_rank) ≡ rank key
      go true h = let one : key ≡ key_at i n (ticks s i (n + 1)) = cc in ap rank (sym one)
      go false h = cc

  pub rank_none : None ≡ key_of s i n → turn_rank s i n ≡ end_rank
  rank_none e = go (has_turns s i (n + 1)) (nat_lt i (length s.composition)) e
    where
      go : (b c : Bool) → None ≡ (if b then Some (key_at i n (ticks s i (n + 1))) else None) → (if c && b then rank (key_at i n (ticks s i (n + 1))) else end_rank) ≡ end_rank
      go true c h = cc
      go false true h = refl
      go false false h = refl

-- what holds of each item before a place from the length on holds of each
pub all_before : {X : Type 0} (Q : ℕ → X → Type 0) (xs : List X) (i : ℕ) → length xs ≤ i → ((j : ℕ) (x : X) → j < i → slice_get xs j ≡ Some x → Q j x) → (j : ℕ) (x : X) → slice_get xs j ≡ Some x → Q j x
all_before Q xs i h all j x e = let short = slice_get_within xs j x e in all j x (omega (arith, h, short)) e

-- what is done for all places of a list is done for all
pub all_done : {X : Type 0} (f : ℕ → X → X) (old new : List X) (i : ℕ) → length old ≤ i → length new ≡ length old → ((j : ℕ) → j < i → slice_get new j ≡ option_map (f j) (slice_get old j)) → (j : ℕ) → slice_get new j ≡ option_map (f j) (slice_get old j)
all_done f old new i h e done j = go (cases_lt j i)
  where
    go : (j < i) ⊎ (i ≤ j) → slice_get new j ≡ option_map (f j) (slice_get old j)
    go (inl l) = done j l
    go (inr l) = slice_get_past new j (omega (arith, h, e, l)) ∙ ap (option_map (f j)) (sym (slice_get_past old j (omega (arith, h, l))))

-- what stands in a list where one item was replaced
pub get_set : {X : Type 0} (xs : List X) (n : ℕ) (x : X) (j : ℕ) → n < length xs → slice_get (slice_set xs n x) j ≡ (if j == n then Some x else slice_get xs j)
get_set xs n x j h = go (cases_eq j n)
  where
    go : (j ≡ n) ⊎ (j ≡ n → ⊥) → slice_get (slice_set xs n x) j ≡ (if j == n then Some x else slice_get xs j)
    go (inl e) = rw (eq-eqb j n e) (ap (slice_get (slice_set xs n x)) e ∙ get_same xs n x h)
    go (inr ne) = rw (ne_eqb j n ne) (get_other xs n x j ne)

module _ (s : System) (b : ℕ) (law : Lawful (machine s)) (end : b ≤ end_rank)
    (before_law : (i n : ℕ) → n < (point (machine s) b).next i → turn_rank s i n < b)
    (from_law : (i n : ℕ) → (point (machine s) b).next i ≤ n → b ≤ turn_rank s i n) where
  -- the turns below a bound are as many as the plain simulator takes below it
  pub passed_is : (i n : ℕ) → ((k : ℕ) → k < n → turn_rank s i k < b) → b ≤ turn_rank s i n → n ≡ (point (machine s) b).next i
  passed_is i n before from = go (cases_lt n p)
    where
      p : ℕ
      p = (point (machine s) b).next i

      go : (n < p) ⊎ (p ≤ n) → n ≡ p
      go (inl h) = let a = before_law i n h in absurd (omega (arith, a, from))
      go (inr h) = go_more (cases_lt p n)
        where
          go_more : (p < n) ⊎ (n ≤ p) → n ≡ p
          go_more (inl m) = let a = before p m in let c = from_law i p (omega arith) in absurd (omega (arith, a, c))
          go_more (inr m) = omega (arith, h, m)

  module _ (old now : List Passage) (i n : ℕ) (d : Passage) (is : n ≡ i) (rest : (j : ℕ) → i ≤ j → slice_get now j ≡ slice_get old j) (short : i < length now) where
    -- the stub at hand
    pub at_hand : slice_get old i ≡ Some (slice_index_or now n d)
    at_hand = sym (rest i (omega arith)) ∙ ap (slice_get now) (sym is) ∙ slice_get-get_or now n d (omega (arith, is, short))

    pub passing_here : ((j : ℕ) (stub : Passage) → slice_get old j ≡ Some stub → IsPassing s b j stub) → IsPassing s b i (slice_index_or now n d)
    passing_here all = all i (slice_index_or now n d) at_hand

    -- the stubs after one more
    module _ (new : Passage) (ahead : new.ahead ≡ key_of s i new.passed)
        (before : (k : ℕ) → k < new.passed → turn_rank s i k < b) (from : b ≤ turn_rank s i new.passed) where
      x : Passage
      x = slice_index_or now n d

      count_is : new.passed ≡ (point (machine s) b).next i
      count_is = passed_is i new.passed before from

      new_is : new ≡ passing s b i x
      unfolding x
      new_is = λ v. record { passed = count_is v; ahead = (ahead ∙ ap (key_of s i) count_is) v }

      pub done_more : ((j : ℕ) → j < i → slice_get now j ≡ option_map (passing s b j) (slice_get old j)) → (j : ℕ) → j < i + 1 → slice_get (slice_set now n new) j ≡ option_map (passing s b j) (slice_get old j)
      unfolding x
      done_more done j h = get_set now n new j (omega (arith, is, short)) ∙ go (cases_eq j n)
        where
          go : (j ≡ n) ⊎ (j ≡ n → ⊥) → (if j == n then Some new else slice_get now j) ≡ option_map (passing s b j) (slice_get old j)
          go (inl e) =
              let on : j ≡ i = e ∙ is in
              rw (eq-eqb j n e) (ap Some new_is ∙ ap (option_map (passing s b i)) (sym at_hand) ∙ ap (λ l. option_map (passing s b l) (slice_get old l)) (sym on))
          go (inr ne) = rw (ne_eqb j n ne) (done j (less ne))
            where
              less : (j ≡ n → ⊥) → j < i
              less differs = below_or (cases_lt j i)
                where
                  below_or : (j < i) ⊎ (i ≤ j) → j < i
                  below_or (inl l) = l
                  below_or (inr l) = absurd (differs (omega (arith, l, h, is)))

      pub passed_more : IfSome new.ahead (λ key. key.number < 4294967296) → new.passed ≤ 4294967296 → ((j : ℕ) (stub : Passage) → j < i → slice_get now j ≡ Some stub → IsPassing s b j stub)
          → (j : ℕ) (stub : Passage) → j < i + 1 → slice_get (slice_set now n new) j ≡ Some stub → IsPassing s b j stub
      passed_more small few passed j stub h e = go (cases_eq j n)
        where
          go : (j ≡ n) ⊎ (j ≡ n → ⊥) → IsPassing s b j stub
          go (inl at) =
              let one : Some new ≡ Some stub = sym (get_set now n new j (omega (arith, is, short)) ∙ rw (eq-eqb j n at) refl) ∙ e in
              let same_one : new ≡ stub = cc in
              subst (IsPassing s b j) same_one (subst (λ k. IsPassing s b k new) (sym (at ∙ is)) (record { ahead = ahead; small = small; few = few; before = before }))
          go (inr ne) = passed j stub (less (cases_lt j i)) (sym (get_set now n new j (omega (arith, is, short)) ∙ rw (ne_eqb j n ne) refl) ∙ e)
            where
              less : (j < i) ⊎ (i ≤ j) → j < i
              less (inl l) = l
              less (inr l) = absurd (ne (omega (arith, l, h, is)))

      pub rest_more : (j : ℕ) → i + 1 ≤ j → slice_get (slice_set now n new) j ≡ slice_get old j
      rest_more j h = get_set now n new j (omega (arith, is, short)) ∙ rw (ne_eqb j n (λ e. omega (arith, e, h, is))) (rest j (omega (arith, h)))

      pub count_more : (count : ℕ) → count ≡ turns_of (point (machine s) b) i → count + new.passed ≡ turns_of (point (machine s) b) (i + 1)
      count_more count e = more
        where
          one : turns_of (point (machine s) b) (suc i) ≡ (point (machine s) b).next i + turns_of (point (machine s) b) i
          one = refl

          next_one : i + 1 ≡ suc i
          next_one = omega arith

          more : count + new.passed ≡ turns_of (point (machine s) b) (i + 1)
          more = rw next_one (let c = count_is in let d = e in omega (arith, c, d))
