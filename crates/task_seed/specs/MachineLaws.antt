-- The machine of a setup meets the laws of the theory.
use Rattle.std.specs.Prelude.{◌≡◌, ℕ, zero, suc, ◌+◌, ◌^◌, ◌<◌, ◌≤◌, ◌==◌, nat_lt, Bool, true, false, not, ◌&&◌, List, [], ◌∷◌, length, refl}
use Rattle.std.specs.declared.cmp.Ordering.{Ordering}
use Rattle.std.specs.declared.cmp.Ordering.TheVariants.{Less, Equal, Greater}
use Rattle.std.specs.Ordering.{is_eq, is_gt, ordering_reverse}
use Rattle.std.specs.Cmp.{IsTotalOrder}
use Rattle.std.proofs.Common.{arith, ap, ◌∙◌, sym, subst}
use Rattle.std.proofs.lemmas.Bool.Decides.{nat_tests}
use Rattle.terms.specs.Named.{Named}
use Rattle.event_keys.specs.Apart.{action_apart}
use Rattle.event_keys.specs.Orders.{action_order}
use Rattle.event_keys.specs.Ranks.{rank, owner_of}
use Rattle.virtual_time.specs.Machine.{Lawful, HasCount}
use Rattle.io_automata.specs.Automata.{Instance, component_at, absent}
use Rattle.io_automata.specs.Signatures.{receives}
use Rattle.io_automata.specs.Receivers.{no_own}
use Rattle.task_seed.specs.Turning.{System, ticks, has_turns, key_at}
use Rattle.task_seed.specs.Ticks.{none_stays, has_parts, later_next}
use Rattle.task_seed.specs.Machines.{machine, turn_rank, end_rank, same_action, action_before}

-- what a setup's type says of its system
pub record IsSmall (s : System) : Type 0 where
  pub components : length s.composition < 2 ^ 16
  pub horizon : s.horizon ≤ 4294967296

end_is : end_rank ≡ 2 ^ 144
unfolding end_rank
end_is = refl

-- a turn that exists: its component, its number and its tick are small
pub record Exists (s : System) (i n : ℕ) : Type 0 where
  pub within : i < length s.composition
  pub there : has_turns s i (n + 1) ≡ true

module _ (s : System) (small : IsSmall s) where
  rank_there : (i n : ℕ) → (nat_lt i (length s.composition) && has_turns s i (n + 1)) ≡ true → turn_rank s i n ≡ rank (key_at i n (ticks s i (n + 1)))
  rank_there i n h = rw h refl

  rank_gone : (i n : ℕ) → (nat_lt i (length s.composition) && has_turns s i (n + 1)) ≡ false → turn_rank s i n ≡ end_rank
  rank_gone i n h = rw h refl

  both : (a b : Bool) → (a && b) ≡ true → (a ≡ true) × (b ≡ true)
  both true b h = (refl, h)
  both false b h = cc

  exists : (i n : ℕ) → (nat_lt i (length s.composition) && has_turns s i (n + 1)) ≡ true → Exists s i n
  exists i n h =
      let parts = both (nat_lt i (length s.composition)) (has_turns s i (n + 1)) h in
      let first = parts.0 in
      record { within = grind (arith, nat_tests); there = parts.1 }

  small_number : (i n : ℕ) → Exists s i n → (i < 2 ^ 16) × (n < 2 ^ 64) × (ticks s i (n + 1) < 2 ^ 64)
  small_number i n e =
      let has = has_parts s i (n + 1) e.there in
      let low = has.within in
      let count = has.few in
      let w = e.within in
      let c = small.components in
      let h = small.horizon in
      (omega (arith, w, c), omega (arith, count), omega (arith, low, h))

  -- the rank of a turn that exists is below the end, and tells its component
  below_end : (i n : ℕ) → Exists s i n → rank (key_at i n (ticks s i (n + 1))) < end_rank
  below_end i n e = let p = small_number i n e in let a = p.0 in let b = p.1 in let c = p.2 in rw end_is (omega (arith, a, b, c))

  bounded : (i m : ℕ) → turn_rank s i m ≤ end_rank
  bounded i m = go (nat_lt i (length s.composition) && has_turns s i (m + 1)) refl where
    go : (b : Bool) → (nat_lt i (length s.composition) && has_turns s i (m + 1)) ≡ b → turn_rank s i m ≤ end_rank
    go true h = let l = below_end i m (exists i m h) in rw (rank_there i m h) (omega (arith, l))
    go false h = rw (rank_gone i m h) (omega arith)

  -- one turn more, where it exists
  rises : (i m : ℕ) → turn_rank s i m < end_rank → turn_rank s i m < turn_rank s i (suc m)
  rises i m low = go (nat_lt i (length s.composition) && has_turns s i (m + 1)) refl (nat_lt i (length s.composition) && has_turns s i (suc m + 1)) refl where
    go : (b : Bool) → (nat_lt i (length s.composition) && has_turns s i (m + 1)) ≡ b → (d : Bool) → (nat_lt i (length s.composition) && has_turns s i (suc m + 1)) ≡ d → turn_rank s i m < turn_rank s i (suc m)
    go false h d g = absurd (let e = rank_gone i m h in omega (arith, e, low))
    go true h false g = rw (rank_gone i (suc m) g) low
    go true h true g =
        let e = exists i (suc m) g in
        let now = small_number i m (exists i m h) in
        let later = small_number i (suc m) e in
        let number = now.1 in
        let next = later.1 in
        let more = later_next s i m in
        rw (rank_there i m h, rank_there i (suc m) g) (omega (arith, number, next, more))

  ends : (i m : ℕ) → end_rank ≤ turn_rank s i m → turn_rank s i (suc m) ≡ end_rank
  ends i m high = go (nat_lt i (length s.composition) && has_turns s i (m + 1)) refl where
    later_gone : (a b c : Bool) → (a && b) ≡ false → (b ≡ false → c ≡ false) → (a && c) ≡ false
    later_gone true b c h f = f h
    later_gone false b c h f = refl

    one : suc m + 1 ≡ (m + 1) + 1
    one = omega arith

    go : (b : Bool) → (nat_lt i (length s.composition) && has_turns s i (m + 1)) ≡ b → turn_rank s i (suc m) ≡ end_rank
    go true h = absurd (let l = below_end i m (exists i m h) in let e = rank_there i m h in omega (arith, l, e, high))
    go false h =
        rank_gone i (suc m) (later_gone (nat_lt i (length s.composition)) (has_turns s i (m + 1)) (has_turns s i (suc m + 1)) h
        (λ gone. subst (λ (n : ℕ). has_turns s i n ≡ false) (sym one) (none_stays s i (m + 1) 1 gone)))

  owned : (i m : ℕ) → turn_rank s i m < end_rank → owner_of (turn_rank s i m) ≡ i
  owned i m low = go (nat_lt i (length s.composition) && has_turns s i (m + 1)) refl where
    go : (b : Bool) → (nat_lt i (length s.composition) && has_turns s i (m + 1)) ≡ b → owner_of (turn_rank s i m) ≡ i
    go true h =
        let p = small_number i m (exists i m h) in let a = p.0 in let b = p.1 in
        let owner : owner_of (rank (key_at i m (ticks s i (m + 1)))) ≡ i = omega (arith, a, b) in
        ap owner_of (rank_there i m h) ∙ owner
    go false h = absurd (let e = rank_gone i m h in omega (arith, e, low))

equal_from : (o : Ordering) → o ≡ ordering_reverse o → o ≡ Equal
equal_from Less h = cc
equal_from Equal h = refl
equal_from Greater h = cc

is_equal : (o : Ordering) → is_eq o ≡ true → o ≡ Equal
is_equal Less h = cc
is_equal Equal h = refl
is_equal Greater h = cc

module _ (order : IsTotalOrder action_order) where
  same_refl : (a : Named) → same_action a a ≡ true
  same_refl a = ap is_eq (equal_from (action_order a a) (order.antisymm a a))

  same_is : (a b : Named) → same_action a b ≡ true → a ≡ b
  same_is a b h = action_apart a b (is_equal (action_order a b) h)

  total : (a b : Named) → action_before a b ≡ false → action_before b a ≡ true
  total a b h = go (action_order a b) (action_order b a) h (order.antisymm b a) where
    go : (o p : Ordering) → not (is_gt o) ≡ false → p ≡ ordering_reverse o → not (is_gt p) ≡ true
    go Less p h e = cc
    go Equal p h e = cc
    go Greater p h e = ap (λ q. not (is_gt q)) e

  one : (a b : Named) → action_before a b ≡ true → action_before b a ≡ true → a ≡ b
  one a b h g = action_apart a b (go (action_order a b) (action_order b a) h g (order.antisymm b a)) where
    go : (o p : Ordering) → not (is_gt o) ≡ true → not (is_gt p) ≡ true → p ≡ ordering_reverse o → o ≡ Equal
    go Less p h g e = let greater : not (is_gt p) ≡ false = ap (λ q. not (is_gt q)) e in let both : ◌≡◌ {A = Bool} false true = sym greater ∙ g in cc
    go Equal p h g e = refl
    go Greater p h g e = cc

  chain : (a b c : Named) → action_before a b ≡ true → action_before b c ≡ true → action_before a c ≡ true
  chain a b c h g = go (action_order a b) refl (action_order b c) refl where
    not_greater : (o : Ordering) → o ≡ Less → not (is_gt o) ≡ true
    not_greater o e = ap (λ q. not (is_gt q)) e

    go : (o : Ordering) → action_order a b ≡ o → (p : Ordering) → action_order b c ≡ p → action_before a c ≡ true
    go Less e Less f = not_greater (action_order a c) (order.trans a b c e f)
    go Less e Equal f = let same : b ≡ c = action_apart b c f in subst (λ (x : Named). action_before a x ≡ true) same h
    go Less e Greater f = let greater : action_before b c ≡ false = ap (λ q. not (is_gt q)) f in let both : ◌≡◌ {A = Bool} false true = sym greater ∙ g in cc
    go Equal e p f = let same : a ≡ b = action_apart a b e in subst (λ (x : Named). action_before x c ≡ true) (sym same) g
    go Greater e p f = let greater : action_before a b ≡ false = ap (λ q. not (is_gt q)) e in let both : ◌≡◌ {A = Bool} false true = sym greater ∙ h in cc

-- the machine of a small system is lawful
pub machine_lawful : (s : System) → IsSmall s → IsTotalOrder action_order → Lawful (machine s)
machine_lawful s small order = record {
  rises = rises s small;
  bounded = bounded s small;
  ends = ends s small;
  owned = owned s small;
  others = λ i a. no_own s.composition a i;
  same_refl = same_refl order;
  same_is = same_is order;
  total = total order;
  one = one order;
  chain = chain order;
}

-- beyond a composition nobody has a turn, and nobody receives anything
past_absent : (composition : List Instance) (j : ℕ) → length composition ≤ j → component_at composition j ≡ absent
past_absent [] j h = refl
past_absent (x ∷ xs) zero h = absurd (omega arith)
past_absent (x ∷ xs) (suc j) h = past_absent xs j (omega arith)

pub machine_counted : (s : System) → HasCount (machine s) (length s.composition)
machine_counted s = record { silent = silent; deaf = deaf } where
  silent : (j m : ℕ) → length s.composition ≤ j → turn_rank s j m ≡ end_rank
  silent j m h = let past : nat_lt j (length s.composition) ≡ false = grind (arith, nat_tests) in rw past refl

  and_none : (b : Bool) → (b && false) ≡ false
  and_none true = refl
  and_none false = refl

  deaf : (i : ℕ) (a : Named) (j : ℕ) → length s.composition ≤ j → receives s.composition i a j ≡ false
  deaf i a j h = rw (past_absent s.composition j h) (and_none (not (j == i)))
