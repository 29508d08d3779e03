-- What the calls of a bag do to what is in flight.
use Rattle.std.proofs.Common.{◌≡◌, ℕ, ◌+◌, ◌-◌, ◌<◌, ◌^◌, ◌==◌, ◌⊎◌, inl, inr, Bool, true, false, true≢false, not, cond, nat_lt, filter, List, [], ◌∷◌, refl, ap, sym, subst, ◌∙◌, if◌then◌else◌, arith}
use Rattle.std.specs.Prelude.{count_by}
use Rattle.std.proofs.lemmas.Bool.{and_parts, eqb-true, lt-ltb}
use Rattle.std.specs.declared.cmp.Ordering.TheVariants.{Less, Equal, Greater}
use Rattle.std.specs.Ordering.{is_gt, is_lt}
use Rattle.terms.specs.Named.{Named}
use Rattle.event_keys.specs.Ranked.{key_rank}
use Rattle.event_keys.specs.Ranks.{rank, rank_of_bound}
use Rattle.event_keys.specs.declared.key.Key.{Key}
use Rattle.event_keys.specs.declared.key.Bound.{Bound}
use Rattle.event_keys.specs.declared.key.Bound.TheVariants.{At, End}
use Rattle.event_keys.specs.declared.message.Message.{Message}
use Rattle.event_keys.specs.declared.message.Sign.{Sign}
use Rattle.event_keys.specs.declared.message.Sign.TheVariants.{Plus, Minus}
use Rattle.event_keys.specs.declared.message.Signed.{Signed}
use Rattle.antimessage.specs.Bags.{insert, insert_all, is_below, is_one, is_to, without_below}
use Rattle.antimessage.specs.Counts.{Each, count, is_same, plus, signed_cmp}
use Rattle.antimessage.specs.Meetings.{IsAllMet, IsCancelled}
use Rattle.antimessage.specs.Order.{Fits, IsInOrder, KeyFits}
use Rattle.virtual_time.specs.Bags.{hit, times}
use Rattle.task_seed.specs.Machines.{machine}
use Rattle.task_seed.specs.Turning.{System}
use Rattle.rollback.specs.Flight.{IsComparable, goes, in_flight, is_sign, item_of}
use Rattle.message_balance.specs.Balance.{signed_as}
use Rattle.message_balance.proofs.Counting.{count_next}
use Rattle.rollback.proofs.Levels.{hit_or, none_or, times_count}

module _ (s : System) (sign : Sign) (j k : ℕ) (a : Named) where
  -- how often one message counts
  weight : Signed → ℕ
  weight x = if goes sign j x then hit (machine s) (item_of x) k a else 0

  times_next : (x : Signed) (xs : List Signed) → times (machine s) (in_flight sign j (x ∷ xs)) k a ≡ weight x + times (machine s) (in_flight sign j xs) k a
  unfolding weight
  times_next x xs =
      elim (goes sign j x) as (λ b. times (machine s) (if b then item_of x ∷ in_flight sign j xs else in_flight sign j xs) k a ≡ (if b then hit (machine s) (item_of x) k a else 0) + times (machine s) (in_flight sign j xs) k a) [
        | true ↦ refl
        | false ↦ omega arith
      ]

  times_inserted : (x : Signed) (bag : List Signed) → times (machine s) (in_flight sign j (insert x bag)) k a ≡ weight x + times (machine s) (in_flight sign j bag) k a
  times_inserted x [] = times_next x []
  times_inserted x (y ∷ ys) =
      elim (is_gt (signed_cmp y x)) as (λ b. times (machine s) (in_flight sign j (if b then x ∷ y ∷ ys else y ∷ insert x ys)) k a ≡ weight x + times (machine s) (in_flight sign j (y ∷ ys)) k a) [
        | true ↦ times_next x (y ∷ ys)
        | false ↦ omega (arith, times_next y (insert x ys), times_next y ys, times_inserted x ys)
      ]

  -- all that is put together is in flight
  pub times_all : (more bag : List Signed) → times (machine s) (in_flight sign j (insert_all more bag)) k a ≡ times (machine s) (in_flight sign j more) k a + times (machine s) (in_flight sign j bag) k a
  times_all [] bag = omega arith
  times_all (x ∷ more) bag = omega (arith, times_all more (insert x bag), times_inserted x bag, times_next x more)

  weightless : (x : Signed) → hit (machine s) (item_of x) k a ≡ 0 → weight x ≡ 0
  unfolding weight
  weightless x z =
      elim (goes sign j x) as (λ b. (if b then hit (machine s) (item_of x) k a else 0) ≡ 0) [
        | true ↦ z
        | false ↦ refl
      ]

  times_if : (b : Bool) (x : Signed) (xs : List Signed) → times (machine s) (in_flight sign j (if b then x ∷ xs else xs)) k a ≡ cond b (weight x) 0 + times (machine s) (in_flight sign j xs) k a
  times_if true x xs = times_next x xs
  times_if false x xs = omega arith

  part : (t b : Bool) (w m n l : ℕ) → (w ≡ 0) ⊎ (t ≡ b) → n ≡ cond b m 0 → l ≡ cond t w 0 + n → l ≡ cond b (w + m) 0
  part true true w m n l c e f = omega (arith, e, f)
  part false false w m n l c e f = omega (arith, e, f)
  part true false w m n l (inl z) e f = omega (arith, z, e, f)
  part true false w m n l (inr p) e f = absurd (true≢false p)
  part false true w m n l (inl z) e f = omega (arith, z, e, f)
  part false true w m n l (inr p) e f = absurd (true≢false (sym p))

  weight_or : (P : Type 0) (x : Signed) → (hit (machine s) (item_of x) k a ≡ 0) ⊎ P → (weight x ≡ 0) ⊎ P
  weight_or P x (inl z) = inl (weightless x z)
  weight_or P x (inr p) = inr p

  -- what a test leaves, where it has one answer at the messages of key k
  pub times_filtered : (test : Signed → Bool) (b : Bool) → ((x : Signed) → Fits x → rank x.message.key ≡ k → test x ≡ b)
      → (bag : List Signed) → Each Fits bag → times (machine s) (in_flight sign j (filter test bag)) k a ≡ cond b (times (machine s) (in_flight sign j bag) k a) 0
  times_filtered test true h [] e = refl
  times_filtered test false h [] e = refl
  times_filtered test b h (x ∷ bag) e =
      part (test x) b (weight x) (times (machine s) (in_flight sign j bag) k a) (times (machine s) (in_flight sign j (filter test bag)) k a) (times (machine s) (in_flight sign j (filter test (x ∷ bag))) k a)
      (weight_or (test x ≡ b) x (hit_or s (test x ≡ b) (item_of x) k a (λ r same. h x e.0 r)))
      (times_filtered test b h bag e.1)
      (times_if (test x) x (filter test bag))
      ∙ ap (λ n. cond b n 0) (sym (times_next x bag))

module _ (sign : Sign) (j : ℕ) where
  -- a test that all that goes there passes
  flight_kept : (test : Signed → Bool) → ((x : Signed) → goes sign j x ≡ true → test x ≡ true) → (bag : List Signed) → in_flight sign j (filter test bag) ≡ in_flight sign j bag
  flight_kept test h [] = refl
  flight_kept test h (x ∷ bag) =
      (elim (goes sign j x) as (λ g. goes sign j x ≡ g → in_flight sign j (if test x then x ∷ filter test bag else filter test bag) ≡ (if g then item_of x ∷ in_flight sign j bag else in_flight sign j bag)) [
        | true ↦ λ p.
            ap (λ (b : Bool). in_flight sign j (if b then x ∷ filter test bag else filter test bag)) (h x p)
            ∙ ap (λ (g : Bool). if g then item_of x ∷ in_flight sign j (filter test bag) else in_flight sign j (filter test bag)) p
            ∙ ap (λ zs. item_of x ∷ zs) (flight_kept test h bag)
        | false ↦ λ p.
            elim (test x) as (λ b. in_flight sign j (if b then x ∷ filter test bag else filter test bag) ≡ in_flight sign j bag) [
              | true ↦ ap (λ (g : Bool). if g then item_of x ∷ in_flight sign j (filter test bag) else in_flight sign j (filter test bag)) p ∙ flight_kept test h bag
              | false ↦ flight_kept test h bag
            ]
      ]) refl

  -- a test that nothing that goes there passes
  flight_gone : (test : Signed → Bool) → ((x : Signed) → goes sign j x ≡ true → test x ≡ false) → (bag : List Signed) → in_flight sign j (filter test bag) ≡ []
  flight_gone test h [] = refl
  flight_gone test h (x ∷ bag) =
      (elim (test x) as (λ b. test x ≡ b → in_flight sign j (if b then x ∷ filter test bag else filter test bag) ≡ []) [
        | true ↦ λ t.
            (elim (goes sign j x) as (λ g. goes sign j x ≡ g → (if g then item_of x ∷ in_flight sign j (filter test bag) else in_flight sign j (filter test bag)) ≡ []) [
              | true ↦ λ p. absurd (true≢false (sym t ∙ h x p))
              | false ↦ λ p. flight_gone test h bag
            ]) refl
        | false ↦ λ t. flight_gone test h bag
      ]) refl

  received : (l : ℕ) (x : Signed) → goes sign j x ≡ true → is_to l x ≡ (j == l)
  received l x p = ap (λ n. n == l) (eqb-true x.message.to j (and_parts (is_sign sign x.sign) (x.message.to == j) p).1)

  pub flight_to : (l : ℕ) (bag : List Signed) → in_flight sign j (filter (is_to l) bag) ≡ cond (j == l) (in_flight sign j bag) []
  flight_to l bag =
      (elim (j == l) as (λ b. (j == l) ≡ b → in_flight sign j (filter (is_to l) bag) ≡ cond b (in_flight sign j bag) []) [
        | true ↦ λ e. flight_kept (is_to l) (λ x p. received l x p ∙ e) bag
        | false ↦ λ e. flight_gone (is_to l) (λ x p. received l x p ∙ e) bag
      ]) refl

  pub flight_not_to : (l : ℕ) (bag : List Signed) → in_flight sign j (filter (λ s. not (is_to l s)) bag) ≡ cond (j == l) [] (in_flight sign j bag)
  flight_not_to l bag =
      (elim (j == l) as (λ b. (j == l) ≡ b → in_flight sign j (filter (λ s. not (is_to l s)) bag) ≡ cond b [] (in_flight sign j bag)) [
        | true ↦ λ e. flight_gone (λ s. not (is_to l s)) (λ x p. ap not (received l x p ∙ e)) bag
        | false ↦ λ e. flight_kept (λ s. not (is_to l s)) (λ x p. ap not (received l x p ∙ e)) bag
      ]) refl

-- the two forms of a count
count_agrees : (x : Signed) (xs : List Signed) → count_by (is_one x) xs ≡ count x xs
count_agrees x [] = refl
count_agrees x (y ∷ ys) = sym (count_next (is_one x) y ys) ∙ ap (λ n. cond (is_same y x) 1 0 + n) (count_agrees x ys)

go_as : (sign : Sign) (j : ℕ) (m : Message) → (m.to == j) ≡ true → goes sign j (signed_as sign m) ≡ true
go_as Plus j m e = e
go_as Minus j m e = e

none_less : (n o t : ℕ) → (n ≡ 0) ⊎ (n ≡ o - t) → (o ≡ 0) ⊎ (n ≡ o - t) → n ≡ o - t
none_less n o t (inl x) (inl y) = omega arith
none_less n o t (inl x) (inr p) = p
none_less n o t (inr p) y = p

module _ (s : System) (j : ℕ) where
  pub times_are : (sign : Sign) (m : Message) → (m.to == j) ≡ true → Fits (plus m) → (xs : List Signed) → Each Fits xs → times (machine s) (in_flight sign j xs) (rank m.key) m.action ≡ count (signed_as sign m) xs
  times_are sign m e f xs g = times_count s sign j m (go_as sign j m e) f xs g ∙ count_agrees (signed_as sign m) xs

  -- of the message of key k and action a as many are in flight in the first list as in the second without those in the third
  abbrev IsLess : (one two three : Sign) (new old others : List Signed) (k : ℕ) (a : Named) → Type 0
  IsLess one two three new old others k a = times (machine s) (in_flight one j new) k a ≡ times (machine s) (in_flight two j old) k a - times (machine s) (in_flight three j others) k a

  -- where it is so of the counts of each message it is so of what is in flight
  pub less_in_flight : (one two three : Sign) (new old others : List Signed) → Each Fits new → Each Fits old → Each Fits others
      → ((m : Message) → count (signed_as one m) new ≡ count (signed_as two m) old - count (signed_as three m) others) → (k : ℕ) (a : Named) → IsLess one two three new old others k a
  less_in_flight one two three new old others e f g h k a =
      none_less (times (machine s) (in_flight one j new) k a) (times (machine s) (in_flight two j old) k a) (times (machine s) (in_flight three j others) k a)
      (none_or s (IsLess one two three new old others k a) Fits one j k a (at one) new e) (none_or s (IsLess one two three new old others k a) Fits two j k a (at two) old f) where
        at : (sign : Sign) (x : Signed) → Fits x → goes sign j x ≡ true → rank x.message.key ≡ k → x.message.action ≡ a → IsLess one two three new old others k a
        at sign x fits p rank_is action_is =
            let to = (and_parts (is_sign sign x.sign) (x.message.to == j) p).1 in
            let less : IsLess one two three new old others (rank x.message.key) x.message.action =
            times_are one x.message to fits new e ∙ h x.message ∙ (λ i. sym (times_are two x.message to fits old f) i - sym (times_are three x.message to fits others g) i) in
            subst (IsLess one two three new old others k) action_is (subst (λ r. IsLess one two three new old others r x.message.action) rank_is less)

  module _ (k : ℕ) (a : Named) where
    pub messages_cancelled : (others old new : List Signed) → IsInOrder others → IsInOrder old → IsInOrder new → IsCancelled others old new → IsLess Plus Plus Minus new old others k a
    messages_cancelled others old new o p q c = less_in_flight Plus Plus Minus new old others q.fits p.fits o.fits c.pluses k a

    pub antimessages_stay : (others old new : List Signed) → IsInOrder others → IsInOrder old → IsInOrder new → IsCancelled others old new
        → times (machine s) (in_flight Minus j new) k a ≡ times (machine s) (in_flight Minus j old) k a
    antimessages_stay others old new o p q c =
        omega (arith, less_in_flight Minus Minus Minus new old [] q.fits p.fits tt (λ m. omega (arith, c.minuses m)) k a)

    pub messages_met : (old new : List Signed) → IsInOrder old → IsInOrder new → IsAllMet old new → IsLess Plus Plus Minus new old old k a
    messages_met old new o p c = less_in_flight Plus Plus Minus new old old p.fits o.fits o.fits c.pluses k a

    pub antimessages_met : (old new : List Signed) → IsInOrder old → IsInOrder new → IsAllMet old new → IsLess Minus Minus Plus new old old k a
    antimessages_met old new o p c = less_in_flight Minus Minus Plus new old old p.fits o.fits o.fits c.minuses k a

compared : (less same : Bool) → is_lt (cond less Less (cond same Equal Greater)) ≡ less
compared true same = refl
compared false true = refl
compared false false = refl

-- keys of rank k are below the bound where k is below its rank
-- a key is below the end
below_end : (key : Key) → KeyFits key → rank key < 2 ^ 144
below_end key f = let component = f.0 in let number = f.1 in let tick = f.2 in omega (arith, component, number, tick)

below_by_rank : (k : ℕ) (bound : Bound) (x : Signed) → IsComparable bound → Fits x → rank x.message.key ≡ k → is_below bound x ≡ nat_lt k (rank_of_bound bound)
below_by_rank k (At key) x c f e =
    ap is_lt (key_rank x.message.key key f.0 f.1 c.0 c.1)
    ∙ compared (nat_lt (rank x.message.key) (rank key)) (rank x.message.key == rank key)
    ∙ ap (λ n. nat_lt n (rank key)) e
below_by_rank k End x c f e = sym (lt-ltb k (rank_of_bound End) (subst (λ n. n < 2 ^ 144) e (below_end x.message.key f)))

turned_round : (b : Bool) (n : ℕ) → cond (not b) n 0 ≡ cond b 0 n
turned_round true n = refl
turned_round false n = refl

pub flight_dropped : (s : System) (sign : Sign) (j k : ℕ) (a : Named) (bound : Bound) (bag : List Signed) → IsComparable bound → IsInOrder bag
    → times (machine s) (in_flight sign j (without_below bound bag)) k a ≡ cond (nat_lt k (rank_of_bound bound)) 0 (times (machine s) (in_flight sign j bag) k a)
flight_dropped s sign j k a bound bag c o =
    times_filtered s sign j k a (λ x. not (is_below bound x)) (not (nat_lt k (rank_of_bound bound))) (λ x f e. ap not (below_by_rank k bound x c f e)) bag o.fits
    ∙ turned_round (nat_lt k (rank_of_bound bound)) (times (machine s) (in_flight sign j bag) k a)
