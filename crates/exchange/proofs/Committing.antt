-- A commit raises the bound to where nothing can come any more.
use Rattle.std.proofs.Common.{◌≡◌, ℕ, zero, suc, ◌<◌, ◌≤◌, ◌^◌, ◌⊎◌, inl, inr, Bool, true, false, Option, None, Some, List, [], ◌∷◌, map, length, refl, ap, sym, subst, ◌∙◌, arith}
use Rattle.std.specs.Prelude.{if◌then◌else◌, nat_lt, slice_get, slice_index_or, option_map}
use Rattle.std.specs.List.{Contains}
use Rattle.std.proofs.lemmas.Bool.{ltb-true, ltb-false, eq-eqb}
use Rattle.std.proofs.lemmas.List.{length-map}
use Rattle.std.proofs.lemmas.Option.{slice_get_within}
use Rattle.std.specs.Ordering.{is_gt}
use Rattle.terms.specs.Datum.{Datum}
use Rattle.terms.specs.Named.{Named}
use Rattle.event_keys.specs.declared.key.Bound.{Bound}
use Rattle.event_keys.specs.declared.key.Bound.TheVariants.{End}
use Rattle.event_keys.specs.declared.message.Sign.{Sign}
use Rattle.event_keys.specs.declared.message.Sign.TheVariants.{Plus, Minus}
use Rattle.event_keys.specs.declared.message.Signed.{Signed}
use Rattle.event_keys.specs.Ranks.{rank, rank_of_bound}
use Rattle.antimessage.specs.Bags.{least_of}
use Rattle.antimessage.specs.Counts.{Each, signed_cmp}
use Rattle.antimessage.specs.Order.{Fits, IsInOrder}
use Rattle.virtual_time.specs.Bags.{AllFrom}
use Rattle.virtual_time.specs.Machine.{Machine, HasCount}
use Rattle.virtual_time.specs.Reference.{point}
use Rattle.virtual_time.specs.Exchange.Stubs.{Stub as StubSeen, IsSound}
use Rattle.virtual_time.specs.Exchange.Meetings.{IsClear, IsCommit}
use Rattle.rollback.specs.Flight.{in_flight, item_of, goes}
use Rattle.gvt.specs.Least.{IsLeast}
use Rattle.task_seed.specs.Turning.{System}
use Rattle.task_seed.specs.Machines.{machine, turn_rank, end_rank}
use Rattle.rollback.proofs.Lowest.{key_after}
use Rattle.exchange.specs.declared.stub.Stub.{Stub}
use Rattle.exchange.specs.ExchangeView.{ExchangeView, IsValidExchange, IsStub, IsPassing, stub_of, stub_or_start, exchange_of, earlier, clear_until, passing}

pub end_is : end_rank ≡ 2 ^ 144
unfolding end_rank
end_is = refl

keys_after : (x : Signed) (ys : List Signed) → Fits x → Each Fits ys → Each (λ y. is_gt (signed_cmp x y) ≡ false) ys → Each (λ y. rank x.message.key ≤ rank y.message.key) ys
keys_after x [] f g h = tt
keys_after x (y ∷ ys) f g h = (key_after x y f g.0 h.0, keys_after x ys f g.1 h.1)

pub least_low : (xs : List Signed) → IsInOrder xs → Each (λ y. rank_of_bound (least_of xs) ≤ rank y.message.key) xs
least_low [] o = tt
least_low (x ∷ xs) o = (omega arith, keys_after x xs o.fits.0 o.fits.1 o.sorted.0)

-- what is in flight is among the messages
pub flight_from : (b : ℕ) (sign : Sign) (j : ℕ) (xs : List Signed) → Each (λ y. b ≤ rank y.message.key) xs → AllFrom b (in_flight sign j xs)
flight_from b sign j [] h = tt
flight_from b sign j (x ∷ xs) h = go (flight_from b sign j xs h.1) (goes sign j x)
  where
    go : AllFrom b (in_flight sign j xs) → (g : Bool) → AllFrom b (if g then item_of x ∷ in_flight sign j xs else in_flight sign j xs)
    go rest true = (h.0, rest)
    go rest false = rest

-- what no key of the messages to j in flight is below, none of the messages is below, where all are to j
pub flight_to : (b j : ℕ) (xs : List Signed) → Each (λ y. y.message.to ≡ j) xs → AllFrom b (in_flight Plus j xs) → AllFrom b (in_flight Minus j xs) → Each (λ y. b ≤ rank y.message.key) xs
flight_to b j [] to p m = tt
flight_to b j (x ∷ xs) to p m = go (flight_to b j xs to.1) x.sign refl
  where
    go : (AllFrom b (in_flight Plus j xs) → AllFrom b (in_flight Minus j xs) → Each (λ y. b ≤ rank y.message.key) xs) → (sign : Sign) → x.sign ≡ sign → Each (λ y. b ≤ rank y.message.key) (x ∷ xs)
    go more Plus e =
        let there : in_flight Plus j (x ∷ xs) ≡ item_of x ∷ in_flight Plus j xs = rw (e, eq-eqb x.message.to j to.0) refl in
        let none : in_flight Minus j (x ∷ xs) ≡ in_flight Minus j xs = rw e refl in
        let all = subst (AllFrom b) there p in
        (all.0, more all.1 (subst (AllFrom b) none m))
    go more Minus e =
        let there : in_flight Minus j (x ∷ xs) ≡ item_of x ∷ in_flight Minus j xs = rw (e, eq-eqb x.message.to j to.0) refl in
        let none : in_flight Plus j (x ∷ xs) ≡ in_flight Plus j xs = rw e refl in
        let all = subst (AllFrom b) there m in
        (all.0, more (subst (AllFrom b) none p) all.1)

-- what no message is below, the least is not below
pub low_least : (b : ℕ) (xs : List Signed) → b ≤ end_rank → Each (λ y. b ≤ rank y.message.key) xs → b ≤ rank_of_bound (least_of xs)
low_least b [] e h = subst (λ n. b ≤ n) end_is e
low_least b (x ∷ xs) e h = h.0

pub earlier_first : (a b : Bound) → rank_of_bound (earlier a b) ≤ rank_of_bound a
earlier_first a b = go (nat_lt (rank_of_bound a) (rank_of_bound b)) refl
  where
    go : (t : Bool) → nat_lt (rank_of_bound a) (rank_of_bound b) ≡ t → rank_of_bound (if t then a else b) ≤ rank_of_bound a
    go true h = omega arith
    go false h = ltb-false (rank_of_bound a) (rank_of_bound b) h

pub earlier_second : (a b : Bound) → rank_of_bound (earlier a b) ≤ rank_of_bound b
earlier_second a b = go (nat_lt (rank_of_bound a) (rank_of_bound b)) refl
  where
    go : (t : Bool) → nat_lt (rank_of_bound a) (rank_of_bound b) ≡ t → rank_of_bound (if t then a else b) ≤ rank_of_bound b
    go true h = let l = ltb-true (rank_of_bound a) (rank_of_bound b) h in omega (arith, l)
    go false h = omega arith

pub earlier_both : (d : ℕ) (a b : Bound) → d ≤ rank_of_bound a → d ≤ rank_of_bound b → d ≤ rank_of_bound (earlier a b)
earlier_both d a b p q = go (nat_lt (rank_of_bound a) (rank_of_bound b))
  where
    go : (t : Bool) → d ≤ rank_of_bound (if t then a else b)
    go true = p
    go false = q

pub each_low : (a b : ℕ) (xs : List Signed) → b ≤ a → Each (λ y. a ≤ rank y.message.key) xs → Each (λ y. b ≤ rank y.message.key) xs
each_low a b [] l h = tt
each_low a b (x ∷ xs) l h = let first = h.0 in (omega (arith, l, first), each_low a b xs l h.1)

pub slice_get_none : {X : Type 0} (xs : List X) (j : ℕ) → slice_get xs j ≡ None → length xs ≤ j
slice_get_none [] j e = omega arith
slice_get_none (x ∷ xs) zero e = cc
slice_get_none (x ∷ xs) (suc j) e = let rest = slice_get_none xs j e in omega (arith, rest)

mapped_at : (xs : List Stub) (j : ℕ) (stub : Stub) (d : Bound) → slice_get xs j ≡ Some stub → slice_index_or (map clear_until xs) j d ≡ clear_until stub
mapped_at [] j stub d e = cc
mapped_at (x ∷ xs) zero stub d e = let same : x ≡ stub = cc in ap clear_until same
mapped_at (x ∷ xs) (suc j) stub d e = mapped_at xs j stub d e

mapped_from : (xs : List Stub) (j : ℕ) (d : Bound) → j < length (map clear_until xs) → (stub : Stub) × (slice_get xs j ≡ Some stub) × (slice_index_or (map clear_until xs) j d ≡ clear_until stub)
mapped_from [] j d h = absurd (omega (arith, h))
mapped_from (x ∷ xs) zero d h = (x, refl, refl)
mapped_from (x ∷ xs) (suc j) d h = mapped_from xs j d (omega (arith, h))

module _ {P : Type 0} (s : System) (e : ExchangeView P) (is : IsValidExchange s e) (counted : HasCount (machine s) (length s.composition)) (bound : Bound) (least : IsLeast (map clear_until e.stubs) bound) (end : rank_of_bound bound ≤ end_rank) where
  abbrev m : Machine (List Datum) Named
  m = machine s

  abbrev b : ℕ
  b = rank_of_bound bound

  low : (j : ℕ) (stub : Stub) → slice_get e.stubs j ≡ Some stub → b ≤ rank_of_bound (clear_until stub)
  low j stub h =
      let there = slice_get_within e.stubs j stub h in
      let short : j < length (map clear_until e.stubs) = omega (arith, there, length-map e.stubs clear_until) in
      subst (λ c. b ≤ rank_of_bound c) (mapped_at e.stubs j stub bound h) (least.below j bound short)

  clear_stub : (j : ℕ) (o : Option Stub) → slice_get e.stubs j ≡ o → (b ≤ (stub_or_start m j o).floor) × AllFrom b (stub_or_start m j o).plus × AllFrom b (stub_or_start m j o).minus
  clear_stub j None h =
      let past = slice_get_none e.stubs j h in
      let many = is.many in
      let top = counted.silent j 0 (omega (arith, past, many)) in
      (subst (λ n. b ≤ n) (sym top) end, tt, tt)
  clear_stub j (Some stub) h =
      let l = low j stub h in
      let first = earlier_first stub.floor (least_of stub.inbox) in
      let second = earlier_second stub.floor (least_of stub.inbox) in
      let keys = each_low (rank_of_bound (least_of stub.inbox)) b stub.inbox (omega (arith, l, second)) (least_low stub.inbox (is.stubs j stub h).order) in
      (omega (arith, l, first), flight_from b Plus j stub.inbox keys, flight_from b Minus j stub.inbox keys)

  clear : IsClear m (exchange_of m e) b
  clear = record {
    end = end;
    floor = λ j. (clear_stub j (slice_get e.stubs j) refl).0;
    plus = λ j. (clear_stub j (slice_get e.stubs j) refl).1;
    minus = λ j. (clear_stub j (slice_get e.stubs j) refl).2;
  }

  most : (d : ℕ) → IsClear m (exchange_of m e) d → d ≤ b
  most d h = go least.reached
    where
      at_stub : (j : ℕ) (stub : Stub) → slice_get e.stubs j ≡ Some stub → bound ≡ clear_until stub → d ≤ b
      at_stub j stub there is_bound =
          let seen : stub_or_start m j (slice_get e.stubs j) ≡ stub_of m j stub = ap (stub_or_start m j) there in
          let floor : d ≤ rank_of_bound stub.floor = subst (λ (x : StubSeen Named). d ≤ x.floor) seen (h.floor j) in
          let keys = flight_to d j stub.inbox (is.stubs j stub there).inbox (subst (λ (x : StubSeen Named). AllFrom d x.plus) seen (h.plus j)) (subst (λ (x : StubSeen Named). AllFrom d x.minus) seen (h.minus j)) in
          subst (λ c. d ≤ rank_of_bound c) (sym is_bound) (earlier_both d stub.floor (least_of stub.inbox) floor (low_least d stub.inbox h.end keys))

      go : Contains (map clear_until e.stubs) bound ⊎ (bound ≡ End) → d ≤ b
      go (inr at_end) = subst (λ c. d ≤ rank_of_bound c) (sym at_end) (subst (λ n. d ≤ n) end_is h.end)
      go (inl among) =
          let found = mapped_from e.stubs among.0 bound among.1 in
          at_stub among.0 found.0 found.1 (sym among.2 ∙ found.2)

  -- the bound is not lowered
  pub not_lower : rank_of_bound e.bound ≤ b
  not_lower = most (rank_of_bound e.bound) (record { end = is.sound.end; floor = is.sound.floor; plus = is.sound.plus; minus = is.sound.minus })

  module _ (stubs : List Stub) (passed : (j : ℕ) → slice_get stubs j ≡ option_map (passing s b j) (slice_get e.stubs j)) where
    abbrev pub after : ExchangeView P
    after = record e { bound = bound; stubs = stubs }

    same_stub : (j : ℕ) (o : Option Stub) → stub_or_start m j (option_map (passing s b j) o) ≡ stub_or_start m j o
    same_stub j None = refl
    same_stub j (Some stub) = refl

    rest : exchange_of m after ≡ record { stub = (exchange_of m e).stub; bound = b; held = (exchange_of m e).held; given = (exchange_of m e).given }
    rest = λ v. record { stub = λ j. (ap (stub_or_start m j) (passed j) ∙ same_stub j (slice_get e.stubs j)) v; bound = b; held = (exchange_of m e).held; given = (exchange_of m e).given }

    pub committed : IsCommit m (exchange_of m e) (exchange_of m after)
    committed = record { clear = clear; most = most; rest = rest }

    pub kept : IsSound m (length s.composition) (exchange_of m after) → length stubs ≡ length e.stubs → ((j : ℕ) (stub : Stub) → slice_get stubs j ≡ Some stub → IsPassing s b j stub) → IsValidExchange s after
    kept sound many passing_all = record { sound = sound; many = many ∙ is.many; lists = is.lists; order = is.order; owners = is.owners; stubs = λ j stub h. each j stub h (slice_get e.stubs j) refl }
      where
        each : (j : ℕ) (stub : Stub) → slice_get stubs j ≡ Some stub → (o : Option Stub) → slice_get e.stubs j ≡ o → IsStub s b j stub
        each j stub h None there = let none : Some stub ≡ None = sym h ∙ passed j ∙ ap (option_map (passing s b j)) there in cc
        each j stub h (Some old) there =
            let one : Some stub ≡ Some (passing s b j old) = sym h ∙ passed j ∙ ap (option_map (passing s b j)) there in
            let same : passing s b j old ≡ stub = cc in
            let was = is.stubs j old there in
            let p = passing_all j stub h in
            subst (IsStub s b j) same
            (record { inbox = was.inbox; order = was.order; apart = was.apart; copied = was.copied; passed = refl; ahead = refl; small = (subst (IsPassing s b j) (sym same) p).small; few = (subst (IsPassing s b j) (sym same) p).few })

  -- the counted turns are below the new bound
  pub passing_before : ((i n : ℕ) → n < (point m (rank_of_bound e.bound)).next i → turn_rank s i n < rank_of_bound e.bound) → (j : ℕ) (stub : Stub) → slice_get e.stubs j ≡ Some stub → IsPassing s b j stub
  passing_before before j stub h =
      let was = is.stubs j stub h in
      record {
        ahead = was.ahead;
        small = was.small;
        few = was.few;
        before = λ n less. let l = before j n (subst (λ k. n < k) was.passed less) in let low_bound = not_lower in omega (arith, l, low_bound);
      }
