-- A commit raises the bound to where nothing can come any more.
use Rattle.std.proofs.Common.{◌≡◌, ℕ, zero, suc, ◌<◌, ◌≤◌, ◌^◌, ◌⊎◌, inl, inr, Bool, true, false, Option, None, Some, List, [], ◌∷◌, map, length, refl, ap, sym, subst, ◌∙◌, arith}
use Rattle.std.specs.Prelude.{if◌then◌else◌, nat_lt, slice_get, slice_index_or, option_map}
use Rattle.std.specs.List.{Contains}
use Rattle.std.proofs.lemmas.Bool.{cases_eq, ltb-true, ltb-false}
use Rattle.std.proofs.lemmas.List.{length-map}
use Rattle.std.proofs.lemmas.Option.{slice_get_within}
use Rattle.terms.specs.Datum.{Datum}
use Rattle.terms.specs.Named.{Named}
use Rattle.event_keys.specs.declared.key.Bound.{Bound}
use Rattle.event_keys.specs.declared.key.Bound.TheVariants.{End}
use Rattle.event_keys.specs.declared.message.Sign.{Sign}
use Rattle.event_keys.specs.declared.message.Sign.TheVariants.{Plus, Minus}
use Rattle.event_keys.specs.Ranks.{rank_of_bound}
use Rattle.antimessage.specs.Bags.{least_of}
use Rattle.virtual_time.specs.Bags.{AllFrom}
use Rattle.virtual_time.specs.Machine.{Machine}
use Rattle.virtual_time.specs.Reference.{point}
use Rattle.virtual_time.specs.Groups.Stubs.{Stub as StubSeen, IsSound}
use Rattle.virtual_time.specs.Groups.Meetings.{IsClear, IsCommit}
use Rattle.virtual_time.proofs.Lists.{AllFrom-weaken}
use Rattle.rollback.specs.Flight.{in_flight}
use Rattle.rollback.specs.Laws.{LeastIsGreatest, NoneIsBelowLeast}
use Rattle.gvt.specs.Least.{IsLeast}
use Rattle.task_seed.specs.Turning.{System}
use Rattle.task_seed.specs.Machines.{machine, turn_rank, end_rank}
use Rattle.group_exchange.specs.declared.passage.Passage.{Passage}
use Rattle.group_exchange.specs.declared.stub.Stub.{Stub}
use Rattle.group_exchange.specs.ExchangeView.{ExchangeView, IsValidExchange, IsPassage, IsPassing, clear_until, earlier, exchange_of, group_at, inbox_in, inbox_of, passing, stub_of, stub_or_none}
use Rattle.group_exchange.proofs.Receiving.{none_else}

pub end_is : end_rank ≡ 2 ^ 144
unfolding end_rank
end_is = refl

earlier_first : (a b : Bound) → rank_of_bound (earlier a b) ≤ rank_of_bound a
earlier_first a b = go (nat_lt (rank_of_bound a) (rank_of_bound b)) refl
  where
    go : (t : Bool) → nat_lt (rank_of_bound a) (rank_of_bound b) ≡ t → rank_of_bound (if t then a else b) ≤ rank_of_bound a
    go true h = omega arith
    go false h = ltb-false (rank_of_bound a) (rank_of_bound b) h

earlier_second : (a b : Bound) → rank_of_bound (earlier a b) ≤ rank_of_bound b
earlier_second a b = go (nat_lt (rank_of_bound a) (rank_of_bound b)) refl
  where
    go : (t : Bool) → nat_lt (rank_of_bound a) (rank_of_bound b) ≡ t → rank_of_bound (if t then a else b) ≤ rank_of_bound b
    go true h = let l = ltb-true (rank_of_bound a) (rank_of_bound b) h in omega (arith, l)
    go false h = omega arith

earlier_both : (d : ℕ) (a b : Bound) → d ≤ rank_of_bound a → d ≤ rank_of_bound b → d ≤ rank_of_bound (earlier a b)
earlier_both d a b p q = go (nat_lt (rank_of_bound a) (rank_of_bound b))
  where
    go : (t : Bool) → d ≤ rank_of_bound (if t then a else b)
    go true = p
    go false = q

mapped_at : (xs : List Stub) (j : ℕ) (stub : Stub) (d : Bound) → slice_get xs j ≡ Some stub → slice_index_or (map clear_until xs) j d ≡ clear_until stub
mapped_at [] j stub d e = cc
mapped_at (x ∷ xs) zero stub d e = let same : x ≡ stub = cc in ap clear_until same
mapped_at (x ∷ xs) (suc j) stub d e = mapped_at xs j stub d e

mapped_from : (xs : List Stub) (j : ℕ) (d : Bound) → j < length (map clear_until xs) → (stub : Stub) × (slice_get xs j ≡ Some stub) × (slice_index_or (map clear_until xs) j d ≡ clear_until stub)
mapped_from [] j d h = absurd (omega (arith, h))
mapped_from (x ∷ xs) zero d h = (x, refl, refl)
mapped_from (x ∷ xs) (suc j) d h = mapped_from xs j d (omega (arith, h))

module _ {P : Type 0} (s : System) (e : ExchangeView P) (is : IsValidExchange s e) (bound : Bound) (least : IsLeast (map clear_until e.stubs) bound) (end : rank_of_bound bound ≤ end_rank) (low_law : NoneIsBelowLeast) (most_law : LeastIsGreatest) where
  abbrev m : Machine (List Datum) Named
  m = machine s

  abbrev b : ℕ
  b = rank_of_bound bound

  low : (g : ℕ) (stub : Stub) → slice_get e.stubs g ≡ Some stub → rank_of_bound bound ≤ rank_of_bound (clear_until stub)
  low g stub h =
      let there = slice_get_within e.stubs g stub h in
      let short : g < length (map clear_until e.stubs) = omega (arith, there, length-map e.stubs clear_until) in
      subst (λ c. rank_of_bound bound ≤ rank_of_bound c) (mapped_at e.stubs g stub bound h) (least.below g bound short)

  clear_floor : (g : ℕ) (o : Option Stub) → slice_get e.stubs g ≡ o → rank_of_bound bound ≤ (stub_or_none (machine s) o).floor
  clear_floor g None h = end
  clear_floor g (Some stub) h =
      let l = low g stub h in
      let first = earlier_first stub.floor (least_of stub.inbox) in
      omega (arith, l, first)

  clear_inbox : (sign : Sign) (j g : ℕ) (o : Option Stub) → slice_get e.stubs g ≡ o → AllFrom (rank_of_bound bound) (in_flight sign j (inbox_of o))
  clear_inbox sign j g None h = tt
  clear_inbox sign j g (Some stub) h =
      let l = low g stub h in
      let second = earlier_second stub.floor (least_of stub.inbox) in
      AllFrom-weaken (rank_of_bound bound) (rank_of_bound (least_of stub.inbox)) (in_flight sign j stub.inbox) (omega (arith, l, second)) (low_law sign j stub.inbox (is.stubs g stub h).order)

  clear : IsClear (machine s) (exchange_of (machine s) e) (rank_of_bound bound)
  clear = record {
    end = end;
    floor = λ g. clear_floor g (slice_get e.stubs g) refl;
    plus = λ j. clear_inbox Plus j (group_at e.groups j) (slice_get e.stubs (group_at e.groups j)) refl;
    minus = λ j. clear_inbox Minus j (group_at e.groups j) (slice_get e.stubs (group_at e.groups j)) refl;
  }

  most : (d : ℕ) → IsClear (machine s) (exchange_of (machine s) e) d → d ≤ rank_of_bound bound
  most d h = go least.reached
    where
      in_inbox : (g : ℕ) (stub : Stub) → slice_get e.stubs g ≡ Some stub → (sign : Sign) (j : ℕ) → AllFrom d (in_flight sign j stub.inbox)
      in_inbox g stub there sign j = by (cases_eq (group_at e.groups j) g)
        where
          flies : (sign : Sign) → AllFrom d (in_flight sign j (inbox_in (group_at e.groups) e.stubs j))
          flies Plus = h.plus j
          flies Minus = h.minus j

          by : (group_at e.groups j ≡ g) ⊎ (group_at e.groups j ≡ g → ⊥) → AllFrom d (in_flight sign j stub.inbox)
          by (inl own) =
              let same : inbox_in (group_at e.groups) e.stubs j ≡ stub.inbox = ap (λ n. inbox_of (slice_get e.stubs n)) own ∙ ap inbox_of there in
              subst (λ xs. AllFrom d (in_flight sign j xs)) same (flies sign)
          by (inr ne) = subst (AllFrom d) (sym (none_else (group_at e.groups) g sign j stub.inbox ne (is.stubs g stub there).inbox)) tt

      at_stub : (g : ℕ) (stub : Stub) → slice_get e.stubs g ≡ Some stub → bound ≡ clear_until stub → d ≤ rank_of_bound bound
      at_stub g stub there is_bound =
          let seen : stub_or_none (machine s) (slice_get e.stubs g) ≡ stub_of (machine s) stub = ap (stub_or_none (machine s)) there in
          let floor : d ≤ rank_of_bound stub.floor = subst (λ (x : StubSeen Named). d ≤ x.floor) seen (h.floor g) in
          subst (λ c. d ≤ rank_of_bound c) (sym is_bound) (earlier_both d stub.floor (least_of stub.inbox) floor (most_law d stub.inbox h.end (in_inbox g stub there)))

      go : Contains (map clear_until e.stubs) bound ⊎ (bound ≡ End) → d ≤ rank_of_bound bound
      go (inr at_end) = subst (λ c. d ≤ rank_of_bound c) (sym at_end) (subst (λ n. d ≤ n) end_is h.end)
      go (inl among) =
          let found = mapped_from e.stubs among.0 bound among.1 in
          at_stub among.0 found.0 found.1 (sym among.2 ∙ found.2)

  -- the bound is not lowered
  pub not_lower : rank_of_bound e.bound ≤ rank_of_bound bound
  not_lower = most (rank_of_bound e.bound) (record { end = is.sound.end; floor = is.sound.floor; plus = is.sound.plus; minus = is.sound.minus })

  module _ (passages : List Passage) (passed : (j : ℕ) → slice_get passages j ≡ option_map (passing s (rank_of_bound bound) j) (slice_get e.passages j)) where
    abbrev pub after : ExchangeView P
    after = record e { bound = bound; passages = passages }

    pub committed : IsCommit (machine s) (exchange_of (machine s) e) (exchange_of (machine s) after)
    committed = record { clear = clear; most = most; rest = refl }

    pub kept : IsSound (machine s) (group_at e.groups) (length s.composition) (exchange_of (machine s) after) → length passages ≡ length e.passages → ((j : ℕ) (p : Passage) → slice_get passages j ≡ Some p → IsPassing s (rank_of_bound bound) j p) → IsValidExchange s after
    kept sound many passing_all = record {
      sound = sound;
      partition = is.partition;
      few = is.few;
      stubs = is.stubs;
      many = many ∙ is.many;
      passages = λ j p h. each j p h (slice_get e.passages j) refl;
      lists = is.lists;
      order = is.order;
      owners = is.owners;
    }
      where
        each : (j : ℕ) (p : Passage) → slice_get passages j ≡ Some p → (o : Option Passage) → slice_get e.passages j ≡ o → IsPassage s (rank_of_bound bound) j p
        each j p h None there = let none : Some p ≡ None = sym h ∙ passed j ∙ ap (option_map (passing s (rank_of_bound bound) j)) there in cc
        each j p h (Some old) there =
            let one : Some p ≡ Some (passing s (rank_of_bound bound) j old) = sym h ∙ passed j ∙ ap (option_map (passing s (rank_of_bound bound) j)) there in
            let same : passing s (rank_of_bound bound) j old ≡ p = cc in
            let all = passing_all j p h in
            subst (IsPassage s (rank_of_bound bound) j) same
            (record { passed = refl; ahead = refl; small = (subst (IsPassing s (rank_of_bound bound) j) (sym same) all).small; few = (subst (IsPassing s (rank_of_bound bound) j) (sym same) all).few })

  -- the counted turns are below the new bound
  pub passing_before : ((i n : ℕ) → n < (point (machine s) (rank_of_bound e.bound)).next i → turn_rank s i n < rank_of_bound e.bound) → (j : ℕ) (p : Passage) → slice_get e.passages j ≡ Some p → IsPassing s (rank_of_bound bound) j p
  passing_before before j p h =
      let was = is.passages j p h in
      record {
        ahead = was.ahead;
        small = was.small;
        few = was.few;
        before = λ n less. let l = before j n (subst (λ k. n < k) was.passed less) in let low_bound = not_lower in omega (arith, l, low_bound);
      }
