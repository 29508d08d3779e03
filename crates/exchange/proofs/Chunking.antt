-- A chunk is the reference's next turns.
use Rattle.std.proofs.Common.{◌≡◌, ℕ, zero, suc, ◌+◌, ◌*◌, ◌<◌, ◌≤◌, ◌^◌, ◌++◌, ◌⊎◌, inl, inr, Some, List, [], ◌∷◌, map, length, refl, ap, sym, subst, ◌∙◌, arith}
use Rattle.std.specs.Prelude.{slice_get, slice_index_or}
use Rattle.std.specs.List.{Contains}
use Rattle.std.proofs.lemmas.Bool.{cases_lt}
use Rattle.std.proofs.lemmas.List.{length-map, length-append}
use Rattle.std.proofs.lemmas.Option.{slice_get_within}
use Rattle.terms.specs.Datum.{Datum}
use Rattle.terms.specs.Named.{Named}
use Rattle.event_keys.specs.declared.key.Bound.{Bound}
use Rattle.event_keys.specs.declared.key.Bound.TheVariants.{End}
use Rattle.event_keys.specs.Ranks.{rank_of_bound}
use Rattle.virtual_time.specs.Machine.{Machine, HasCount}
use Rattle.virtual_time.specs.Reference.{Falls, Point, point, reference_below, turns_of as taken_of}
use Rattle.virtual_time.specs.Exchange.Stubs.{Stub as StubSeen, IsSound}
use Rattle.virtual_time.specs.Exchange.Meetings.{IsChunk}
use Rattle.gvt.specs.Least.{IsLeast}
use Rattle.task_seed.specs.Turning.{System}
use Rattle.task_seed.specs.Machines.{machine, end_rank, turn_rank}
use Rattle.exchange.specs.declared.stub.Stub.{Stub}
use Rattle.exchange.specs.ExchangeView.{ExchangeView, IsValidExchange, stub_or_start, exchange_of}
use Rattle.exchange.specs.Chunks.{base_of, first_from}
use Rattle.exchange.specs.Held.{put_all, all_below, all_from}
use Rattle.exchange.proofs.Committing.{end_is}
use Rattle.exchange.proofs.Lists.{all_left, all_taken, order_left, taken_falls}
use Rattle.exchange.proofs.Owned.{owned_left}

based_at : (xs : List Stub) (j : ℕ) (stub : Stub) (d : Bound) → slice_get xs j ≡ Some stub → slice_index_or (map base_of xs) j d ≡ stub.base
based_at [] j stub d e = cc
based_at (x ∷ xs) zero stub d e = let same : x ≡ stub = cc in ap base_of same
based_at (x ∷ xs) (suc j) stub d e = based_at xs j stub d e

stub_there : (xs : List Stub) (j : ℕ) → j < length xs → (stub : Stub) × (slice_get xs j ≡ Some stub)
stub_there [] j h = absurd (omega (arith, h))
stub_there (x ∷ xs) zero h = (x, refl)
stub_there (x ∷ xs) (suc j) h = stub_there xs j (omega (arith, h))

taken_few : {S : Type 0} (p : Point S) (n : ℕ) → ((j : ℕ) → j < n → p.next j ≤ 4294967296) → taken_of p n ≤ n * 4294967296
taken_few p zero h = omega arith
taken_few p (suc n) h = let one = h n (omega arith) in let rest = taken_few p n (λ j l. h j (omega (arith, l))) in omega (arith, one, rest)

module _ {P : Type 0} (s : System) (e : ExchangeView P) (is : IsValidExchange s e) (bound : Bound) (least : IsLeast (map base_of e.stubs) bound) (end : rank_of_bound bound ≤ end_rank) where
  abbrev m : Machine (List Datum) Named
  m = machine s

  abbrev b : ℕ
  b = rank_of_bound bound

  abbrev pub after : ExchangeView P
  after = record e { held = all_from b e.held; given = e.given + length (put_all (all_below b e.held)) }

  low_stub : (j : ℕ) (stub : Stub) → slice_get e.stubs j ≡ Some stub → b ≤ rank_of_bound stub.base
  low_stub j stub h =
      let there = slice_get_within e.stubs j stub h in
      subst (λ c. b ≤ rank_of_bound c) (based_at e.stubs j stub bound h) (least.below j bound (let n = length-map e.stubs base_of in omega (arith, there, n)))

  low : (j : ℕ) → j < length s.composition → b ≤ (stub_or_start m j (slice_get e.stubs j)).base
  low j h =
      let many = is.many in
      let found = stub_there e.stubs j (omega (arith, h, many)) in
      subst (λ (x : StubSeen Named). b ≤ x.base) (ap (stub_or_start m j) (sym found.1)) (low_stub j found.0 found.1)

  most : (c : ℕ) → c ≤ end_rank → ((j : ℕ) → j < length s.composition → c ≤ (stub_or_start m j (slice_get e.stubs j)).base) → c ≤ b
  most c top h = go least.reached
    where
      go : Contains (map base_of e.stubs) bound ⊎ (bound ≡ End) → c ≤ b
      go (inr at_end) = subst (λ x. c ≤ rank_of_bound x) (sym at_end) (subst (λ n. c ≤ n) end_is top)
      go (inl among) =
          let n = length-map e.stubs base_of in
          let inside = among.1 in
          let many = is.many in
          let found = stub_there e.stubs among.0 (omega (arith, inside, n)) in
          let here : c ≤ rank_of_bound found.0.base = subst (λ (x : StubSeen Named). c ≤ x.base) (ap (stub_or_start m among.0) found.1) (h among.0 (omega (arith, inside, n, many))) in
          subst (λ x. c ≤ rank_of_bound x) (sym (based_at e.stubs among.0 found.0 bound found.1) ∙ among.2) here

  pub chunk : IsChunk m (length s.composition) (exchange_of m e) b (exchange_of m after) (put_all (all_below b e.held))
  chunk =
      record {
        end = end;
        low = low;
        most = most;
        turns = sym (all_taken b e.held is.order);
        rest = λ v. record {
          stub = (exchange_of m e).stub;
          bound = (exchange_of m e).bound;
          held = sym (all_left b e.held is.order) v;
          given = e.given + length (put_all (all_below b e.held));
        };
      }

  pub taken_in_order : Falls (put_all (all_below b e.held))
  taken_in_order = taken_falls b e.held is.order is.sound.held.1.falls

  pub kept : IsSound m (length s.composition) (exchange_of m after) → IsValidExchange s after
  kept sound = record { sound = sound; many = is.many; lists = length-map e.held (first_from b) ∙ is.lists; order = order_left b e.held is.order; owners = owned_left b 0 e.held is.owners; stubs = is.stubs }

  -- what was given, with the chunk, has a number that fits
  pub few : HasCount m (length s.composition) → length s.composition < 65536
      → ((i n : ℕ) → n < (point m b).next i → turn_rank s i n < b) → ((i n : ℕ) → (point m (rank_of_bound e.bound)).next i ≤ n → rank_of_bound e.bound ≤ turn_rank s i n)
      → length (reference_below m b) ≡ taken_of (point m b) (length s.composition)
      → (g : ℕ) → e.given ≡ length (reference_below m g) → reference_below m b ≡ put_all (all_below b e.held) ++ reference_below m g
      → e.given + length (put_all (all_below b e.held)) < 2 ^ 64
  few counted short before from sum g was next =
      let all = ap length next ∙ length-append (put_all (all_below b e.held)) (reference_below m g) in
      let most_turns = taken_few (point m b) (length s.composition) each in
      omega (arith, all, was, sum, most_turns, short)
    where
      each : (j : ℕ) → j < length s.composition → (point m b).next j ≤ 4294967296
      each j h =
          let many = is.many in
          let found = stub_there e.stubs j (omega (arith, h, many)) in
          let stub = is.stubs j found.0 found.1 in
          let few_turns = stub.few in
          let passed = stub.passed in
          let base : rank_of_bound found.0.base ≤ rank_of_bound e.bound = subst (λ (x : StubSeen Named). x.base ≤ rank_of_bound e.bound) (ap (stub_or_start m j) found.1) (is.sound.base j) in
          let start = low_stub j found.0 found.1 in
          go (cases_lt ((point m (rank_of_bound e.bound)).next j) ((point m b).next j)) few_turns passed (omega (arith, base, start))
        where
          go : ((point m (rank_of_bound e.bound)).next j < (point m b).next j) ⊎ ((point m b).next j ≤ (point m (rank_of_bound e.bound)).next j) → {n : ℕ} → n ≤ 4294967296 → n ≡ (point m (rank_of_bound e.bound)).next j → b ≤ rank_of_bound e.bound → (point m b).next j ≤ 4294967296
          go (inl more) l is_n under =
              let a = before j ((point m (rank_of_bound e.bound)).next j) more in
              let c = from j ((point m (rank_of_bound e.bound)).next j) (omega arith) in
              absurd (omega (arith, a, c, under))
          go (inr no_more) l is_n under = omega (arith, no_more, l, is_n)
