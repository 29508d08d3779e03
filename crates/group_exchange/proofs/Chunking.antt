-- A chunk is the reference's next turns.
use Rattle.std.proofs.Common.{◌≡◌, ℕ, zero, suc, ◌+◌, ◌*◌, ◌<◌, ◌≤◌, ◌^◌, ◌++◌, ◌⊎◌, inl, inr, Some, List, [], ◌∷◌, map, length, ap, sym, subst, ◌∙◌, arith}
use Rattle.std.specs.Prelude.{slice_get, slice_index_or}
use Rattle.std.specs.List.{Contains}
use Rattle.std.proofs.lemmas.Bool.{cases_lt}
use Rattle.std.proofs.lemmas.List.{length-map, length-append}
use Rattle.std.proofs.lemmas.Option.{slice_get_within}
use Rattle.terms.specs.Datum.{Datum}
use Rattle.terms.specs.Named.{Named}
use Rattle.event_keys.specs.declared.key.Bound.{Bound}
use Rattle.event_keys.specs.declared.key.Bound.TheVariants.{End}
use Rattle.event_keys.specs.Ranks.{rank_of_bound}
use Rattle.virtual_time.specs.Machine.{Machine, HasCount}
use Rattle.virtual_time.specs.Reference.{Falls, Point, point, reference_below, turns_of as taken_of}
use Rattle.virtual_time.specs.Groups.Stubs.{IsSound}
use Rattle.virtual_time.specs.Groups.Meetings.{IsChunk}
use Rattle.gvt.specs.Least.{IsLeast}
use Rattle.task_seed.specs.Turning.{System}
use Rattle.task_seed.specs.Machines.{machine, end_rank, turn_rank}
use Rattle.group_exchange.specs.declared.stub.Stub.{Stub}
use Rattle.group_exchange.specs.ExchangeView.{ExchangeView, IsValidExchange, exchange_of, group_at, stub_or_none}
use Rattle.group_exchange.specs.Chunks.{base_of, first_from}
use Rattle.group_exchange.specs.Held.{put_all, all_below, all_from}
use Rattle.group_exchange.proofs.Raising.{end_is}
use Rattle.group_exchange.proofs.Lists.{all_left, all_taken, order_left, taken_falls}
use Rattle.group_exchange.proofs.Filled.{member_of}
use Rattle.group_exchange.proofs.Accepting.{group_below}
use Rattle.group_exchange.proofs.Owned.{owned_left}
use Rattle.group_exchange.proofs.Placing.{get_there}

based_at : (xs : List Stub) (j : ℕ) (stub : Stub) (d : Bound) → slice_get xs j ≡ Some stub → slice_index_or (map base_of xs) j d ≡ stub.base
based_at [] j stub d e = cc
based_at (x ∷ xs) zero stub d e = let same : x ≡ stub = cc in ap base_of same
based_at (x ∷ xs) (suc j) stub d e = based_at xs j stub d e

taken_few : {S : Type 0} (p : Point S) (n : ℕ) → ((j : ℕ) → j < n → p.next j ≤ 4294967296) → taken_of p n ≤ n * 4294967296
taken_few p zero h = omega arith
taken_few p (suc n) h = let one = h n (omega arith) in let rest = taken_few p n (λ j l. h j (omega (arith, l))) in omega (arith, one, rest)

module _ {P : Type 0} (s : System) (e : ExchangeView P) (is : IsValidExchange s e) (bound : Bound) (least : IsLeast (map base_of e.stubs) bound) (end : rank_of_bound bound ≤ end_rank) where
  abbrev m : Machine (List Datum) Named
  m = machine s

  abbrev b : ℕ
  b = rank_of_bound bound

  abbrev pub after : ExchangeView P
  after = record e { held = all_from b e.held; given = e.given + length (put_all (all_below b e.held)) }

  low_stub : (j : ℕ) (stub : Stub) → slice_get e.stubs j ≡ Some stub → b ≤ rank_of_bound stub.base
  low_stub j stub h =
      let there = slice_get_within e.stubs j stub h in
      subst (λ c. b ≤ rank_of_bound c) (based_at e.stubs j stub bound h) (least.below j bound (let n = length-map e.stubs base_of in omega (arith, there, n)))

  base_there : (g : ℕ) (stub : Stub) → slice_get e.stubs g ≡ Some stub → (stub_or_none m (slice_get e.stubs g)).base ≡ rank_of_bound stub.base
  base_there g stub h = ap (λ o. (stub_or_none m o).base) h

  stub_of_group : (j : ℕ) → j < length s.composition → (stub : Stub) × (slice_get e.stubs (group_at e.groups j) ≡ Some stub)
  stub_of_group j h = let every = is.partition.every in get_there e.stubs (group_at e.groups j) (group_below (length e.stubs) e.groups is.partition.below j (omega (arith, h, every)))

  low : (j : ℕ) → j < length s.composition → b ≤ (stub_or_none m (slice_get e.stubs (group_at e.groups j))).base
  low j h = let found = stub_of_group j h in subst (λ n. b ≤ n) (sym (base_there (group_at e.groups j) found.0 found.1)) (low_stub (group_at e.groups j) found.0 found.1)

  most : (c : ℕ) → c ≤ end_rank → ((j : ℕ) → j < length s.composition → c ≤ (stub_or_none m (slice_get e.stubs (group_at e.groups j))).base) → c ≤ b
  most c top h = go least.reached
    where
      go : Contains (map base_of e.stubs) bound ⊎ (bound ≡ End) → c ≤ b
      go (inr at_end) = subst (λ x. c ≤ rank_of_bound x) (sym at_end) (subst (λ n. c ≤ n) end_is top)
      go (inl among) =
          let n = length-map e.stubs base_of in
          let inside = among.1 in
          let short : among.0 < length e.stubs = omega (arith, inside, n) in
          let found = get_there e.stubs among.0 short in
          let member = member_of e.groups among.0 (is.partition.filled among.0 short) in
          let every = is.partition.every in
          let few = member.1 in
          let here : c ≤ rank_of_bound found.0.base = subst (λ k. c ≤ k) (ap (λ k. (stub_or_none m (slice_get e.stubs k)).base) member.2 ∙ base_there among.0 found.0 found.1) (h member.0 (omega (arith, few, every))) in
          subst (λ x. c ≤ rank_of_bound x) (sym (based_at e.stubs among.0 found.0 bound found.1) ∙ among.2) here

  pub chunk : IsChunk m (group_at e.groups) (length s.composition) (exchange_of m e) b (exchange_of m after) (put_all (all_below b e.held))
  chunk =
      record {
        end = end;
        low = low;
        most = most;
        turns = sym (all_taken b e.held is.order);
        rest = λ v. record {
          stub = (exchange_of m e).stub;
          plus = (exchange_of m e).plus;
          minus = (exchange_of m e).minus;
          bound = (exchange_of m e).bound;
          held = sym (all_left b e.held is.order) v;
          given = e.given + length (put_all (all_below b e.held));
        };
      }

  pub taken_in_order : Falls (put_all (all_below b e.held))
  taken_in_order = taken_falls b e.held is.order is.sound.held.1.falls

  pub kept : IsSound m (group_at e.groups) (length s.composition) (exchange_of m after) → IsValidExchange s after
  kept sound = record { sound = sound; partition = is.partition; few = is.few; stubs = is.stubs; many = is.many; passages = is.passages; lists = length-map e.held (first_from b) ∙ is.lists; order = order_left b e.held is.order; owners = owned_left b 0 e.held is.owners }

  -- what was given, with the chunk, has a number that fits
  pub few : HasCount m (length s.composition) → length s.composition < 65536
      → ((i n : ℕ) → n < (point m b).next i → turn_rank s i n < b) → ((i n : ℕ) → (point m (rank_of_bound e.bound)).next i ≤ n → rank_of_bound e.bound ≤ turn_rank s i n)
      → length (reference_below m b) ≡ taken_of (point m b) (length s.composition)
      → (g : ℕ) → e.given ≡ length (reference_below m g) → reference_below m b ≡ put_all (all_below b e.held) ++ reference_below m g
      → e.given + length (put_all (all_below b e.held)) < 2 ^ 64
  few counted short before from sum g was next =
      let all = ap length next ∙ length-append (put_all (all_below b e.held)) (reference_below m g) in
      let most_turns = taken_few (point m b) (length s.composition) each in
      omega (arith, all, was, sum, most_turns, short)
    where
      each : (j : ℕ) → j < length s.composition → (point m b).next j ≤ 4294967296
      each j h =
          let many = is.many in
          let passage = get_there e.passages j (omega (arith, h, many)) in
          let counted_turns = is.passages j passage.0 passage.1 in
          let few_turns = counted_turns.few in
          let passed = counted_turns.passed in
          let base : (stub_or_none m (slice_get e.stubs (group_at e.groups j))).base ≤ rank_of_bound e.bound = is.sound.base (group_at e.groups j) in
          let start = low j h in
          go (cases_lt ((point m (rank_of_bound e.bound)).next j) ((point m b).next j)) few_turns passed (omega (arith, base, start))
        where
          go : ((point m (rank_of_bound e.bound)).next j < (point m b).next j) ⊎ ((point m b).next j ≤ (point m (rank_of_bound e.bound)).next j) → {n : ℕ} → n ≤ 4294967296 → n ≡ (point m (rank_of_bound e.bound)).next j → b ≤ rank_of_bound e.bound → (point m b).next j ≤ 4294967296
          go (inl more) l is_n under =
              let a = before j ((point m (rank_of_bound e.bound)).next j) more in
              let c = from j ((point m (rank_of_bound e.bound)).next j) (omega arith) in
              absurd (omega (arith, a, c, under))
          go (inr no_more) l is_n under = omega (arith, no_more, l, is_n)
