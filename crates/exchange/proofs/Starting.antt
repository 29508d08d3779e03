-- At the start all is sound, and each lease matches its stub.
use Rattle.std.proofs.Common.{◌≡◌, ℕ, zero, suc, ◌+◌, ◌<◌, ◌≤◌, ◌⊎◌, inl, inr, Option, None, Some, List, [], ◌∷◌, map, length, refl, ap, sym, subst, ◌∙◌, arith}
use Rattle.std.specs.Prelude.{replicate, slice_get, IfSome}
use Rattle.std.specs.List.{range_with_len}
use Rattle.std.proofs.lemmas.List.{length-replicate}
use Rattle.std.proofs.lemmas.List.FromFn.{length-map-range_with_len}
use Rattle.event_keys.specs.declared.key.Key.{Key}
use Rattle.event_keys.specs.Ranks.{rank_of_bound}
use Rattle.antimessage.specs.Counts.{Each}
use Rattle.event_keys.specs.declared.message.Sign.TheVariants.{Plus, Minus}
use Rattle.rollback.specs.declared.copied.Copies.{Copies}
use Rattle.rollback.specs.Flight.{in_flight}
use Rattle.virtual_time.specs.Exchange.Stubs.{IsSound, start_stub as start_seen, start_exchange}
use Rattle.virtual_time.specs.Machine.{Machine}
use Rattle.virtual_time.specs.Rules.{IsWorld}
use Rattle.virtual_time.specs.Worlds.{start_world}
use Rattle.virtual_time.specs.Exchange.Leases.{IsLease, Matches, start_lease}
use Rattle.virtual_time.specs.Exchange.Wholes.{IsWholeWorld}
use Rattle.terms.specs.Datum.{Datum}
use Rattle.terms.specs.Named.{Named}
use Rattle.plans.specs.Plans.{composition}
use Rattle.rollback.specs.ComponentView.{lowest_bound, machine_of}
use Rattle.task_seed.specs.declared.setup.Setup.{Setup}
use Rattle.task_seed.specs.declared.turns.Turn.{Turn}
use Rattle.task_seed.specs.Setups.{plan_of, system}
use Rattle.task_seed.specs.Turning.{System, key_of}
use Rattle.task_seed.specs.Machines.{machine, turn_rank}
use Rattle.exchange.specs.declared.stub.Stub.{Stub}
use Rattle.exchange.specs.declared.window.Window.{Window}
use Rattle.exchange.specs.LeaseView.{LeaseView, IsValidLease, lease_of}
use Rattle.exchange.specs.ExchangeView.{ExchangeView, IsValidExchange, IsStub, stub_of, stub_or_start, exchange_of}
use Rattle.exchange.specs.Core.{StandFor}
use Rattle.exchange.specs.Held.{put_all, AreInOrder, AreOwned}
use Rattle.exchange.specs.Start.{bound_at, number_of, first_bound, lease_or_start, leases_of, start_shared_within, start_stub, start_within}
use Rattle.exchange.proofs.Committing.{end_is}
use Rattle.exchange.proofs.Owned.{none_owned}
use Rattle.exchange.proofs.Passing.{number_is, rank_some, rank_none}

-- what is made for the numbers from a to a + n - 1
made_at : {X : Type 0} (f : ℕ → X) (a n j : ℕ) (o : Option X) → slice_get (map f (range_with_len a n)) j ≡ o → ((x : X) × (o ≡ Some x) × (j < n) × (x ≡ f (a + j))) ⊎ ((o ≡ None) × (n ≤ j))
made_at f a zero j o e = inr (sym e, omega arith)
made_at f a (suc n) zero o e = inl (f a, sym e, omega arith, ap f (omega arith))
made_at {X} f a (suc n) (suc j) o e = go (made_at f (a + 1) n j o e)
  where
    go : ((x : X) × (o ≡ Some x) × (j < n) × (x ≡ f (a + 1 + j))) ⊎ ((o ≡ None) × (n ≤ j)) → ((x : X) × (o ≡ Some x) × (suc j < suc n) × (x ≡ f (a + suc j))) ⊎ ((o ≡ None) × (suc n ≤ suc j))
    go (inl h) = let l = h.2 in inl (h.0, h.1, omega (arith, l), h.3 ∙ ap f (omega arith))
    go (inr h) = let l = h.1 in inr (h.0, omega (arith, l))

-- nothing is held
none_held : (n : ℕ) → put_all (replicate n []) ≡ []
none_held zero = refl
none_held (suc n) = none_held n

none_order : (n : ℕ) → AreInOrder (replicate n [])
none_order zero = tt
none_order (suc n) = (tt, none_order n)

module _ (s : System) where
  floor_is : (i : ℕ) → i < length s.composition → rank_of_bound (first_bound s i) ≡ turn_rank s i 0
  floor_is i there = go (key_of s i 0) refl
    where
      go : (o : Option Key) → key_of s i 0 ≡ o → rank_of_bound (bound_at o) ≡ turn_rank s i 0
      go None e = sym end_is ∙ sym (rank_none s i 0 (sym e))
      go (Some key) e = sym (rank_some s i 0 key there (sym e))

  stub_is : (i : ℕ) → i < length s.composition → stub_of (machine s) i (start_stub s i) ≡ start_seen (machine s) i
  stub_is i there = λ v. record { base = 0; floor = floor_is i there v; taken = λ k a. 0; standing = λ k a l. 0; plus = []; minus = [] }

  small : (i : ℕ) → IfSome (key_of s i 0) (λ key. key.number < 4294967296)
  small i = go (key_of s i 0) refl
    where
      go : (o : Option Key) → key_of s i 0 ≡ o → IfSome o (λ key. key.number < 4294967296)
      go None e = tt
      go (Some key) e = let zero_number = number_is s i 0 key (sym e) in omega (arith, zero_number)

  stub_kept : (i : ℕ) → IsStub s 0 i (start_stub s i)
  stub_kept i = record { inbox = tt; order = record { sorted = tt; fits = tt }; apart = λ k a. inl refl; copied = λ k a. refl; passed = refl; ahead = refl; small = small i; few = omega arith }

  module _ {P : Type 0} (e : ExchangeView P) (stubs : e.stubs ≡ map (start_stub s) (range_with_len 0 (length s.composition))) (bound : e.bound ≡ lowest_bound) (held : e.held ≡ replicate (length s.composition) []) (given : e.given ≡ 0) where
    stub_at : (j : ℕ) → stub_or_start (machine s) j (slice_get e.stubs j) ≡ start_seen (machine s) j
    stub_at j = go (slice_get e.stubs j) (made_at (start_stub s) 0 (length s.composition) j (slice_get e.stubs j) (ap (λ l. slice_get l j) (sym stubs)))
      where
        go : (o : Option Stub) → ((stub : Stub) × (o ≡ Some stub) × (j < length s.composition) × (stub ≡ start_stub s (0 + j))) ⊎ ((o ≡ None) × (length s.composition ≤ j)) → stub_or_start (machine s) j o ≡ start_seen (machine s) j
        go o (inl h) = ap (stub_or_start (machine s) j) (h.1 ∙ ap (λ x. Some x) (h.3 ∙ ap (start_stub s) (omega arith))) ∙ stub_is j h.2
        go o (inr h) = ap (stub_or_start (machine s) j) h.0

    pub seen : exchange_of (machine s) e ≡ start_exchange (machine s)
    seen = λ v. record { stub = λ j. stub_at j v; bound = (ap rank_of_bound bound) v; held = (ap put_all held ∙ none_held (length s.composition)) v; given = given v }

    pub shared_kept : IsSound (machine s) (length s.composition) (start_exchange (machine s)) → IsValidExchange s e
    shared_kept sound =
        record {
          sound = subst (IsSound (machine s) (length s.composition)) (sym seen) sound;
          many = ap length stubs ∙ length-map-range_with_len (start_stub s) 0 (length s.composition);
          lists = ap length held ∙ length-replicate (length s.composition) [];
          order = subst AreInOrder (sym held) (none_order (length s.composition));
          owners = subst (AreOwned 0) (sym held) (none_owned 0 (length s.composition));
          stubs = λ j stub h. each j stub h (made_at (start_stub s) 0 (length s.composition) j (slice_get e.stubs j) (ap (λ l. slice_get l j) (sym stubs)));
        }
      where
        each : (j : ℕ) (stub : Stub) → slice_get e.stubs j ≡ Some stub
            → ((x : Stub) × (slice_get e.stubs j ≡ Some x) × (j < length s.composition) × (x ≡ start_stub s (0 + j))) ⊎ ((slice_get e.stubs j ≡ None) × (length s.composition ≤ j)) → IsStub s (rank_of_bound e.bound) j stub
        each j stub h (inl x) =
            let one : Some stub ≡ Some x.0 = sym h ∙ x.1 in
            let same : x.0 ≡ stub = cc in
            subst (λ b. IsStub s (rank_of_bound b) j stub) (sym bound) (subst (IsStub s 0 j) (sym (x.3 ∙ ap (start_stub s) (omega arith)) ∙ same) (stub_kept j))
        each j stub h (inr none) = let both : Some stub ≡ None = sym h ∙ none.0 in cc

  -- a lease at the start
  pub lease_seen : {P : Type 0} (h : LeaseView P) → h.component.number < length s.composition → h.component.base ≡ lowest_bound
      → h.component.history ≡ record { base = (machine s).start h.component.number; first = 0; done = []; pending = []; owed = [] } → h.tray ≡ [] → h.out ≡ [] → h.floor ≡ first_bound s h.component.number
      → lease_of h ≡ start_lease (machine s) h.component.number
  lease_seen h there base history tray out floor =
      let i = h.component.number in
      λ v. record {
        base = (ap rank_of_bound base) v;
        floor = (ap rank_of_bound floor ∙ floor_is i there) v;
        part = record {
          base = (ap (λ r. r.base) history) v;
          first = (ap (λ r. r.first) history) v;
          done = (ap (λ r. r.done) history) v;
          pending = (ap (λ r. r.pending) history) v;
          owed = (ap (λ r. r.owed) history) v;
          plus = (ap (in_flight Plus i) tray) v;
          minus = (ap (in_flight Minus i) tray) v;
        };
        out_plus = λ j. (ap (in_flight Plus j) out) v;
        out_minus = λ j. (ap (in_flight Minus j) out) v;
      }

  pub holding_kept : {P : Type 0} (h : LeaseView P) → h.component.number < length s.composition → h.component.base ≡ lowest_bound
      → h.component.history ≡ record { base = (machine s).start h.component.number; first = 0; done = []; pending = []; owed = [] } → h.tray ≡ [] → h.out ≡ [] → h.copies ≡ record { of_sender = []; of_receiver = [] } → h.floor ≡ first_bound s h.component.number
      → IsLease (machine s) h.component.number (start_lease (machine s) h.component.number) × Matches (machine s) h.component.number (start_seen (machine s) h.component.number) (start_lease (machine s) h.component.number)
      → IsValidLease (machine s) (length s.composition) h
  holding_kept h there base history tray out copies floor both =
      let i = h.component.number in
      let seen_lease = lease_seen h there base history tray out floor in
      record {
        lease = subst (IsLease (machine s) i) (sym seen_lease) both.0;
        stub = start_seen (machine s) i;
        match = subst (Matches (machine s) i (start_seen (machine s) i)) (sym seen_lease) both.1;
        arrived = subst (λ l. Each (λ y. y.message.to ≡ i) l) (sym tray) tt;
        of_sender = λ j. ap (λ (c : Copies). in_flight Plus j c.of_sender) copies ∙ sym (ap (in_flight Plus j) out);
        of_receiver = λ j. ap (λ (c : Copies). in_flight Plus j c.of_receiver) copies ∙ sym (ap (in_flight Plus j) out);
        inside = λ sign j past. ap (in_flight sign j) out;
      }

-- all leases at the start
module _ {T : Type 0} (turn_of : T → ℕ → ℕ → Option Turn) (setup : Setup T) (window : Option Window) where
  abbrev m : Machine (List Datum) Named
  m = machine_of turn_of setup

  lease_at : (j : ℕ) (o : Option (LeaseView (Setup T))) → ((h : LeaseView (Setup T)) × (o ≡ Some h) × (j < length (composition (plan_of setup))) × (h ≡ start_within turn_of setup window (0 + j))) ⊎ ((o ≡ None) × (length (composition (plan_of setup)) ≤ j)) → lease_or_start m j o ≡ start_lease m j
  lease_at j o (inl h) =
      ap (lease_or_start m j) (h.1 ∙ ap (λ x. Some x) (h.3 ∙ ap (start_within turn_of setup window) (omega arith))) ∙ lease_seen (system turn_of setup) (start_within turn_of setup window j) h.2 refl refl refl refl refl
  lease_at j o (inr h) = ap (lease_or_start m j) h.0

  leases_are : (hs : List (LeaseView (Setup T))) → hs ≡ map (start_within turn_of setup window) (range_with_len 0 (length (composition (plan_of setup)))) → leases_of m hs ≡ start_lease m
  leases_are hs e =
      λ v j. lease_at j (slice_get hs j) (made_at (start_within turn_of setup window) 0 (length (composition (plan_of setup))) j (slice_get hs j) (ap (λ l. slice_get l j) (sym e))) v

  pub stand_first : IsWorld m (start_world m) → ((i : ℕ) → IsLease m i (start_lease m i) × Matches m i (start_seen m i) (start_lease m i)) → IsWholeWorld m (start_exchange m) (start_lease m) (start_world m)
      → (e : ExchangeView (Setup T)) → e ≡ start_shared_within turn_of setup window → (hs : List (LeaseView (Setup T))) → hs ≡ map (start_within turn_of setup window) (range_with_len 0 (length (composition (plan_of setup))))
      → StandFor m (exchange_of m e) (leases_of m hs) (start_world m)
  stand_first world each whole e e_is hs hs_is =
      let there : exchange_of m e ≡ start_exchange m = seen (system turn_of setup) e (ap (λ (x : ExchangeView _). x.stubs) e_is) (ap (λ (x : ExchangeView _). x.bound) e_is) (ap (λ (x : ExchangeView _). x.held) e_is) (ap (λ (x : ExchangeView _). x.given) e_is) in
      subst (λ x. StandFor m x (leases_of m hs) (start_world m)) (sym there)
      (subst (λ ls. StandFor m (start_exchange m) ls (start_world m)) (sym (leases_are hs hs_is)) (record { proper = λ j. (each j).0; match = λ j. (each j).1; whole = whole; world = world }))

pub numbers_started : {T : Type 0} (turn_of : T → ℕ → ℕ → Option Turn) (setup : Setup T) (window : Option Window) (a n : ℕ) → map number_of (map (start_within turn_of setup window) (range_with_len a n)) ≡ range_with_len a n
numbers_started turn_of setup window a zero = refl
numbers_started turn_of setup window a (suc n) = ap (λ l. a ∷ l) (numbers_started turn_of setup window (a + 1) n)
