-- Lists of calls where each component is a group of its own.
use Rattle.std.proofs.Common.{◌≡◌, ℕ, zero, suc, min, ◌<◌, ◌≤◌, ◌==◌, ◌⊎◌, inl, inr, Bool, cond, List, [], ◌∷◌, refl, ap, sym, subst, ◌∙◌, arith}
use Rattle.std.proofs.lemmas.Bool.{eq-eqb, ne_eqb, cases_eq, cases_lt}
use Rattle.virtual_time.specs.Machine.{HasCount, Lawful, Machine}
use Rattle.virtual_time.specs.Worlds.{World, start_part}
use Rattle.virtual_time.specs.Exchange.Leases.{Lease, alone, lease_of}
use Rattle.virtual_time.specs.Exchange.Wholes.{put_lease}
use Rattle.virtual_time.specs.Exchange.Calls.{Call, CallAlone, CallChunk, CallCommit, CallMeet, Called, Calls, IsShared, Shared, start_shared}
use Rattle.virtual_time.specs.Groups.Stubs
use Rattle.virtual_time.specs.Groups.Leases
use Rattle.virtual_time.specs.Groups.Meetings
use Rattle.virtual_time.specs.Groups.Wholes
use Rattle.virtual_time.specs.Groups.Calls
use Rattle.virtual_time.specs.Groups.Singles.{CallMeetsNothing, ones, single_exchange, single_lease, single_shared}
use Rattle.virtual_time.proofs.Groups.Singles.{alone_is, chunk_back, chunk_to, commit_back, commit_to, does_back, does_to, exchange_back, lease_back, lease_of_is, lease_to, matches_back, matches_to, met_back, met_to, part_is, sound_back, sound_to, whole_back, whole_to}

module _ {S A : Type 0} (machine : Machine S A) (law : Lawful machine) where
  abbrev singles : (ℕ → Lease S A) → ℕ → Leases.Lease S A
  singles ls j = single_lease machine j (ls j)

  put_single : (i : ℕ) (l : Lease S A) (ls : ℕ → Lease S A) (j : ℕ) → singles (put_lease i l ls) j ≡ Wholes.put_lease i (single_lease machine i l) (singles ls) j
  put_single i l ls j = go (cases_eq j i)
    where
      go : (j ≡ i) ⊎ (j ≡ i → ⊥) → single_lease machine j (cond (j == i) l (ls j)) ≡ cond (j == i) (single_lease machine i l) (single_lease machine j (ls j))
      go (inl e) = subst (λ (b : Bool). single_lease machine j (cond b l (ls j)) ≡ cond b (single_lease machine i l) (single_lease machine j (ls j))) (sym (eq-eqb j i e)) (ap (λ (n : ℕ). single_lease machine n l) e)
      go (inr ne) = subst (λ (b : Bool). single_lease machine j (cond b l (ls j)) ≡ cond b (single_lease machine i l) (single_lease machine j (ls j))) (sym (ne_eqb j i ne)) refl

  -- the lease of a component, from that of its group
  only : ℕ → Leases.Lease S A → Lease S A
  only i l = record { base = l.base; floor = l.floor; part = l.part i; out_plus = l.out_plus; out_minus = l.out_minus }

  only_is : (i : ℕ) (l : Lease S A) → only i (single_lease machine i l) ≡ l
  unfolding only
  only_is i l = λ v. record { base = l.base; floor = l.floor; part = part_is machine i l v; out_plus = l.out_plus; out_minus = l.out_minus }

  lease_same : (i : ℕ) (l k : Lease S A) → single_lease machine i l ≡ single_lease machine i k → l ≡ k
  lease_same i l k h = sym (only_is i l) ∙ ap (only i) h ∙ only_is i k

  -- a call
  pub called_to : (count : ℕ) (u : Shared S A) (c : Call A) (v : Shared S A) → Called machine count u c v → Calls.Called machine ones count (single_shared machine u) c (single_shared machine v)
  called_to count u (CallMeet i) v h = (
    single_exchange h.0,
    single_lease machine i h.1,
    met_to machine law i u.exchange (u.lease i) h.0 h.1 h.2,
    ap (single_shared machine) h.3 ∙ (λ t. record { exchange = single_exchange h.0; lease = λ j. put_single i h.1 u.lease j t }),
  )
  called_to count u CallCommit v h = (single_exchange h.0, commit_to machine u.exchange h.0 h.1, ap (single_shared machine) h.2)
  called_to count u CallChunk v h = (h.0, single_exchange h.1, h.2, chunk_to machine count u.exchange h.0 h.1 h.2 h.3, ap (single_shared machine) h.4)
  called_to count u (CallAlone i steps) v h = (
    h.0,
    subst (λ (x : World S A). Leases.Does machine ones i x steps h.0) (sym (alone_is machine i (u.lease i))) (does_to machine i (alone machine i (u.lease i)) steps h.0 h.1).0,
    ap (single_shared machine) h.2
        ∙ (λ t. record { exchange = single_exchange u.exchange; lease = λ j. put_single i (lease_of i (u.lease i).floor h.0) u.lease j t })
        ∙ ap {A = Leases.Lease S A} (λ l. record { exchange = single_exchange u.exchange; lease = Wholes.put_lease i l (singles u.lease) }) (sym (lease_of_is machine i (u.lease i) h.0)),
  )

  -- where the groups' leases are these but for one
  put_back : (i : ℕ) (l : Leases.Lease S A) (u v : Shared S A) → ((j : ℕ) → singles v.lease j ≡ Wholes.put_lease i l (singles u.lease) j) → (j : ℕ) → v.lease j ≡ put_lease i (v.lease i) u.lease j
  put_back i l u v h j = go (cases_eq j i)
    where
      go : (j ≡ i) ⊎ (j ≡ i → ⊥) → v.lease j ≡ cond (j == i) (v.lease i) (u.lease j)
      go (inl e) = rw (eq-eqb j i e) (ap v.lease e)
      go (inr ne) = rw (ne_eqb j i ne) (lease_same j (v.lease j) (u.lease j) (h j ∙ rw (ne_eqb j i ne) refl))

  put_here : (i : ℕ) (l : Leases.Lease S A) (u v : Shared S A) → ((j : ℕ) → singles v.lease j ≡ Wholes.put_lease i l (singles u.lease) j) → l ≡ single_lease machine i (v.lease i)
  put_here i l u v h = sym (h i ∙ subst (λ (b : Bool). cond b l (singles u.lease i) ≡ l) (sym (eq-eqb i i refl)) refl)

  pub called_back : (count : ℕ) (u : Shared S A) (c : Call A) (v : Shared S A) → CallMeetsNothing c → Calls.Called machine ones count (single_shared machine u) c (single_shared machine v) → Called machine count u c v
  called_back count u (CallMeet i) v n h =
      let each : (j : ℕ) → singles v.lease j ≡ Wholes.put_lease i h.1 (singles u.lease) j = λ j. ap (λ (x : Calls.Shared S A). x.lease j) h.3 in
      let same : h.0 ≡ single_exchange v.exchange = sym (ap (λ (x : Calls.Shared S A). x.exchange) h.3) in
      let met = subst (λ (x : Stubs.Exchange A). Meetings.Met machine ones i (single_exchange u.exchange) (singles u.lease i) x (single_lease machine i (v.lease i))) same
      (subst (λ (l : Leases.Lease S A). Meetings.Met machine ones i (single_exchange u.exchange) (singles u.lease i) h.0 l) (put_here i h.1 u v each) h.2) in
      (v.exchange, v.lease i, met_back machine law i u.exchange (u.lease i) v.exchange (v.lease i) met, λ t. record { exchange = v.exchange; lease = λ j. put_back i h.1 u v each j t })
  called_back count u CallCommit v n h =
      let same : h.0 ≡ single_exchange v.exchange = sym (ap (λ (x : Calls.Shared S A). x.exchange) h.2) in (
        v.exchange,
        commit_back machine u.exchange v.exchange (subst (λ (x : Stubs.Exchange A). Meetings.IsCommit machine (single_exchange u.exchange) x) same h.1),
        λ t. record { exchange = v.exchange; lease = λ j. lease_same j (v.lease j) (u.lease j) (ap (λ (x : Calls.Shared S A). x.lease j) h.2) t },
      )
  called_back count u CallChunk v n h =
      let same : h.1 ≡ single_exchange v.exchange = sym (ap (λ (x : Calls.Shared S A). x.exchange) h.4) in (
        h.0,
        v.exchange,
        h.2,
        chunk_back machine count u.exchange h.0 v.exchange h.2 (subst (λ (x : Stubs.Exchange A). Meetings.IsChunk machine ones count (single_exchange u.exchange) h.0 x h.2) same h.3),
        λ t. record { exchange = v.exchange; lease = λ j. lease_same j (v.lease j) (u.lease j) (ap (λ (x : Calls.Shared S A). x.lease j) h.4) t },
      )
  called_back count u (CallAlone i steps) v n h =
      let each : (j : ℕ) → singles v.lease j ≡ Wholes.put_lease i (Leases.lease_of ones i (singles u.lease i) h.0) (singles u.lease) j = λ j. ap (λ (x : Calls.Shared S A). x.lease j) h.2 in
      let same : v.exchange ≡ u.exchange = exchange_back machine v.exchange u.exchange (ap (λ (x : Calls.Shared S A). x.exchange) h.2) in
      let its : v.lease i ≡ lease_of i (u.lease i).floor h.0
      = lease_same i (v.lease i) (lease_of i (u.lease i).floor h.0) (sym (put_here i (Leases.lease_of ones i (singles u.lease i) h.0) u v each) ∙ lease_of_is machine i (u.lease i) h.0) in (
        h.0,
        does_back machine i (alone machine i (u.lease i)) steps h.0 (subst (λ (x : World S A). Leases.Does machine ones i x steps h.0) (alone_is machine i (u.lease i)) h.1) n,
        (λ t. record { exchange = same t; lease = λ j. put_back i (Leases.lease_of ones i (singles u.lease i) h.0) u v each j t })
            ∙ ap {A = Lease S A} (λ l. record { exchange = u.exchange; lease = put_lease i l u.lease }) its,
      )

  pub calls_to : (count : ℕ) (calls : List (Call A)) (u v : Shared S A) → Calls machine count u calls v → Calls.Calls machine ones count (single_shared machine u) calls (single_shared machine v)
  calls_to count [] u v h = ap (single_shared machine) h
  calls_to count (c ∷ cs) u v h = (single_shared machine h.0, called_to count u c h.0 h.1, calls_to count cs h.0 v h.2)

  -- what holds after each
  pub shared_to : (count : ℕ) (u : Shared S A) → IsShared machine count u → Calls.IsShared machine ones count (single_shared machine u)
  shared_to count u h =
      record {
        sound = sound_to machine law count u.exchange h.sound;
        leases = λ i. lease_to machine i (u.lease i) (h.leases i);
        match = λ i. matches_to machine law i (u.exchange.stub i) (u.lease i) (h.match i);
        steps = h.steps;
        world = h.world;
        reached = h.reached;
        whole = whole_to machine u.exchange u.lease h.world h.whole;
      }

  pub shared_back : (count : ℕ) (u : Shared S A) → Calls.IsShared machine ones count (single_shared machine u) → IsShared machine count u
  shared_back count u h =
      record {
        sound = sound_back machine law count u.exchange h.sound;
        leases = λ i. lease_back machine i (u.lease i) (h.leases i);
        match = λ i. matches_back machine law i (u.exchange.stub i) (u.lease i) (h.match i);
        steps = h.steps;
        world = h.world;
        reached = h.reached;
        whole = whole_back machine u.exchange u.lease h.world h.whole;
      }

  -- the start
  first_past : (j n : ℕ) → n ≤ j → Stubs.first_key machine ones j n ≡ machine.top
  first_past j zero l = refl
  first_past j (suc n) l = rw (ne_eqb n j (λ e. omega arith)) (first_past j n (omega arith))

  first_one : (j n : ℕ) → j < n → Stubs.first_key machine ones j n ≡ machine.key j 0
  first_one j zero l = absurd (omega arith)
  first_one j (suc n) l = go (first_one j n) (cases_eq n j)
    where
      go : (j < n → Stubs.first_key machine ones j n ≡ machine.key j 0) → (n ≡ j) ⊎ (n ≡ j → ⊥) → cond (n == j) (min (machine.key n 0) (Stubs.first_key machine ones j n)) (Stubs.first_key machine ones j n) ≡ machine.key j 0
      go ih (inl e) =
          let p = first_past j n (omega arith) in
          let b = law.bounded n 0 in
          let k : machine.key n 0 ≡ machine.key j 0 = ap (λ (m : ℕ). machine.key m 0) e in
          rw (eq-eqb n j e) (omega arith)
      go ih (inr ne) = rw (ne_eqb n j ne) (ih (omega arith))

  first_is : (count j : ℕ) → HasCount machine count → Stubs.first_key machine ones j count ≡ machine.key j 0
  first_is count j counted = go (cases_lt j count)
    where
      go : (j < count) ⊎ (count ≤ j) → Stubs.first_key machine ones j count ≡ machine.key j 0
      go (inl l) = first_one j count l
      go (inr l) = first_past j count l ∙ sym (counted.silent j 0 l)

  pub start_single : (count : ℕ) → HasCount machine count → Calls.start_shared machine ones count ≡ single_shared machine (start_shared machine)
  start_single count counted = λ t. record {
    exchange = record { stub = λ j. record { base = 0; floor = first_is count j counted t; taken = λ n k a. 0; standing = λ k a n. 0 }; plus = λ j. []; minus = λ j. []; bound = 0; held = []; given = 0 };
    lease = λ j. record { base = 0; floor = first_is count j counted t; part = λ n. part j n (cases_eq n j) t; out_plus = λ n. []; out_minus = λ n. [] };
  }
    where
      part : (j n : ℕ) → (n ≡ j) ⊎ (n ≡ j → ⊥) → start_part machine n ≡ cond (n == j) (start_part machine j) (start_part machine n)
      part j n (inl e) = rw (eq-eqb n j e) (ap (start_part machine) e)
      part j n (inr ne) = rw (ne_eqb n j ne) refl
