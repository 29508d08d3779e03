-- At the start all is sound, and each lease matches its stub.
use Rattle.std.proofs.Common.{◌≡◌, ℕ, zero, suc, ◌+◌, ◌<◌, ◌≤◌, ◌⊎◌, inl, inr, Option, None, Some, List, [], ◌∷◌, ◌++◌, map, length, refl, ap, sym, subst, ◌∙◌, arith}
use Rattle.std.specs.Prelude.{replicate, slice_get, IfSome}
use Rattle.std.specs.List.{range_with_len}
use Rattle.std.proofs.lemmas.Bool.{cases_lt, le-ltb, lt-ltb, ne_eqb}
use Rattle.std.proofs.lemmas.List.{length-append, length-map, length-replicate}
use Rattle.std.proofs.lemmas.List.FromFn.{length-map-range_with_len}
use Rattle.event_keys.specs.declared.key.Key.{Key}
use Rattle.event_keys.specs.declared.message.Sign.TheVariants.{Plus, Minus}
use Rattle.event_keys.specs.Ranks.{rank_of_bound}
use Rattle.virtual_time.specs.Machine.{Machine}
use Rattle.virtual_time.specs.Rules.{IsWorld}
use Rattle.virtual_time.specs.Worlds.{start_world}
use Rattle.virtual_time.specs.Groups.Leases.{IsLease, Lease, Matches, start_lease}
use Rattle.virtual_time.specs.Groups.Stubs.{IsSound, first_key, start_exchange, start_stub}
use Rattle.virtual_time.specs.Groups.Wholes.{IsWholeWorld}
use Rattle.rollback.specs.Flight.{in_flight}
use Rattle.rollback.specs.ComponentView.{machine_of}
use Rattle.terms.specs.Datum.{Datum}
use Rattle.terms.specs.Named.{Named}
use Rattle.plans.specs.Plans.{composition}
use Rattle.task_seed.specs.declared.setup.Setup.{Setup}
use Rattle.task_seed.specs.declared.turns.Turn.{Turn}
use Rattle.task_seed.specs.Setups.{plan_of, system}
use Rattle.task_seed.specs.Turning.{System, key_of}
use Rattle.partitions.specs.Partitions.{IsPartition}
use Rattle.groups.specs.declared.window.Window.{Window}
use Rattle.groups.specs.GroupView.{AreMembers, GroupView, group_in, lease_of}
use Rattle.group_exchange.specs.declared.passage.Passage.{Passage}
use Rattle.group_exchange.specs.declared.stub.Stub.{Stub}
use Rattle.group_exchange.specs.LeaseView.{IsValidLease}
use Rattle.group_exchange.specs.ExchangeView.{ExchangeView, IsPassage, IsStub, IsValidExchange, exchange_of, group_at, inbox_of, stub_or_none}
use Rattle.group_exchange.specs.Core.{StandFor}
use Rattle.group_exchange.specs.Held.{AreInOrder, put_all}
use Rattle.group_exchange.specs.Start.{AreStarted, IsStarted, lease_or_start, leases_of, start_passage, start_shared, start_shared_within, stub_of_lease}
use Rattle.group_exchange.proofs.Agreeing.{lease_agrees, matches_agrees}
use Rattle.group_exchange.proofs.Accepting.{group_below, group_beyond}
use Rattle.group_exchange.proofs.Owned.{none_owned}
use Rattle.group_exchange.proofs.Passing.{number_is}
use Rattle.group_exchange.proofs.Placing.{get_none, none_some, one_some}

-- what is made for the numbers from a to a + n - 1
pub made_at : {X : Type 0} (f : ℕ → X) (a n j : ℕ) (o : Option X) → slice_get (map f (range_with_len a n)) j ≡ o → ((x : X) × (o ≡ Some x) × (j < n) × (x ≡ f (a + j))) ⊎ ((o ≡ None) × (n ≤ j))
made_at f a zero j o e = inr (sym e, omega arith)
made_at f a (suc n) zero o e = inl (f a, sym e, omega arith, ap f (omega arith))
made_at {X} f a (suc n) (suc j) o e = go (made_at f (a + 1) n j o e)
  where
    go : ((x : X) × (o ≡ Some x) × (j < n) × (x ≡ f (a + 1 + j))) ⊎ ((o ≡ None) × (n ≤ j)) → ((x : X) × (o ≡ Some x) × (suc j < suc n) × (x ≡ f (a + suc j))) ⊎ ((o ≡ None) × (suc n ≤ suc j))
    go (inl h) = let l = h.2 in inl (h.0, h.1, omega (arith, l), h.3 ∙ ap f (omega arith))
    go (inr h) = let l = h.1 in inr (h.0, omega (arith, l))

-- one more at the end of a list
pub last_at : {X : Type 0} (xs : List X) (x : X) (p : ℕ) (c : X) → slice_get (xs ++ x ∷ []) p ≡ Some c → (slice_get xs p ≡ Some c) ⊎ ((p ≡ length xs) × (c ≡ x))
last_at [] x zero c e = inr (refl, sym (one_some x c e))
last_at [] x (suc p) c e = absurd (none_some c e)
last_at (y ∷ ys) x zero c e = inl e
last_at (y ∷ ys) x (suc p) c e = go (last_at ys x p c e)
  where
    go : (slice_get ys p ≡ Some c) ⊎ ((p ≡ length ys) × (c ≡ x)) → (slice_get ys p ≡ Some c) ⊎ ((suc p ≡ suc (length ys)) × (c ≡ x))
    go (inl h) = inl h
    go (inr h) = inr (ap suc h.0, h.1)

-- nothing is held
none_held : (n : ℕ) → put_all (replicate n []) ≡ []
none_held zero = refl
none_held (suc n) = none_held n

none_order : (n : ℕ) → AreInOrder (replicate n [])
none_order zero = tt
none_order (suc n) = (tt, none_order n)

-- of a list and of what it is mapped to
map_at : {X Y : Type 0} (f : X → Y) (xs : List X) (j : ℕ) → ((x : X) × (slice_get xs j ≡ Some x) × (slice_get (map f xs) j ≡ Some (f x))) ⊎ ((slice_get xs j ≡ None) × (slice_get (map f xs) j ≡ None))
map_at f [] j = inr (refl, refl)
map_at f (x ∷ xs) zero = inl (x, refl, refl)
map_at f (x ∷ xs) (suc j) = map_at f xs j

-- a list has the group of each component
pub group_is : (groups : List ℕ) (count : ℕ) → length groups ≡ count → group_in count groups ≡ group_at groups
group_is groups count many = λ v j. same j v
  where
    same : (j : ℕ) → group_in count groups j ≡ group_at groups j
    same j = go (cases_lt j count)
      where
        go : (j < count) ⊎ (count ≤ j) → group_in count groups j ≡ group_at groups j
        go (inl inside) = rw (lt-ltb j count inside) refl
        go (inr past) = rw (le-ltb j count past) (sym (group_beyond groups j (omega (arith, past, many))))

-- a group without components has nothing to do
first_none : (m : Machine (List Datum) Named) (group : ℕ → ℕ) (g n : ℕ) → ((i : ℕ) → i < n → group i ≡ g → ⊥) → first_key m group g n ≡ m.top
first_none m group g zero none = refl
first_none m group g (suc n) none = rw (ne_eqb (group n) g (none n (omega arith))) (first_none m group g n (λ i l. none i (omega (arith, l))))

small : (s : System) (i : ℕ) → IfSome (key_of s i 0) (λ key. key.number < 4294967296)
small s i = go (key_of s i 0) refl
  where
    go : (o : Option Key) → key_of s i 0 ≡ o → IfSome o (λ key. key.number < 4294967296)
    go None e = tt
    go (Some key) e = let zero_number = number_is s i 0 key (sym e) in omega (arith, zero_number)

-- a lease that is one of the start
module _ {P : Type 0} (m : Machine (List Datum) Named) (group : ℕ → ℕ) (count : ℕ) (v : GroupView P) (members : AreMembers group v.number v.components) (is : lease_of m v ≡ start_lease m group count v.number) where
  pub start_valid : IsLease m group v.number (start_lease m group count v.number) × Matches m group v.number ((start_exchange m group count).stub v.number) (start_lease m group count v.number) → IsValidLease m count v
  start_valid both =
      record {
        lease = λ other mine. lease_agrees group other v.number (λ j. members j ∙ sym (mine j)) m (lease_of m v) (subst (IsLease m group v.number) (sym is) both.0);
        stub = (start_exchange m group count).stub v.number;
        match = λ other mine. matches_agrees group other v.number (λ j. members j ∙ sym (mine j)) m ((start_exchange m group count).stub v.number) (lease_of m v) (subst (Matches m group v.number ((start_exchange m group count).stub v.number)) (sym is) both.1);
        inside = λ j past. ap (λ (l : Lease (List Datum) Named). l.out_plus j) is;
      }

module _ {T : Type 0} (turn_of : T → ℕ → ℕ → Option Turn) (setup : Setup T) (groups : List ℕ) (leases : List (GroupView (Setup T))) (partition : IsPartition (length (composition (plan_of setup))) (length leases) groups) (started : AreStarted turn_of setup groups (length leases) leases) where
  abbrev s : System
  s = system turn_of setup

  abbrev m : Machine (List Datum) Named
  m = machine_of turn_of setup

  abbrev G : ℕ → ℕ
  G = group_at groups

  abbrev count : ℕ
  count = length (composition (plan_of setup))

  abbrev e : ExchangeView (Setup T)
  e = start_shared turn_of setup groups leases

  stub_at : (g : ℕ) → stub_or_none (machine_of turn_of setup) (slice_get (map stub_of_lease leases) g) ≡ start_stub (machine_of turn_of setup) (group_at groups) (length (composition (plan_of setup))) g
  stub_at g = go (map_at stub_of_lease leases g)
    where
      go : ((x : GroupView (Setup T)) × (slice_get leases g ≡ Some x) × (slice_get (map stub_of_lease leases) g ≡ Some (stub_of_lease x))) ⊎ ((slice_get leases g ≡ None) × (slice_get (map stub_of_lease leases) g ≡ None))
          → stub_or_none (machine_of turn_of setup) (slice_get (map stub_of_lease leases) g) ≡ start_stub (machine_of turn_of setup) (group_at groups) (length (composition (plan_of setup))) g
      go (inl h) =
          let floor : rank_of_bound h.0.floor ≡ first_key (machine_of turn_of setup) (group_at groups) g (length (composition (plan_of setup))) = ap (λ (l : Lease (List Datum) Named). l.floor) (started.each g h.0 h.1).lease_is in
          ap (stub_or_none (machine_of turn_of setup)) h.2 ∙ (λ v. record { base = 0; floor = floor v; taken = λ j k a. 0; standing = λ k a j. 0 })
      go (inr h) =
          let past = get_none leases g h.0 in
          let none = first_none (machine_of turn_of setup) (group_at groups) g (length (composition (plan_of setup))) (λ i l own.
          let every = partition.every in
          let low = group_below (length leases) groups partition.below i (omega (arith, l, every)) in
          omega (arith, low, own, past)) in
          ap (stub_or_none (machine_of turn_of setup)) h.1 ∙ (λ v. record { base = 0; floor = sym none v; taken = λ j k a. 0; standing = λ k a j. 0 })

  inbox_at : (h : ℕ) → inbox_of (slice_get (map stub_of_lease leases) h) ≡ []
  inbox_at h = go (map_at stub_of_lease leases h)
    where
      go : ((x : GroupView (Setup T)) × (slice_get leases h ≡ Some x) × (slice_get (map stub_of_lease leases) h ≡ Some (stub_of_lease x))) ⊎ ((slice_get leases h ≡ None) × (slice_get (map stub_of_lease leases) h ≡ None)) → inbox_of (slice_get (map stub_of_lease leases) h) ≡ []
      go (inl x) = ap inbox_of x.2
      go (inr x) = ap inbox_of x.1

  pub seen : exchange_of (machine_of turn_of setup) (start_shared turn_of setup groups leases) ≡ start_exchange (machine_of turn_of setup) (group_at groups) (length (composition (plan_of setup)))
  seen = λ v. record {
    stub = λ g. stub_at g v;
    plus = λ j. (ap (in_flight Plus j) (inbox_at (group_at groups j))) v;
    minus = λ j. (ap (in_flight Minus j) (inbox_at (group_at groups j))) v;
    bound = 0;
    held = (none_held (length (composition (plan_of setup)))) v;
    given = 0;
  }

  pub shared_kept : length leases < 65536 → IsSound (machine_of turn_of setup) (group_at groups) (length (composition (plan_of setup))) (start_exchange (machine_of turn_of setup) (group_at groups) (length (composition (plan_of setup)))) → (window : Option Window) → IsValidExchange (system turn_of setup) (start_shared_within turn_of setup groups window leases)
  shared_kept few sound window =
      let many = length-map leases stub_of_lease in
      record {
        sound = subst (IsSound (machine_of turn_of setup) (group_at groups) (length (composition (plan_of setup)))) (sym seen) sound;
        partition = subst (λ n. IsPartition (length (composition (plan_of setup))) n groups) (sym many) partition;
        few = omega (arith, few, many);
        stubs = λ g stub at. stub_kept g stub at (map_at stub_of_lease leases g);
        many = length-map-range_with_len (start_passage (system turn_of setup)) 0 (length (composition (plan_of setup)));
        passages = λ j p at. passage_kept j p at (made_at (start_passage (system turn_of setup)) 0 (length (composition (plan_of setup))) j (slice_get (map (start_passage (system turn_of setup)) (range_with_len 0 (length (composition (plan_of setup))))) j) refl);
        lists = length-replicate (length (composition (plan_of setup))) [];
        order = none_order (length (composition (plan_of setup)));
        owners = none_owned 0 (length (composition (plan_of setup)));
      }
    where
      empty : (g : ℕ) (lease : GroupView (Setup T)) → IsStub (system turn_of setup) (group_at groups) g (stub_of_lease lease)
      empty g lease = record { inbox = tt; order = record { sorted = tt; fits = tt }; apart = λ j k a. inl refl; copied = λ j k a. refl }

      stub_kept : (g : ℕ) (stub : Stub) → slice_get (map stub_of_lease leases) g ≡ Some stub → ((x : GroupView (Setup T)) × (slice_get leases g ≡ Some x) × (slice_get (map stub_of_lease leases) g ≡ Some (stub_of_lease x))) ⊎ ((slice_get leases g ≡ None) × (slice_get (map stub_of_lease leases) g ≡ None))
          → IsStub (system turn_of setup) (group_at groups) g stub
      stub_kept g stub at (inl h) = subst (IsStub (system turn_of setup) (group_at groups) g) (one_some (stub_of_lease h.0) stub (sym h.2 ∙ at)) (empty g h.0)
      stub_kept g stub at (inr h) = absurd (none_some stub (sym h.1 ∙ at))

      start_kept : (i : ℕ) → IsPassage (system turn_of setup) 0 i (start_passage (system turn_of setup) i)
      start_kept i = record { passed = refl; ahead = refl; small = small (system turn_of setup) i; few = omega arith }

      passage_kept : (j : ℕ) (p : Passage) → slice_get (map (start_passage (system turn_of setup)) (range_with_len 0 (length (composition (plan_of setup))))) j ≡ Some p
          → ((x : Passage) × (slice_get (map (start_passage (system turn_of setup)) (range_with_len 0 (length (composition (plan_of setup))))) j ≡ Some x) × (j < length (composition (plan_of setup))) × (x ≡ start_passage (system turn_of setup) (0 + j)))
          ⊎ ((slice_get (map (start_passage (system turn_of setup)) (range_with_len 0 (length (composition (plan_of setup))))) j ≡ None) × (length (composition (plan_of setup)) ≤ j)) → IsPassage (system turn_of setup) 0 j p
      passage_kept j p at (inl h) =
          let same : h.0 ≡ p = one_some h.0 p (sym h.1 ∙ at) in
          subst (IsPassage (system turn_of setup) 0 j) (sym (h.3 ∙ ap (start_passage (system turn_of setup)) (omega arith)) ∙ same) (start_kept j)
      passage_kept j p at (inr h) = absurd (none_some p (sym h.0 ∙ at))

  leases_are : leases_of (machine_of turn_of setup) (group_at groups) (length (composition (plan_of setup))) leases ≡ start_lease (machine_of turn_of setup) (group_at groups) (length (composition (plan_of setup)))
  leases_are = λ v g. lease_at g (slice_get leases g) refl v
    where
      lease_at : (g : ℕ) (o : Option (GroupView (Setup T))) → slice_get leases g ≡ o → lease_or_start (machine_of turn_of setup) (group_at groups) (length (composition (plan_of setup))) g o ≡ start_lease (machine_of turn_of setup) (group_at groups) (length (composition (plan_of setup))) g
      lease_at g None q = refl
      lease_at g (Some lease) q = (started.each g lease q).lease_is

  pub stand_first : IsWorld (machine_of turn_of setup) (start_world (machine_of turn_of setup))
      → ((g : ℕ) → IsLease (machine_of turn_of setup) (group_at groups) g (start_lease (machine_of turn_of setup) (group_at groups) (length (composition (plan_of setup))) g) × Matches (machine_of turn_of setup) (group_at groups) g ((start_exchange (machine_of turn_of setup) (group_at groups) (length (composition (plan_of setup)))).stub g) (start_lease (machine_of turn_of setup) (group_at groups) (length (composition (plan_of setup))) g))
      → IsWholeWorld (machine_of turn_of setup) (group_at groups) (start_exchange (machine_of turn_of setup) (group_at groups) (length (composition (plan_of setup)))) (start_lease (machine_of turn_of setup) (group_at groups) (length (composition (plan_of setup)))) (start_world (machine_of turn_of setup))
      → StandFor (machine_of turn_of setup) (group_at groups) (exchange_of (machine_of turn_of setup) (start_shared turn_of setup groups leases)) (leases_of (machine_of turn_of setup) (group_at groups) (length (composition (plan_of setup))) leases) (start_world (machine_of turn_of setup))
  stand_first world each whole =
      subst (λ x. StandFor (machine_of turn_of setup) (group_at groups) x (leases_of (machine_of turn_of setup) (group_at groups) (length (composition (plan_of setup))) leases) (start_world (machine_of turn_of setup))) (sym seen)
      (subst (λ ls. StandFor (machine_of turn_of setup) (group_at groups) (start_exchange (machine_of turn_of setup) (group_at groups) (length (composition (plan_of setup)))) ls (start_world (machine_of turn_of setup))) (sym leases_are) (record { proper = λ g. (each g).0; match = λ g. (each g).1; whole = whole; world = world }))

-- a group that was just made is started, and a lease
module _ {T : Type 0} (turn_of : T → ℕ → ℕ → Option Turn) (setup : Setup T) (groups : List ℕ) (number : ℕ) (v : GroupView (Setup T)) where
  pub new_started : length groups ≡ length (composition (plan_of setup)) → v.number ≡ number → v.setup ≡ setup → AreMembers (group_in (length (composition (plan_of setup))) groups) number v.components
      → lease_of (machine_of turn_of v.setup) v ≡ start_lease (machine_of turn_of setup) (group_in (length (composition (plan_of setup))) groups) (length (composition (plan_of setup))) number → IsStarted turn_of setup groups number v
  new_started many number_is setup_is members is =
      let same = group_is groups (length (composition (plan_of setup))) many in
      record {
        number_is = number_is;
        setup_is = setup_is;
        members = subst (λ G. AreMembers G number v.components) same members;
        lease_is = ap (λ p. lease_of (machine_of turn_of p) v) (sym setup_is) ∙ is ∙ ap (λ G. start_lease (machine_of turn_of setup) G (length (composition (plan_of setup))) number) same;
      }

  pub new_valid : IsStarted turn_of setup groups number v
      → ((g : ℕ) → IsLease (machine_of turn_of setup) (group_at groups) g (start_lease (machine_of turn_of setup) (group_at groups) (length (composition (plan_of setup))) g) × Matches (machine_of turn_of setup) (group_at groups) g ((start_exchange (machine_of turn_of setup) (group_at groups) (length (composition (plan_of setup)))).stub g) (start_lease (machine_of turn_of setup) (group_at groups) (length (composition (plan_of setup))) g))
      → IsValidLease (machine_of turn_of v.setup) (length (composition (plan_of v.setup))) v
  new_valid started both =
      subst (λ p. IsValidLease (machine_of turn_of p) (length (composition (plan_of p))) v) (sym started.setup_is)
      (start_valid (machine_of turn_of setup) (group_at groups) (length (composition (plan_of setup))) v (subst (λ n. AreMembers (group_at groups) n v.components) (sym started.number_is) started.members)
      (started.lease_is ∙ ap (start_lease (machine_of turn_of setup) (group_at groups) (length (composition (plan_of setup)))) (sym started.number_is)) (both v.number))

-- a window changes nothing of it
pub started_anew : {T : Type 0} (turn_of : T → ℕ → ℕ → Option Turn) (setup : Setup T) (groups : List ℕ) (number : ℕ) (v : GroupView (Setup T)) (window : Option Window) → IsStarted turn_of setup groups number v → IsStarted turn_of setup groups number (record v { window = window })
started_anew turn_of setup groups number v window is = record { number_is = is.number_is; setup_is = is.setup_is; members = is.members; lease_is = is.lease_is }

-- one more lease
pub started_more : {T : Type 0} (turn_of : T → ℕ → ℕ → Option Turn) (setup : Setup T) (groups : List ℕ) (n : ℕ) (leases : List (GroupView (Setup T))) (lease : GroupView (Setup T)) → AreStarted turn_of setup groups n leases → IsStarted turn_of setup groups n lease → AreStarted turn_of setup groups (n + 1) (leases ++ lease ∷ [])
started_more turn_of setup groups n leases lease are is =
    record { many = let many = are.many in let more = length-append leases (lease ∷ []) in omega (arith, many, more); each = λ g x at. go g x (last_at leases lease g x at) }
  where
    go : (g : ℕ) (x : GroupView (Setup _)) → (slice_get leases g ≡ Some x) ⊎ ((g ≡ length leases) × (x ≡ lease)) → IsStarted turn_of setup groups g x
    go g x (inl at) = are.each g x at
    go g x (inr here) = subst (λ k. IsStarted turn_of setup groups k x) (sym (here.0 ∙ are.many)) (subst (IsStarted turn_of setup groups n) (sym here.1) is)

pub none_started : {T : Type 0} (turn_of : T → ℕ → ℕ → Option Turn) (setup : Setup T) (groups : List ℕ) → AreStarted turn_of setup groups 0 []
none_started turn_of setup groups = record { many = refl; each = λ g x at. absurd (none_some x at) }
