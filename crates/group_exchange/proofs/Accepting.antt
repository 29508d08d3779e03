-- What a meeting moves is what the theory says, and all stays sound.
use Rattle.std.proofs.Common.{◌≡◌, ℕ, zero, suc, ◌+◌, ◌-◌, ◌<◌, ◌≤◌, ◌==◌, ◌||◌, ◌⊎◌, inl, inr, Bool, true, false, true≢false, cond, Option, None, Some, List, [], ◌∷◌, map, length, refl, ap, sym, subst, ◌∙◌, arith}
use Rattle.std.specs.Prelude.{All, nat_lt, option_map, slice_get, slice_set}
use Rattle.std.proofs.lemmas.Bool.{eq-eqb, eqb-true, ne_eqb, cases_eq, cases_lt}
use Rattle.std.proofs.lemmas.List.Elements.{All-head, All-tail}
use Rattle.std.proofs.lemmas.Option.{slice_get_past}
use Rattle.terms.specs.Datum.{Datum}
use Rattle.terms.specs.Named.{Named}
use Rattle.event_keys.specs.declared.key.Bound.{Bound}
use Rattle.event_keys.specs.declared.message.Sign.{Sign}
use Rattle.event_keys.specs.declared.message.Sign.TheVariants.{Plus, Minus}
use Rattle.event_keys.specs.declared.message.Signed.{Signed}
use Rattle.event_keys.specs.declared.outcome.Turned.{Turned}
use Rattle.event_keys.specs.Ranks.{rank_of_bound}
use Rattle.raw_events.specs.Around.{Around}
use Rattle.raw_events.specs.Onto.{onto}
use Rattle.antimessage.specs.Bags.{insert_all}
use Rattle.antimessage.specs.Counts.{Each}
use Rattle.antimessage.specs.Order.{IsInOrder}
use Rattle.virtual_time.specs.Bags.{sends, times}
use Rattle.virtual_time.specs.Entries.{below}
use Rattle.virtual_time.specs.Machine.{HasCount, Lawful, Machine}
use Rattle.virtual_time.specs.Records.{Record, cut_of, turns_among}
use Rattle.virtual_time.specs.Reference.{Falls, Turn, outcome_at}
use Rattle.virtual_time.specs.Exchange.Stubs.{reference_sends}
use Rattle.virtual_time.specs.Groups.Leases.{IsFloor, IsLease, Lease, Matches}
use Rattle.virtual_time.specs.Groups.Meetings.{Met}
use Rattle.virtual_time.specs.Groups.Moved.{IsMoved}
use Rattle.virtual_time.specs.Groups.Stubs.{Stub as StubSeen, Exchange as ExchangeSeen, IsSound}
use Rattle.rollback.specs.Flight.{in_flight}
use Rattle.rollback.specs.Laws.{AppendedIsAdded}
use Rattle.rollback.specs.declared.copied.Copies.{Copies}
use Rattle.rollback.specs.ComponentView.{ComponentView, machine_of}
use Rattle.task_seed.specs.declared.setup.Setup.{Setup}
use Rattle.task_seed.specs.declared.turns.Turn.{Turn as TurnValue}
use Rattle.task_seed.specs.Setups.{system}
use Rattle.task_seed.specs.Taken.{turns_of}
use Rattle.task_seed.specs.Turning.{System}
use Rattle.task_seed.specs.Machines.{machine}
use Rattle.partitions.specs.Partitions.{IsPartition}
use Rattle.groups.specs.Crew.{AreApart, AreSound}
use Rattle.groups.specs.Dropping.{AreGivenUp, cut_all, cut_to}
use Rattle.groups.specs.GroupView.{AreMembers, GroupView, history_of, is_member, lease_of}
use Rattle.groups.proofs.Placed.{history_there, member_there, own_there}
use Rattle.group_exchange.specs.declared.stub.Stub.{Stub}
use Rattle.group_exchange.specs.LeaseView.{IsValidLease}
use Rattle.group_exchange.specs.Moving.{AreCopies, HasPassedOn, HaveCome, among}
use Rattle.group_exchange.specs.Held.{ArePuttable, HavePutTo, put_all}
use Rattle.group_exchange.specs.ExchangeView.{AreStubs, ExchangeView, IsStub, IsValidExchange, exchange_of, group_at, inbox_in, inbox_of, stub_of, stub_or_none, without_inbox}
use Rattle.group_exchange.specs.Seen.{IsKnown}
use Rattle.group_exchange.proofs.Agreeing.{lease_agrees, matches_agrees}
use Rattle.group_exchange.proofs.Below.{onto_back}
use Rattle.group_exchange.proofs.Owned.{IsOf, done_own}
use Rattle.group_exchange.proofs.Placing.{get_none, get_other, get_same, get_there, none_some, one_some}
use Rattle.group_exchange.proofs.Putting.{IsPut, MergedFalls, MergedOutcomes, outcomes, put_some}
use Rattle.group_exchange.proofs.Receiving.{nothing_there}

-- what stands in a mapped list came from there
pub mapped : {X Y : Type 0} (f : X → Y) (xs : List X) (p : ℕ) (y : Y) → slice_get (map f xs) p ≡ Some y → (x : X) × (slice_get xs p ≡ Some x) × (f x ≡ y)
mapped f [] p y e = absurd (none_some y e)
mapped f (x ∷ xs) zero y e = (x, refl, one_some (f x) y e)
mapped f (x ∷ xs) (suc p) y e = mapped f xs p y e

pub mapped_at : {X Y : Type 0} (f : X → Y) (xs : List X) (p : ℕ) → slice_get (map f xs) p ≡ option_map f (slice_get xs p)
mapped_at f [] p = refl
mapped_at f (x ∷ xs) zero = refl
mapped_at f (x ∷ xs) (suc p) = mapped_at f xs p

-- the group of a component that there is is one of these
pub group_below : (n : ℕ) (groups : List ℕ) → All (λ g. g < n) groups → (j : ℕ) → j < length groups → group_at groups j < n
group_below n [] all j h = absurd (omega (arith, h))
group_below n (g ∷ groups) all zero h = All-head (λ g. g < n) g groups all
group_below n (g ∷ groups) all (suc j) h = group_below n groups (All-tail (λ g. g < n) g groups all) j (omega (arith, h))

pub group_beyond : (groups : List ℕ) (j : ℕ) → length groups ≤ j → group_at groups j ≡ 65536
group_beyond [] j h = refl
group_beyond (g ∷ groups) zero h = absurd (omega (arith, h))
group_beyond (g ∷ groups) (suc j) h = group_beyond groups j (omega (arith, h))

-- components that gave up what is below a bound
module _ {T : Type 0} (turn_of : T → ℕ → ℕ → Option TurnValue) (bound : Bound) where
  pub cut_member : (cs : List (ComponentView (Setup T))) (j : ℕ) → is_member (cut_all turn_of bound cs) j ≡ is_member cs j
  cut_member [] j = refl
  cut_member (c ∷ cs) j = ap (λ b. (j == c.number) || b) (cut_member cs j)

  cut_history : (m : Machine (List Datum) Named) (cs : List (ComponentView (Setup T))) → ((q : ℕ) (c : ComponentView (Setup T)) → slice_get cs q ≡ Some c → machine_of turn_of c.setup ≡ m) → (j : ℕ) → is_member cs j ≡ true
      → history_of m (cut_all turn_of bound cs) j ≡ cut_of m j (rank_of_bound bound) (history_of m cs j)
  cut_history m [] of j own = absurd (true≢false (sym own))
  cut_history m (c ∷ cs) of j own = go (λ h. cut_history m cs (λ q d at. of (suc q) d at) j h) (cases_eq j c.number)
    where
      go : (is_member cs j ≡ true → history_of m (cut_all turn_of bound cs) j ≡ cut_of m j (rank_of_bound bound) (history_of m cs j)) → (j ≡ c.number) ⊎ (j ≡ c.number → ⊥) → history_of m (cut_all turn_of bound (c ∷ cs)) j ≡ cut_of m j (rank_of_bound bound) (history_of m (c ∷ cs) j)
      go rest (inl e) =
          subst (λ (b : Bool). cond b (cut_of (machine_of turn_of c.setup) c.number (rank_of_bound bound) c.history) (history_of m (cut_all turn_of bound cs) j) ≡ cut_of m j (rank_of_bound bound) (cond b c.history (history_of m cs j))) (sym (eq-eqb j c.number e))
          (ap (λ x. cut_of x c.number (rank_of_bound bound) c.history) (of 0 c refl) ∙ ap (λ n. cut_of m n (rank_of_bound bound) c.history) (sym e))
      go rest (inr ne) =
          subst (λ (b : Bool). cond b (cut_of (machine_of turn_of c.setup) c.number (rank_of_bound bound) c.history) (history_of m (cut_all turn_of bound cs) j) ≡ cut_of m j (rank_of_bound bound) (cond b c.history (history_of m cs j))) (sym (ne_eqb j c.number ne))
          (rest (subst (λ (b : Bool). (b || is_member cs j) ≡ true) (ne_eqb j c.number ne) own))

-- the theory's laws on meetings
module _ (m : Machine (List Datum) Named) (group : ℕ → ℕ) where
  abbrev pub MetLaw : Type 0
  MetLaw =
      (count g : ℕ) (exchange new_exchange : ExchangeSeen Named) (lease new_lease : Lease (List Datum) Named) → Lawful m → IsSound m group count exchange → IsLease m group g lease → Matches m group g (exchange.stub g) lease
      → ((j : ℕ) → count ≤ j → exchange.plus j ≡ []) → ((j : ℕ) → count ≤ j → lease.out_plus j ≡ []) → IsMoved m group g exchange lease new_exchange new_lease → Met m group g exchange lease new_exchange new_lease

  abbrev pub SoundLaw : Type 0
  SoundLaw =
      (count g : ℕ) (exchange new_exchange : ExchangeSeen Named) (lease new_lease : Lease (List Datum) Named) → Lawful m → IsSound m group count exchange → IsLease m group g lease → Matches m group g (exchange.stub g) lease
      → Met m group g exchange lease new_exchange new_lease → IsSound m group count new_exchange × IsLease m group g new_lease

  abbrev pub FallsLaw : Type 0
  FallsLaw =
      (count g i : ℕ) (exchange : ExchangeSeen Named) (lease : Lease (List Datum) Named) → Lawful m → IsSound m group count exchange → IsLease m group g lease → Matches m group g (exchange.stub g) lease → group i ≡ g
      → Falls (turns_among (below exchange.bound (lease.part i).done))

  abbrev pub ApartLaw : Type 0
  ApartLaw =
      (count g i : ℕ) (exchange : ExchangeSeen Named) (lease : Lease (List Datum) Named) → Lawful m → IsSound m group count exchange → IsLease m group g lease → Matches m group g (exchange.stub g) lease → group i ≡ g
      → (k : ℕ) (o : Option Named) → outcome_at k (turns_among (below exchange.bound (lease.part i).done)) ≡ Some o → outcome_at k exchange.held ≡ None

module _ {P T : Type 0} (turn_of : T → ℕ → ℕ → Option TurnValue) (s : System) (law : Lawful (machine s)) (e : ExchangeView P) (is : IsValidExchange s e) (v : GroupView (Setup T)) (of_setup : system turn_of v.setup ≡ s)
    (valid : IsValidLease (machine s) (length s.composition) v) (known : IsKnown (machine s) (group_at e.groups) (length e.stubs) (exchange_of (machine s) e) v)
    (copies : Copies) (copied : AreCopies v.out copies) (floor : Bound) (stubs : List Stub) (passed : HasPassedOn (group_at e.groups) v.number e.bound floor v.out copies e.stubs stubs) where
  abbrev m : Machine (List Datum) Named
  m = machine s

  abbrev G : ℕ → ℕ
  G = group_at e.groups

  abbrev g : ℕ
  g = v.number

  abbrev b : ℕ
  b = rank_of_bound e.bound

  abbrev count : ℕ
  count = length s.composition

  abbrev was : Stub
  was = passed.was

  was_is : IsStub s (group_at e.groups) v.number passed.was
  was_is = is.stubs v.number passed.was passed.there

  abbrev before : List Stub
  before = slice_set e.stubs v.number passed.own

  here : slice_get (slice_set e.stubs v.number passed.own) v.number ≡ Some passed.own
  here = get_same e.stubs v.number passed.own known.there

  -- its own stub on the way
  kept_inbox : passed.met.kept.inbox ≡ []
  kept_inbox = ap (λ (x : Stub). x.inbox) passed.met.is_kept.rest ∙ ap (λ (x : Stub). x.inbox) passed.met.is_handed.rest

  kept_copies : passed.met.kept.copies ≡ []
  kept_copies = ap (λ (x : Stub). x.copies) passed.met.is_kept.rest ∙ ap (λ (x : Stub). x.copies) passed.met.is_handed.rest

  own_inbox : passed.own.inbox ≡ []
  own_inbox = ap (λ (x : Stub). x.inbox) passed.met.becomes ∙ kept_inbox

  own_copies : passed.own.copies ≡ []
  own_copies = ap (λ (x : Stub). x.copies) passed.met.becomes ∙ kept_copies

  before_stubs : AreStubs s (group_at e.groups) (slice_set e.stubs v.number passed.own)
  before_stubs h stub at = go (cases_eq h v.number)
    where
      own : IsStub s (group_at e.groups) v.number passed.own
      own = record {
        inbox = subst (Each (λ (x : Signed). group_at e.groups x.message.to ≡ v.number)) (sym own_inbox) tt;
        order = subst IsInOrder (sym own_inbox) (record { sorted = tt; fits = tt });
        apart = λ j k a. inl (ap (λ xs. times (machine s) (in_flight Plus j xs) k a) own_inbox);
        copied = λ j k a. ap (λ xs. times (machine s) (in_flight Plus j xs) k a) (own_copies ∙ sym own_inbox);
      }

      go : (h ≡ v.number) ⊎ (h ≡ v.number → ⊥) → IsStub s (group_at e.groups) h stub
      go (inl same) =
          let one : passed.own ≡ stub = one_some passed.own stub (sym here ∙ ap (slice_get (slice_set e.stubs v.number passed.own)) (sym same) ∙ at) in
          subst (λ n. IsStub s (group_at e.groups) n stub) (sym same) (subst (IsStub s (group_at e.groups) v.number) one own)
      go (inr ne) = is.stubs h stub (sym (get_other e.stubs v.number passed.own h ne) ∙ at)

  come : HaveCome s (group_at e.groups) v.out (slice_set e.stubs v.number passed.own) stubs
  come = passed.come s law before_stubs (λ j k a. copied.1 s j k a)

  as_many : length stubs ≡ length e.stubs
  as_many = passed.many

  -- another stub
  was_other : (h : ℕ) (ne : h ≡ v.number → ⊥) (x : Stub) (at : slice_get stubs h ≡ Some x) → slice_get e.stubs h ≡ Some (come.each h x at).was
  was_other h ne x at = sym (get_other e.stubs v.number passed.own h ne) ∙ (come.each h x at).there

  none_was : (h : ℕ) → slice_get stubs h ≡ None → slice_get e.stubs h ≡ None
  none_was h q = let past = get_none stubs h q in let many = as_many in slice_get_past e.stubs h (omega (arith, past, many))

  -- of which only the inbox has changed
  pub others_kept : (h : ℕ) → (h ≡ v.number → ⊥) → slice_get (map without_inbox stubs) h ≡ slice_get (map without_inbox e.stubs) h
  others_kept h ne = mapped_at without_inbox stubs h ∙ go (slice_get stubs h) refl ∙ sym (mapped_at without_inbox e.stubs h)
    where
      go : (o : Option Stub) → slice_get stubs h ≡ o → option_map without_inbox o ≡ option_map without_inbox (slice_get e.stubs h)
      go None q = sym (ap (option_map without_inbox) (none_was h q))
      go (Some x) q = ap (λ (y : Stub). Some (without_inbox y)) (come.each h x q).rest ∙ sym (ap (option_map without_inbox) (was_other h ne x q))

  -- nothing goes to its own components
  proper : IsLease (machine s) (group_at e.groups) v.number (lease_of (machine s) v)
  proper = valid.lease (group_at e.groups) known.members

  none_own : (sign : Sign) (i : ℕ) → group_at e.groups i ≡ v.number → in_flight sign i v.out ≡ []
  none_own Plus i own = proper.self_plus i own
  none_own Minus i own = proper.self_minus i own

  -- nor to one that is not there
  groups_many : length e.groups ≡ length s.composition
  groups_many = is.partition.every

  beyond : (j : ℕ) → slice_get e.stubs (group_at e.groups j) ≡ None → length s.composition ≤ j
  beyond j q = go (cases_lt j (length s.composition))
    where
      go : (j < length s.composition) ⊎ (length s.composition ≤ j) → length s.composition ≤ j
      go (inr past) = past
      go (inl inside) =
          let many = groups_many in
          let low = group_below (length e.stubs) e.groups is.partition.below j (omega (arith, inside, many)) in
          let past = get_none e.stubs (group_at e.groups j) q in
          absurd (omega (arith, low, past))

  no_stub : (j : ℕ) → length s.composition ≤ j → slice_get e.stubs (group_at e.groups j) ≡ None
  no_stub j past =
      let many = groups_many in
      let few = is.few in
      let far = group_beyond e.groups j (omega (arith, past, many)) in
      slice_get_past e.stubs (group_at e.groups j) (omega (arith, few, far))

  pub quiet : (j : ℕ) → length s.composition ≤ j → (exchange_of (machine s) e).plus j ≡ []
  quiet j past = ap (λ o. in_flight Plus j (inbox_of o)) (no_stub j past)

  -- antimessages to nobody
  stands_nowhere : HasCount (machine s) (length s.composition) → (j k : ℕ) (a : Named) → length s.composition ≤ j → group_at e.groups ((machine s).owner k) ≡ v.number → times (machine s) (in_flight Minus j v.out) k a ≡ 0
  unfolding sends
  stands_nowhere counted j k a past own =
      let out = known.match.standing k a j own in
      let none : times (machine s) (in_flight Plus j v.out) k a ≡ 0 = ap (λ xs. times (machine s) xs k a) (valid.inside j past) in
      let unsent = unsent_to in
      let stands = standing_none (cases_lt k b) in
      omega (arith, out, none, unsent, stands)
    where
      st : StubSeen Named
      st = (exchange_of (machine s) e).stub v.number

      unsent_to : cond (group_at e.groups ((machine s).owner k) == group_at e.groups j) 0 (sends (machine s) ((lease_of (machine s) v).part ((machine s).owner k)).done k a j) ≡ 0
      unsent_to = go (group_at e.groups ((machine s).owner k) == group_at e.groups j) (none_sent)
        where
          none_sent : sends (machine s) ((lease_of (machine s) v).part ((machine s).owner k)).done k a j ≡ 0
          none_sent = rw (counted.deaf ((machine s).owner k) a j past) refl

          go : (c : Bool) → sends (machine s) ((lease_of (machine s) v).part ((machine s).owner k)).done k a j ≡ 0 → cond c 0 (sends (machine s) ((lease_of (machine s) v).part ((machine s).owner k)).done k a j) ≡ 0
          go true z = refl
          go false z = z

      standing_none : (k < b) ⊎ (b ≤ k) → ((exchange_of (machine s) e).stub v.number).standing k a j ≡ 0
      standing_none (inr from) =
          let even = is.sound.even j k a from in
          let stub_none : (exchange_of (machine s) e).stub (group_at e.groups j) ≡ stub_or_none (machine s) None = ap (stub_or_none (machine s)) (no_stub j past) in
          let taken : ((exchange_of (machine s) e).stub (group_at e.groups j)).taken j k a ≡ 0 = ap (λ (x : StubSeen Named). x.taken j k a) stub_none in
          let plus : times (machine s) ((exchange_of (machine s) e).plus j) k a ≡ 0 = ap (λ xs. times (machine s) xs k a) (quiet j past) in
          let same : ((exchange_of (machine s) e).stub (group_at e.groups ((machine s).owner k))).standing k a j ≡ ((exchange_of (machine s) e).stub v.number).standing k a j = ap (λ n. ((exchange_of (machine s) e).stub n).standing k a j) own in
          omega (arith, even, taken, plus, same)
      standing_none (inl low) = sym (ap (λ n. ((exchange_of (machine s) e).stub n).standing k a j) own) ∙ below_it (cases_lt k ((exchange_of (machine s) e).stub (group_at e.groups ((machine s).owner k))).base)
        where
          none_by : (c : Bool) → reference_sends (machine s) k a j ≡ 0 → cond c 0 (reference_sends (machine s) k a j) ≡ 0
          none_by true z = refl
          none_by false z = z

          below_it : (k < ((exchange_of (machine s) e).stub (group_at e.groups ((machine s).owner k))).base) ⊎ (((exchange_of (machine s) e).stub (group_at e.groups ((machine s).owner k))).base ≤ k)
              → ((exchange_of (machine s) e).stub (group_at e.groups ((machine s).owner k))).standing k a j ≡ 0
          below_it (inl under) = is.sound.low_standing j k a under
          below_it (inr over) = is.sound.sent j k a over low ∙ none_by (group_at e.groups ((machine s).owner k) == group_at e.groups j) nobody
            where
              nobody : reference_sends (machine s) k a j ≡ 0
              nobody = rw (counted.deaf ((machine s).owner k) a j past) refl

  none_minus : HasCount (machine s) (length s.composition) → (j k : ℕ) (a : Named) → length s.composition ≤ j → times (machine s) (in_flight Minus j v.out) k a ≡ 0
  none_minus counted j k a past = go (cases_eq (group_at e.groups ((machine s).owner k)) v.number)
    where
      go : (group_at e.groups ((machine s).owner k) ≡ v.number) ⊎ (group_at e.groups ((machine s).owner k) ≡ v.number → ⊥) → times (machine s) (in_flight Minus j v.out) k a ≡ 0
      go (inl own) = stands_nowhere counted j k a past own
      go (inr ne) = proper.mine_minus j k a ne

  none_plus : (j k : ℕ) (a : Named) → length s.composition ≤ j → times (machine s) (in_flight Plus j v.out) k a ≡ 0
  none_plus j k a past = ap (λ xs. times (machine s) xs k a) (valid.inside j past)

  -- the inboxes with what came
  abbrev came : ℕ → List Signed
  came j = cond (group_at e.groups j == v.number) passed.was.inbox (inbox_in (group_at e.groups) stubs j)

  came_own : (j : ℕ) → group_at e.groups j ≡ v.number → came j ≡ passed.was.inbox
  came_own j own = rw (eq-eqb (group_at e.groups j) v.number own) refl

  came_else : (j : ℕ) → (group_at e.groups j ≡ v.number → ⊥) → came j ≡ inbox_in (group_at e.groups) stubs j
  came_else j ne = rw (ne_eqb (group_at e.groups j) v.number ne) refl

  inbox_was : (j : ℕ) → group_at e.groups j ≡ v.number → inbox_in (group_at e.groups) e.stubs j ≡ passed.was.inbox
  inbox_was j own = ap (λ n. inbox_of (slice_get e.stubs n)) own ∙ ap inbox_of passed.there

  abbrev After : ℕ → List Signed → ℕ → Named → ℕ
  After j xs k a = (among s Plus j xs k a + among s Plus j v.out k a) - (among s Minus j xs k a + among s Minus j v.out k a)

  abbrev Before : ℕ → List Signed → ℕ → Named → ℕ
  Before j xs k a = (among s Minus j xs k a + among s Minus j v.out k a) - (among s Plus j xs k a + among s Plus j v.out k a)

  stays : {p m x y : ℕ} → (p ≡ 0) ⊎ (m ≡ 0) → x ≡ 0 → y ≡ 0 → p ≡ (p + x) - (m + y)
  stays (inl z) f h = omega (arith, z, f, h)
  stays (inr z) f h = omega (arith, z, f, h)

  turned : {A B : Type 0} → A ⊎ B → B ⊎ A
  turned (inl a) = inr a
  turned (inr b) = inl b

  messages : HasCount (machine s) (length s.composition) → (j k : ℕ) (a : Named) → among s Plus j (came j) k a ≡ After j (inbox_in (group_at e.groups) e.stubs j) k a
  messages counted j k a = go (cases_eq (group_at e.groups j) v.number)
    where
      other : (group_at e.groups j ≡ v.number → ⊥) → (o : Option Stub) → slice_get stubs (group_at e.groups j) ≡ o → among s Plus j (inbox_of o) k a ≡ After j (inbox_in (group_at e.groups) e.stubs j) k a
      other ne None q =
          let past = beyond j (none_was (group_at e.groups j) q) in
          let nothing : inbox_in (group_at e.groups) e.stubs j ≡ [] = ap inbox_of (none_was (group_at e.groups j) q) in
          let p : among s Plus j (inbox_in (group_at e.groups) e.stubs j) k a ≡ 0 = ap (λ xs. among s Plus j xs k a) nothing in
          let o = none_plus j k a past in
          omega (arith, p, o)
      other ne (Some x) q =
          let r = come.each (group_at e.groups j) x q in
          r.messages j k a refl ∙ ap (λ o. After j (inbox_of o) k a) (sym (was_other (group_at e.groups j) ne x q))

      go : (group_at e.groups j ≡ v.number) ⊎ (group_at e.groups j ≡ v.number → ⊥) → among s Plus j (came j) k a ≡ After j (inbox_in (group_at e.groups) e.stubs j) k a
      go (inl own) =
          let none_p : among s Plus j v.out k a ≡ 0 = ap (λ xs. times (machine s) xs k a) (none_own Plus j own) in
          let none_m : among s Minus j v.out k a ≡ 0 = ap (λ xs. times (machine s) xs k a) (none_own Minus j own) in
          ap (λ xs. among s Plus j xs k a) (came_own j own) ∙ stays (was_is.apart j k a) none_p none_m ∙ ap (λ xs. After j xs k a) (sym (inbox_was j own))
      go (inr ne) = ap (λ xs. among s Plus j xs k a) (came_else j ne) ∙ other ne (slice_get stubs (group_at e.groups j)) refl

  antimessages : HasCount (machine s) (length s.composition) → (j k : ℕ) (a : Named) → among s Minus j (came j) k a ≡ Before j (inbox_in (group_at e.groups) e.stubs j) k a
  antimessages counted j k a = go (cases_eq (group_at e.groups j) v.number)
    where
      other : (group_at e.groups j ≡ v.number → ⊥) → (o : Option Stub) → slice_get stubs (group_at e.groups j) ≡ o → among s Minus j (inbox_of o) k a ≡ Before j (inbox_in (group_at e.groups) e.stubs j) k a
      other ne None q =
          let past = beyond j (none_was (group_at e.groups j) q) in
          let nothing : inbox_in (group_at e.groups) e.stubs j ≡ [] = ap inbox_of (none_was (group_at e.groups j) q) in
          let p : among s Minus j (inbox_in (group_at e.groups) e.stubs j) k a ≡ 0 = ap (λ xs. among s Minus j xs k a) nothing in
          let o = none_minus counted j k a past in
          omega (arith, p, o)
      other ne (Some x) q =
          let r = come.each (group_at e.groups j) x q in
          r.antimessages j k a refl ∙ ap (λ o. Before j (inbox_of o) k a) (sym (was_other (group_at e.groups j) ne x q))

      go : (group_at e.groups j ≡ v.number) ⊎ (group_at e.groups j ≡ v.number → ⊥) → among s Minus j (came j) k a ≡ Before j (inbox_in (group_at e.groups) e.stubs j) k a
      go (inl own) =
          let none_p : among s Plus j v.out k a ≡ 0 = ap (λ xs. times (machine s) xs k a) (none_own Plus j own) in
          let none_m : among s Minus j v.out k a ≡ 0 = ap (λ xs. times (machine s) xs k a) (none_own Minus j own) in
          ap (λ xs. among s Minus j xs k a) (came_own j own) ∙ stays (turned (was_is.apart j k a)) none_m none_p ∙ ap (λ xs. Before j xs k a) (sym (inbox_was j own))
      go (inr ne) = ap (λ xs. among s Minus j xs k a) (came_else j ne) ∙ other ne (slice_get stubs (group_at e.groups j)) refl

  others : (h : ℕ) → (h ≡ v.number → ⊥) → stub_or_none (machine s) (slice_get stubs h) ≡ stub_or_none (machine s) (slice_get e.stubs h)
  others h ne = go (slice_get stubs h) refl
    where
      go : (o : Option Stub) → slice_get stubs h ≡ o → stub_or_none (machine s) o ≡ stub_or_none (machine s) (slice_get e.stubs h)
      go None q = ap (stub_or_none (machine s)) (sym (none_was h q))
      go (Some x) q = ap (stub_of (machine s)) (come.each h x q).rest ∙ ap (stub_or_none (machine s)) (sym (was_other h ne x q))

  -- its own stub by then
  now : (x : Stub) × (slice_get stubs v.number ≡ Some x)
  now = let there = known.there in let many = as_many in get_there stubs v.number (omega (arith, there, many))

  now_was : (come.each v.number now.0 now.1).was ≡ passed.own
  now_was = one_some (come.each v.number now.0 now.1).was passed.own (sym (come.each v.number now.0 now.1).there ∙ here)

  now_rest : now.0 ≡ record passed.own { inbox = now.0.inbox; copies = now.0.copies }
  now_rest = (come.each v.number now.0 now.1).rest ∙ ap (λ (x : Stub). record x { inbox = now.0.inbox; copies = now.0.copies }) now_was

  empty_was : (come.each v.number now.0 now.1).was.inbox ≡ []
  empty_was = ap (λ (x : Stub). x.inbox) now_was ∙ own_inbox

  now_empty : (sign : Sign) (i : ℕ) → group_at e.groups i ≡ v.number → in_flight sign i now.0.inbox ≡ []
  now_empty Plus i own = nothing_there s law (in_flight Plus i now.0.inbox) (λ k a.
      let r = (come.each v.number now.0 now.1).messages i k a own in
      let none_p : among s Plus i v.out k a ≡ 0 = ap (λ xs. times (machine s) xs k a) (none_own Plus i own) in
      let was_p : among s Plus i (come.each v.number now.0 now.1).was.inbox k a ≡ 0 = ap (λ xs. among s Plus i xs k a) empty_was in
      omega (arith, r, none_p, was_p))
  now_empty Minus i own = nothing_there s law (in_flight Minus i now.0.inbox) (λ k a.
      let r = (come.each v.number now.0 now.1).antimessages i k a own in
      let none_m : among s Minus i v.out k a ≡ 0 = ap (λ xs. times (machine s) xs k a) (none_own Minus i own) in
      let was_m : among s Minus i (come.each v.number now.0 now.1).was.inbox k a ≡ 0 = ap (λ xs. among s Minus i xs k a) empty_was in
      omega (arith, r, none_m, was_m))

  own_now : (sign : Sign) (i : ℕ) → group_at e.groups i ≡ v.number → in_flight sign i (inbox_in (group_at e.groups) stubs i) ≡ []
  own_now sign i own = ap (λ n. in_flight sign i (inbox_of (slice_get stubs n))) own ∙ ap (λ o. in_flight sign i (inbox_of o)) now.1 ∙ now_empty sign i own

  stub_now : stub_or_none (machine s) (slice_get stubs v.number) ≡ stub_of (machine s) (record passed.met.kept { floor = floor })
  stub_now = ap (stub_or_none (machine s)) now.1 ∙ ap (stub_of (machine s)) now_rest ∙ ap (stub_of (machine s)) passed.met.becomes

  stub_was : stub_or_none (machine s) (slice_get e.stubs v.number) ≡ stub_of (machine s) passed.was
  stub_was = ap (stub_or_none (machine s)) passed.there

  kept_base : rank_of_bound passed.met.kept.base ≡ rank_of_bound e.bound
  kept_base = ap (λ (x : Stub). rank_of_bound x.base) passed.met.is_kept.rest

  handed_taken : (i k : ℕ) (a : Named) → group_at e.groups i ≡ v.number → among s Plus i passed.met.handed.taken k a ≡ (among s Plus i passed.was.taken k a + among s Plus i (came i) k a) - among s Minus i (came i) k a
  handed_taken i k a own =
      let t = passed.met.is_handed.taken s i k a in
      let c : among s Plus i passed.met.sent.copies k a ≡ among s Plus i passed.was.inbox k a = ap (λ (x : Stub). among s Plus i x.copies k a) passed.met.is_sent.rest ∙ was_is.copied i k a in
      let n : among s Minus i passed.met.sent.inbox k a ≡ among s Minus i passed.was.inbox k a = ap (λ (x : Stub). among s Minus i x.inbox k a) passed.met.is_sent.rest in
      let w : among s Plus i passed.met.sent.taken k a ≡ among s Plus i passed.was.taken k a = ap (λ (x : Stub). among s Plus i x.taken k a) passed.met.is_sent.rest in
      let p : among s Plus i (came i) k a ≡ among s Plus i passed.was.inbox k a = ap (λ xs. among s Plus i xs k a) (came_own i own) in
      let q : among s Minus i (came i) k a ≡ among s Minus i passed.was.inbox k a = ap (λ xs. among s Minus i xs k a) (came_own i own) in
      omega (arith, t, c, n, w, p, q)

  taken : (i k : ℕ) (a : Named) → group_at e.groups i ≡ v.number → (stub_or_none (machine s) (slice_get stubs v.number)).taken i k a
      ≡ cond (nat_lt k (rank_of_bound e.bound)) 0 (((stub_or_none (machine s) (slice_get e.stubs v.number)).taken i k a + among s Plus i (came i) k a) - among s Minus i (came i) k a)
  taken i k a own =
      ap (λ (st : StubSeen Named). st.taken i k a) stub_now ∙ passed.met.is_kept.taken s i k a ∙ ap (cond (nat_lt k (rank_of_bound e.bound)) 0) (handed_taken i k a own)
      ∙ ap (λ (st : StubSeen Named). cond (nat_lt k (rank_of_bound e.bound)) 0 ((st.taken i k a + among s Plus i (came i) k a) - among s Minus i (came i) k a)) (sym stub_was)

  handed_standing : (k : ℕ) (a : Named) (j : ℕ) → among s Plus j passed.met.handed.standing k a ≡ (among s Plus j passed.was.standing k a + among s Plus j v.out k a) - among s Minus j v.out k a
  handed_standing k a j =
      let t = passed.met.is_sent.standing s j k a in
      let c = copied.0 s j k a in
      let w : among s Plus j passed.met.handed.standing k a ≡ among s Plus j passed.met.sent.standing k a = ap (λ (x : Stub). among s Plus j x.standing k a) passed.met.is_handed.rest in
      omega (arith, t, c, w)

  standing : (k : ℕ) (a : Named) (j : ℕ) → (stub_or_none (machine s) (slice_get stubs v.number)).standing k a j
      ≡ cond (nat_lt k (rank_of_bound e.bound)) 0 (((stub_or_none (machine s) (slice_get e.stubs v.number)).standing k a j + among s Plus j v.out k a) - among s Minus j v.out k a)
  standing k a j =
      ap (λ (st : StubSeen Named). st.standing k a j) stub_now ∙ passed.met.is_kept.standing s j k a ∙ ap (cond (nat_lt k (rank_of_bound e.bound)) 0) (handed_standing k a j)
      ∙ ap (λ (st : StubSeen Named). cond (nat_lt k (rank_of_bound e.bound)) 0 ((st.standing k a j + among s Plus j v.out k a) - among s Minus j v.out k a)) (sym stub_was)

  -- the components, which have given up what is below the bound
  abbrev pub cut : List (ComponentView (Setup T))
  cut = cut_all turn_of e.bound v.components

  abbrev pub settled : GroupView (Setup T)
  settled = record v { base = e.bound; components = cut_all turn_of e.bound v.components; floor = floor; tray = insert_all (inbox_of (slice_get e.stubs v.number)) v.tray; out = [] }

  module _ (sound : AreSound turn_of (record { setup = v.setup; base = v.base; components = v.components })) where
    of_machine : (q : ℕ) (c : ComponentView (Setup T)) → slice_get v.components q ≡ Some c → machine_of turn_of c.setup ≡ machine s
    of_machine q c at = ap (λ p. machine (system turn_of p)) (own_there v.setup v.base v.components q c sound.own at).0 ∙ ap machine of_setup

    member : (i : ℕ) → group_at e.groups i ≡ v.number → is_member v.components i ≡ true
    member i own = sym (known.members i) ∙ eq-eqb (group_at e.groups i) v.number own

    history_is : (i : ℕ) → group_at e.groups i ≡ v.number → history_of (machine s) (cut_all turn_of e.bound v.components) i ≡ cut_of (machine s) i (rank_of_bound e.bound) (history_of (machine s) v.components i)
    history_is i own = cut_history turn_of e.bound (machine s) v.components of_machine i (member i own)

    cut_members : AreMembers (group_at e.groups) v.number (cut_all turn_of e.bound v.components)
    cut_members j = known.members j ∙ sym (cut_member turn_of e.bound v.components j)

    -- what each gives up
    abbrev given_up : ℕ → List (Turn Named)
    given_up i = turns_among (below (rank_of_bound e.bound) (history_of (machine s) v.components i).done)

    module _ (lists : List (Around Turned)) (given : AreGivenUp e.bound v.components lists) (falls_law : FallsLaw (machine s) (group_at e.groups)) (apart_law : ApartLaw (machine s) (group_at e.groups)) (merged_falls : MergedFalls) (merged_outcomes : MergedOutcomes) where
      cut_apart : AreApart sound.place 0 (cut_all turn_of e.bound v.components)
      cut_apart q c at = let old = mapped (cut_to turn_of e.bound) v.components q c at in ap sound.place (sym (ap (λ (x : ComponentView _). x.number) old.2)) ∙ sound.apart q old.0 old.1

      number_member : (q : ℕ) (c : ComponentView (Setup T)) → slice_get (cut_all turn_of e.bound v.components) q ≡ Some c → group_at e.groups c.number ≡ v.number
      number_member q c at =
          let old = mapped (cut_to turn_of e.bound) v.components q c at in
          eqb-true (group_at e.groups c.number) v.number (known.members c.number ∙ ap (is_member v.components) (sym (ap (λ (x : ComponentView _). x.number) old.2)) ∙ member_there v.components q old.0 old.1)

      are : (q : ℕ) (c : ComponentView (Setup T)) (turns : Around Turned) → slice_get (cut_all turn_of e.bound v.components) q ≡ Some c → slice_get lists q ≡ Some turns → turns_of turns.after ≡ given_up c.number
      are q c turns at found =
          let old = mapped (cut_to turn_of e.bound) v.components q c at in
          let number : old.0.number ≡ c.number = ap (λ (x : ComponentView _). x.number) old.2 in
          let one = given.each q old.0 turns old.1 found in
          let history = history_there (machine s) sound.place 0 v.components q old.0 sound.apart old.1 in
          ap (λ ts. onto ts []) one.turns ∙ onto_back (turns_among (below (rank_of_bound e.bound) old.0.history.done)) []
          ∙ ap (λ (r : Record (List Datum) Named). turns_among (below (rank_of_bound e.bound) r.done)) (sym history) ∙ ap given_up number

      fall : (q : ℕ) (c : ComponentView (Setup T)) → slice_get (cut_all turn_of e.bound v.components) q ≡ Some c → Falls (given_up c.number)
      fall q c at = falls_law (length s.composition) v.number c.number (exchange_of (machine s) e) (lease_of (machine s) v) law is.sound proper known.match (number_member q c at)

      puttable : ArePuttable (cut_all turn_of e.bound v.components) lists
      puttable q c turns at found =
          let old = mapped (cut_to turn_of e.bound) v.components q c at in
          ((given.each q old.0 turns old.1 found).front, subst Falls (sym (are q c turns at found)) (fall q c at))

      own_turns : (q : ℕ) (c : ComponentView (Setup T)) → slice_get (cut_all turn_of e.bound v.components) q ≡ Some c → Each (IsOf c.number) (given_up c.number)
      own_turns q c at =
          let r = history_of (machine s) v.components c.number in
          done_own (machine s) law c.number (rank_of_bound e.bound) (rank_of_bound v.base) r.first r.base r.done (proper.proper c.number (number_member q c at)).done

      free : (q : ℕ) (c : ComponentView (Setup T)) → slice_get (cut_all turn_of e.bound v.components) q ≡ Some c → (k : ℕ) (o : Option Named) → outcome_at k (given_up c.number) ≡ Some o → outcome_at k (put_all e.held) ≡ None
      free q c at k o h = apart_law (length s.composition) v.number c.number (exchange_of (machine s) e) (lease_of (machine s) v) law is.sound proper known.match (number_member q c at) k o h

      module _ (held : List (List Turned)) (put : HavePutTo (cut_all turn_of e.bound v.components) lists (length (cut_all turn_of e.bound v.components)) e.held held) where
        all_put : IsPut (cut_all turn_of e.bound v.components) sound.place cut_apart lists given_up are fall own_turns e.held is.sound.held.1.falls is.order is.owners free merged_falls merged_outcomes (length (cut_all turn_of e.bound v.components)) held
        all_put = put_some (cut_all turn_of e.bound v.components) sound.place cut_apart lists given_up are fall own_turns e.held is.sound.held.1.falls is.order is.owners free merged_falls merged_outcomes (length (cut_all turn_of e.bound v.components)) held put

        abbrev pub after : ExchangeView P
        after = record e { stubs = stubs; held = held }

        module _ (appended : AppendedIsAdded) (counted : HasCount (machine s) (length s.composition)) (lowest : IsFloor (machine s) (group_at e.groups) v.number (rank_of_bound floor) (lease_of (machine s) settled).part) where
          in_tray : (sign : Sign) (i k : ℕ) (a : Named) → group_at e.groups i ≡ v.number → among s sign i (insert_all (inbox_of (slice_get e.stubs v.number)) v.tray) k a ≡ among s sign i v.tray k a + among s sign i (came i) k a
          in_tray sign i k a own =
              let t : among s sign i (insert_all (inbox_of (slice_get e.stubs v.number)) v.tray) k a ≡ among s sign i (insert_all passed.was.inbox v.tray) k a = ap (λ o. among s sign i (insert_all (inbox_of o) v.tray) k a) passed.there in
              let b = appended s sign i k a passed.was.inbox v.tray in
              let x : among s sign i (came i) k a ≡ among s sign i passed.was.inbox k a = ap (λ xs. among s sign i xs k a) (came_own i own) in
              omega (arith, t, b, x)

          moved : IsMoved (machine s) (group_at e.groups) v.number (exchange_of (machine s) e) (lease_of (machine s) v) (exchange_of (machine s) after) (lease_of (machine s) settled)
          moved =
              record {
                p = λ j. in_flight Plus j (came j);
                m = λ j. in_flight Minus j (came j);
                messages = messages_are;
                antimessages = antimessages_are;
                others = others;
                others_plus = λ j ne. ap (in_flight Plus j) (sym (came_else j ne));
                others_minus = λ j ne. ap (in_flight Minus j) (sym (came_else j ne));
                stub_base = ap (λ (st : StubSeen Named). st.base) stub_now ∙ kept_base;
                stub_floor = ap (λ (st : StubSeen Named). st.floor) stub_now;
                taken = taken;
                standing = λ k a j own. standing k a j;
                inbox_plus = λ i own. own_now Plus i own;
                inbox_minus = λ i own. own_now Minus i own;
                bound = refl;
                given = refl;
                base = refl;
                first = λ i own. ap (λ (r : Record (List Datum) Named). r.first) (history_is i own);
                state = λ i own. ap (λ (r : Record (List Datum) Named). r.base) (history_is i own);
                done = λ i own. ap (λ (r : Record (List Datum) Named). r.done) (history_is i own);
                pending = λ i own. ap (λ (r : Record (List Datum) Named). r.pending) (history_is i own);
                owed = λ i own. ap (λ (r : Record (List Datum) Named). r.owed) (history_is i own);
                tray_plus = λ i k a own. in_tray Plus i k a own;
                tray_minus = λ i k a own. in_tray Minus i k a own;
                out_plus = λ j. refl;
                out_minus = λ j. refl;
                floor = lowest;
                falls = all_put.falls;
                turns = outcomes (cut_all turn_of e.bound v.components) sound.place cut_apart lists given_up are fall own_turns e.held is.sound.held.1.falls is.order is.owners free merged_falls merged_outcomes held put (group_at e.groups) v.number cut_members;
              }
            where
              messages_are : (j k : ℕ) (a : Named) → times (machine s) (in_flight Plus j (came j)) k a ≡ (times (machine s) ((exchange_of (machine s) e).plus j) k a + times (machine s) (in_flight Plus j v.out) k a) - (times (machine s) ((exchange_of (machine s) e).minus j) k a + times (machine s) (in_flight Minus j v.out) k a)
              messages_are j k a = messages counted j k a

              antimessages_are : (j k : ℕ) (a : Named) → times (machine s) (in_flight Minus j (came j)) k a ≡ (times (machine s) ((exchange_of (machine s) e).minus j) k a + times (machine s) (in_flight Minus j v.out) k a) - (times (machine s) ((exchange_of (machine s) e).plus j) k a + times (machine s) (in_flight Plus j v.out) k a)
              antimessages_are j k a = antimessages counted j k a

          -- an accepted meeting
          pub record IsAccepted : Type 0 where
            pub met : Met (machine s) (group_at e.groups) v.number (exchange_of (machine s) e) (lease_of (machine s) v) (exchange_of (machine s) after) (lease_of (machine s) settled)
            pub shared : IsValidExchange s after
            pub lease : IsValidLease (machine s) (length s.composition) settled

          pub accepted : MetLaw (machine s) (group_at e.groups) → SoundLaw (machine s) (group_at e.groups) → IsAccepted
          accepted met_law sound_law =
              let met = met_law (length s.composition) v.number (exchange_of (machine s) e) (exchange_of (machine s) after) (lease_of (machine s) v) (lease_of (machine s) settled) law is.sound proper known.match quiet valid.inside moved in
              let new = sound_law (length s.composition) v.number (exchange_of (machine s) e) (exchange_of (machine s) after) (lease_of (machine s) v) (lease_of (machine s) settled) law is.sound proper known.match met in
              record {
                met = met;
                shared = record {
                  sound = new.0;
                  partition = subst (λ n. IsPartition (length s.composition) n e.groups) (sym as_many) is.partition;
                  few = subst (λ n. n < 65536) (sym as_many) is.few;
                  stubs = λ h stub at. (come.each h stub at).kept;
                  many = is.many;
                  passages = is.passages;
                  lists = all_put.many ∙ is.lists;
                  order = all_put.order;
                  owners = all_put.owners;
                };
                lease = record {
                  lease = λ group mine. lease_agrees (group_at e.groups) group v.number (agree group mine) (machine s) (lease_of (machine s) settled) new.1;
                  stub = (exchange_of (machine s) after).stub v.number;
                  match = λ group mine. matches_agrees (group_at e.groups) group v.number (agree group mine) (machine s) ((exchange_of (machine s) after).stub v.number) (lease_of (machine s) settled) met.matches;
                  inside = λ j past. refl;
                };
              }
            where
              agree : (group : ℕ → ℕ) → AreMembers group v.number (cut_all turn_of e.bound v.components) → (j : ℕ) → (group_at e.groups j == v.number) ≡ (group j == v.number)
              agree group mine j = cut_members j ∙ sym (mine j)
