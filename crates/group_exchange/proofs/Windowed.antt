-- A window holds from the start, and whatever is called keeps it.
use Rattle.std.proofs.Common.{◌≡◌, ℕ, zero, suc, ◌+◌, ◌-◌, ◌*◌, ◌<◌, ◌≤◌, ◌==◌, ◌⊎◌, inl, inr, cond, true, Option, None, Some, List, [], ◌∷◌, ◌++◌, length, refl, ap, sym, subst, ◌∙◌, arith}
use Rattle.std.specs.Prelude.{IfSome, slice_get}
use Rattle.std.proofs.lemmas.Bool.{cases_eq, cases_lt, eq-eqb, eqb-true, ne_eqb}
use Rattle.terms.specs.Datum.{Datum}
use Rattle.terms.specs.Named.{Named}
use Rattle.event_keys.specs.declared.message.Sign.TheVariants.{Plus, Minus}
use Rattle.event_keys.specs.declared.outcome.Turned.{Turned}
use Rattle.virtual_time.specs.Machine.{Lawful, Machine}
use Rattle.virtual_time.specs.Records.{Record}
use Rattle.virtual_time.specs.Reference.{Turn}
use Rattle.virtual_time.specs.Worlds.{record_of}
use Rattle.virtual_time.specs.Exchange.Windows.{IsWithin, own_turns}
use Rattle.virtual_time.specs.Groups.Leases.{IsLease, Lease, Matches, start_lease}
use Rattle.virtual_time.specs.Groups.Meetings.{IsChunk, IsCommit, Met}
use Rattle.virtual_time.specs.Groups.Stubs.{Exchange, IsSound, Stub as StubSeen, start_exchange}
use Rattle.virtual_time.specs.Groups.Windows.{AreAmong, IsExchangeWithin, IsStubWithin, crossings, inboxes}
use Rattle.task_seed.specs.declared.setup.Setup.{Setup}
use Rattle.task_seed.specs.declared.turns.Turn.{Turn as TurnValue}
use Rattle.rollback.specs.ComponentView.{ComponentView, machine_of}
use Rattle.plans.specs.Plans.{composition}
use Rattle.task_seed.specs.Setups.{plan_of}
use Rattle.rollback.specs.Flight.{in_flight}
use Rattle.groups.specs.declared.window.Window.{Window}
use Rattle.groups.specs.Crew.{AreApart}
use Rattle.groups.specs.GroupView.{AreMembers, GroupView, history_of, is_member, lease_of}
use Rattle.groups.specs.Moves.{IsAhead}
use Rattle.groups.specs.Windows.{HaveDone, KeepsWindow, OfEachRecord}
use Rattle.groups.proofs.Placed.{history_there, member_at, member_there}
use Rattle.group_exchange.specs.declared.stub.Stub.{Stub}
use Rattle.group_exchange.specs.Core.{StaysKnown}
use Rattle.group_exchange.specs.ExchangeView.{ExchangeView, exchange_of, group_at}
use Rattle.group_exchange.specs.LeaseView.{IsValidLease}
use Rattle.group_exchange.specs.Start.{IsStarted}
use Rattle.group_exchange.specs.Windows.{HasFewWaiting, HasWindow, IsInWindow, IsLeaseWithin, KeepsToWindow, OfEachLease}
use Rattle.group_exchange.proofs.Accepting.{group_beyond}
use Rattle.group_exchange.proofs.Placing.{none_some}
use Rattle.group_exchange.proofs.Starting.{last_at}

-- what the theory says of each call
module _ (m : Machine (List Datum) Named) (group : ℕ → ℕ) where
  abbrev pub StartLaw : Type 0
  StartLaw = (window count : ℕ) → Lawful m → IsExchangeWithin m group window count (start_exchange m group count)

  abbrev pub CommitLaw : Type 0
  CommitLaw = (window count : ℕ) (exchange new_exchange : Exchange Named) → IsExchangeWithin m group window count exchange → IsCommit m exchange new_exchange → IsExchangeWithin m group window count new_exchange

  abbrev pub ChunkLaw : Type 0
  ChunkLaw =
      (window count b : ℕ) (exchange new_exchange : Exchange Named) (turns : List (Turn Named)) → IsExchangeWithin m group window count exchange → IsChunk m group count exchange b new_exchange turns
      → IsExchangeWithin m group window count new_exchange

  abbrev pub MeetLaw : Type 0
  MeetLaw =
      (window count g : ℕ) (exchange new_exchange : Exchange Named) (lease new_lease : Lease (List Datum) Named) → Lawful m → AreAmong group count g → IsSound m group count exchange → IsLease m group g lease
      → Matches m group g (exchange.stub g) lease → Met m group g exchange lease new_exchange new_lease → IsExchangeWithin m group window count exchange → ((i : ℕ) → group i ≡ g → IsWithin window count (record_of (lease.part i)))
      → IsExchangeWithin m group window count new_exchange × ((i : ℕ) → group i ≡ g → IsWithin window count (record_of (new_lease.part i)))

  abbrev pub SettledLaw : Type 0
  SettledLaw =
      (window count g i : ℕ) (exchange : Exchange Named) (lease : Lease (List Datum) Named) → Lawful m → AreAmong group count g → IsExchangeWithin m group window count exchange → IsLease m group g lease
      → Matches m group g (exchange.stub g) lease → ((n : ℕ) → group n ≡ g → own_turns (lease.part n).done ≤ window) → group i ≡ g → (lease.part i).plus ≡ [] → (lease.part i).minus ≡ []
      → IsWithin window count (record_of (lease.part i))

  abbrev pub InboxesLaw : Type 0
  InboxesLaw = (window count : ℕ) (exchange : Exchange Named) → Lawful m → IsSound m group count exchange → IsExchangeWithin m group window count exchange → inboxes exchange count ≤ 2 * (window * crossings group count count)

-- a group that there is has its components among the first
pub among_of : (groups : List ℕ) (count number : ℕ) → length groups ≡ count → number < 65536 → AreAmong (group_at groups) count number
among_of groups count number every small i own = go (cases_lt i count)
  where
    go : (i < count) ⊎ (count ≤ i) → i < count
    go (inl inside) = inside
    go (inr past) = let far = group_beyond groups i (omega (arith, past, every)) in absurd (omega (arith, far, own, small))

module _ {P : Type 0} (m : Machine (List Datum) Named) (place : ℕ → ℕ) (cs : List (ComponentView P)) (apart : AreApart place 0 cs) (Holds : Record (List Datum) Named → Type 0) where
  -- what holds of the record at each place holds of that of each member
  pub by_number : OfEachRecord Holds cs → (j : ℕ) → is_member cs j ≡ true → Holds (history_of m cs j)
  by_number all j own =
      let at = member_at cs j own in
      let same : history_of m cs j ≡ at.c.history = ap (history_of m cs) (sym at.number) ∙ history_there m place 0 cs at.place at.c apart at.there in
      subst Holds (sym same) (all at.place at.c at.there)

  -- and back
  pub by_place : ((j : ℕ) → is_member cs j ≡ true → Holds (history_of m cs j)) → OfEachRecord Holds cs
  by_place all q c at = subst Holds (history_there m place 0 cs q c apart at) (all c.number (member_there cs q c at))

-- an entry was done or not: either nothing changed, or nothing is in flight within the group
pub ahead_end : {T : Type 0} (turn_of : T → ℕ → ℕ → Option TurnValue) (old new : GroupView (Setup T)) (count : ℕ) → IsAhead turn_of old new count → (new ≡ old) ⊎ (new.tray ≡ [])
ahead_end turn_of old new zero e = inl e
ahead_end turn_of old new (suc count) h = inr h.2.tray

module _ (m : Machine (List Datum) Named) (law : Lawful m) (group : ℕ → ℕ) where
  -- an exchange whose stub of group g this is, and whose others are as at the start
  abbrev only : ℕ → ℕ → StubSeen Named → Exchange Named
  only count g st = record { stub = λ h. cond (h == g) st ((start_exchange m group count).stub h); plus = λ j. []; minus = λ j. []; bound = 0; held = []; given = 0 }

  only_within : StartLaw m group → (window count g : ℕ) (st : StubSeen Named) → IsStubWithin m group window count g st → IsExchangeWithin m group window count (only count g st)
  only_within start_law window count g st within = record { stubs = λ h. stubs h (cases_eq h g); apart = λ j k a. inl refl }
    where
      start : IsExchangeWithin m group window count (start_exchange m group count)
      start = start_law window count law

      stubs : (h : ℕ) → (h ≡ g) ⊎ (h ≡ g → ⊥) → IsStubWithin m group window count h ((only count g st).stub h)
      stubs h (inl e) = rw (eq-eqb h g e) (subst (λ n. IsStubWithin m group window count n st) (sym e) within)
      stubs h (inr ne) = rw (ne_eqb h g ne) (start.stubs h)

  only_matches : (count g : ℕ) (st : StubSeen Named) (l : Lease (List Datum) Named) → Matches m group g st l → Matches m group g ((only count g st).stub g) l
  only_matches count g st l match = rw (eq-eqb g g refl) match

module _ {P : Type 0} (m : Machine (List Datum) Named) (law : Lawful m) (start_law : (group : ℕ → ℕ) → StartLaw m group) (settled_law : (group : ℕ → ℕ) → SettledLaw m group) where
  -- a lease that did steps of its own keeps to its window, where nothing is left in flight within it
  pub moved_within : (count : ℕ) (old new : GroupView P) → KeepsWindow old new → new.number ≡ old.number → ((j : ℕ) → is_member new.components j ≡ is_member old.components j) → (place : ℕ → ℕ) → AreApart place 0 new.components
      → ((group : ℕ → ℕ) → AreMembers group new.number new.components → IsLease m group new.number (lease_of m new)) → ((group : ℕ → ℕ) → AreMembers group old.number old.components → StaysKnown m group old.number (lease_of m old) (lease_of m new))
      → (new ≡ old) ⊎ (new.tray ≡ []) → KeepsToWindow m count old → KeepsToWindow m count new
  moved_within count old new keeps number member place apart lease known (inl e) was = subst (KeepsToWindow m count) (sym e) was
  moved_within count old new keeps number member place apart lease known (inr empty) was = subst (λ w. IfSome w (IsLeaseWithin m count new)) (sym keeps.same) (go old.window refl was)
    where
      go : (w : Option Window) → old.window ≡ w → IfSome w (IsLeaseWithin m count old) → IfSome w (IsLeaseWithin m count new)
      go None is w = tt
      go (Some window) is w =
          let group = w.group in
          let before : IfSome old.window (λ (x : Window). HaveDone x.turns old.components) = subst (λ o. IfSome o (λ (x : Window). HaveDone x.turns old.components)) (sym is) (λ q c at. (w.here q c at).turns) in
          let done : HaveDone window.turns new.components = subst (λ o. IfSome o (λ (x : Window). HaveDone x.turns new.components)) (keeps.same ∙ is) (keeps.keeps before) in
          let members : AreMembers w.group new.number new.components = λ j. ap (λ n. w.group j == n) number ∙ w.members j ∙ sym (member j) in
          let among : AreAmong w.group count new.number = λ i e. w.among i (e ∙ number) in
          let match : Matches m w.group new.number w.stub (lease_of m new)
          = subst (λ g. Matches m w.group g w.stub (lease_of m new)) (sym number) (known w.group w.members (record { stub = λ h. w.stub; plus = λ j. []; minus = λ j. []; bound = 0; held = []; given = 0 }) w.match) in
          let within : IsStubWithin m w.group window.turns count new.number w.stub = subst (λ g. IsStubWithin m w.group window.turns count g w.stub) (sym number) w.within in
          record {
            here = by_place m place new.components apart (IsWithin window.turns count) (λ j own.
                settled_law w.group window.turns count new.number j (only m law w.group count new.number w.stub) (lease_of m new) law among (only_within m law w.group (start_law w.group) window.turns count new.number w.stub within)
                (lease w.group members) (only_matches m law w.group count new.number w.stub (lease_of m new) match)
                (λ n own_n. by_number m place new.components apart (λ r. own_turns r.done ≤ window.turns) done n (sym (members n) ∙ eq-eqb (w.group n) new.number own_n))
                (eqb-true (w.group j) new.number (members j ∙ own)) (ap (in_flight Plus j) empty) (ap (in_flight Minus j) empty));
            group = w.group;
            members = members;
            among = among;
            stub = w.stub;
            match = match;
            within = within;
          }

module _ {P : Type 0} (m : Machine (List Datum) Named) (count : ℕ) where
  -- a commit and a chunk keep the exchange to its window
  pub commit_within : (old new : ExchangeView P) → CommitLaw m (group_at old.groups) → new.window ≡ old.window → group_at new.groups ≡ group_at old.groups → IsCommit m (exchange_of m old) (exchange_of m new) → HasWindow m count old → HasWindow m count new
  commit_within old new commit_law same groups commit was =
      subst (λ w. IfSome w (λ (x : Window). IsExchangeWithin m (group_at new.groups) x.turns count (exchange_of m new))) (sym same)
      (subst (λ G. IfSome old.window (λ (x : Window). IsExchangeWithin m G x.turns count (exchange_of m new))) (sym groups) (go old.window was))
    where
      go : (w : Option Window) → IfSome w (λ x. IsExchangeWithin m (group_at old.groups) x.turns count (exchange_of m old)) → IfSome w (λ x. IsExchangeWithin m (group_at old.groups) x.turns count (exchange_of m new))
      go None w = tt
      go (Some window) w = commit_law window.turns count (exchange_of m old) (exchange_of m new) w commit

  pub chunk_within : (b : ℕ) (turns : List (Turn Named)) (old new : ExchangeView P) → ChunkLaw m (group_at old.groups) → new.window ≡ old.window → group_at new.groups ≡ group_at old.groups → IsChunk m (group_at old.groups) count (exchange_of m old) b (exchange_of m new) turns
      → HasWindow m count old → HasWindow m count new
  chunk_within b turns old new chunk_law same groups chunk was =
      subst (λ w. IfSome w (λ (x : Window). IsExchangeWithin m (group_at new.groups) x.turns count (exchange_of m new))) (sym same)
      (subst (λ G. IfSome old.window (λ (x : Window). IsExchangeWithin m G x.turns count (exchange_of m new))) (sym groups) (go old.window was))
    where
      go : (w : Option Window) → IfSome w (λ x. IsExchangeWithin m (group_at old.groups) x.turns count (exchange_of m old)) → IfSome w (λ x. IsExchangeWithin m (group_at old.groups) x.turns count (exchange_of m new))
      go None w = tt
      go (Some window) w = chunk_law window.turns count b (exchange_of m old) (exchange_of m new) turns w chunk

  -- what waits in all inboxes
  pub few_waiting : (e : ExchangeView P) → Lawful m → InboxesLaw m (group_at e.groups) → IsSound m (group_at e.groups) count (exchange_of m e) → HasWindow m count e → HasFewWaiting m count e
  few_waiting e law inboxes_law sound was = go e.window was
    where
      go : (w : Option Window) → IfSome w (λ x. IsExchangeWithin m (group_at e.groups) x.turns count (exchange_of m e)) → IfSome w (λ x. inboxes (exchange_of m e) count ≤ 2 * (x.turns * crossings (group_at e.groups) count count))
      go None w = tt
      go (Some window) w = inboxes_law window.turns count (exchange_of m e) law sound w

  -- a lease that keeps to its window is in it
  pub few_done : (v : GroupView P) → KeepsToWindow m count v → IsInWindow count v
  few_done v was = go v.window was
    where
      go : (w : Option Window) → IfSome w (IsLeaseWithin m count v) → IfSome w (λ x. OfEachRecord (IsWithin x.turns count) v.components)
      go None w = tt
      go (Some window) w = w.here

-- a meeting keeps the exchange to its window
module _ {P Q : Type 0} (m : Machine (List Datum) Named) (law : Lawful m) (count : ℕ) (e : ExchangeView P) (stubs : List Stub) (held : List (List Turned)) (v v' : GroupView Q) (meet_law : MeetLaw m (group_at e.groups)) (sound : IsSound m (group_at e.groups) count (exchange_of m e))
    (lease : IsLease m (group_at e.groups) v.number (lease_of m v)) (match : Matches m (group_at e.groups) v.number ((exchange_of m e).stub v.number) (lease_of m v)) (among : AreAmong (group_at e.groups) count v.number) (members : AreMembers (group_at e.groups) v.number v.components)
    (met : Met m (group_at e.groups) v.number (exchange_of m e) (lease_of m v) (exchange_of m (record e { stubs = stubs; held = held })) (lease_of m v')) (place : ℕ → ℕ) (apart : AreApart place 0 v.components) (same : IfSome e.window (λ w. v.window ≡ Some w)) where
  abbrev after : ExchangeView P
  after = record e { stubs = stubs; held = held }

  both : (window : Window) → IsExchangeWithin m (group_at e.groups) window.turns count (exchange_of m e) → OfEachRecord (IsWithin window.turns count) v.components
      → IsExchangeWithin m (group_at e.groups) window.turns count (exchange_of m after) × ((i : ℕ) → group_at e.groups i ≡ v.number → IsWithin window.turns count (record_of ((lease_of m v').part i)))
  both window within mine =
      meet_law window.turns count v.number (exchange_of m e) (exchange_of m after) (lease_of m v) (lease_of m v') law among sound lease match met within
      (λ i own. by_number m place v.components apart (IsWithin window.turns count) mine i (sym (members i) ∙ eq-eqb (group_at e.groups i) v.number own))

  pub met_within : HasWindow m count e → KeepsToWindow m count v → HasWindow m count after
  met_within was mine = go e.window same was
    where
      go : (w : Option Window) → IfSome w (λ x. v.window ≡ Some x) → IfSome w (λ x. IsExchangeWithin m (group_at e.groups) x.turns count (exchange_of m e)) → IfSome w (λ x. IsExchangeWithin m (group_at e.groups) x.turns count (exchange_of m after))
      go None is within = tt
      go (Some window) is within = let l : IsLeaseWithin m count v window = subst (λ o. IfSome o (IsLeaseWithin m count v)) is mine in (both window within l.here).0

  -- and the lease, whose window is the exchange's from then on
  pub met_lease_within : v'.number ≡ v.number → v'.window ≡ e.window → ((j : ℕ) → is_member v'.components j ≡ is_member v.components j) → (place' : ℕ → ℕ) → AreApart place' 0 v'.components → HasWindow m count e → KeepsToWindow m count v → KeepsToWindow m count v'
  met_lease_within number stays member place' apart' was mine = subst (λ w. IfSome w (IsLeaseWithin m count v')) (sym stays) (go e.window same was)
    where
      go : (w : Option Window) → IfSome w (λ x. v.window ≡ Some x) → IfSome w (λ x. IsExchangeWithin m (group_at e.groups) x.turns count (exchange_of m e)) → IfSome w (IsLeaseWithin m count v')
      go None is within = tt
      go (Some window) is within =
          let l : IsLeaseWithin m count v window = subst (λ o. IfSome o (IsLeaseWithin m count v)) is mine in
          let now = both window within l.here in
          let G = group_at e.groups in
          let g = v.number in
          record {
            here = by_place m place' v'.components apart' (IsWithin window.turns count) (λ j own. now.1 j (eqb-true (group_at e.groups j) v.number (members j ∙ sym (member j) ∙ own)));
            group = group_at e.groups;
            members = λ j. ap (λ n. group_at e.groups j == n) number ∙ members j ∙ sym (member j);
            among = λ i own. among i (own ∙ number);
            stub = (exchange_of m after).stub g;
            match = subst (λ h. Matches m G h ((exchange_of m after).stub g) (lease_of m v')) (sym number) met.matches;
            within = subst (λ h. IsStubWithin m G window.turns count h ((exchange_of m after).stub g)) (sym number) (now.0.stubs g);
          }

-- the start
module _ {P : Type 0} (m : Machine (List Datum) Named) (law : Lawful m) (groups : List ℕ) (count : ℕ) (start_law : StartLaw m (group_at groups)) where
  pub shared_within : (e : ExchangeView P) → group_at e.groups ≡ group_at groups → exchange_of m e ≡ start_exchange m (group_at groups) count → HasWindow m count e
  shared_within e same is = go e.window
    where
      go : (w : Option Window) → IfSome w (λ x. IsExchangeWithin m (group_at e.groups) x.turns count (exchange_of m e))
      go None = tt
      go (Some window) =
          subst (λ G. IsExchangeWithin m G window.turns count (exchange_of m e)) (sym same)
          (subst (IsExchangeWithin m (group_at groups) window.turns count) (sym is) (start_law window.turns count law))

  pub lease_within : (v : GroupView P) (place : ℕ → ℕ) → AreApart place 0 v.components → AreMembers (group_at groups) v.number v.components → length groups ≡ count → v.number < 65536 → lease_of m v ≡ start_lease m (group_at groups) count v.number
      → Matches m (group_at groups) v.number ((start_exchange m (group_at groups) count).stub v.number) (start_lease m (group_at groups) count v.number) → KeepsToWindow m count v
  lease_within v place apart members every small is match = go v.window
    where
      none : (window j : ℕ) → IsWithin window count (record_of ((start_lease m (group_at groups) count v.number).part j))
      none window j = let few : 0 ≤ window = omega arith in let no : 0 + 0 ≤ window * (count - 1) = omega arith in record { turns = few; inputs = no }

      go : (w : Option Window) → IfSome w (IsLeaseWithin m count v)
      go None = tt
      go (Some window) =
          record {
            here = by_place m place v.components apart (IsWithin window.turns count) (λ j own. subst (λ (l : Lease (List Datum) Named). IsWithin window.turns count (record_of (l.part j))) (sym is) (none window.turns j));
            group = group_at groups;
            members = members;
            among = among_of groups count v.number every small;
            stub = (start_exchange m (group_at groups) count).stub v.number;
            match = subst (λ l. Matches m (group_at groups) v.number ((start_exchange m (group_at groups) count).stub v.number) l) (sym is) match;
            within = (start_law window.turns count law).stubs v.number;
          }

-- a group that was just made
pub new_within : {T : Type 0} (turn_of : T → ℕ → ℕ → Option TurnValue) (setup : Setup T) (groups : List ℕ) (number : ℕ) (v : GroupView (Setup T)) → Lawful (machine_of turn_of setup) → StartLaw (machine_of turn_of setup) (group_at groups)
    → length groups ≡ length (composition (plan_of setup)) → number < 65536 → IsStarted turn_of setup groups number v → (place : ℕ → ℕ) → AreApart place 0 v.components
    → ((g : ℕ) → IsLease (machine_of turn_of setup) (group_at groups) g (start_lease (machine_of turn_of setup) (group_at groups) (length (composition (plan_of setup))) g) × Matches (machine_of turn_of setup) (group_at groups) g ((start_exchange (machine_of turn_of setup) (group_at groups) (length (composition (plan_of setup)))).stub g) (start_lease (machine_of turn_of setup) (group_at groups) (length (composition (plan_of setup))) g))
    → KeepsToWindow (machine_of turn_of v.setup) (length (composition (plan_of v.setup))) v
new_within turn_of setup groups number v law start_law every small is place apart both =
    let m = machine_of turn_of setup in
    let count = length (composition (plan_of setup)) in
    let number_is = is.number_is in
    subst (λ p. KeepsToWindow (machine_of turn_of p) (length (composition (plan_of p))) v) (sym is.setup_is)
    (lease_within m law groups count start_law v place apart (subst (λ n. AreMembers (group_at groups) n v.components) (sym number_is) is.members) every (omega (arith, small, number_is))
    (is.lease_is ∙ ap (start_lease m (group_at groups) count) (sym number_is)) (both v.number).1)

-- a window changes nothing else of a lease
pub valid_anew : {P : Type 0} (m : Machine (List Datum) Named) (count : ℕ) (v : GroupView P) (window : Option Window) → IsValidLease m count v → IsValidLease m count (record v { window = window })
valid_anew m count v window is = record { lease = is.lease; stub = is.stub; match = is.match; inside = is.inside }

-- one more lease
module _ {P : Type 0} (Holds : GroupView P → Type 0) where
  pub no_lease : OfEachLease Holds []
  no_lease g lease at = absurd (none_some lease at)

  pub one_more_lease : (leases : List (GroupView P)) (lease : GroupView P) → OfEachLease Holds leases → Holds lease → OfEachLease Holds (leases ++ lease ∷ [])
  one_more_lease leases lease all one g x at = go (last_at leases lease g x at)
    where
      go : (slice_get leases g ≡ Some x) ⊎ ((g ≡ length leases) × (x ≡ lease)) → Holds x
      go (inl there) = all g x there
      go (inr here) = subst Holds (sym here.1) one
