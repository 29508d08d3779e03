-- A worker's lease and what is kept of it.
use Rattle.std.proofs.Common.{subst₂, ◌≡◌, ℕ, zero, suc, ◌<◌, ◌==◌, List, [], ◌∷◌, length, map, refl, ap, sym, subst, ◌∙◌, arith}
use Rattle.std.specs.Prelude.{Option, None, Some, slice_get}
use Rattle.std.proofs.lemmas.List.{length-map}
use Rattle.std.proofs.lemmas.Option.{none-some}
use Rattle.terms.specs.Named.{Named}
use Rattle.virtual_time.specs.Groups.Leases.{Matches}
use Rattle.virtual_time.specs.Groups.Stubs.{Exchange, Stub as StubSeen}
use Rattle.task_seed.specs.declared.setup.Setup.{Setup}
use Rattle.task_seed.specs.declared.turns.Turn.{Turn}
use Rattle.rollback.specs.ComponentView.{machine_of}
use Rattle.groups.specs.GroupView.{AreMembers, GroupView, lease_of}
use Rattle.boards.specs.declared.parts.Board.{Board}
use Rattle.boards.specs.declared.parts.Pass.{Pass}
use Rattle.boards.specs.declared.rule.Section.{Section}
use Rattle.boards.specs.Passes.{AreOwners, IsAtRest, Owns, sight, IsOf as IsOfBoard}
use Rattle.boards.specs.Sections.{refreshed, seeing, KeepsOthers as KeepsSections}
use Rattle.boards.proofs.Owning.{keeps_all, keeps_but_one}
use Rattle.group_exchange.specs.declared.stub.Stub.{Stub}
use Rattle.group_exchange.specs.ExchangeView.{ExchangeView, exchange_of, group_at, stub_of, stub_or_none, without_inbox}
use Rattle.group_exchange.specs.LeaseView.{KeepsMembers}
use Rattle.group_exchange.specs.Windows.{OfEachLease}
use Rattle.groups.specs.declared.window.Window.{Window}
use Rattle.group_exchange.specs.Seen.{KeepsOthers, Knows}
use Rattle.workers.specs.declared.crew.Division.{Division}
use Rattle.workers.specs.declared.crew.Lent.{Lent}
use Rattle.group_exchange.specs.Start.{AreStarted, StandForStart, lease_or_start, leases_of}
use Rattle.plans.specs.Plans.{composition}
use Rattle.task_seed.specs.Setups.{plan_of}
use Rattle.workers.specs.Crews.{AreHeld, HasTaken, IsHeld, IsKept, StaysDivided, division, exchange_in, parts_of}
use Rattle.workers.specs.Gates.{StaysItself}

module _ {A B : Type 0} (f : A → B) where
  mapped : (xs : List A) (n : ℕ) (y : B) → slice_get (map f xs) n ≡ Some y → (x : A) × (slice_get xs n ≡ Some x) × (f x ≡ y)
  mapped [] n y is = absurd (none-some y is)
  mapped (x ∷ xs) zero y is = (x, refl, (let e : Some (f x) ≡ Some y = is in (cc)))
  mapped (x ∷ xs) (suc n) y is = mapped xs n y is

  unmapped : (xs : List A) (n : ℕ) (x : A) → slice_get xs n ≡ Some x → slice_get (map f xs) n ≡ Some (f x)
  unmapped [] n x is = absurd (none-some x is)
  unmapped (y ∷ xs) zero x is = ap (λ (o : Option A). go o) is
    where
      go : Option A → Option B
      go None = None
      go (Some z) = Some (f z)
  unmapped (y ∷ xs) (suc n) x is = unmapped xs n x is

short : {A : Type 0} (xs : List A) (n : ℕ) (x : A) → slice_get xs n ≡ Some x → n < length xs
short [] n x is = absurd (none-some x is)
short (y ∷ xs) zero x is = omega arith
short (y ∷ xs) (suc n) x is = let r = short xs n x is in omega (arith, r)

there : {A : Type 0} (xs : List A) (n : ℕ) → n < length xs → (x : A) × (slice_get xs n ≡ Some x)
there [] n low = absurd (omega (arith, low))
there (x ∷ xs) zero low = (x, refl)
there (x ∷ xs) (suc n) low = there xs n (omega (arith, low))

some_same : {A : Type 0} {a b : A} → Some a ≡ Some b → a ≡ b
some_same is = cc

same_division : {T : Type 0} (new old : ExchangeView (Setup T)) → StaysDivided old new → division new ≡ division old
same_division {T} new old same = ap (λ s. made s new.groups new.window) same.0 ∙ ap (λ g. made old.setup g new.window) same.1 ∙ ap (λ w. made old.setup old.groups w) same.2
  where
    made : Setup T → List ℕ → Option Window → Division T
    made s g w = record { setup = s; groups = g; window = w }

-- the exchange is out with a pass
module _ {T : Type 0} (board : Board (Lent T) (Division T) Stub) (old mid : Pass (Lent T) (Division T) Stub) (lent : Lent T) (taken : HasTaken board old lent mid) where
  pub kind_back : (new : ExchangeView (Setup T)) → StaysDivided (exchange_in lent) new → (sight mid).kind ≡ Some (division new)
  kind_back new divided = ap (λ v. v.kind) taken.sees ∙ taken.kind ∙ ap Some (sym (same_division new (exchange_in lent) divided))

  -- no stub has changed
  pub may_give_same : (stubs : List Stub) → stubs ≡ (exchange_in lent).stubs → KeepsSections (sight mid) (map without_inbox stubs)
  may_give_same stubs same = subst (λ l. KeepsSections (sight mid) (map without_inbox l)) (sym same) (keeps_all (sight mid) (parts_of lent) (ap (λ v. v.taken) taken.sees))

  -- what the pass knows of the division is so of the exchange
  pub setup_there : (d : Division T) → IsAtRest board d old → d ≡ division (exchange_in lent)
  setup_there d rest = some_same (sym rest.1 ∙ taken.kind)

  -- it was given back
  pub at_rest_again : (d : Division T) (now : Pass (Lent T) (Division T) Stub) (own : List (Section Stub)) → IsAtRest board d old → IsOfBoard board now → sight now ≡ seeing (sight mid).is_new (sight mid).kind own None → IsAtRest board d now
  at_rest_again d now own rest pass sees = (pass, ap (λ v. v.kind) sees ∙ ap (λ v. v.kind) taken.sees ∙ rest.1, ap (λ v. v.taken) sees)

module _ {T : Type 0} (turn_of : T → ℕ → ℕ → Option Turn) where
  -- of which this is kept, the lease is known
  pub known : (e : ExchangeView (Setup T)) (part : Stub) (lease : GroupView (Setup T)) → slice_get (map without_inbox e.stubs) lease.number ≡ Some part
      → IsKept turn_of (division e) part lease → Knows turn_of e lease
  known e part lease is kept =
      let m = machine_of turn_of e.setup in
      let found = mapped without_inbox e.stubs lease.number part is in
      let stub : StubSeen Named = stub_of m part in
      let same : stub ≡ (exchange_of m e).stub lease.number = ap (stub_of m) (sym found.2) ∙ ap (stub_or_none m) (sym found.1) in
      record {
        there = short e.stubs lease.number found.0 found.1;
        members = kept.members;
        match = subst (λ s. Matches m (group_at e.groups) lease.number s (lease_of m lease)) same kept.match;
      }

  -- of a lease that is known something is kept
  pub is_kept : (e : ExchangeView (Setup T)) (lease : GroupView (Setup T)) → lease.setup ≡ e.setup → lease.window ≡ e.window → Knows turn_of e lease
      → (part : Stub) × (slice_get (map without_inbox e.stubs) lease.number ≡ Some part) × IsKept turn_of (division e) part lease
  is_kept e lease setup window knows =
      let m = machine_of turn_of e.setup in
      let found = there e.stubs lease.number knows.there in
      let same : (exchange_of m e).stub lease.number ≡ stub_of m (without_inbox found.0) = ap (stub_or_none m) found.1 in (
        without_inbox found.0,
        unmapped without_inbox e.stubs lease.number found.0 found.1,
        record {
          setup = setup;
          window = window;
          members = knows.members;
          match = subst (λ s. Matches m (group_at e.groups) lease.number s (lease_of m lease)) same knows.match;
        },
      )

  -- the lease moved by itself
  kept_stays : (d : Division T) (part : Stub) (old new : GroupView (Setup T)) → StaysItself turn_of old new → IsKept turn_of d part old → IsKept turn_of d part new
  kept_stays d part old new stays kept =
      let m = machine_of turn_of old.setup in
      let group = group_at d.groups in
      let e : Exchange Named = record { stub = λ g. stub_of m part; plus = λ j. []; minus = λ j. []; bound = 0; held = []; given = 0 } in
      let was = subst (λ s. Matches (machine_of turn_of s) group old.number (stub_of (machine_of turn_of s) part) (lease_of (machine_of turn_of s) old)) (sym kept.setup) kept.match in
      let is = stays.known group kept.members e was in
      let number = stays.members.1 in
      let here = subst (λ n. Matches m group n (stub_of m part) (lease_of m new)) (sym number) is in
      record {
        setup = stays.members.0 ∙ kept.setup;
        window = stays.window ∙ kept.window;
        members = λ j. ap (λ n. group j == n) number ∙ kept.members j ∙ sym (stays.members.2 j);
        match = subst (λ s. Matches (machine_of turn_of s) group new.number (stub_of (machine_of turn_of s) part) (lease_of (machine_of turn_of s) new)) kept.setup here;
      }

  pub held_stays : (board : Board (Lent T) (Division T) Stub) (pass : Pass (Lent T) (Division T) Stub) (old new : GroupView (Setup T)) → StaysItself turn_of old new → IsHeld turn_of board pass old → IsHeld turn_of board pass new
  held_stays board pass old new stays held =
      record {
        division = held.division;
        rest = held.rest;
        part = held.part;
        own = subst (λ n. Owns pass n held.part) (sym stays.members.1) held.own;
        kept = kept_stays held.division held.part old new stays held.kept;
      }

  -- the exchange is out with the worker's pass
  module _ (board : Board (Lent T) (Division T) Stub) (old mid : Pass (Lent T) (Division T) Stub) (lease : GroupView (Setup T)) (lent : Lent T) (held : IsHeld turn_of board old lease) (taken : HasTaken board old lent mid) where
    same_kind : held.division ≡ division (exchange_in lent)
    same_kind = some_same (sym held.rest.1 ∙ taken.kind)

    kept_here : IsKept turn_of (division (exchange_in lent)) held.part lease
    kept_here = subst (λ d. IsKept turn_of d held.part lease) same_kind held.kept

    pub taken_setup : lease.setup ≡ (exchange_in lent).setup
    taken_setup = kept_here.setup

    pub taken_window : lease.window ≡ (exchange_in lent).window
    taken_window = kept_here.window

    pub taken_knows : Knows turn_of (exchange_in lent) lease
    taken_knows = known (exchange_in lent) held.part lease (taken.own lease.number held.part held.own) kept_here

    -- it may be given back where only what is kept of the lease's group has changed
    pub may_give_back : (new : ExchangeView (Setup T)) → length new.stubs ≡ length (exchange_in lent).stubs → KeepsOthers lease.number (exchange_in lent) new → KeepsSections (sight mid) (map without_inbox new.stubs)
    may_give_back new many others =
        keeps_but_one (sight mid) lease.number held.part (parts_of lent) (map without_inbox new.stubs) (ap (λ v. v.own) taken.sees ∙ held.own) (ap (λ v. v.taken) taken.sees)
        (let a = length-map new.stubs without_inbox in let b = length-map (exchange_in lent).stubs without_inbox in omega (arith, a, b, many)) (λ k ne. others k ne)

    -- and then the worker holds the lease as before
    pub held_again : (new : ExchangeView (Setup T)) (now : Pass (Lent T) (Division T) Stub) (lease' : GroupView (Setup T)) → StaysDivided (exchange_in lent) new → KeepsMembers lease lease' → lease'.window ≡ new.window
        → Knows turn_of new lease' → IsOfBoard board now → sight now ≡ seeing (sight mid).is_new (sight mid).kind (refreshed (map without_inbox new.stubs) (sight mid).own) None
        → ((n : ℕ) (a b : Stub) → Owns mid n a → slice_get (map without_inbox new.stubs) n ≡ Some b → Owns now n b) → IsHeld turn_of board now lease'
    held_again new now lease' divided same window knows pass sees section =
        let k = is_kept new lease' (same.0 ∙ taken_setup ∙ sym divided.0) window knows in
        let mine : Owns mid lease'.number held.part = subst (λ n. Owns mid n held.part) (sym same.1) (ap (λ v. v.own) taken.sees ∙ held.own) in
        record {
          division = division new;
          rest = (pass, ap (λ v. v.kind) sees ∙ kind_back board old mid lent taken new divided, ap (λ v. v.taken) sees);
          part = k.0;
          own = section lease'.number held.part k.0 mine k.1;
          kept = k.2;
        }

  -- the lease of each group at the start
  pub start_held : (setup : Setup T) (groups : List ℕ) (e : ExchangeView (Setup T)) (leases : List (GroupView (Setup T))) (board : Board (Lent T) (Division T) Stub) (passes : List (Pass (Lent T) (Division T) Stub)) (d : Division T) (many : ℕ) (window : Option Window)
      → d ≡ record { setup = setup; groups = groups; window = window } → OfEachLease (λ lease. lease.window ≡ window) leases → AreStarted turn_of setup groups many leases → StandForStart turn_of setup groups e leases
      → AreOwners board d (map without_inbox e.stubs) passes → AreHeld turn_of board passes leases
  start_held setup groups e leases board passes d many window is windows started start owners n pass lease at_pass at_lease =
      let m = machine_of turn_of setup in
      let group = group_at groups in
      let count = length (composition (plan_of setup)) in
      let one = started.each n lease at_lease in
      let owner = owners n pass at_pass in
      let part : Stub = owner.1.0 in
      let found = mapped without_inbox e.stubs n part owner.1.1 in
      let stub : (exchange_of m e).stub n ≡ stub_of m part = ap (stub_or_none m) found.1 ∙ ap (stub_of m) found.2 in
      let own_lease : leases_of m group count leases n ≡ lease_of m lease = ap (lease_or_start m group count n) at_lease in
      let match : Matches m group n (stub_of m part) (lease_of m lease) = subst₂ (λ s l. Matches m group n s l) stub own_lease (start.match n) in
      let kept : IsKept turn_of (record { setup = setup; groups = groups; window = window }) part lease = record {
        setup = one.setup_is;
        window = windows n lease at_lease;
        members = subst (λ k. AreMembers group k lease.components) (sym one.number_is) one.members;
        match = subst (λ k. Matches m group k (stub_of m part) (lease_of m lease)) (sym one.number_is) match;
      } in
      record {
        division = d;
        rest = owner.0;
        part = part;
        own = subst (λ k. Owns pass k part) (sym one.number_is) owner.1.2;
        kept = subst (λ x. IsKept turn_of x part lease) (sym is) kept;
      }
