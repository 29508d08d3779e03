-- A meeting as it is done, part by part.
use Rattle.std.proofs.Common.{◌≡◌, ℕ, ◌<◌, ◌≤◌, ◌==◌, ◌⊎◌, inl, inr, Option, Some, List, [], ◌∷◌, length, refl, ap, sym, subst, subst₂, ◌∙◌, arith}
use Rattle.std.specs.Prelude.{option_map, slice_get}
use Rattle.std.proofs.lemmas.Bool.{cases_lt, eq-eqb, eqb-true}
use Rattle.terms.specs.Datum.{Datum}
use Rattle.terms.specs.Named.{Named}
use Rattle.event_keys.specs.declared.message.Signed.{Signed}
use Rattle.event_keys.specs.declared.outcome.Turned.{Turned}
use Rattle.event_keys.specs.Ranks.{rank_of_bound}
use Rattle.plans.specs.Plans.{composition}
use Rattle.raw_events.specs.Around.{Around}
use Rattle.raw_events.specs.Onto.{onto}
use Rattle.antimessage.specs.Bags.{insert_all}
use Rattle.antimessage.specs.Counts.{Each}
use Rattle.virtual_time.specs.Entries.{below}
use Rattle.virtual_time.specs.Machine.{HasCount, Lawful, Machine}
use Rattle.virtual_time.specs.Records.{Record, turns_among}
use Rattle.virtual_time.specs.Rules.{IsDone}
use Rattle.virtual_time.specs.Reference.{Falls}
use Rattle.virtual_time.specs.Groups.Leases.{IsFloor, Matches}
use Rattle.virtual_time.specs.Groups.Stubs.{Exchange}
use Rattle.virtual_time.specs.Groups.Meetings.{Met}
use Rattle.rollback.specs.Laws.{AppendedIsAdded}
use Rattle.rollback.specs.declared.copied.Copies.{Copies}
use Rattle.rollback.specs.ComponentView.{ComponentView, machine_of}
use Rattle.task_seed.specs.declared.setup.Setup.{Setup}
use Rattle.task_seed.specs.declared.turns.Turn.{Turn as TurnValue}
use Rattle.task_seed.specs.Setups.{plan_of, system}
use Rattle.task_seed.specs.Taken.{turns_of}
use Rattle.task_seed.specs.Turning.{System}
use Rattle.task_seed.specs.Machines.{machine}
use Rattle.groups.specs.Crew.{AreSound}
use Rattle.groups.specs.Dropping.{AreGivenUp, cut_all, cut_to}
use Rattle.groups.specs.GroupView.{AreMembers, GroupView, history_of, is_member, lease_of}
use Rattle.groups.specs.Moves.{theory}
use Rattle.groups.specs.Open.{AllInside}
use Rattle.groups.proofs.Placed.{history_there, member_there, own_there}
use Rattle.group_exchange.specs.declared.stub.Stub.{Stub}
use Rattle.group_exchange.specs.LeaseView.{IsValidLease, KeepsMembers}
use Rattle.group_exchange.specs.Moving.{AreCopies, HasPassedOn}
use Rattle.group_exchange.specs.Held.{ArePuttable, HaveNothing, HavePutTo}
use Rattle.group_exchange.specs.ExchangeView.{ExchangeView, IsValidExchange, exchange_of, group_at, inbox_of}
use Rattle.group_exchange.specs.Seen.{HaveMet, IsKnown, IsMeeting, IsSoundExchange, KeepsOthers, Knows}
use Rattle.group_exchange.proofs.Accepting.{ApartLaw, FallsLaw, MetLaw, SoundLaw, accepted, cut_member, group_beyond, mapped, mapped_at, others_kept}
use Rattle.group_exchange.proofs.Below.{onto_back}
use Rattle.group_exchange.proofs.Core.{MeetLaw, MetLaw as StaysSoundLaw, WorldLaw, meet_leads}
use Rattle.group_exchange.proofs.Nothing.{have_nothing}
use Rattle.group_exchange.proofs.Placing.{get_there}
use Rattle.group_exchange.proofs.Putting.{MergedFalls, MergedOutcomes}

-- what is to a group is to its members
inside_all : {P : Type 0} (group : ℕ → ℕ) (g : ℕ) (cs : List (ComponentView P)) → AreMembers group g cs → (xs : List Signed) → Each (λ x. group x.message.to ≡ g) xs → AllInside cs xs
inside_all group g cs members [] all = tt
inside_all group g cs members (x ∷ xs) all = (sym (members x.message.to) ∙ eq-eqb (group x.message.to) g all.0, inside_all group g cs members xs all.1)

module _ {P T : Type 0} (turn_of : T → ℕ → ℕ → Option TurnValue) (s : System) (law : Lawful (machine s)) (e : ExchangeView P) (is : IsValidExchange s e) (v : GroupView (Setup T))
    (valid : IsValidLease (machine s) (length s.composition) v) (known : IsKnown (machine s) (group_at e.groups) (length e.stubs) (exchange_of (machine s) e) v)
    (w : GroupView (Setup T)) (dropped : w ≡ record v { base = e.bound; components = cut_all turn_of e.bound v.components }) where
  w_members : AreMembers (group_at e.groups) w.number w.components
  w_members = subst (λ (x : GroupView (Setup T)). AreMembers (group_at e.groups) x.number x.components) (sym dropped) (λ j. known.members j ∙ sym (cut_member turn_of e.bound v.components j))

  -- what came to it is to its components
  pub came_inside : (stubs : List Stub) → stubs ≡ e.stubs → AllInside w.components (inbox_of (slice_get stubs w.number))
  came_inside stubs same =
      let found = get_there e.stubs v.number known.there in
      let all = inside_all (group_at e.groups) v.number (cut_all turn_of e.bound v.components) (λ j. known.members j ∙ sym (cut_member turn_of e.bound v.components j)) found.0.inbox (is.stubs v.number found.0 found.1).inbox in
      let here : AllInside (cut_all turn_of e.bound v.components) (inbox_of (slice_get e.stubs v.number)) = subst (λ o. AllInside (cut_all turn_of e.bound v.components) (inbox_of o)) (sym found.1) all in
      subst (λ os. AllInside w.components (inbox_of (slice_get os w.number))) (sym same) (subst (λ (x : GroupView (Setup T)). AllInside x.components (inbox_of (slice_get e.stubs x.number))) (sym dropped) here)

  number_of : (q : ℕ) (c : ComponentView (Setup T)) → slice_get w.components q ≡ Some c → group_at e.groups c.number ≡ v.number
  number_of q c at =
      eqb-true (group_at e.groups c.number) v.number (ap (λ n. group_at e.groups c.number == n) (sym (ap (λ (x : GroupView (Setup T)). x.number) dropped)) ∙ w_members c.number ∙ member_there w.components q c at)

  -- each of its components has a list
  pub listed : (components : List (ComponentView (Setup T))) → components ≡ w.components → (many : ℕ) → many ≡ length e.held → (q : ℕ) (c : ComponentView (Setup T)) → slice_get components q ≡ Some c → c.number < many
  listed components same many all q c at = go (cases_lt c.number (length s.composition))
    where
      own : group_at e.groups c.number ≡ v.number
      own = number_of q c (subst (λ cs. slice_get cs q ≡ Some c) same at)

      go : (c.number < length s.composition) ⊎ (length s.composition ≤ c.number) → c.number < many
      go (inl inside) = let lists = is.lists in omega (arith, inside, lists, all)
      go (inr past) =
          let every = is.partition.every in
          let far = group_beyond e.groups c.number (omega (arith, past, every)) in
          let there = known.there in
          let few = is.few in
          let here = own in
          absurd (omega (arith, far, there, few, here))

  -- so has each of those that it has before
  pub listed_before : (many : ℕ) → many ≡ length e.held → (q : ℕ) (c : ComponentView (Setup T)) → slice_get v.components q ≡ Some c → c.number < many
  listed_before many all q c at =
      listed w.components refl many all q (cut_to turn_of e.bound c)
      (subst (λ cs. slice_get cs q ≡ Some (cut_to turn_of e.bound c)) (sym (ap (λ (x : GroupView (Setup T)). x.components) dropped)) (mapped_at (cut_to turn_of e.bound) v.components q ∙ ap (option_map (cut_to turn_of e.bound)) at))

  -- where the bound is the base, they have nothing to give up
  pub nothing_below : AreSound turn_of (record { setup = v.setup; base = v.base; components = v.components }) → system turn_of v.setup ≡ s → v.base ≡ e.bound → HaveNothing turn_of e.bound v.components
  nothing_below sound of_setup same = have_nothing turn_of e.bound v.components each
    where
      each : (q : ℕ) (c : ComponentView (Setup T)) → slice_get v.components q ≡ Some c → (c.base ≡ e.bound) × IsDone (machine_of turn_of c.setup) c.number (rank_of_bound e.bound) c.history.first c.history.base c.history.done
      each q c at =
          let own = own_there v.setup v.base v.components q c sound.own at in
          let mine : group_at e.groups c.number ≡ v.number = eqb-true (group_at e.groups c.number) v.number (known.members c.number ∙ member_there v.components q c at) in
          let proper = (valid.lease (group_at e.groups) known.members).proper c.number mine in
          let history = history_there (machine s) sound.place 0 v.components q c sound.apart at in
          let machines : machine s ≡ machine_of turn_of c.setup = ap machine (sym of_setup ∙ ap (system turn_of) (sym own.0)) in (
            own.1 ∙ same,
            subst (λ m. IsDone m c.number (rank_of_bound e.bound) c.history.first c.history.base c.history.done) machines
                (subst (λ (r : Record (List Datum) Named). IsDone (machine s) c.number (rank_of_bound e.bound) r.first r.base r.done) history (subst (λ b. IsDone (machine s) c.number (rank_of_bound b) (history_of (machine s) v.components c.number).first (history_of (machine s) v.components c.number).base (history_of (machine s) v.components c.number).done) same proper.done)),
          )

  module _ (sound : AreSound turn_of (record { setup = v.setup; base = v.base; components = v.components })) (lists : List (Around Turned)) (given : AreGivenUp e.bound v.components lists) (falls_law : FallsLaw (machine s) (group_at e.groups)) where
    -- what each gives up can be put into its list
    pub can_put : (components : List (ComponentView (Setup T))) → components ≡ w.components → (now : List (Around Turned)) → now ≡ lists → ArePuttable components now
    can_put components same now all q c turns at found =
        let there : slice_get (cut_all turn_of e.bound v.components) q ≡ Some c = subst (λ cs. slice_get cs q ≡ Some c) (same ∙ ap (λ (x : GroupView (Setup T)). x.components) dropped) at in
        let old = mapped (cut_to turn_of e.bound) v.components q c there in
        let one = given.each q old.0 turns old.1 (subst (λ ls. slice_get ls q ≡ Some turns) all found) in
        let history = history_there (machine s) sound.place 0 v.components q old.0 sound.apart old.1 in
        let own : group_at e.groups old.0.number ≡ v.number = ap (group_at e.groups) (ap (λ (x : ComponentView (Setup T)). x.number) old.2) ∙ number_of q c (subst (λ cs. slice_get cs q ≡ Some c) same at) in
        let falls = falls_law (length s.composition) v.number old.0.number (exchange_of (machine s) e) (lease_of (machine s) v) law is.sound (valid.lease (group_at e.groups) known.members) known.match own in
        let turns_are : turns_of turns.after ≡ turns_among (below (rank_of_bound e.bound) (history_of (machine s) v.components old.0.number).done)
        = ap (λ ts. onto ts []) one.turns ∙ onto_back (turns_among (below (rank_of_bound e.bound) old.0.history.done)) [] ∙ ap (λ (r : Record (List Datum) Named). turns_among (below (rank_of_bound e.bound) r.done)) (sym history) in
        (one.front, subst Falls (sym turns_are) falls)

    module _ (of_setup : system turn_of v.setup ≡ s) (copies : Copies) (copied : AreCopies v.out copies)
        (groups : List ℕ) (groups_is : groups ≡ e.groups) (old_stubs : List Stub) (stubs_is : old_stubs ≡ e.stubs) (stubs : List Stub) (new : GroupView (Setup T))
        (passed : HasPassedOn (group_at groups) w.number e.bound new.floor w.out copies old_stubs stubs)
        (group_is : new ≡ record w { out = []; tray = insert_all (inbox_of (slice_get old_stubs w.number)) w.tray; floor = new.floor })
        (floor_is : (group_of : ℕ → ℕ) → AreMembers group_of w.number w.components → IsFloor (theory turn_of w) group_of w.number (rank_of_bound new.floor) (lease_of (theory turn_of w) new).part)
        (components : List (ComponentView (Setup T))) (components_is : components ≡ w.components) (now : List (Around Turned)) (lists_are : now ≡ lists) (queues : List (List Turned)) (queues_are : queues ≡ e.held) (held : List (List Turned))
        (put : HavePutTo components now (length components) queues held) where
      passed_here : HasPassedOn (group_at e.groups) v.number e.bound new.floor v.out copies e.stubs stubs
      passed_here =
          subst (λ (x : GroupView (Setup T)). HasPassedOn (group_at e.groups) x.number e.bound new.floor x.out copies e.stubs stubs) dropped
          (subst₂ (λ gs os. HasPassedOn (group_at gs) w.number e.bound new.floor w.out copies os stubs) groups_is stubs_is passed)

      abbrev settled : GroupView (Setup T)
      settled = record v { base = e.bound; components = cut_all turn_of e.bound v.components; floor = new.floor; tray = insert_all (inbox_of (slice_get e.stubs v.number)) v.tray; out = [] }

      new_is : new ≡ settled
      new_is =
          group_is ∙ ap (λ os. record w { out = []; tray = insert_all (inbox_of (slice_get os w.number)) w.tray; floor = new.floor }) stubs_is
          ∙ ap (λ (x : GroupView (Setup T)). record x { out = []; tray = insert_all (inbox_of (slice_get e.stubs x.number)) x.tray; floor = new.floor }) dropped

      lowest : IsFloor (machine s) (group_at e.groups) v.number (rank_of_bound new.floor) (lease_of (machine s) settled).part
      lowest =
          subst (λ (y : GroupView (Setup T)). IsFloor (machine s) (group_at e.groups) v.number (rank_of_bound new.floor) (lease_of (machine s) y).part) new_is
          (subst (λ x. IsFloor (machine x) (group_at e.groups) v.number (rank_of_bound new.floor) (lease_of (machine x) new).part) of_setup
          (subst (λ (x : GroupView (Setup T)). IsFloor (machine_of turn_of x.setup) (group_at e.groups) x.number (rank_of_bound new.floor) (lease_of (machine_of turn_of x.setup) new).part) dropped (floor_is (group_at e.groups) w_members)))

      put_here : HavePutTo (cut_all turn_of e.bound v.components) lists (length (cut_all turn_of e.bound v.components)) e.held held
      put_here =
          subst (λ cs. HavePutTo cs lists (length cs) e.held held) (components_is ∙ ap (λ (x : GroupView (Setup T)). x.components) dropped)
          (subst₂ (λ ls qs. HavePutTo components ls (length components) qs held) lists_are queues_are put)

      abbrev pub after : ExchangeView P
      after = record e { stubs = stubs; held = held }

      -- a meeting that was done
      pub record IsJoined : Type 0 where
        pub met : Met (machine s) (group_at e.groups) v.number (exchange_of (machine s) e) (lease_of (machine s) v) (exchange_of (machine s) after) (lease_of (machine s) new)
        pub shared : IsValidExchange s after
        pub lease : IsValidLease (machine s) (length s.composition) new
        pub keeps : KeepsMembers v new
        pub others : KeepsOthers v.number e after
        pub many : length stubs ≡ length e.stubs
        pub long : length held ≡ length e.held

      pub joined : MergedFalls → MergedOutcomes → AppendedIsAdded → HasCount (machine s) (length s.composition) → ApartLaw (machine s) (group_at e.groups) → MetLaw (machine s) (group_at e.groups) → SoundLaw (machine s) (group_at e.groups) → IsJoined
      joined merged_falls merged_outcomes appended counted apart_law met_law sound_law =
          let all = accepted turn_of s law e is v of_setup valid known copies copied new.floor stubs passed_here sound lists given falls_law apart_law merged_falls merged_outcomes held put_here appended counted lowest met_law sound_law in
          record {
            met = subst (λ (y : GroupView (Setup T)). Met (machine s) (group_at e.groups) v.number (exchange_of (machine s) e) (lease_of (machine s) v) (exchange_of (machine s) after) (lease_of (machine s) y)) (sym new_is) all.met;
            shared = all.shared;
            lease = subst (IsValidLease (machine s) (length s.composition)) (sym new_is) all.lease;
            keeps = (
              ap (λ (y : GroupView (Setup T)). y.setup) new_is,
              ap (λ (y : GroupView (Setup T)). y.number) new_is,
              λ j. ap (λ (y : GroupView (Setup T)). is_member y.components j) new_is ∙ cut_member turn_of e.bound v.components j,
            );
            others = others_kept turn_of s law e is v of_setup valid known copies copied new.floor stubs passed_here;
            many = passed_here.many;
            long = all.shared.lists ∙ sym is.lists;
          }

-- a lease that has met is known
pub known_on : {P : Type 0} (m : Machine (List Datum) Named) (group : ℕ → ℕ) (n n' : ℕ) (e e' : Exchange Named) (v v' : GroupView P) → n' ≡ n → KeepsMembers v v' → IsKnown m group n e v → Met m group v.number e (lease_of m v) e' (lease_of m v') → IsKnown m group n' e' v'
known_on m group n n' e e' v v' same k known met = record {
  there = let number = k.1 in let there = known.there in omega (arith, number, there, same);
  members = λ j. ap (λ x. group j == x) k.1 ∙ known.members j ∙ sym (k.2 j);
  match = subst (λ x. Matches m group x (e'.stub x) (lease_of m v')) (sym k.1) met.matches;
}

module _ {T : Type 0} (turn_of : T → ℕ → ℕ → Option TurnValue) (old : ExchangeView (Setup T)) (lease : GroupView (Setup T)) (stubs : List Stub) (held : List (List Turned)) (new_lease : GroupView (Setup T)) (law : Lawful (machine_of turn_of old.setup)) where
  abbrev met_exchange : ExchangeView (Setup T)
  met_exchange = record old { stubs = stubs; held = held }

  -- what was done is a meeting
  pub meeting : WorldLaw (machine_of turn_of old.setup) law (group_at old.groups) → MeetLaw (machine_of turn_of old.setup) law (group_at old.groups) → StaysSoundLaw (machine_of turn_of old.setup) law (group_at old.groups)
      → IsSoundExchange turn_of old → Knows turn_of old lease → HaveMet turn_of old lease met_exchange new_lease → KeepsOthers lease.number old met_exchange → length stubs ≡ length old.stubs → KeepsMembers lease new_lease → new_lease.window ≡ old.window
      → IsMeeting turn_of old lease met_exchange new_lease
  meeting world_law meet_law sound_law sound knows met others many keeps window =
      let m = machine_of turn_of old.setup in
      let G = group_at old.groups in
      record {
        met = met;
        core = λ leases here. meet_leads m law G world_law meet_law sound_law (length (composition (plan_of old.setup))) lease.number (exchange_of m old) (exchange_of m met_exchange) (lease_of m lease) (lease_of m new_lease) sound met leases here;
        known = known_on m G (length old.stubs) (length stubs) (exchange_of m old) (exchange_of m met_exchange) lease new_lease many keeps knows met;
        others = others;
        there = many;
        rest = refl;
        same = keeps;
        window = window;
      }
