-- What a lease does by itself.
use Rattle.std.proofs.Common.{◌≡◌, ℕ, zero, suc, ◌==◌, ◌⊎◌, inl, inr, Bool, true, false, true≢false, cond, Option, List, [], ◌∷◌, refl, ap, sym, subst, ◌∙◌, arith}
use Rattle.std.proofs.lemmas.Bool.{and_parts, cases_eq, eq-eqb, eqb-true, ne_eqb}
use Rattle.terms.specs.Datum.{Datum}
use Rattle.terms.specs.Named.{Named}
use Rattle.event_keys.specs.declared.message.Sign.{Sign}
use Rattle.event_keys.specs.declared.message.Sign.TheVariants.{Plus, Minus}
use Rattle.event_keys.specs.declared.message.Signed.{Signed}
use Rattle.event_keys.specs.Ranks.{rank_of_bound}
use Rattle.virtual_time.specs.Machine.{HasCount, Lawful, Machine}
use Rattle.virtual_time.specs.Groups.Leases.{IsLease, Lease, Matches, alone, lease_of as lease_in}
use Rattle.rollback.specs.Flight.{goes, in_flight, is_sign}
use Rattle.rollback.specs.ComponentView.{ComponentView, machine_of, start_record}
use Rattle.task_seed.specs.declared.setup.Setup.{Setup}
use Rattle.task_seed.specs.declared.turns.Turn.{Turn}
use Rattle.groups.specs.GroupView.{AreMembers, GroupView, frames, history_of, is_member, lease_of}
use Rattle.groups.specs.Moves.{IsAhead, IsSettled, KeepsGroup, Leads, MovesBy}
use Rattle.groups.specs.Open.{AllInside, AllOutside}
use Rattle.groups.proofs.Moved.{inside_none}
use Rattle.groups.proofs.Placed.{members_same}
use Rattle.group_exchange.specs.Core.{Moves, StaysKnown}
use Rattle.group_exchange.specs.LeaseView.{IsValidLease, KeepsMembers}
use Rattle.group_exchange.proofs.Core.{MovesLaw, OwnLaw, WorldLaw, own_known, own_lease, own_moves, own_quiet}

module _ {P : Type 0} where
  -- what goes to others is in flight to no member
  pub outside_none : (cs : List (ComponentView P)) (out : List Signed) → AllOutside cs out → (sign : Sign) (j : ℕ) → is_member cs j ≡ true → in_flight sign j out ≡ []
  outside_none cs [] all sign j own = refl
  outside_none cs (x ∷ xs) all sign j own = go (outside_none cs xs all.1 sign j own) (goes sign j x) refl
    where
      go : in_flight sign j xs ≡ [] → (b : Bool) → goes sign j x ≡ b → in_flight sign j (x ∷ xs) ≡ []
      go rest true e = absurd (true≢false (sym own ∙ ap (is_member cs) (sym (eqb-true x.message.to j (and_parts (is_sign sign x.sign) (x.message.to == j) e).1)) ∙ all.0))
      go rest false e = rw e rest

  -- who is no member has the record of the start
  pub history_none : (m : Machine (List Datum) Named) (cs : List (ComponentView P)) (j : ℕ) → is_member cs j ≡ false → history_of m cs j ≡ start_record m j
  history_none m [] j alien = refl
  history_none m (c ∷ cs) j alien = go (λ h. history_none m cs j h) (cases_eq j c.number) alien
    where
      go : (is_member cs j ≡ false → history_of m cs j ≡ start_record m j) → (j ≡ c.number) ⊎ (j ≡ c.number → ⊥) → is_member (c ∷ cs) j ≡ false → history_of m (c ∷ cs) j ≡ start_record m j
      go rest (inl e) h = absurd (true≢false (sym (subst (λ (b : Bool). is_member (c ∷ cs) j ≡ b) (rw (eq-eqb j c.number e) refl) refl) ∙ h))
      go rest (inr ne) h = rw (ne_eqb j c.number ne) (rest (subst (λ (b : Bool). b ≡ false) (rw (ne_eqb j c.number ne) refl) h))

  -- a function of components by which these are the group's
  abbrev pub own_group : ℕ → List (ComponentView P) → ℕ → ℕ
  own_group number cs j = cond (is_member cs j) number (suc number)

  pub own_members : (number : ℕ) (cs : List (ComponentView P)) → AreMembers (own_group number cs) number cs
  own_members number cs j = go (is_member cs j)
    where
      go : (b : Bool) → (cond b number (suc number) == number) ≡ b
      go true = eq-eqb number number refl
      go false = ne_eqb (suc number) number (λ e. omega (arith, e))

module _ {T : Type 0} (turn_of : T → ℕ → ℕ → Option Turn) where
  -- what a group keeps whatever it does
  pub record Keeps (old new : GroupView (Setup T)) : Type 0 where
    pub number : new.number ≡ old.number
    pub setup : new.setup ≡ old.setup
    pub floor : new.floor ≡ old.floor
    pub same : frames new.components ≡ frames old.components

  by_rest : (old new : GroupView (Setup T)) → KeepsGroup turn_of old new → Keeps old new
  by_rest old new k =
      record {
        number = ap (λ (x : GroupView _). x.number) k.rest;
        setup = ap (λ (x : GroupView _). x.setup) k.rest;
        floor = ap (λ (x : GroupView _). x.floor) k.rest;
        same = k.same;
      }

  pub ahead_keeps : (old new : GroupView (Setup T)) (count : ℕ) → IsAhead turn_of old new count → Keeps old new
  ahead_keeps old new zero e =
      record {
        number = ap (λ (x : GroupView _). x.number) e;
        setup = ap (λ (x : GroupView _). x.setup) e;
        floor = ap (λ (x : GroupView _). x.floor) e;
        same = ap (λ (x : GroupView _). frames x.components) e;
      }
  ahead_keeps old new (suc count) h =
      let before = ahead_keeps old h.0 count h.1 in
      let last = by_rest h.0 new h.2.keeps in
      record { number = last.number ∙ before.number; setup = last.setup ∙ before.setup; floor = last.floor ∙ before.floor; same = last.same ∙ before.same }

  pub settled_keeps : (old new : GroupView (Setup T)) → IsSettled turn_of old new → Keeps old new
  settled_keeps old new h = by_rest old new h.keeps

  pub settled_moves : (old new : GroupView (Setup T)) → IsSettled turn_of old new → MovesBy turn_of old new
  settled_moves old new h = λ group mine. let d = h.moves group mine in record { steps = d.steps; does = d.does }

  pub members_kept : (old new : GroupView (Setup T)) → Keeps old new → KeepsMembers old new
  members_kept old new k = (k.setup, k.number, members_same old.components new.components k.same)

  -- a group that moved by itself
  module _ (old new : GroupView (Setup T)) (k : Keeps old new) (inside : AllInside old.components old.tray) (new_inside : AllInside new.components new.tray) (new_outside : AllOutside new.components new.out) (moves : MovesBy turn_of old new) where
    abbrev m : Machine (List Datum) Named
    m = machine_of turn_of old.setup

    abbrev l : Lease (List Datum) Named
    l = lease_of m old

    abbrev l' : Lease (List Datum) Named
    l' = lease_of m new

    abbrev IsLaw : Type 0
    IsLaw =
        (group : ℕ → ℕ) (g : ℕ) (lease new_lease : Lease (List Datum) Named) → new_lease.floor ≡ lease.floor → ((j : ℕ) → (group j ≡ g → ⊥) → new_lease.part j ≡ lease.part j)
        → ((i : ℕ) → group i ≡ g → new_lease.out_plus i ≡ []) → ((i : ℕ) → group i ≡ g → new_lease.out_minus i ≡ []) → lease_in group g lease (alone m group g new_lease) ≡ new_lease

    module _ (law : Lawful m) (is_law : IsLaw) where
      new_member : (j : ℕ) → is_member new.components j ≡ is_member old.components j
      new_member = members_same old.components new.components k.same

      part_same : (j : ℕ) → is_member old.components j ≡ false → l'.part j ≡ l.part j
      part_same j alien =
          let new_alien : is_member new.components j ≡ false = new_member j ∙ alien in
          let history : history_of m new.components j ≡ history_of m old.components j = history_none m new.components j new_alien ∙ sym (history_none m old.components j alien) in
          let plus : in_flight Plus j new.tray ≡ in_flight Plus j old.tray = inside_none new.components new.tray new_inside Plus j new_alien ∙ sym (inside_none old.components old.tray inside Plus j alien) in
          let minus : in_flight Minus j new.tray ≡ in_flight Minus j old.tray = inside_none new.components new.tray new_inside Minus j new_alien ∙ sym (inside_none old.components old.tray inside Minus j alien) in
          λ v. record {
            base = (history v).base;
            first = (history v).first;
            done = (history v).done;
            pending = (history v).pending;
            owed = (history v).owed;
            plus = plus v;
            minus = minus v;
          }

      -- for a function of components by which they are the group's
      module _ (group : ℕ → ℕ) (mine : AreMembers group old.number old.components) where
        alien_is : (j : ℕ) → (group j ≡ old.number → ⊥) → is_member old.components j ≡ false
        alien_is j ne = sym (mine j) ∙ ne_eqb (group j) old.number ne

        own_is : (i : ℕ) → group i ≡ old.number → is_member new.components i ≡ true
        own_is i e = new_member i ∙ sym (mine i) ∙ eq-eqb (group i) old.number e

        is : lease_in group old.number l (alone m group old.number l') ≡ l'
        is =
            is_law group old.number l l' (ap rank_of_bound k.floor) (λ j ne. part_same j (alien_is j ne)) (λ i e. outside_none new.components new.out new_outside Plus i (own_is i e))
            (λ i e. outside_none new.components new.out new_outside Minus i (own_is i e))

        by : Leads m group old.number (alone m group old.number l) (alone m group old.number l')
        by = moves group mine

        pub moved : WorldLaw m law group → MovesLaw m law group → OwnLaw m law group → Moves m group old.number l l'
        moved world_law moves_law own_law = own_moves m law group old.number l l' is by.steps by.does world_law moves_law own_law

        pub known : (count : ℕ) → IsValidLease m count old → OwnLaw m law group → StaysKnown m group old.number l l'
        known count valid own_law = own_known m law group old.number l l' is by.steps by.does own_law (valid.lease group mine)

      -- it is a lease still
      pub valid_on : (count : ℕ) → HasCount m count → ((group : ℕ → ℕ) → OwnLaw m law group) → IsValidLease m count old → IsValidLease m count new
      valid_on count counted own_law valid =
          record {
            lease = λ group mine. (each group mine).0;
            stub = valid.stub;
            match = λ group mine. (each group mine).1;
            inside = own_quiet m law own old.number l l' (is own own_mine) (by own own_mine).steps (by own own_mine).does count counted valid.inside;
          }
        where
          own : ℕ → ℕ
          own = own_group old.number old.components

          own_mine : AreMembers (own_group old.number old.components) old.number old.components
          own_mine = own_members old.number old.components

          each : (group : ℕ → ℕ) → AreMembers group new.number new.components → IsLease m group new.number l' × Matches m group new.number valid.stub l'
          each group new_mine =
              let mine : AreMembers group old.number old.components = λ j. ap (λ n. group j == n) (sym k.number) ∙ new_mine j ∙ new_member j in
              subst (λ g. IsLease m group g l' × Matches m group g valid.stub l') (sym k.number)
              (own_lease m law group old.number l l' (is group mine) (by group mine).steps (by group mine).does (own_law group) valid.stub (valid.lease group mine) (valid.match group mine))
