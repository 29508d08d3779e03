-- What a group does by itself, as steps of the group alone.
use Rattle.std.proofs.Common.{◌≡◌, ℕ, zero, suc, ◌==◌, Bool, true, false, true≢false, Option, Some, List, [], ◌∷◌, ◌++◌, refl, ap, sym, subst, ◌∙◌}
use Rattle.std.proofs.lemmas.Bool.{and_parts, eqb-true}
use Rattle.terms.specs.Datum.{Datum}
use Rattle.terms.specs.Named.{Named}
use Rattle.event_keys.specs.declared.message.Sign.{Sign}
use Rattle.event_keys.specs.declared.message.Sign.TheVariants.{Plus, Minus}
use Rattle.event_keys.specs.declared.message.Signed.{Signed}
use Rattle.event_keys.specs.Ranks.{rank_of_bound}
use Rattle.virtual_time.specs.Machine.{Lawful, Machine}
use Rattle.virtual_time.specs.Records.{Record, next_of}
use Rattle.virtual_time.specs.Reference.{reference_below}
use Rattle.virtual_time.specs.Worlds.{Process}
use Rattle.virtual_time.specs.Groups.Leases.{Does, alone}
use Rattle.virtual_time.proofs.Groups.Leased.{does_both}
use Rattle.task_seed.specs.declared.setup.Setup.{Setup}
use Rattle.task_seed.specs.declared.turns.Turn.{Turn}
use Rattle.rollback.specs.ComponentView.{ComponentView, machine_of}
use Rattle.rollback.specs.Flight.{goes, in_flight, is_sign}
use Rattle.groups.specs.Crew.{AreSound, MembersView}
use Rattle.groups.specs.GroupView.{AreMembers, GroupView, frames, history_of, is_member, lease_of}
use Rattle.groups.specs.Moves.{AreLeastFirst, Delivers, IsAhead, IsSettled, IsStepped, IsSteppedWithin, KeepsGroup, Leads, MovesBy, Processes}
use Rattle.groups.specs.Open.{AllInside, AllOutside, IsPassed, IsProcessed, open_world}
use Rattle.groups.specs.declared.window.Window.{Window}
use Rattle.groups.specs.Windows.{lets_through}
use Rattle.groups.proofs.Passed.{its_frames, its_next, its_step, outside_same}
use Rattle.groups.proofs.Placed.{history_there, member_there, members_same}

-- the members of a group
abbrev pub members_in : {P : Type 0} → GroupView P → MembersView P
members_in g = record { setup = g.setup; base = g.base; components = g.components }

-- what is inside is in flight to nobody else
pub inside_none : {P : Type 0} (cs : List (ComponentView P)) (tray : List Signed) → AllInside cs tray → (sign : Sign) (j : ℕ) → is_member cs j ≡ false → in_flight sign j tray ≡ []
inside_none cs [] all sign j alien = refl
inside_none cs (x ∷ xs) all sign j alien = go (inside_none cs xs all.1 sign j alien) (goes sign j x) refl
  where
    go : in_flight sign j xs ≡ [] → (b : Bool) → goes sign j x ≡ b → in_flight sign j (x ∷ xs) ≡ []
    go rest true e = absurd (true≢false (sym all.0 ∙ ap (is_member cs) (eqb-true x.message.to j (and_parts (is_sign sign x.sign) (x.message.to == j) e).1) ∙ alien))
    go rest false e = rw e rest

module _ {P : Type 0} (m : Machine (List Datum) Named) where
  -- the group alone is its open world
  pub alone_is : (v : GroupView P) → AllInside v.components v.tray → (group : ℕ → ℕ) (g : ℕ) → AreMembers group g v.components → alone m group g (lease_of m v) ≡ open_world m (members_in v) v.tray v.out
  alone_is v all group g mine = λ w. record { part = λ j. part_is j w; bound = rank_of_bound v.base; committed = reference_below m (rank_of_bound v.base) }
    where
      part_is : (j : ℕ) → (alone m group g (lease_of m v)).part j ≡ (open_world m (members_in v) v.tray v.out).part j
      part_is j = go (is_member v.components j) refl
        where
          go : (b : Bool) → is_member v.components j ≡ b → (alone m group g (lease_of m v)).part j ≡ (open_world m (members_in v) v.tray v.out).part j
          go true e = rw (mine j, e) refl
          go false e = rw (mine j, e, inside_none v.components v.tray all Plus j e, inside_none v.components v.tray all Minus j e) refl

module _ {T : Type 0} (turn_of : T → ℕ → ℕ → Option Turn) where
  abbrev at : GroupView (Setup T) → Machine (List Datum) Named
  at g = machine_of turn_of g.setup

  -- the group with these members, this tray and these messages that leave it
  abbrev pub with : GroupView (Setup T) → MembersView (Setup T) → List Signed → List Signed → GroupView (Setup T)
  with g v tray out = record { number = g.number; setup = v.setup; base = v.base; components = v.components; floor = g.floor; tray = tray; out = out; window = g.window }

  module _ (old : GroupView (Setup T)) (inside : AllInside old.components old.tray) where
    keeps : (v : MembersView (Setup T)) (tray out : List Signed) → v.setup ≡ old.setup → v.base ≡ old.base → frames v.components ≡ frames old.components → KeepsGroup turn_of old (with old v tray out)
    keeps v tray out setup base frames_are =
        record { rest = λ w. record { number = old.number; setup = setup w; base = base w; components = v.components; floor = old.floor; tray = tray; out = out; window = old.window }; same = frames_are }

    new_alone : (v : MembersView (Setup T)) (out : List Signed) → v.base ≡ old.base → frames v.components ≡ frames old.components → (group : ℕ → ℕ) → AreMembers group old.number old.components
        → alone (at old) group old.number (lease_of (at old) (with old v [] out)) ≡ open_world (at old) v [] out
    new_alone v out base frames_are group mine =
        alone_is (at old) (with old v [] out) tt group old.number (λ j. mine j ∙ sym (members_same old.components v.components frames_are j))

    -- all that was in flight is delivered
    pub settled : (v : MembersView (Setup T)) (tray out : List Signed) → tray ≡ [] → IsPassed turn_of (members_in old) v old.tray tray old.out out → IsSettled turn_of old (with old v tray out)
    settled v tray out empty p =
        subst (λ ys. IsSettled turn_of old (with old v ys out)) (sym empty)
        (record {
          keeps = keeps v [] out p.setup p.base p.same;
          tray = refl;
          moves = λ group mine.
              subst (Delivers (at old) group old.number (alone (at old) group old.number (lease_of (at old) old))) (sym (new_alone v out p.base p.same group mine))
              (subst (λ u. Delivers (at old) group old.number u (open_world (at old) v [] out)) (sym (alone_is (at old) old inside group old.number mine))
              (subst (λ ys. Delivers (at old) group old.number (open_world (at old) (members_in old) old.tray old.out) (open_world (at old) v ys out)) empty (p.moves group old.number mine)));
        })

    -- what waits to leave goes to others still
    pub outside_on : (window : Option Window) (mid v : MembersView (Setup T)) (sent tray out : List Signed) → Lawful (at old) → AreSound turn_of (members_in old) → IsProcessed turn_of window (members_in old) mid old.tray sent → IsPassed turn_of mid v sent tray old.out out → AllOutside old.components old.out → AllOutside v.components out
    outside_on window mid v sent tray out law sound p d h =
        d.outside (outside_same old.components mid.components (members_same old.components mid.components (its_frames turn_of (members_in old) mid law sound.place sound.apart sound.own old.tray sent old.out p)) old.out h)

    -- the next entry is processed, and what is then in flight is delivered
    pub stepped_on : (window : Option Window) (mid v : MembersView (Setup T)) (sent tray out : List Signed) → Lawful (at old) → AreSound turn_of (members_in old) → IsProcessed turn_of window (members_in old) mid old.tray sent → tray ≡ [] → IsPassed turn_of mid v sent tray old.out out → IsSteppedWithin turn_of window old (with old v tray out)
    stepped_on window mid v sent tray out law sound p empty d =
        subst (λ ys. IsSteppedWithin turn_of window old (with old v ys out)) (sym empty) (
          record {
            i = p.c.number;
            entry = p.entry;
            member = member_there old.components p.place p.c p.there;
            next = subst (λ r. next_of (at old) p.c.number r ≡ Some p.entry) (sym history) (its_next turn_of (members_in old) mid law sound.place sound.apart sound.own old.tray sent old.out p);
            least = p.least;
            keeps = keeps v [] out (d.setup ∙ mid_setup) (d.base ∙ mid_base) frames_are;
            tray = refl;
            moves = λ group mine. processes group mine;
          },
          subst (λ (r : Record (List Datum) Named). lets_through window r.done (Some p.entry) ≡ true) (sym history) p.room,
        )
      where
        history : history_of (at old) old.components p.c.number ≡ p.c.history
        history = history_there (at old) sound.place 0 old.components p.place p.c sound.apart p.there

        mid_setup : mid.setup ≡ old.setup
        mid_setup = ap (λ (x : MembersView _). x.setup) p.becomes

        mid_base : mid.base ≡ old.base
        mid_base = ap (λ (x : MembersView _). x.base) p.becomes

        mid_frames : frames mid.components ≡ frames old.components
        mid_frames = its_frames turn_of (members_in old) mid law sound.place sound.apart sound.own old.tray sent old.out p

        frames_are : frames v.components ≡ frames old.components
        frames_are = d.same ∙ mid_frames

        processes : (group : ℕ → ℕ) → AreMembers group old.number old.components
            → Processes (at old) group old.number p.c.number (alone (at old) group old.number (lease_of (at old) old)) (alone (at old) group old.number (lease_of (at old) (with old v [] out)))
        processes group mine =
            subst (Processes (at old) group old.number p.c.number (alone (at old) group old.number (lease_of (at old) old))) (sym (new_alone v out (d.base ∙ mid_base) frames_are group mine))
            (subst (λ u. Processes (at old) group old.number p.c.number u (open_world (at old) v [] out)) (sym (alone_is (at old) old inside group old.number mine))
            (record {
              steps = later.steps;
              deliveries = subst (λ x. AreLeastFirst (at old) group old.number x later.steps) first.1 later.deliveries;
              does = does_both (at old) group old.number (Process p.c.number ∷ []) later.steps (open_world (at old) (members_in old) old.tray old.out) (open_world (at old) mid sent old.out) (open_world (at old) v [] out)
                  first later.does;
            }))
          where
            first : Does (at old) group old.number (open_world (at old) (members_in old) old.tray old.out) (Process p.c.number ∷ []) (open_world (at old) mid sent old.out)
            first = its_step turn_of (members_in old) mid law sound.place sound.apart sound.own old.tray sent old.out p group old.number mine

            later : Delivers (at old) group old.number (open_world (at old) mid sent old.out) (open_world (at old) v [] out)
            later =
                subst (λ ys. Delivers (at old) group old.number (open_world (at old) mid sent old.out) (open_world (at old) v ys out)) empty
                (subst (λ x. Delivers (machine_of turn_of x) group old.number (open_world (machine_of turn_of x) mid sent old.out) (open_world (machine_of turn_of x) v tray out)) mid_setup
                (d.moves group old.number (λ j. mine j ∙ sym (members_same old.components mid.components mid_frames j))))

  -- entries processed one after the other are steps of the group
  number_kept : (old new : GroupView (Setup T)) → KeepsGroup turn_of old new → new.number ≡ old.number
  number_kept old new k = ap (λ (x : GroupView _). x.number) k.rest

  setup_kept : (old new : GroupView (Setup T)) → KeepsGroup turn_of old new → new.setup ≡ old.setup
  setup_kept old new k = ap (λ (x : GroupView _). x.setup) k.rest

  pub ahead_keeps : (old new : GroupView (Setup T)) (count : ℕ) → IsAhead turn_of old new count → (new.number ≡ old.number) × (new.setup ≡ old.setup) × (frames new.components ≡ frames old.components)
  ahead_keeps old new zero e = (ap (λ (x : GroupView _). x.number) e, ap (λ (x : GroupView _). x.setup) e, ap (λ (x : GroupView _). frames x.components) e)
  ahead_keeps old new (suc count) h =
      let before = ahead_keeps old h.0 count h.1 in
      let last = h.2.keeps in
      (number_kept h.0 new last ∙ before.0, setup_kept h.0 new last ∙ before.1, last.same ∙ before.2)

  pub ahead_moves : (old new : GroupView (Setup T)) (count : ℕ) → IsAhead turn_of old new count → MovesBy turn_of old new
  ahead_moves old new zero e = λ group mine. record { steps = []; does = ap (λ v. alone (at old) group old.number (lease_of (at old) v)) e }
  ahead_moves old new (suc count) h = λ group mine.
      let mid = h.0 in
      let before = ahead_keeps old mid count h.1 in
      let first = ahead_moves old mid count h.1 group mine in
      let last = moved mid h.2 before group mine in
      record {
        steps = first.steps ++ last.steps;
        does = does_both (at old) group old.number first.steps last.steps (alone (at old) group old.number (lease_of (at old) old)) (alone (at old) group old.number (lease_of (at old) mid)) (alone (at old) group old.number (lease_of (at old) new)) first.does last.does;
      }
    where
      moved : (mid : GroupView (Setup T)) → IsStepped turn_of mid new → (mid.number ≡ old.number) × (mid.setup ≡ old.setup) × (frames mid.components ≡ frames old.components) → (group : ℕ → ℕ) → AreMembers group old.number old.components
          → Leads (at old) group old.number (alone (at old) group old.number (lease_of (at old) mid)) (alone (at old) group old.number (lease_of (at old) new))
      moved mid step before group mine =
          let members : AreMembers group mid.number mid.components = λ j. ap (λ n. group j == n) before.0 ∙ mine j ∙ sym (members_same old.components mid.components before.2 j) in
          let p = step.moves group members in
          let lead : Leads (at mid) group mid.number (alone (at mid) group mid.number (lease_of (at mid) mid)) (alone (at mid) group mid.number (lease_of (at mid) new)) = record { steps = Process step.i ∷ p.steps; does = p.does } in
          subst (λ x. Leads (machine_of turn_of x) group old.number (alone (machine_of turn_of x) group old.number (lease_of (machine_of turn_of x) mid)) (alone (machine_of turn_of x) group old.number (lease_of (machine_of turn_of x) new))) before.1
          (subst (λ n. Leads (at mid) group n (alone (at mid) group n (lease_of (at mid) mid)) (alone (at mid) group n (lease_of (at mid) new))) before.0 lead)

  pub step_window : (old new : GroupView (Setup T)) → IsStepped turn_of old new → new.window ≡ old.window
  step_window old new s = ap (λ (x : GroupView _). x.window) s.keeps.rest

  pub ahead_more : (old mid new : GroupView (Setup T)) (count : ℕ) → IsAhead turn_of old mid count → IsSteppedWithin turn_of mid.window mid new → IsAhead turn_of old new (suc count)
  ahead_more old mid new count ahead step = (mid, ahead, step.0, step.1)

pub none_inside : {P : Type 0} (cs : List (ComponentView P)) (tray : List Signed) → tray ≡ [] → AllInside cs tray
none_inside cs tray e = subst (AllInside cs) (sym e) tt
