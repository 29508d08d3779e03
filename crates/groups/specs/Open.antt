-- A group within a call, where what is on its way to its components and to others is in one bag.
use Rattle.std.specs.Prelude.{◌≡◌, ℕ, ◌+◌, cond, true, false, Option, Some, List, [], ◌∷◌, length, slice_get, slice_set}
use Rattle.terms.specs.Datum.{Datum}
use Rattle.terms.specs.Named.{Named}
use Rattle.event_keys.specs.declared.message.Sign.TheVariants.{Plus, Minus}
use Rattle.event_keys.specs.declared.key.Key.{Key}
use Rattle.event_keys.specs.declared.message.Signed.{Signed}
use Rattle.event_keys.specs.Ranks.{rank_of_bound}
use Rattle.antimessage.specs.Counts.{Each}
use Rattle.virtual_time.specs.Machine.{Machine}
use Rattle.virtual_time.specs.Bags.{insert}
use Rattle.virtual_time.specs.Entries.{Entry, Item, entry_key}
use Rattle.virtual_time.specs.Reference.{point, reference_below}
use Rattle.virtual_time.specs.Worlds.{Part, World}
use Rattle.task_seed.specs.declared.setup.Setup.{Setup}
use Rattle.task_seed.specs.declared.turns.Turn.{Turn}
use Rattle.rollback.specs.Flight.{in_flight}
use Rattle.rollback.specs.ComponentView.{ComponentView, machine_of}
use Rattle.rollback.specs.Stepped.{HasNextKey, IsNextSent, IsUnsent, next_entry, stepped, taken_back, with_coming}
use Rattle.groups.specs.Crew.{MembersView}
use Rattle.groups.specs.GroupView.{AreMembers, frames, history_of, is_member, least_next, part_with}
use Rattle.groups.specs.Moves.{Delivers}
use Rattle.groups.specs.declared.window.Window.{Window}
use Rattle.groups.specs.Windows.{HaveDone, IsFirst, lets_through}

-- a bag to which these are posted, one after the other
abbrev pub joined : Machine (List Datum) Named → List (Item Named) → List (Item Named) → List (Item Named)
joined m [] ys = ys
joined m (x ∷ xs) ys = joined m xs (insert m x ys)

-- a component beyond the group, as the open world has it, with what is in flight to it
abbrev pub away : Machine (List Datum) Named → ℕ → ℕ → List (Item Named) → List (Item Named) → Part (List Datum) Named
away m base j plus minus = record { base = (point m base).state j; first = (point m base).next j; done = []; pending = []; owed = []; plus = plus; minus = minus }

module _ {P : Type 0} where
  -- the open world of a group's members with what is on its way, and what waits to leave
  abbrev pub open_world : Machine (List Datum) Named → MembersView P → List Signed → List Signed → World (List Datum) Named
  open_world m g sent out =
      record {
        part = λ j. cond (is_member g.components j) (part_with (history_of m g.components j) (in_flight Plus j sent) (in_flight Minus j sent))
            (away m (rank_of_bound g.base) j (joined m (in_flight Plus j sent) (in_flight Plus j out)) (joined m (in_flight Minus j sent) (in_flight Minus j out)));
        bound = rank_of_bound g.base;
        committed = reference_below m (rank_of_bound g.base);
      }

  -- each of these is to one of the components, and to none of them
  abbrev pub AllInside : List (ComponentView P) → List Signed → Type 0
  AllInside cs = Each (λ s. is_member cs s.message.to ≡ true)

  abbrev pub AllOutside : List (ComponentView P) → List Signed → Type 0
  AllOutside cs = Each (λ s. is_member cs s.message.to ≡ false)

  -- how many entries are done, of all components together
  abbrev pub depth_of : List (ComponentView P) → ℕ
  depth_of [] = 0
  depth_of (c ∷ cs) = length c.history.done + depth_of cs

-- of the component at a place
abbrev pub OfComponent : {P : Type 0} → ℕ → List (ComponentView P) → (ComponentView P → Type 0) → Type 0
OfComponent {P} place cs Holds = (c : ComponentView P) → slice_get cs place ≡ Some c → Holds c

module _ {T : Type 0} (turn_of : T → ℕ → ℕ → Option Turn) where
  -- the component at a place did its next entry
  abbrev pub IsSteppedAt : ℕ → List (ComponentView (Setup T)) → List Signed → List (ComponentView (Setup T)) → List Signed → Type 0
  IsSteppedAt place cs sent new new_sent = OfComponent place cs (λ c. (new ≡ slice_set cs place (stepped turn_of c)) × IsNextSent turn_of c sent new_sent)

  -- this one came to it
  abbrev pub IsComeTo : ℕ → List (ComponentView (Setup T)) → List Signed → List (ComponentView (Setup T)) → List Signed → Signed → Type 0
  IsComeTo place cs sent new new_sent signed =
      OfComponent place cs (λ c. (new ≡ slice_set cs place (with_coming turn_of c signed)) × IsUnsent turn_of c (taken_back turn_of c signed) sent new_sent)

  -- a component that is first did its next entry, which has this key, and for which the window had room
  pub record IsFirstDone (window : Option Window) (key : Key) (cs : List (ComponentView (Setup T))) (sent : List Signed) (new : List (ComponentView (Setup T))) (new_sent : List Signed) : Type 0 where
    pub place : ℕ
    pub first : IsFirst turn_of cs place
    pub has : HasNextKey turn_of first.c key
    pub room : lets_through window first.c.history.done (next_entry turn_of first.c) ≡ true
    pub becomes : new ≡ slice_set cs place (stepped turn_of first.c)
    pub posts : IsNextSent turn_of first.c sent new_sent

  -- a message or an antimessage came to its receiver, which took back so many entries
  pub record HasCome (signed : Signed) (count : ℕ) (cs : List (ComponentView (Setup T))) (sent : List Signed) (new : List (ComponentView (Setup T))) (new_sent : List Signed) : Type 0 where
    pub place : ℕ
    pub c : ComponentView (Setup T)
    pub there : slice_get cs place ≡ Some c
    pub number : c.number ≡ signed.message.to
    pub becomes : new ≡ slice_set cs place (with_coming turn_of c signed)
    pub posts : IsUnsent turn_of c (taken_back turn_of c signed) sent new_sent
    pub many : count ≡ length (taken_back turn_of c signed)

  -- the member with the least next key did that entry, for which the window had room
  pub record IsProcessed (window : Option Window) (old new : MembersView (Setup T)) (sent new_sent : List Signed) : Type 0 where
    pub place : ℕ
    pub c : ComponentView (Setup T)
    pub there : slice_get old.components place ≡ Some c
    pub entry : Entry Named
    pub next : next_entry turn_of c ≡ Some entry
    pub least : entry_key entry ≡ least_next turn_of old.setup old.components
    pub room : lets_through window c.history.done (Some entry) ≡ true
    pub becomes : new ≡ record old { components = slice_set old.components place (stepped turn_of c) }
    pub posts : IsNextSent turn_of c sent new_sent

  -- a message or an antimessage came to its receiver, a member, which took back so many entries
  pub record IsDelivered (signed : Signed) (count : ℕ) (old new : MembersView (Setup T)) (sent new_sent : List Signed) : Type 0 where
    pub place : ℕ
    pub c : ComponentView (Setup T)
    pub there : slice_get old.components place ≡ Some c
    pub number : c.number ≡ signed.message.to
    pub becomes : new ≡ record old { components = slice_set old.components place (with_coming turn_of c signed) }
    pub posts : IsUnsent turn_of c (taken_back turn_of c signed) sent new_sent
    pub many : count ≡ length (taken_back turn_of c signed)

  -- of what is on its way some came to its receivers, and what followed of that; what others get waits to leave
  pub record IsPassed (old new : MembersView (Setup T)) (sent new_sent out new_out : List Signed) : Type 0 where
    pub setup : new.setup ≡ old.setup
    pub base : new.base ≡ old.base
    pub same : frames new.components ≡ frames old.components
    pub outside : AllOutside old.components out → AllOutside new.components new_out
    pub turns : (most : ℕ) → HaveDone most old.components → HaveDone most new.components
    pub moves : (group : ℕ → ℕ) (g : ℕ) → AreMembers group g old.components
        → Delivers (machine_of turn_of old.setup) group g (open_world (machine_of turn_of old.setup) old sent out) (open_world (machine_of turn_of old.setup) new new_sent new_out)
