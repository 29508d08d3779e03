-- The turns that were taken in and not given, a list for each component, the first turn first.
use Rattle.std.specs.Prelude.{◌≡◌, ℕ, Option, zero, suc, ◌<◌, ◌^◌, Some, List, [], ◌∷◌, length, map, slice_get, slice_set}
use Rattle.terms.specs.Named.{Named}
use Rattle.event_keys.specs.declared.outcome.Turned.{Turned}
use Rattle.event_keys.specs.Ranks.{owner_of, rank, rank_of_bound}
use Rattle.antimessage.specs.Counts.{Each}
use Rattle.raw_events.specs.Around.{Around}
use Rattle.rollback.specs.ComponentView.{ComponentView}
use Rattle.event_keys.specs.declared.key.Bound.{Bound}
use Rattle.groups.specs.Dropping.{AreGivenUp, cut_all}
use Rattle.task_seed.specs.declared.setup.Setup.{Setup}
use Rattle.task_seed.specs.declared.turns.Turn.{Turn as TurnValue}
use Rattle.virtual_time.specs.Entries.{below}
use Rattle.virtual_time.specs.Reference.{Falls, Turn}
use Rattle.virtual_time.specs.Exchange.Merged.{put_turns}
use Rattle.task_seed.specs.Taken.{turns_of}
use Rattle.group_exchange.specs.Chunks.{first_below, first_from}

-- the turns of all lists put together, the greatest key first
abbrev pub put_all : List (List Turned) → List (Turn Named)
put_all [] = []
put_all (turns ∷ lists) = put_turns (turns_of turns) (put_all lists)

-- each list stands in the order of keys
abbrev pub AreInOrder : List (List Turned) → Type 0
AreInOrder [] = Unit {0}
AreInOrder (turns ∷ lists) = Falls (turns_of turns) × AreInOrder lists

-- the lists have the turns of component i, of the one after it, and so on, as the ranks of their keys tell
abbrev pub AreOwned : ℕ → List (List Turned) → Type 0
AreOwned i [] = Unit {0}
AreOwned i (turns ∷ lists) = Each (λ turned. owner_of (rank turned.key) ≡ i) turns × AreOwned (suc i) lists

-- of each list the first turns, as long as they are below a bound
abbrev pub all_below : ℕ → List (List Turned) → List (List Turned)
all_below b lists = map (first_below b) lists

-- and of each the turns after these
abbrev pub all_from : ℕ → List (List Turned) → List (List Turned)
all_from b lists = map (first_from b) lists

-- lists of turns below a bound, each in order, that can be put together, and not too many
pub record IsCutBelow (b : ℕ) (lists : List (List Turned)) : Type 0 where
  pub order : AreInOrder lists
  pub below : all_below b lists ≡ lists
  pub falls : Falls (put_all lists)
  pub few : length (put_all lists) < 2 ^ 64

-- the turns were put into list i
pub record HasPut (i : ℕ) (turns : List Turned) (old new : List (List Turned)) : Type 0 where
  pub before : List Turned
  pub after : List Turned
  pub there : slice_get old i ≡ Some before
  pub put : turns_of after ≡ put_turns (turns_of turns) (turns_of before)
  pub all : new ≡ slice_set old i after

-- each list of turns stands after its cursor, and falls
abbrev pub ArePuttable : {P : Type 0} → List (ComponentView P) → List (Around Turned) → Type 0
ArePuttable {P} cs lists = (place : ℕ) (c : ComponentView P) (turns : Around Turned) → slice_get cs place ≡ Some c → slice_get lists place ≡ Some turns → (turns.before ≡ []) × Falls (turns_of turns.after)

-- one more list of turns was put into that of its component
pub record HasPutOne {P : Type 0} (cs : List (ComponentView P)) (lists : List (Around Turned)) (place : ℕ) (old new : List (List Turned)) : Type 0 where
  pub c : ComponentView P
  pub there : slice_get cs place ≡ Some c
  pub turns : Around Turned
  pub list : slice_get lists place ≡ Some turns
  pub put : HasPut c.number turns.after old new

-- the lists of the first so many components were put into theirs
abbrev pub HavePutTo : {P : Type 0} → List (ComponentView P) → List (Around Turned) → ℕ → List (List Turned) → List (List Turned) → Type 0
HavePutTo cs lists zero old new = new ≡ old
HavePutTo cs lists (suc place) old new = (mid : List (List Turned)) × HavePutTo cs lists place old mid × HasPutOne cs lists place mid new

-- what components give up below a bound came into their queues
pub record AreTakenIn {T : Type 0} (turn_of : T → ℕ → ℕ → Option TurnValue) (bound : Bound) (cs : List (ComponentView (Setup T))) (old new : List (List Turned)) : Type 0 where
  pub lists : List (Around Turned)
  pub given : AreGivenUp bound cs lists
  pub put : HavePutTo (cut_all turn_of bound cs) lists (length (cut_all turn_of bound cs)) old new

-- components have nothing to give up below a bound, which is their base
pub record HaveNothing {T : Type 0} (turn_of : T → ℕ → ℕ → Option TurnValue) (bound : Bound) (cs : List (ComponentView (Setup T))) : Type 0 where
  pub cut : cut_all turn_of bound cs ≡ cs
  pub none : (q : ℕ) (c : ComponentView (Setup T)) → slice_get cs q ≡ Some c → below (rank_of_bound bound) c.history.done ≡ []
