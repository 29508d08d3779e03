-- A group of components as its callers see it, and the lease of the theory that it is.
use Rattle.std.specs.Prelude.{◌≡◌, ℕ, ◌==◌, ◌||◌, min, cond, Option, nat_lt, Bool, false, List, [], ◌∷◌, map, filter, length, slice_index_or}
use Rattle.std.specs.List.{range_with_len}
use Rattle.terms.specs.Datum.{Datum}
use Rattle.terms.specs.Named.{Named}
use Rattle.event_keys.specs.declared.key.Bound.{Bound}
use Rattle.event_keys.specs.declared.message.Sign.TheVariants.{Plus, Minus}
use Rattle.event_keys.specs.declared.message.Signed.{Signed}
use Rattle.event_keys.specs.Ranks.{rank_of_bound}
use Rattle.virtual_time.specs.Machine.{Machine}
use Rattle.virtual_time.specs.Entries.{Item}
use Rattle.virtual_time.specs.Records.{Record}
use Rattle.virtual_time.specs.Worlds.{Part}
use Rattle.virtual_time.specs.Groups.Leases.{Lease}
use Rattle.plans.specs.Plans.{composition}
use Rattle.task_seed.specs.declared.setup.Setup.{Setup}
use Rattle.task_seed.specs.declared.turns.Turn.{Turn}
use Rattle.task_seed.specs.Setups.{plan_of}
use Rattle.rollback.specs.Flight.{in_flight}
use Rattle.rollback.specs.ComponentView.{ComponentView, machine_of, next_key, start_held, start_record}
use Rattle.rollback.specs.Stepped.{next_entry}
use Rattle.groups.specs.declared.window.Window.{Window}

-- a group: its number, the setup and the bound of the base of its components, these in order of their numbers, the floor of its last
-- meeting, its tray of messages that came and are not delivered yet, the messages that leave it, and its window, if it has one
pub record GroupView (P : Type 0) : Type 0 where
  pub number : ℕ
  pub setup : P
  pub base : Bound
  pub components : List (ComponentView P)
  pub floor : Bound
  pub tray : List Signed
  pub out : List Signed
  pub window : Option Window

-- the number is among these
abbrev pub has_number : ℕ → List ℕ → Bool
has_number j [] = false
has_number j (n ∷ ns) = (j == n) || has_number j ns

module _ {P : Type 0} where
  -- the numbers of components
  abbrev pub numbers : List (ComponentView P) → List ℕ
  numbers cs = map (λ c. c.number) cs

  -- component j is one of these
  abbrev pub is_member : List (ComponentView P) → ℕ → Bool
  is_member cs j = has_number j (numbers cs)

  -- what a component keeps whatever it does: its setup, its number and the bound of its base
  abbrev pub frame_of : ComponentView P → P × ℕ × Bound
  frame_of c = (c.setup, c.number, c.base)

  abbrev pub frames : List (ComponentView P) → List (P × ℕ × Bound)
  frames cs = map frame_of cs

  -- the record of component j among these; of any other it is that of the start
  abbrev pub history_of : Machine (List Datum) Named → List (ComponentView P) → ℕ → Record (List Datum) Named
  history_of m [] j = start_record m j
  history_of m (c ∷ cs) j = cond (j == c.number) c.history (history_of m cs j)

-- a component with this record, and what is in flight to it
abbrev pub part_with : Record (List Datum) Named → List (Item Named) → List (Item Named) → Part (List Datum) Named
part_with r plus minus = record { base = r.base; first = r.first; done = r.done; pending = r.pending; owed = r.owed; plus = plus; minus = minus }

module _ {P : Type 0} where
  -- the group as the theory sees it
  abbrev pub lease_of : Machine (List Datum) Named → GroupView P → Lease (List Datum) Named
  lease_of m g =
      record {
        base = rank_of_bound g.base;
        floor = rank_of_bound g.floor;
        part = λ j. part_with (history_of m g.components j) (in_flight Plus j g.tray) (in_flight Minus j g.tray);
        out_plus = λ j. in_flight Plus j g.out;
        out_minus = λ j. in_flight Minus j g.out;
      }

  -- by this function of components the group has just its own
  abbrev pub AreMembers : (ℕ → ℕ) → ℕ → List (ComponentView P) → Type 0
  AreMembers group number cs = (j : ℕ) → (group j == number) ≡ is_member cs j

module _ {T : Type 0} (turn_of : T → ℕ → ℕ → Option Turn) where
  -- the key of what a component does next, or the end
  abbrev pub key_of_next : ComponentView (Setup T) → ℕ
  key_of_next c = next_key (machine_of turn_of c.setup) (next_entry turn_of c)

  -- the least of the next keys of components of a setup, or the end where none has anything to do
  abbrev pub least_next : Setup T → List (ComponentView (Setup T)) → ℕ
  least_next setup [] = (machine_of turn_of setup).top
  least_next setup (c ∷ cs) = min (key_of_next c) (least_next setup cs)

  -- of so many components at their start those of a group
  abbrev pub start_components : Setup T → (ℕ → ℕ) → ℕ → ℕ → List (ComponentView (Setup T))
  start_components setup group count number = filter (λ c. group c.number == number) (map (start_held turn_of setup) (range_with_len 0 count))

-- the group of each component, of so many, where those of the first stand in a list; any other is in none
abbrev pub group_in : ℕ → List ℕ → ℕ → ℕ
group_in count groups j = cond (nat_lt j count) (slice_index_or groups j 65536) 65536

-- how many components a setup has
abbrev pub count_of : {T : Type 0} → Setup T → ℕ
count_of setup = length (composition (plan_of setup))
