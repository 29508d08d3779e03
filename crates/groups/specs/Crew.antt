-- What the members of a group keep: their components, the places of these, and their seats in a tournament.
use Rattle.std.specs.Prelude.{◌≡◌, ℕ, ◌+◌, ◌<◌, Option, Some, List, [], ◌∷◌, length, slice_get, slice_index_or}
use Rattle.event_keys.specs.declared.key.Bound.{Bound}
use Rattle.task_seed.specs.declared.setup.Setup.{Setup}
use Rattle.task_seed.specs.declared.turns.Turn.{Turn}
use Rattle.virtual_time.specs.Bags.{IsSorted}
use Rattle.rollback.specs.ComponentView.{ComponentView, machine_of}
use Rattle.groups.specs.declared.seats.Seat.{Seat}
use Rattle.groups.specs.Tournament.{IsTournament, key_at, node}
use Rattle.groups.specs.GroupView.{key_of_next}

-- the components of a group, with the setup and the bound of the base of each
pub record MembersView (P : Type 0) : Type 0 where
  pub setup : P
  pub base : Bound
  pub components : List (ComponentView P)

-- the place that is noted of component j, or one that no member has
abbrev pub place_in : List ℕ → ℕ → ℕ
place_in places j = slice_index_or places j 65535

module _ {P : Type 0} where
  -- each component is of this setup, and this is the bound of its base
  abbrev pub AreOf : P → Bound → List (ComponentView P) → Type 0
  AreOf setup base [] = Unit {0}
  AreOf setup base (c ∷ cs) = (c.setup ≡ setup) × (c.base ≡ base) × AreOf setup base cs

  -- no two of the components have one number: a function leads from each number to its place, from the first on
  abbrev pub AreApart : (ℕ → ℕ) → ℕ → List (ComponentView P) → Type 0
  AreApart place first cs = (q : ℕ) (c : ComponentView P) → slice_get cs q ≡ Some c → place c.number ≡ first + q

  -- of each component its place is noted, and of no other
  pub record ArePlaced (cs : List (ComponentView P)) (places : List ℕ) : Type 0 where
    pub placed : (p : ℕ) (c : ComponentView P) → slice_get cs p ≡ Some c → place_in places c.number ≡ p
    pub named : (j : ℕ) (c : ComponentView P) → slice_get cs (place_in places j) ≡ Some c → c.number ≡ j

module _ {T : Type 0} (turn_of : T → ℕ → ℕ → Option Turn) where
  -- the seat of the component at this place, whose pending inputs stand in order
  abbrev pub IsSeatOf : ℕ → ComponentView (Setup T) → Seat → Type 0
  IsSeatOf p c seat = (seat.place ≡ p) × (key_at seat ≡ key_of_next turn_of c) × IsSorted (machine_of turn_of c.setup) c.history.pending

  -- those of the components that are in a scope have their seats in a tournament
  pub record AreSeatedIn (scope : ℕ → Type 0) (cs : List (ComponentView (Setup T))) (seats : List Seat) : Type 0 where
    pub tournament : IsTournament (length cs) seats
    pub each : (p : ℕ) (c : ComponentView (Setup T)) → scope p → slice_get cs p ≡ Some c → IsSeatOf p c (node seats (length cs + p))

  -- the first so many, all but one, and all of them
  abbrev pub AreSeatedTo : List (ComponentView (Setup T)) → ℕ → List Seat → Type 0
  AreSeatedTo cs first = AreSeatedIn (λ p. p < first) cs

  abbrev pub AreSeatedBut : List (ComponentView (Setup T)) → ℕ → List Seat → Type 0
  AreSeatedBut cs place = AreSeatedIn (λ p. p ≡ place → ⊥) cs

  abbrev pub AreSeated : List (ComponentView (Setup T)) → List Seat → Type 0
  AreSeated cs = AreSeatedIn (λ p. Unit {0}) cs

  -- what holds of members: no two have one number, each is of the setup and the base, and its pending inputs stand in order
  pub record AreSound (v : MembersView (Setup T)) : Type 0 where
    pub place : ℕ → ℕ
    pub apart : AreApart place 0 v.components
    pub own : AreOf v.setup v.base v.components
    pub sorted : (q : ℕ) (c : ComponentView (Setup T)) → slice_get v.components q ≡ Some c → IsSorted (machine_of turn_of c.setup) c.history.pending

  -- what the fields of members keep
  pub record AreValidMembers (setup : Setup T) (base : Bound) (cs : List (ComponentView (Setup T))) (places : List ℕ) (seats : List Seat) : Type 0 where
    pub own : AreOf setup base cs
    pub few : length cs < 65536
    pub placed : ArePlaced cs places
    pub seated : AreSeated cs seats
