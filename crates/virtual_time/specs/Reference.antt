-- The plain simulator, which always takes the turn with the least key.
use Rattle.std.specs.Prelude.{◌≡◌, ℕ, zero, suc, ◌<◌, ◌≤◌, ◌==◌, ◌&&◌, cond, nat_lt, Option, None, Some, List, [], ◌∷◌, ◌+◌, ◌⊎◌}
use Rattle.virtual_time.specs.Machine.{Machine}

-- A turn with what came of it: an action, or nothing where it was idle.
pub record Turn (Action : Type 0) : Type 0 where
  pub key : ℕ
  pub outcome : Option Action

-- Where the plain simulator stands: the number of the next turn and the state of each component.
pub record Point (State : Type 0) : Type 0 where
  pub next : ℕ → ℕ
  pub state : ℕ → State

-- Nobody has had a turn.
abbrev pub start_point : {State Action : Type 0} → Machine State Action → Point State
start_point machine = record { next = λ i. 0; state = machine.start }

-- The state of component j after component i's turn: i and those that receive the action take it, the others' states stay.
abbrev pub joint : {State Action : Type 0} → Machine State Action → ℕ → Option Action → ℕ → State → State
joint machine i None j s = s
joint machine i (Some a) j s = cond (j == i) (machine.apply j a s) (cond (machine.receives i a j) (machine.apply j a s) s)

-- Where the simulator stands after one more turn.
abbrev pub advance : {State Action : Type 0} → Machine State Action → Point State → Turn Action → Point State
advance machine p t =
    record {
      next = λ j. cond (j == machine.owner t.key) (suc (p.next j)) (p.next j);
      state = λ j. joint machine (machine.owner t.key) t.outcome j (p.state j);
    }

-- Where the simulator stands after these turns, the last one first.
abbrev pub after : {State Action : Type 0} → Machine State Action → List (Turn Action) → Point State
after machine [] = start_point machine
after machine (t ∷ ts) = advance machine (after machine ts) t

-- The turn is the next one: no component has a turn with a lesser key, and its outcome is that of the joint state.
pub record IsNext {State Action : Type 0} (machine : Machine State Action) (p : Point State) (t : Turn Action) : Type 0 where
  pub its_key : t.key ≡ machine.key (machine.owner t.key) (p.next (machine.owner t.key))
  pub exists : t.key < machine.top
  pub least : (j : ℕ) → t.key ≤ machine.key j (p.next j)
  pub its_outcome : t.outcome ≡ machine.outcome (machine.owner t.key) (p.next (machine.owner t.key)) (p.state (machine.owner t.key))

-- The simulator takes these turns, the last one first.
abbrev pub IsRun : {State Action : Type 0} → Machine State Action → List (Turn Action) → Type 0
IsRun machine [] = Unit {0}
IsRun machine (t ∷ ts) = IsNext machine (after machine ts) t × IsRun machine ts

-- All these turns have keys below b.
abbrev pub AllBelow : {Action : Type 0} → ℕ → List (Turn Action) → Type 0
AllBelow b [] = Unit {0}
AllBelow b (t ∷ ts) = (t.key < b) × AllBelow b ts

-- These are all the simulator's turns with keys below b, the last one first.
pub record IsReference {State Action : Type 0} (machine : Machine State Action) (b : ℕ) (turns : List (Turn Action)) : Type 0 where
  pub run : IsRun machine turns
  pub below : AllBelow b turns
  pub all : (j : ℕ) → b ≤ machine.key j ((after machine turns).next j)

-- One more turn, if there is one at this key.
abbrev pub add_turn : {A : Type 0} → ℕ → Option (Option A) → List (Turn A) → List (Turn A)
add_turn k None ts = ts
add_turn k (Some o) ts = record { key = k; outcome = o } ∷ ts

-- The turn at key c of the simulator that stands at p, if it has one.
abbrev pub next_turn : {S A : Type 0} → Machine S A → ℕ → Point S → Option (Option A)
next_turn machine c p =
    let i = machine.owner c in
    cond (nat_lt c machine.top && (machine.key i (p.next i) == c)) (Some (machine.outcome i (p.next i) (p.state i))) None

-- The simulator's turns with keys below a bound, by going up the keys.
abbrev pub reference_below : {S A : Type 0} → Machine S A → ℕ → List (Turn A)
reference_below machine zero = []
reference_below machine (suc c) = add_turn c (next_turn machine c (after machine (reference_below machine c))) (reference_below machine c)

-- Where the simulator stands before a key.
abbrev pub point : {S A : Type 0} → Machine S A → ℕ → Point S
point machine c = after machine (reference_below machine c)

-- The simulator's turn at a key, if it has one.
abbrev pub reference_turn : {S A : Type 0} → Machine S A → ℕ → Option (Option A)
reference_turn machine c = next_turn machine c (point machine c)

-- The outcome of the turn at the key, if it is among these.
abbrev pub outcome_at : {A : Type 0} → ℕ → List (Turn A) → Option (Option A)
outcome_at k [] = None
outcome_at k (t ∷ ts) = cond (t.key == k) (Some t.outcome) (outcome_at k ts)

-- The keys fall strictly: each turn stands once, and the last one first.
abbrev pub Falls : {A : Type 0} → List (Turn A) → Type 0
Falls [] = Unit {0}
Falls (t ∷ ts) = AllBelow t.key ts × Falls ts

-- How many turns the first components have taken where the simulator stands.
abbrev pub turns_of : {S : Type 0} → Point S → ℕ → ℕ
turns_of p zero = 0
turns_of p (suc n) = p.next n + turns_of p n

-- The turn is among these.
abbrev pub IsAmong : {A : Type 0} → Turn A → List (Turn A) → Type 0
IsAmong t [] = ⊥
IsAmong t (u ∷ us) = (t ≡ u) ⊎ IsAmong t us
