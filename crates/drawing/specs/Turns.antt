-- The diagram of a schedule: ticks go down, and each component has a line.
use Rattle.std.specs.Prelude.{ℕ, ◌+◌, ◌-◌, ◌*◌, ◌%◌, ◌≤◌, nat_le, nat_lt, Bool, ◌&&◌, if◌then◌else◌, List, [], ◌∷◌, ◌++◌, codes, decimal, filter, flat_map, length, take}
use Rattle.event_keys.specs.declared.key.Key.{Key}
use Rattle.event_keys.specs.declared.outcome.Outcome.{Outcome}
use Rattle.event_keys.specs.declared.outcome.Outcome.TheVariants.{Idle, Did}
use Rattle.event_keys.specs.declared.outcome.Turned.{Turned}
use Rattle.plans.specs.declared.plan.Plan.{Plan}
use Rattle.plans.specs.Plans.{composition}
use Rattle.io_automata.specs.Signatures.{receivers_of}
use Rattle.trace.specs.Lines.{action_text}
use Rattle.drawing.specs.declared.window.Window.{Window}
use Rattle.drawing.specs.Elements.{arrow_text, component_text, full_dot, head_text, hollow_dot, label_text, margin_text}

-- the turn's tick is one that is drawn
abbrev pub is_within : Window → Turned → Bool
is_within window turned = nat_le window.from turned.key.tick && nat_le turned.key.tick window.to

-- where a component's line is, from the left
abbrev pub x_of : ℕ → ℕ
x_of component = 120 + 160 * component

-- where a tick is, from the top
abbrev pub row_of : (from tick : ℕ) → ℕ
row_of from tick = 60 + 24 * (tick - from)

-- where a turn is: a little lower for each component, so that the arrows of one tick lie apart
abbrev pub y_of : ℕ → Key → ℕ
y_of from key = row_of from key.tick + 4 * (key.component % 6)

-- an arrow to a component, and to each of these components
abbrev pub arrow_to : (y from receiver : ℕ) → List ℕ
arrow_to y from receiver = arrow_text y from (x_of receiver)

abbrev pub arrows_text : (y from : ℕ) → List ℕ → List ℕ
arrows_text y from receivers = flat_map (arrow_to y from) receivers

-- the mark of a turn: a hollow dot where it was idle; and a full one with its action, and an arrow to
-- each receiver
abbrev pub mark_text : Plan → (component x y : ℕ) → Outcome → List ℕ
mark_text plan component x y Idle = hollow_dot x y
mark_text plan component x y (Did action) =
    arrows_text y x (receivers_of (composition plan) action component)
    ++ (full_dot x y ++ label_text x (y - 5) (action_text plan action))

-- a turn's tick at the left, and its mark at its component's line
abbrev pub turn_text : Plan → ℕ → Turned → List ℕ
turn_text plan from turned =
    margin_text (row_of from turned.key.tick + 4) (decimal turned.key.tick)
    ++ mark_text plan turned.key.component (x_of turned.key.component) (y_of from turned.key)
    turned.outcome

-- the lines of the components, from this one on
abbrev pub components_text : (bottom i : ℕ) → List (List ℕ) → List ℕ
components_text bottom i [] = []
components_text bottom i (name ∷ names) =
    component_text (x_of i) bottom name ++ components_text bottom (i + 1) names

-- the tick of the last turn, or this one where there is none
abbrev pub last_tick : ℕ → List Turned → ℕ
last_tick tick [] = tick
last_tick tick (turned ∷ turns) = last_tick turned.key.tick turns

-- the most components that a composition has
abbrev pub most_components : ℕ
most_components = 1024

-- the most turns that are drawn, and a remark where there are more
abbrev pub most_turns : ℕ
most_turns = 2000

abbrev pub remark_text : (bottom many : ℕ) → List ℕ
remark_text bottom many =
    if nat_lt most_turns many
    then margin_text (bottom + 20) (codes "only the first 2000 turns are drawn")
    else []

-- where the lines of the components end
abbrev pub bottom_of : ℕ → List Turned → ℕ
bottom_of from drawn = row_of from (last_tick from drawn) + 40

-- the diagram of some turns that are drawn, of so many
abbrev pub diagram_of : Plan → List (List ℕ) → (from many : ℕ) → List Turned → List ℕ
diagram_of plan names from many drawn =
    let bottom = bottom_of from drawn in
    head_text (x_of (length names)) (bottom + 40)
    ++ (components_text bottom 0 names
    ++ (flat_map (turn_text plan from) drawn
    ++ (remark_text bottom many ++ codes "</svg>\n")))

-- the diagram of a schedule's turns in a window, for components with these names
abbrev pub diagram_text : Plan → List (List ℕ) → Window → List Turned → List ℕ
diagram_text plan names window turns =
    let within = filter (is_within window) turns in
    diagram_of plan (take most_components names) window.from (length within)
    (take most_turns within)

-- all turns are from this tick on, and at ticks that a horizon may have
abbrev pub AreWithin : ℕ → List Turned → Type 0
AreWithin from [] = Unit {0}
AreWithin from (turned ∷ turns) =
    (from ≤ turned.key.tick) × (turned.key.tick ≤ 4294967296) × AreWithin from turns
