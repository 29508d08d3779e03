-- What the turns of a seed make of a source.
use Rattle.std.specs.Prelude.{◌≡◌, ◌≤◌, ℕ, Bool, true, false, List}
use Rattle.event_keys.specs.declared.outcome.Turned.{Turned}
use Rattle.compose.specs.Composed.{IsComposed}
use Rattle.plans.specs.declared.plan.Plan.{Plan}
use Rattle.plans.specs.Plans.{composition}
use Rattle.task_seed.specs.Drawn.{drawn_turn}
use Rattle.task_seed.specs.Turning.{System}
use Rattle.hunt.specs.declared.course.Course.{Course}
use Rattle.hunt.specs.declared.wanted.Wanted.{Wanted}
use Rattle.hunt.specs.Sightings.{NeverOccurs, Occurs, seed_text}
use Rattle.hunt.specs.Wanted.{IsWanted}

-- what is hunted for, where: a source, the text of an action, and how turns are drawn from a seed
pub record Hunted : Type 0 where
  pub source : List ℕ
  pub action : List ℕ
  pub course : Course

abbrev pub hunted : List ℕ → List ℕ → Course → Hunted
hunted source action course = record { source = source; action = action; course = course }

-- the least gap that is drawn
abbrev pub least_gap : Bool → ℕ
least_gap true = 0
least_gap false = 1

-- the greatest gap is in its range
abbrev pub HasGap : Course → Type 0
HasGap course = (1 ≤ course.gap) × (course.gap ≤ 65535)

-- gap and last tick are in their ranges, and the system is the plan's composition with the turns of
-- this seed
pub record IsSown (course : Course) (seed : ℕ) (plan : Plan) (s : System) : Type 0 where
  pub gap : HasGap course
  pub short : course.ticks ≤ 4294967296
  pub composition_is : s.composition ≡ composition plan
  pub drawn : s.turn ≡ drawn_turn seed course.stream (least_gap course.from_zero) course.gap
  pub horizon_is : s.horizon ≡ course.ticks

-- the source means this plan, with the turns of this seed this system, and the text this action
pub record Means (h : Hunted) (seed : ℕ) (plan : Plan) (s : System) (wanted : Wanted)
    : Type 0 where
  pub composed : IsComposed h.source plan
  pub sown : IsSown h.course seed plan s
  pub named : IsWanted plan h.action wanted

-- The schedule of this seed has the action, and of its plan and its turns up to the first that did
-- it this holds.
pub record Has (h : Hunted) (seed : ℕ) (Holds : Plan → List Turned → Type 0) : Type 0 where
  pub plan : Plan
  pub system : System
  pub wanted : Wanted
  pub turns : List Turned
  pub means : Means h seed plan system wanted
  pub occurs : Occurs plan system wanted turns
  pub holds : Holds plan turns

-- the schedule of this seed doesn't have it
pub record Lacks (h : Hunted) (seed : ℕ) : Type 0 where
  pub plan : Plan
  pub system : System
  pub wanted : Wanted
  pub means : Means h seed plan system wanted
  pub never : NeverOccurs plan system wanted

-- the schedule of this seed has it, and this is the text of its turns up to the first that did it
abbrev pub HasText : Hunted → ℕ → List ℕ → Type 0
HasText h seed text = Has h seed (λ plan turns. text ≡ seed_text seed plan turns)
