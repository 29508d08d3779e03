-- The report of `draw`.
use Rattle.std.specs.Prelude.{◌≡◌, ◌⊎◌, ℕ, List, map}
use Rattle.command_line.specs.declared.Options.{Options}
use Rattle.command_line.specs.declared.ticks.Ticks.{Ticks}
use Rattle.drawing.specs.declared.window.Window.{Window}
use Rattle.drawing.specs.Drawn.{IsDrawn}
use Rattle.ioa_front.specs.Reading.{IsReadable, Spells}
use Rattle.ioa_trees.specs.Trees.{PlainComponent, PlainSource}
use Rattle.plans.specs.declared.plan.Plan.{Plan}
use Rattle.plans.specs.Plans.{composition}
use Rattle.task_seed.specs.Turning.{System}
use Rattle.commands.specs.declared.report.Report.{Report}
use Rattle.commands.specs.declared.report.Report.TheVariants.{Done, No, Driven, Ran, Explained, Refused, Fault, Misused}
use Rattle.commands.specs.Compositions.{GivesNoPlan, HasPlan}
use Rattle.commands.specs.FileReports.{HasNoSystem, HasTurns, table_of}
use Rattle.commands.specs.Hunting.{HasFront}
use Rattle.commands.specs.Parts.{IsLacking, IsMemory}
use Rattle.commands.specs.Simulations.{IsEngineReport, Means}
use Rattle.commands.specs.Unread.{IsUnread}

-- the ticks that are drawn
abbrev pub window_of : Ticks → Window
window_of ticks = record { from = ticks.from; to = ticks.to; short = ticks.short }

-- the names of components
abbrev pub names_in : List PlainComponent → List (List ℕ)
names_in components = map (λ c. c.name) components

-- the bytes spell a tree whose components have these names
pub record AreNames (source : List ℕ) (names : List (List ℕ)) : Type 0 where
  pub tree : PlainSource
  pub spelled : Spells source tree
  pub readable : IsReadable tree
  pub are : names ≡ names_in tree.composed.components

-- with the names of a source the diagram became this
pub record IsNamedDrawing (plan : Plan) (s : System) (ticks : Ticks) (source : List ℕ)
    (Became : List ℕ → Type 0) : Type 0 where
  pub names : List (List ℕ)
  pub are : AreNames source names
  pub drawn : IsDrawn plan s names (window_of ticks) Became

-- a write failed (60), and the diagram is cut after so many bytes
pub record IsDrawCut (plan : Plan) (s : System) (ticks : Ticks) (source : List ℕ)
    (cut : List ℕ → ℕ → Type 0) (number : ℕ) : Type 0 where
  pub number_is : number ≡ 60
  pub written : ℕ
  pub stopped : IsNamedDrawing plan s ticks source (λ text. cut text written)

-- the report on a plan with turns, and the bytes of its source
abbrev pub IsDrawEnd : Plan → System → Ticks → Type 0 → (List ℕ → Type 0)
    → (List ℕ → ℕ → Type 0) → List ℕ → Report → Type 0
IsDrawEnd plan s ticks kept wrote cut source Done = IsNamedDrawing plan s ticks source wrote
IsDrawEnd plan s ticks kept wrote cut source No = ⊥
IsDrawEnd plan s ticks kept wrote cut source (Driven refused) = ⊥
IsDrawEnd plan s ticks kept wrote cut source (Ran stats) = ⊥
IsDrawEnd plan s ticks kept wrote cut source Explained = ⊥
IsDrawEnd plan s ticks kept wrote cut source (Refused number place) = ⊥
IsDrawEnd plan s ticks kept wrote cut source (Fault number) =
    (IsMemory number × kept) ⊎ IsDrawCut plan s ticks source cut number
IsDrawEnd plan s ticks kept wrote cut source Misused = ⊥

-- the source means this plan, and with the turns that are asked for this system
abbrev pub SourceMeans : (List ℕ → List ℕ → Type 0) → List ℕ → Options → Plan → System → Type 0
SourceMeans has source options plan system =
    HasTurns has options (table_of options) (λ given. Means source given options.ticks plan system)

-- the report where they mean none; the source is judged before the table is read
abbrev pub SourceMeansNone : (List ℕ → List ℕ → Type 0) → (List ℕ → Type 0) → List ℕ → Options
    → Report → Type 0
SourceMeansNone has lacks source options report =
    GivesNoPlan source report
    ⊎ HasPlan source
    (λ plan. HasNoSystem has lacks (composition plan) options (table_of options) report)

-- the report on the bytes of a source
abbrev pub IsDrawReport : (List ℕ → List ℕ → Type 0) → (List ℕ → Type 0) → List ℕ → Options
    → Ticks → Type 0 → (List ℕ → Type 0) → (List ℕ → ℕ → Type 0) → Report → Type 0
IsDrawReport has lacks source options ticks kept wrote cut =
    IsEngineReport (SourceMeans has source options) (SourceMeansNone has lacks source options) kept
    (λ plan system. IsDrawEnd plan system ticks kept wrote cut source)

-- The report of `draw` on a file that isn't read, or on its first bytes, where the output was kept,
-- a text was written to it, or a write failed after so many bytes of a text.
abbrev pub IsDrawFileReport : (List ℕ → List ℕ → Type 0) → (List ℕ → Type 0) → List ℕ → Options
    → Ticks → Type 0 → (List ℕ → Type 0) → (List ℕ → ℕ → Type 0) → Report → Type 0
IsDrawFileReport has lacks name options ticks kept wrote cut report =
    (IsLacking (IsUnread (lacks name)) report × kept)
    ⊎ HasFront (has name) (λ front. IsDrawReport has lacks front options ticks kept wrote cut report)
