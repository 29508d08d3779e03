-- What `draw` writes.
use Rattle.std.specs.Prelude.{ℕ, List}
use Rattle.event_keys.specs.declared.outcome.Turned.{Turned}
use Rattle.plans.specs.declared.plan.Plan.{Plan}
use Rattle.task_seed.specs.Turning.{System}
use Rattle.schedules.specs.Schedules.{AreAllTurns}
use Rattle.trace.specs.declared.fault.WriteFault.{WriteFault}
use Rattle.trace.specs.Refusals.{fault_number}
use Rattle.drawing.specs.declared.fault.DrawFault.{DrawFault}
use Rattle.drawing.specs.declared.fault.DrawFault.TheVariants as fault
use Rattle.drawing.specs.declared.window.Window.{Window}
use Rattle.drawing.specs.Turns.{diagram_text}

abbrev pub draw_number : DrawFault → ℕ
draw_number fault.NoMemory = 1
draw_number (fault.Write failed) = fault_number failed

-- the diagram of all turns of the simulator that always takes the least key, as far as they are in
-- the window, became this
pub record IsDrawn (plan : Plan) (s : System) (names : List (List ℕ)) (window : Window)
    (Became : List ℕ → Type 0) : Type 0 where
  pub turns : List Turned
  pub are : AreAllTurns plan s turns
  pub became : Became (diagram_text plan names window turns)

-- why not: what was there is kept, or a write failed and the text is cut
abbrev pub IsUndrawn : Plan → System → List (List ℕ) → Window → Type 0
    → (List ℕ → WriteFault → Type 0) → DrawFault → Type 0
IsUndrawn plan s names window kept cut fault.NoMemory = kept
IsUndrawn plan s names window kept cut (fault.Write failed) =
    IsDrawn plan s names window (λ text. cut text failed)
