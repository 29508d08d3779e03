-- What a world is driven to.
use Rattle.std.proofs.Common.{◌≡◌, ℕ, List, map, length, reverse, ap, subst, ◌∙◌}
use Rattle.std.specs.Prelude.{Option, Result}
use Rattle.terms.specs.Datum.{Datum}
use Rattle.terms.specs.Named.{Named}
use Rattle.virtual_time.specs.Replies.{Runs}
use Rattle.virtual_time.specs.Worlds.{World, start_world}
use Rattle.plans.specs.Plans.{composition}
use Rattle.task_seed.specs.declared.setup.Setup.{Setup}
use Rattle.task_seed.specs.declared.turns.Turn.{Turn}
use Rattle.task_seed.specs.Setups.{plan_of, system}
use Rattle.rollback.specs.ComponentView.{machine_of}
use Rattle.trace.specs.declared.lines.Lines.{Lines}
use Rattle.trace.specs.Lines.{text_of}
use Rattle.event_keys.specs.declared.step.Step.{Step}
use Rattle.world.specs.declared.step.Reply.{Reply}
use Rattle.world.specs.declared.step.StepRefused.{StepRefused}
use Rattle.world.specs.Simulation.{Simulation, world_of}
use Rattle.world.specs.Steps.{answer_of, step_of}
use Rattle.commands.specs.declared.driving.RefusedStep.{RefusedStep}
use Rattle.commands.specs.Driven.{IsBeginning, IsDriven, refused_from}
use Rattle.schedules.proofs.Told.{newest_first}

module _ {T : Type 0} (turn_of : T → ℕ → ℕ → Option Turn) (setup : Setup T) (lines : Lines) (steps : List Step) (left : Simulation (Setup T)) (same : left.setup ≡ setup) where
  -- the steps have answers and lead from the start to what is left
  pub driven : (start : World (List Datum) Named) → start ≡ start_world (machine_of turn_of setup) → (answers : List (Result Reply StepRefused))
      → Runs (machine_of turn_of setup) (length (composition (plan_of setup))) start (map step_of steps) (map answer_of answers) (world_of (machine_of turn_of setup) left)
      → (seen : List (Result Reply StepRefused)) → seen ≡ answers → (refused : List RefusedStep) → refused ≡ refused_from 1 (map answer_of seen)
      → IsBeginning (plan_of left.setup) (system turn_of left.setup) lines (reverse left.committed)
      → (Became : List ℕ → Type 0) → Became (text_of (plan_of left.setup) lines (reverse left.committed)) → IsDriven (plan_of setup) (system turn_of setup) lines steps Became refused
  driven start at answers runs seen as_seen refused are beginning Became became = record {
    replies = map answer_of answers;
    world = world_of (machine_of turn_of setup) left;
    runs = subst (λ (w : World (List Datum) Named). Runs (machine_of turn_of setup) (length (composition (plan_of setup))) w (map step_of steps) (map answer_of answers) (world_of (machine_of turn_of setup) left)) at runs;
    refused_are = are ∙ ap (λ (l : List (Result Reply StepRefused)). refused_from 1 (map answer_of l)) as_seen;
    turns = reverse left.committed;
    committed = newest_first left.committed;
    beginning = subst (λ (p : Setup T). IsBeginning (plan_of p) (system turn_of p) lines (reverse left.committed)) same beginning;
    became = subst (λ (p : Setup T). Became (text_of (plan_of p) lines (reverse left.committed))) same became;
  }
