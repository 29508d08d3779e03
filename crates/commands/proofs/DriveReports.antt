-- Reports on driven worlds, put together.
use Rattle.std.proofs.Common.{◌≡◌, inl, inr, ℕ, List, refl, subst, sym, arith}
use Rattle.std.specs.Prelude.{Option, None}
use Rattle.plans.specs.declared.plan.Plan.{Plan}
use Rattle.task_seed.specs.Turning.{System}
use Rattle.task_seed.specs.Table.{lines_of}
use Rattle.event_keys.specs.declared.step.Step.{Step}
use Rattle.trace.specs.declared.counted.Counted.{Counted}
use Rattle.trace.specs.declared.fault.TraceError.{TraceError}
use Rattle.trace.specs.declared.fault.TraceError.TheVariants as lines_at
use Rattle.trace.specs.declared.texts.Form.{Form}
use Rattle.trace.specs.Headed.{Behind, headed}
use Rattle.trace.specs.Puts.{Stops}
use Rattle.trace.specs.Refusals.{trace_number, trace_place}
use Rattle.trace.specs.StepFile.{GivesSteps, IsStepsFault}
use Rattle.trace.specs.Went.{IsStopped}
use Rattle.commands.specs.declared.driving.RefusedStep.{RefusedStep}
use Rattle.commands.specs.declared.fault.DriveFault.{DriveFault}
use Rattle.commands.specs.declared.fault.DriveFault.TheVariants as fault
use Rattle.commands.specs.Driven.{IsDriven, IsUndriven}
use Rattle.commands.specs.Refusals.{drive_number}
use Rattle.commands.specs.Drives.{IsDrivenBy, IsStepsReport}
use Rattle.commands.specs.Reports.{report_of}

module _ (plan : Plan) (system : System) (form : Form) (bytes : List ℕ) (kept : Type 0) (wrote : List ℕ → Type 0) (cut : List ℕ → ℕ → Type 0) where
  -- the steps were done
  pub steps_driven : (steps : List Step) → GivesSteps plan (lines_of bytes) steps → (refused : List RefusedStep) → IsDriven plan system form.lines steps (Behind form.head wrote) refused → IsDrivenBy plan system form.lines (Behind form.head wrote) refused bytes
  steps_driven steps given refused driven = record { steps = steps; given = given; driven = driven }

  -- steps of what was read
  pub given_here : (seen : Plan) → seen ≡ plan → (steps given : List Step) → given ≡ steps → GivesSteps seen (lines_of bytes) steps → GivesSteps plan (lines_of bytes) given
  given_here seen same steps given are gives = subst (GivesSteps plan (lines_of bytes)) (sym are) (subst (λ (p : Plan). GivesSteps p (lines_of bytes) steps) same gives)

  -- a line is no step
  pub steps_refused : (e : TraceError) → IsStepsFault plan bytes e → kept → IsStepsReport plan system form bytes kept wrote cut (report_of (trace_number e) (trace_place e))
  steps_refused lines_at.NoMemory refused k = inl (refl, k)
  steps_refused (lines_at.BadLine line) refused k = (record { error = lines_at.BadLine line; refused = refused; judged = λ e. absurd (omega (arith, e)); number_is = refl; place_is = refl }, k)
  steps_refused (lines_at.UnknownAction line) refused k = (record { error = lines_at.UnknownAction line; refused = refused; judged = λ e. absurd (omega (arith, e)); number_is = refl; place_is = refl }, k)
  steps_refused (lines_at.NotInOrder line) refused k = absurd refused

  -- a fault of the world, or of the writer
  pub steps_undriven : {W : Type 0} (known : W → Option (List ℕ)) (old new : Counted W) (steps : List Step) → GivesSteps plan (lines_of bytes) steps → (e : DriveFault)
      → IsUndriven plan system form.lines steps kept (λ text. Stops known old new 0 (headed form.head text)) e → IsStepsReport plan system form bytes kept wrote (IsStopped known old new) (report_of (drive_number e) None)
  steps_undriven known old new steps given fault.NoMemory left = inl (refl, left)
  steps_undriven known old new steps given (fault.Write failed) left = inr (record {
    number_is = refl;
    written = left.driven.became.part;
    stopped = record {
      refused = left.refused;
      driven = record {
        steps = steps;
        given = given;
        driven = record {
          replies = left.driven.replies;
          world = left.driven.world;
          runs = left.driven.runs;
          refused_are = left.driven.refused_are;
          turns = left.driven.turns;
          committed = left.driven.committed;
          beginning = left.driven.beginning;
          became = record { short = left.driven.became.short; bytes = left.driven.became.bytes; failures = left.driven.became.failures };
        };
      };
    };
  })
