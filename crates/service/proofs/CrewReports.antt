-- Reports on runs by workers, put together.
use Rattle.std.proofs.Common.{◌≡◌, inl, inr, ℕ, List, refl}
use Rattle.std.specs.Prelude.{Bool, true, false, Option, None}
use Rattle.plans.specs.declared.plan.Plan.{Plan}
use Rattle.task_seed.specs.Turning.{System}
use Rattle.group_exchange.specs.declared.judging.MeetRefused.TheVariants.{NoMemory, OtherSetup, Stranger}
use Rattle.trace.specs.declared.counted.Counted.{Counted}
use Rattle.trace.specs.declared.texts.Form.{Form}
use Rattle.trace.specs.Headed.{Behind, headed}
use Rattle.trace.specs.Puts.{Stops}
use Rattle.trace.specs.Went.{IsStopped, IsWritten}
use Rattle.workers.specs.declared.fault.RunFault.{RunFault}
use Rattle.workers.specs.declared.fault.RunFault.TheVariants as fault
use Rattle.workers.specs.Refusals.{run_number}
use Rattle.steering.specs.declared.stats.Stats.{Stats}
use Rattle.workers.specs.Runs.{IsUnfinished, IsWhole}
use Rattle.service.specs.Crews.{IsCrewReport, done}
use Rattle.commands.specs.Reports.{report_of}

module _ {W : Type 0} (known : W → Option (List ℕ)) (old new : Counted W) (plan : Plan) (system : System) (form : Form) (stats : Bool) (kept : Type 0) where
  -- a run that is done
  pub done_reported : (counts : Stats) → IsWhole plan system form.lines (Behind form.head (IsWritten known old new)) counts.turns → IsCrewReport plan system form stats kept (IsWritten known old new) (IsStopped known old new) (done stats counts)
  done_reported counts whole = go stats refl
    where
      go : (b : Bool) → stats ≡ b → IsCrewReport plan system form stats kept (IsWritten known old new) (IsStopped known old new) (done b counts)
      go true is = (is, whole)
      go false is = (is, record { count = counts.turns; whole = whole })

  -- a run that ended early
  pub unfinished_reported : (e : RunFault) → IsUnfinished plan system form.lines (Behind form.head (IsWritten known old new)) (λ text. Stops known old new 0 (headed form.head text)) e → IsCrewReport plan system form stats kept (IsWritten known old new) (IsStopped known old new) (report_of (run_number e) None)
  unfinished_reported fault.NoMemory left = inl (inl refl, inr left)
  unfinished_reported (fault.Meeting NoMemory) left = inl (inl refl, inr left)
  unfinished_reported (fault.Meeting OtherSetup) left = inl (inr (inl refl), inr left)
  unfinished_reported (fault.Meeting Stranger) left = inl (inr (inr (inl refl)), inr left)
  unfinished_reported (fault.Write failed) left = inr (record {
    number_is = refl;
    written = left.cut.part;
    stopped = record { turns = left.turns; are = left.are; cut = record { short = left.cut.short; bytes = left.cut.bytes; failures = left.cut.failures } };
  })
  unfinished_reported fault.ThreadRefused left = inl (inr (inr (inr (inl refl))), inr left)
  unfinished_reported fault.OutOfPlace left = inl (inr (inr (inr (inr refl))), inr left)
