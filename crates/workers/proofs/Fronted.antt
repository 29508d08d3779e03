-- What a run writes behind a head.
use Rattle.std.proofs.Common.{ℕ, List}
use Rattle.plans.specs.declared.plan.Plan.{Plan}
use Rattle.task_seed.specs.Turning.{System}
use Rattle.trace.specs.declared.fault.WriteFault.{WriteFault}
use Rattle.trace.specs.declared.lines.Lines.{Lines}
use Rattle.workers.specs.declared.fault.RunFault.{RunFault}
use Rattle.workers.specs.declared.fault.RunFault.TheVariants as fault
use Rattle.workers.specs.Runs.{IsBegun, IsUnfinished, IsWhole}

module _ (plan : Plan) (s : System) (lines : Lines) (P Q : List ℕ → Type 0) (f : (text : List ℕ) → P text → Q text) where
  -- other words for what became of the text
  pub whole_otherwise : (count : ℕ) → IsWhole plan s lines P count → IsWhole plan s lines Q count
  whole_otherwise count h = record { turns = h.turns; are = h.are; count_is = h.count_is; became = f _ h.became }

  begun_otherwise : IsBegun plan s lines P → IsBegun plan s lines Q
  begun_otherwise h = record { turns = h.turns; are = h.are; count = h.count; begun = h.begun; became = f _ h.became }

  pub unfinished_otherwise : (C D : List ℕ → WriteFault → Type 0) → ((text : List ℕ) (failed : WriteFault) → C text failed → D text failed)
      → (why : RunFault) → IsUnfinished plan s lines P C why → IsUnfinished plan s lines Q D why
  unfinished_otherwise C D h fault.NoMemory u = begun_otherwise u
  unfinished_otherwise C D h (fault.Meeting refused) u = begun_otherwise u
  unfinished_otherwise C D h (fault.Write failed) u = record { turns = u.turns; are = u.are; cut = h _ failed u.cut }
  unfinished_otherwise C D h fault.ThreadRefused u = begun_otherwise u
  unfinished_otherwise C D h fault.OutOfPlace u = begun_otherwise u
