-- What is simulated behind a head.
use Rattle.std.proofs.Common.{ℕ, List}
use Rattle.plans.specs.declared.plan.Plan.{Plan}
use Rattle.task_seed.specs.Turning.{System}
use Rattle.trace.specs.declared.fault.WriteFault.{WriteFault}
use Rattle.trace.specs.declared.lines.Lines.{Lines}
use Rattle.commands.specs.declared.fault.SimulateFault.{SimulateFault}
use Rattle.commands.specs.declared.fault.SimulateFault.TheVariants as fault
use Rattle.commands.specs.Simulated.{IsSimulated, IsUnsimulated}

module _ (plan : Plan) (s : System) (lines : Lines) where
  -- other words for what became of the text
  pub simulated_otherwise : (P Q : List ℕ → Type 0) → ((text : List ℕ) → P text → Q text) → IsSimulated plan s lines P → IsSimulated plan s lines Q
  simulated_otherwise P Q f h = record { turns = h.turns; are = h.are; became = f _ h.became }

  pub unsimulated_otherwise : (P Q : List ℕ → Type 0) (C D : List ℕ → WriteFault → Type 0) → ((text : List ℕ) → P text → Q text) → ((text : List ℕ) (failed : WriteFault) → C text failed → D text failed)
      → (why : SimulateFault) → IsUnsimulated plan s lines P C why → IsUnsimulated plan s lines Q D why
  unsimulated_otherwise P Q C D f h fault.NoMemory u = record { turns = u.turns; beginning = u.beginning; became = f _ u.became }
  unsimulated_otherwise P Q C D f h (fault.Write failed) u = simulated_otherwise (λ text. C text failed) (λ text. D text failed) (λ text. h text failed) u
