-- What a trace file of either version gives, and why one isn't read.
use Rattle.std.specs.Prelude.{◌≡◌, ℕ, List, ◌∷◌}
use Rattle.terms.specs.Named.{Named}
use Rattle.plans.specs.declared.plan.Plan.{Plan}
use Rattle.task_seed.specs.Table.{lines_of}
use Rattle.trace.specs.OrderedFile.{head_line, GivesInOrder, IsOrderedFault}
use Rattle.trace.specs.TraceFile.{Gives, IsTraceFault}
use Rattle.trace.specs.declared.fault.TraceError.{TraceError}

-- the file is of version 2: its first line is the head
abbrev pub IsVersionTwo : List ℕ → Type 0
IsVersionTwo bytes = (later : List (List ℕ)) × (lines_of bytes ≡ head_line ∷ later)

-- the file gives these actions: of turns in order if it is of version 2, else of any lines
pub record GivesFile (plan : Plan) (bytes : List ℕ) (actions : List Named) : Type 0 where
  pub second : IsVersionTwo bytes → GivesInOrder plan (lines_of bytes) actions
  pub other : (IsVersionTwo bytes → ⊥) → Gives plan (lines_of bytes) actions

-- the file has this fault, by the rules of its version
pub record HasFault (plan : Plan) (bytes : List ℕ) (error : TraceError) : Type 0 where
  pub second : IsVersionTwo bytes → IsOrderedFault plan bytes error
  pub other : (IsVersionTwo bytes → ⊥) → IsTraceFault plan bytes error
