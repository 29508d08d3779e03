-- What is wrong with the next line of a trace file of version 2.
use Rattle.std.specs.Prelude.{◌≡◌, ℕ, List, Option}
use Rattle.event_keys.specs.declared.key.Key.{Key}
use Rattle.plans.specs.declared.plan.Plan.{Plan}
use Rattle.trace.specs.OrderedFile.{IsNoTurn, IsForeignTurn, IsLate}
use Rattle.trace.specs.declared.fault.TraceError.{TraceError}
use Rattle.trace.specs.declared.fault.TraceError.TheVariants as trace

-- the line with this number has the fault, after a turn with this last key
abbrev pub IsNextFault : Plan → Option Key → List ℕ → ℕ → TraceError → Type 0
IsNextFault plan last text line trace.NoMemory = Unit {0}
IsNextFault plan last text line (trace.BadLine n) = (n ≡ line) × IsNoTurn plan text
IsNextFault plan last text line (trace.UnknownAction n) = (n ≡ line) × IsForeignTurn plan text
IsNextFault plan last text line (trace.NotInOrder n) = (n ≡ line) × IsLate plan last text
