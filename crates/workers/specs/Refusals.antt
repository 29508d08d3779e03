-- The numbers of a run's faults.
use Rattle.std.specs.Prelude.{ℕ}
use Rattle.group_exchange.specs.Refusals.{meet_number}
use Rattle.trace.specs.Refusals.{fault_number}
use Rattle.workers.specs.declared.fault.RunFault.{RunFault}
use Rattle.workers.specs.declared.fault.RunFault.TheVariants.{NoMemory, Meeting, Write, ThreadRefused, OutOfPlace}
use Rattle.workers.specs.declared.fault.WorkFault.{WorkFault}
use Rattle.workers.specs.declared.fault.WorkFault.TheVariants as work

abbrev pub run_number : RunFault → ℕ
run_number NoMemory = 1
run_number (Meeting refused) = meet_number refused
run_number (Write fault) = fault_number fault
run_number ThreadRefused = 61
run_number OutOfPlace = 62

-- the fault with which a run ends for what befell a worker
abbrev pub run_fault : WorkFault → RunFault
run_fault work.NoMemory = NoMemory
run_fault (work.Meeting refused) = Meeting refused
run_fault work.ThreadRefused = ThreadRefused
run_fault work.OutOfPlace = OutOfPlace
