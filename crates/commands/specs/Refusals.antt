-- The numbers and places of the faults of engines.
use Rattle.std.specs.Prelude.{ℕ, Option, None}
use Rattle.trace.specs.Refusals.{fault_number, trace_number, trace_place}
use Rattle.commands.specs.declared.fault.CheckFault.{CheckFault}
use Rattle.commands.specs.declared.fault.CheckFault.TheVariants as check
use Rattle.commands.specs.declared.fault.DriveFault.{DriveFault}
use Rattle.commands.specs.declared.fault.DriveFault.TheVariants as drive
use Rattle.commands.specs.declared.fault.SimulateFault.{SimulateFault}
use Rattle.commands.specs.declared.fault.SimulateFault.TheVariants as simulate

abbrev pub check_number : CheckFault → ℕ
check_number check.NoMemory = 1
check_number (check.Trace refused) = trace_number refused
check_number (check.Write failed) = fault_number failed

abbrev pub check_place : CheckFault → Option ℕ
check_place check.NoMemory = None
check_place (check.Trace refused) = trace_place refused
check_place (check.Write failed) = None

abbrev pub simulate_number : SimulateFault → ℕ
simulate_number simulate.NoMemory = 1
simulate_number (simulate.Write failed) = fault_number failed

abbrev pub drive_number : DriveFault → ℕ
drive_number drive.NoMemory = 1
drive_number (drive.Write failed) = fault_number failed
