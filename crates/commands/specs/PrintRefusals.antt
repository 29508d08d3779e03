-- The numbers and places of the faults of `print`.
use Rattle.std.specs.Prelude.{ℕ, Option, None}
use Rattle.ioa_front.specs.Refusals.{read_number, read_place}
use Rattle.trace.specs.Refusals.{fault_number}
use Rattle.commands.specs.declared.fault.PrintFault.{PrintFault}
use Rattle.commands.specs.declared.fault.PrintFault.TheVariants as fault

-- the number of a fault
abbrev pub print_number : PrintFault → ℕ
print_number fault.NoMemory = 1
print_number (fault.Source refusal) = read_number refusal
print_number (fault.Write failed) = fault_number failed

-- the byte of a refused source, where it has one
abbrev pub print_place : PrintFault → Option ℕ
print_place fault.NoMemory = None
print_place (fault.Source refusal) = read_place refusal
print_place (fault.Write failed) = None
