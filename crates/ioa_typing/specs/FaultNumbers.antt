-- The numbers of faults.
use Rattle.std.specs.Prelude.{ℕ}
use Rattle.ioa_typing.specs.declared.fault.FaultKind.{FaultKind}
use Rattle.ioa_typing.specs.declared.fault.FaultKind.TheVariants as kind

abbrev pub fault_number : FaultKind → ℕ
fault_number kind.UnknownName = 10
fault_number kind.DoubleName = 11
fault_number kind.WrongType = 12
fault_number kind.NoTransition = 13
fault_number kind.DoubleTransition = 14
fault_number kind.InputWithPre = 15
fault_number kind.TasksNotAPartition = 16
fault_number kind.OverLimit = 17
