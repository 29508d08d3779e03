-- The numbers of the faults.
use Rattle.std.specs.Prelude.{ℕ, Option, None, Some}
use Rattle.trace.specs.declared.fault.WriteFault.{WriteFault}
use Rattle.trace.specs.declared.fault.TraceError.{TraceError}
use Rattle.trace.specs.declared.fault.TraceError.TheVariants as trace

-- the number of a failed write
abbrev pub fault_number : WriteFault → ℕ
fault_number fault = 60

-- the number of a trace that isn't read
abbrev pub trace_number : TraceError → ℕ
trace_number trace.NoMemory = 1
trace_number (trace.BadLine line) = 50
trace_number (trace.UnknownAction line) = 51
trace_number (trace.NotInOrder line) = 52

-- the line of a trace that isn't read
abbrev pub trace_place : TraceError → Option ℕ
trace_place trace.NoMemory = None
trace_place (trace.BadLine line) = Some line
trace_place (trace.UnknownAction line) = Some line
trace_place (trace.NotInOrder line) = Some line
