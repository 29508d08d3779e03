-- The head on its way out.
use Rattle.std.proofs.Common.{ℕ, ◌<◌, List, refl, arith}
use Rattle.std.specs.Prelude.{Option}
use Rattle.trace.specs.declared.counted.Counted.{Counted}
use Rattle.trace.specs.declared.fault.WriteFault.{WriteFault}
use Rattle.trace.specs.Heads.{head_text}
use Rattle.trace.specs.Puts.{Puts, Stops, written_of}
use Rattle.trace.specs.Went.{IsStopped, IsWritten}

module _ {W : Type 0} {known : W → Option (List ℕ)} {a b : Counted W} where
  pub head_put : IsWritten known a b head_text → Puts known a b 0 8 head_text
  head_put w = record { bytes = w.bytes; failures = w.failures; count = refl }

  pub head_stopped : (fault : WriteFault) → IsStopped known a b head_text (written_of fault) → Stops known a b 0 head_text fault
  head_stopped fault s =
      let short : written_of fault < 8 = s.short in
      record { part = written_of fault; short = s.short; bytes = s.bytes; failures = s.failures; count = omega (arith, short) }
