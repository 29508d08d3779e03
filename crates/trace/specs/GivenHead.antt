-- What a write says of a text behind the head, where the head went out before.
use Rattle.std.specs.Prelude.{ℕ, Bool, List, Option}
use Rattle.std.proofs.Common.{◌∙◌}
use Rattle.std.proofs.KnownBytes.{Appends-trans}
use Rattle.trace.specs.declared.counted.Counted.{Counted}
use Rattle.trace.specs.declared.fault.WriteFault.{WriteFault}
use Rattle.trace.specs.Counts.{writer_of}
use Rattle.trace.specs.Given.{then_stops}
use Rattle.trace.specs.Headed.{front_of, headed}
use Rattle.trace.specs.Puts.{Puts, Stops}
use Rattle.trace.specs.Went.{IsWritten}

module _ {W : Type 0} {known : W → Option (List ℕ)} {a b : Counted W} {n : ℕ} (head : Bool) (front : Puts known a b 0 n (front_of head)) (c : Counted W) where
  -- the text went out too
  pub written_behind : (text : List ℕ) → IsWritten known b c text → IsWritten known a c (headed head text)
  written_behind text w =
      record {
        bytes = Appends-trans (known (writer_of a)) (known (writer_of b)) (known (writer_of c)) (front_of head) text front.bytes w.bytes;
        failures = w.failures ∙ front.failures;
      }

  -- the write failed in the text
  pub stopped_behind : (text : List ℕ) (fault : WriteFault) → Stops known b c n text fault → Stops known a c 0 (headed head text) fault
  stopped_behind text fault s = then_stops front s
