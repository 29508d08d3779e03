-- What faults say, led over to what other faults say.
use Rattle.std.specs.Prelude.{Result, Ok, Err, IfErr}
use Rattle.trace.specs.declared.line_fault.LineFault.{LineFault}
use Rattle.trace.specs.declared.line_fault.LineFault.TheVariants as fault
use Rattle.trace.specs.TraceFile.{Blames}

module _ {bad other unknown foreign : Type 0} where
  pub blamed : (e : LineFault) → (bad → other) → (unknown → foreign) → Blames bad unknown e → Blames other foreign e
  blamed fault.NoMemory f g h = tt
  blamed fault.Bad f g h = f h
  blamed fault.Unknown f g h = g h

  pub if_blamed : {R : Type 0} (r : Result R LineFault) → (bad → other) → (unknown → foreign) → IfErr r (λ e. Blames bad unknown e) → IfErr r (λ e. Blames other foreign e)
  if_blamed (Ok x) f g h = tt
  if_blamed (Err e) f g h = blamed e f g h
