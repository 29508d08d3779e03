use Rattle.std.proofs.lemmas.Result.{IfErr-weaker, IfOk-weaker}
use Rattle.trace.specs.Given.{stops, then_puts, then_stops}
use Rattle.commands.proofs.driving.write_committed.Goals as goal

pub returns-in-Ok-clause-ok : goal.returns-in-Ok-clause-ok
returns-in-Ok-clause-ok g c = IfOk-weaker c.put_committed.result _ _ (λ after put. then_puts c.in-Ok.ensures.ok put) c.put_committed.ensures.ok

pub returns-in-Ok-clause-err : goal.returns-in-Ok-clause-err
returns-in-Ok-clause-err g c = IfErr-weaker c.put_committed.result _ _ (λ fault stopped. then_stops c.in-Ok.ensures.ok stopped) c.put_committed.ensures.err

pub returns-in-Err-clause-err : goal.returns-in-Err-clause-err
returns-in-Err-clause-err g c = stops _ c.in-Err.ensures.err
