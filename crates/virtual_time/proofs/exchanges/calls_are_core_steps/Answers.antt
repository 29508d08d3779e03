use Rattle.virtual_time.proofs.Exchange.Called.{start_is_shared, calls_kept}
use Rattle.virtual_time.proofs.exchanges.calls_are_core_steps.Goals as goal

pub returns-clause-start : goal.returns-clause-start
returns-clause-start g c machine count law = start_is_shared machine law count

pub returns-clause-calls : goal.returns-clause-calls
returns-clause-calls g c machine count calls u v law counted is h = calls_kept machine law count counted calls u v is h
