use Rattle.virtual_time.proofs.Groups.Called.{calls_kept, start_is_shared}
use Rattle.virtual_time.proofs.Groups.Given.{start_given}
use Rattle.virtual_time.proofs.grouped.group_calls_are_core_steps.Goals as goal

pub returns-clause-start : goal.returns-clause-start
returns-clause-start g c machine group count law counted = start_is_shared machine law group count counted

pub returns-clause-calls : goal.returns-clause-calls
returns-clause-calls g c machine group count calls u v law counted is h = calls_kept machine law group count counted calls u v is h

pub returns-clause-given : goal.returns-clause-given
returns-clause-given g c machine group count calls v law counted h = start_given machine law group count counted calls v h
