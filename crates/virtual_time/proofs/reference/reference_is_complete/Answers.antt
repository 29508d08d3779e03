use Rattle.virtual_time.proofs.Refs.{ref_is}
use Rattle.virtual_time.proofs.Complete.{complete, run_falls, only, part_run, run_executes}
use Rattle.virtual_time.proofs.reference.reference_is_complete.Goals as goal

pub returns-clause-exists : goal.returns-clause-exists
returns-clause-exists g c machine b law l = ref_is machine law b l

pub returns-clause-ordered : goal.returns-clause-ordered
returns-clause-ordered g c machine b ts law is = run_falls machine law ts is.run

pub returns-clause-all : goal.returns-clause-all
returns-clause-all g c machine b i m ts law is l h = complete machine law b ts is l i m h

pub returns-clause-only : goal.returns-clause-only
returns-clause-only g c machine b k o ts law is h = only machine law b k o ts is.run is.below h

pub returns-clause-outcomes : goal.returns-clause-outcomes
returns-clause-outcomes g c machine b us ts t is = part_run machine us t ts is.run

pub returns-clause-schedule : goal.returns-clause-schedule
returns-clause-schedule g c machine b ts law is = run_executes machine law ts is.run
