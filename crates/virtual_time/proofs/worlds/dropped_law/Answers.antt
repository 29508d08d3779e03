use Rattle.virtual_time.proofs.Dropped.{dropped_fall, dropped_only, dropped_all}
use Rattle.virtual_time.proofs.worlds.dropped_law.Goals as goal

pub returns-clause-falls : goal.returns-clause-falls
returns-clause-falls t c machine i g n b state entries law d = dropped_fall machine law i g n state b entries d

pub returns-clause-only : goal.returns-clause-only
returns-clause-only t c machine i g n b state entries turn law d m = dropped_only machine law i g n state b turn entries d m

pub returns-clause-all : goal.returns-clause-all
returns-clause-all t c machine i g n b state entries turn law d l h = dropped_all machine law i g n state b turn entries d l h
