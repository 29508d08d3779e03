use Rattle.std.proofs.Common.{◌≡◌}
use Rattle.workers.proofs.desk.call_all.Given as goal

abbrev pub invariant-loop : goal.invariant-loop
invariant-loop g l = record { same : l.exchange ≡ l.initial.exchange }
