use Rattle.std.proofs.Common.{◌≡◌, []}
use Rattle.std.specs.Prelude.{replicate}
use Rattle.group_exchange.proofs.parcel.Parcel.new.Given as goal

abbrev pub invariant-loop : goal.invariant-loop
invariant-loop l = l.queues.items ≡ replicate l.counter []
