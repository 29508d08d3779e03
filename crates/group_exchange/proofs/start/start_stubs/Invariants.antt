use Rattle.std.proofs.Common.{◌≡◌, ◌++◌, drop, map}
use Rattle.group_exchange.specs.Start.{stub_of_lease}
use Rattle.group_exchange.proofs.start.start_stubs.Given as goal

abbrev pub invariant-loop-lease : goal.invariant-loop-lease
invariant-loop-lease g l = l.stubs.items ++ map stub_of_lease (drop l.lease-index l.fn.leases) ≡ map stub_of_lease l.fn.leases
