use Rattle.std.proofs.Common.{◌^◌, sym, subst}
use Rattle.group_exchange.specs.Held.{IsCutBelow}
use Rattle.group_exchange.proofs.Lists.{cut_none}
use Rattle.group_exchange.proofs.parcel.Parcel.new.Goals as goal

pub invariant_of-result : goal.invariant_of-result
invariant_of-result c = subst (IsCutBelow (2 ^ 144)) (sym c.loop.invariant) (cut_none (2 ^ 144) c.loop.counter)
