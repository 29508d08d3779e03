use Rattle.std.proofs.Common.{◌≡◌, ◌++◌, length, map}
use Rattle.std.specs.Vec.Iter.{into_iter_items, into_iter_len}
use Rattle.shares.specs.Hands.{share_of}
use Rattle.shares.proofs.hand.shares_of.Given as goal

abbrev pub invariant-loop-own : goal.invariant-loop-own
invariant-loop-own l = record {
  put : l.shares.items ++ map (share_of l.from l.until) (into_iter_items l.own-iterator) ≡ map (share_of l.from l.until) (into_iter_items l.initial.own-iterator);
  left : into_iter_len l.own-iterator ≡ length (into_iter_items l.own-iterator);
}
