use Rattle.std.proofs.Common.{◌≡◌, drop, slice_get, None}
use Rattle.std.specs.List.{flat_map}
use Rattle.outcomes.specs.Tasks.{made_of}
use Rattle.outcomes.proofs.choose.put_nth.Given as goal

abbrev pub invariant-loop-one : goal.invariant-loop-one
invariant-loop-one l = record {
  none : l.found ≡ None;
  stands : slice_get (flat_map (made_of l.task) (drop l.one-index l.founds)) l.left ≡ slice_get (flat_map (made_of l.task) l.founds) l.nth;
}
