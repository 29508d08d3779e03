use Rattle.std.proofs.Common.{◌≡◌, [], drop, map, take}
use Rattle.ioa_trees.specs.Trees.{Bytes}
use Rattle.compose.specs.TypedStandings.{first_different, first_of, kept, stood}
use Rattle.compose.proofs.action_types.search.first_different.Given as goal

abbrev pub invariant-loop-standing : goal.invariant-loop-standing
invariant-loop-standing l = record {
  seen : (q : Bytes) → kept q l.seen.entries ≡ first_of q (map stood (take l.standing-index l.standings));
  left : first_different (map stood (take l.standing-index l.standings)) (map stood (drop l.standing-index l.standings)) ≡ first_different [] (map stood l.standings);
}
