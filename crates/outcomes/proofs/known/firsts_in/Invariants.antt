use Rattle.std.proofs.Common.{◌≡◌, length, map}
use Rattle.outcomes.specs.Alike.{AreFirsts}
use Rattle.io_automata.specs.Automata.{transition_of}
use Rattle.outcomes.proofs.known.firsts_in.Given as goal

abbrev pub invariant-loop-place : goal.invariant-loop-place
invariant-loop-place l = record {
  are : AreFirsts (map transition_of l.entries) l.firsts.items;
  long : length l.firsts.items ≡ l.place;
}
