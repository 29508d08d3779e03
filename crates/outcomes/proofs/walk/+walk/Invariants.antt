use Rattle.std.proofs.Common.{◌≡◌, ◌≤◌, ◌*◌, ◌++◌, filter, length, take}
use Rattle.std.specs.List.{range_with_len}
use Rattle.io_automata.specs.Tuples.{tuple_at}
use Rattle.outcomes.specs.Solving.{passes, places_in}
use Rattle.outcomes.proofs.walk.+walk.Given as goal

abbrev pub decreases-walk : goal.decreases-walk
decreases-walk g l = length l.node.now.stages.now

abbrev pub invariant-loop-place : goal.invariant-loop-place
invariant-loop-place g l =
    let state = g.C.Cells.values l.cells in
    record {
      within : l.place ≤ l.total;
      room : length l.args ≡ length l.initial.args;
      front : take l.node.known l.args ≡ take l.node.known l.initial.args;
      found : places_in l.out.items ≡ places_in l.initial.out.items ++ filter (λ at. passes l.formals state l.node.stages.now l.node.left.now (tuple_at l.formals l.node.all.now at)) (range_with_len l.node.from (l.place * l.count));
    }
