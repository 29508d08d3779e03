use Rattle.std.proofs.Common.{◌≡◌, ◌≤◌, ◌+◌, ◌*◌, ◌++◌, filter, length, take}
use Rattle.std.specs.List.{range_with_len}
use Rattle.io_automata.specs.Tuples.{tuple_at}
use Rattle.outcomes.specs.Solving.{passes, places_in}
use Rattle.outcomes.proofs.lone.+lone.Given as goal

abbrev pub decreases-walk_apart : goal.decreases-walk_apart
decreases-walk_apart g l = 2 * length l.lone.now.node.stages.now

abbrev pub decreases-walk_lone : goal.decreases-walk_lone
decreases-walk_lone g l = 2 * length l.lone.now.node.stages.now + 1

abbrev pub invariant-walk_apart-loop-place : goal.invariant-walk_apart-loop-place
invariant-walk_apart-loop-place g l =
    let state = g.C.Cells.values l.cells in
    let node = l.lone.node in
    record {
      within : l.place ≤ l.total;
      room : length l.args ≡ length l.fn.args;
      front : take node.known l.args ≡ take node.known l.fn.args;
      found : places_in l.out.items ≡ places_in l.fn.out.items ++ filter (λ at. passes l.formals state node.stages.now node.left.now (tuple_at l.formals node.all.now at)) (range_with_len node.from (l.place * l.count));
    }

abbrev pub invariant-walk_lone-loop-place : goal.invariant-walk_lone-loop-place
invariant-walk_lone-loop-place g l =
    let state = g.C.Cells.values l.cells in
    let node = l.lone.node in
    record {
      least : l.range.low ≤ l.place;
      within : l.place ≤ l.total;
      room : length l.args ≡ length l.fn.args;
      front : take node.known l.args ≡ take node.known l.fn.args;
      found : places_in l.out.items ≡ places_in l.fn.out.items ++ filter (λ at. passes l.formals state node.stages.now node.left.now (tuple_at l.formals node.all.now at)) (range_with_len node.from (l.place * l.count));
    }
