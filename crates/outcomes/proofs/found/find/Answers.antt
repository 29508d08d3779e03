use Rattle.std.proofs.Common.{◌<◌, arith, length}
use Rattle.std.specs.List.{flat_map}
use Rattle.io_automata.specs.Lists.{gone_on}
use Rattle.io_automata.specs.Tuples.{enabled_in}
use Rattle.outcomes.specs.Tasks.{enabled_of_task, made_of}
use Rattle.outcomes.proofs.found.find.Goals as goal

pub loop-place-preserved : goal.loop-place-preserved
loop-place-preserved g c =
    let task = c.args.task.now in
    let state = g.C.Cells.values c.args.cells.now in
    let places = task.places.now in
    let k = c.loop-place.place-index in
    let below : k < length places = omega (arith, c.loop-place-test.true) in
    record {
      there = c.in_ok-find_at.ensures.there c.loop-place.invariant.there;
      made = gone_on (enabled_in task.entries.now task.formals.now state) places k 0 (flat_map (made_of task) c.loop-place.founds.items) (flat_map (made_of task) c.find_at.new.founds.items) (enabled_of_task task state) below c.in_ok-find_at.ensures.made c.loop-place.invariant.made;
    }
