use Rattle.std.proofs.Common.{◌<◌, arith, sym, length, get_or}
use Rattle.outcomes.specs.Tasks.{made_of}
use Rattle.outcomes.specs.declared.spans.Found.{Found}
use Rattle.outcomes.proofs.Chosen.{counted_next}
use Rattle.outcomes.proofs.Finding.{found_there, made_length}
use Rattle.outcomes.proofs.choose.count_found.Goals as goal

pub loop-found-preserved : goal.loop-found-preserved
loop-found-preserved c =
    let founds = c.args.founds.now in
    let k = c.loop-found.found-index in
    let none : Found = record { place = 0; from = 0; count = 0 } in
    let below : k < length founds = omega (arith, c.loop-found-test.true) in
    let one = get_or founds k none in
    let is = found_there c.args.task.now founds k none c.requires below in
    counted_next (made_of c.args.task.now) founds k none c.loop-found.total c.in_ok-total.total one.count below (sym (made_length c.args.task.now one is)) c.in_ok-total.ensures c.loop-found.invariant
