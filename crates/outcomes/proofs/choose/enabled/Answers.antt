use Rattle.std.proofs.Common.{◌<◌, arith, sym, subst, length}
use Rattle.outcomes.specs.Tasks.{AreFound}
use Rattle.outcomes.specs.declared.spans.Found.{Found}
use Rattle.outcomes.proofs.Finding.{found_there}
use Rattle.outcomes.proofs.choose.enabled.Goals as goal

pub add_actions-requires : goal.add_actions-requires
add_actions-requires g c =
    let task = c.args.task.now in
    let founds = c.as_slice-found-items.result.now in
    let none : Found = record { place = 0; from = 0; count = 0 } in
    let below : c.loop-found.found-index < length founds = omega (arith, c.loop-found-test.true) in
    found_there task founds c.loop-found.found-index none (subst (AreFound task) (sym c.as_slice-found-items.ensures) c.in_ok-founds.ensures.there) below
