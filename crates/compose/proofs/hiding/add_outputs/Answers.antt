use Rattle.ioa_check.specs.AutomatonViews.{used_names}
use Rattle.ioa_check.specs.Resolutions.{transition_meaning}
use Rattle.compose.proofs.Outputs.{none_added, one_more}
use Rattle.compose.proofs.hiding.add_outputs.Goals as goal

pub loop-transition-init : goal.loop-transition-init
loop-transition-init c = none_added (used_names c.args.given.now)

pub loop-transition-preserved : goal.loop-transition-preserved
loop-transition-preserved c =
    let l = c.loop-transition in
    one_more transition_meaning c.args.transitions.now l.transition-index c.transition-item.result (used_names c.add_output.new.given) (used_names l.given) (used_names c.args.given.now)
    c.transition-item.is c.loop-transition-test.true l.invariant c.in_ok-add_output.ensures
