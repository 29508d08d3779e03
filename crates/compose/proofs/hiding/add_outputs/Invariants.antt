use Rattle.std.proofs.Common.{map, take}
use Rattle.ioa_check.specs.AutomatonViews.{used_names}
use Rattle.ioa_check.specs.Resolutions.{transition_meaning}
use Rattle.compose.specs.Outputs.{AddsOutputs}
use Rattle.compose.proofs.hiding.add_outputs.Given as goal

abbrev pub invariant-loop-transition : goal.invariant-loop-transition
invariant-loop-transition l = AddsOutputs (used_names l.given) (used_names l.initial.given) (map transition_meaning (take l.transition-index l.transitions))
