use Rattle.std.proofs.Common.{rules, ◌≡◌, true, false}
use Rattle.ioa_check.specs.AutomatonViews.{used_names}
use Rattle.ioa_check.specs.Resolutions.{transition_meaning}
use Rattle.compose.specs.Faults.{is_output}
use Rattle.compose.proofs.Outputs.{output_added, other_left}
use Rattle.compose.proofs.hiding.add_output.Goals as goal

pub returns-in_ok-insert : goal.returns-in_ok-insert
returns-in_ok-insert c =
    let e = transition_meaning c.args.transition.now in
    let is : is_output e.kind ≡ true = search rules in
    output_added (used_names c.insert.new.self) (used_names c.args.given.now) e is c.in_ok-insert.ensures.names

pub returns-else-is_output : goal.returns-else-is_output
returns-else-is_output c =
    let e = transition_meaning c.args.transition.now in
    let is : is_output e.kind ≡ false = search rules in
    other_left (used_names c.args.given.now) e is
