use Rattle.std.proofs.Common.{map, string_bytes, ap}
use Rattle.plans.specs.Plans.{mark_of, text_of}
use Rattle.ioa_check.specs.AutomatonViews.{used_names}
use Rattle.compose.proofs.HiddenNames.{marks_among}
use Rattle.compose.proofs.instances.parts.actions_in.Goals as goal

pub returns-clause-marks : goal.returns-clause-marks
returns-clause-marks c =
    let names = c.args.resolved.now.hidden.items in
    let xs = c.in_ok-actions.field-0.items in
    marks_among (map mark_of xs) (map text_of xs) (used_names c.in_ok-hidden.hidden) (map string_bytes c.as_slice.result.now) (map string_bytes names)
    c.in_ok-hidden.ensures (ap (map string_bytes) c.as_slice.ensures.value) c.in_ok-actions.ensures.marks
