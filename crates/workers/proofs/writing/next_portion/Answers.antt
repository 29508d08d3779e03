use Rattle.std.proofs.Common.{◌∙◌}
use Rattle.workers.proofs.writing.next_portion.Goals as goal

pub returns-clause-caller : goal.returns-clause-caller
returns-clause-caller g c =
    let h = c.collect-cut.ensures.caller in
    record { division = h.division; setup_is = h.setup_is; rest = h.rest; seat = h.seat; many = c.put_together.ensures.many ∙ h.many }
