use Rattle.std.proofs.Common.{Some, sym, ◌∙◌}
use Rattle.exchange.specs.SameLaws.{windows_decide}
use Rattle.exchange.proofs.window.is_same_window.Goals as goal

pub returns-in-Some-Some-clause-same : goal.returns-in-Some-Some-clause-same
returns-in-Some-Some-clause-same c told =
    let first = c.in-Some-Some.first in
    let second = c.in-Some-Some.second in
    c.in-Some-Some.is-0 ∙ (windows_decide (Some first) (Some second)).0 told ∙ sym c.in-Some-Some.is-1
