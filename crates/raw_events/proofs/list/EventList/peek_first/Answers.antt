use Rattle.std.proofs.Common.{◌∙◌, ap, sym}
use Rattle.raw_events.specs.Around.{Around, first_of}
use Rattle.raw_events.proofs.Ends.{farthest_at}
use Rattle.raw_events.proofs.list.EventList.peek_first.Goals as goal

pub returns : goal.returns
returns g c =
    farthest_at c.self.inside.before c.first.result.now c.self.inside.after (sym c.is_empty.ensures ∙ c.if-is_empty.false) c.first.ensures
    ∙ ap (λ (w : Around g.row.T.Denot). first_of w.before w.after) c.self.view_is
