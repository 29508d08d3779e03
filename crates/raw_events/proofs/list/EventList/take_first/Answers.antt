use Rattle.std.proofs.Common.{◌∙◌, ap}
use Rattle.raw_events.specs.Around.{Around, first_of, without_first_of}
use Rattle.raw_events.proofs.Ends.{farthest, but_farthest}
use Rattle.raw_events.proofs.list.EventList.take_first.Goals as goal

pub returns-then-not-is_empty-clause-taken : goal.returns-then-not-is_empty-clause-taken
returns-then-not-is_empty-clause-taken g c =
    farthest c.self.inside.before c.take_first-one.result c.take_first-one.new.self c.of_line.result c.self.inside.after c.take_first-one.ensures.0 c.of_line.ensures
    ∙ ap (λ (w : Around g.row.T.Denot). first_of w.before w.after) c.self.view_is

pub returns-then-not-is_empty-clause-rest : goal.returns-then-not-is_empty-clause-rest
returns-then-not-is_empty-clause-rest g c =
    but_farthest c.self.inside.before c.take_first-one.result c.take_first-one.new.self c.of_line.result c.self.inside.after c.take_first-one.ensures.0 c.of_line.ensures
    ∙ ap (λ (w : Around g.row.T.Denot). without_first_of w.before w.after) c.self.view_is
