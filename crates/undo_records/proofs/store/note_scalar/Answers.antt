use Rattle.std.proofs.Common.{ap, sym, ◌∙◌}
use Rattle.terms.specs.Datum.{Just}
use Rattle.undo_records.proofs.Marked.{put_value_last, covered_by_last}
use Rattle.undo_records.proofs.store.note_scalar.Goals as goal

pub returns-in-Ok-clause-noted : goal.returns-in-Ok-clause-noted
returns-in-Ok-clause-noted c = λ _.
    put_value_last c.args.cell c.of_scalar.result c.args.old.now c.args.newest.now.items c.push.new.self.items c.in-Ok.ensures.items (c.of_scalar.ensures ∙ ap Just c.scalar.ensures ∙ sym c.requires)

pub returns-in-Ok-clause-covered : goal.returns-in-Ok-clause-covered
returns-in-Ok-clause-covered c = λ _.
    covered_by_last c.args.cell c.of_scalar.result c.args.newest.now.items c.push.new.self.items c.in-Ok.ensures.items
