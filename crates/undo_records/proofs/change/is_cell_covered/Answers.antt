use Rattle.std.proofs.Common.{◌∙◌, sym}
use Rattle.undo_records.specs.declared.change.Change.TheVariants.{Cell}
use Rattle.undo_records.proofs.Covering.{covered_once}
use Rattle.undo_records.proofs.change.is_cell_covered.Goals as goal

pub returns-then-covers_cell : goal.returns-then-covers_cell
returns-then-covers_cell c = λ _ old.
    covered_once c.args.earlier.now c.loop-at.at c.index-earlier-at.result (Cell c.args.cell old) c.loop-at-test.true c.index-earlier-at.is (sym (c.covers_cell.ensures old) ∙ c.if-covers_cell.true)
