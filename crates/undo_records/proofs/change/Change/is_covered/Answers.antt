use Rattle.undo_records.proofs.Covering.{covered_once}
use Rattle.undo_records.proofs.change.Change.is_covered.Goals as goal
use Rattle.std.proofs.Common.{◌∙◌, sym}

pub returns-then-covers : goal.returns-then-covers
returns-then-covers c = λ _.
    covered_once c.args.earlier.now c.loop-at.at c.index-earlier-at.result c.args.self.now c.loop-at-test.true c.index-earlier-at.is (sym c.covers.ensures ∙ c.if-covers.true)
