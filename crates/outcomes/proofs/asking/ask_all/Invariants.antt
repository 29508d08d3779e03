use Rattle.std.proofs.Common.{◌≡◌, drop, length}
use Rattle.conditions.specs.Conditions.{left_after_all}
use Rattle.outcomes.specs.Solving.{AreAsMany}
use Rattle.terms.specs.Scopes.{scope}
use Rattle.outcomes.proofs.asking.ask_all.Given as goal

abbrev pub invariant-loop-stage : goal.invariant-loop-stage
invariant-loop-stage g l =
    let state = g.C.Cells.values l.cells in
    record {
      many : length l.left ≡ length l.initial.left;
      stages : AreAsMany (length l.left) (drop l.stage-index l.stages);
      asked : left_after_all (scope l.env) state (drop l.stage-index l.stages) l.left ≡ left_after_all (scope l.env) state l.stages l.initial.left;
    }
