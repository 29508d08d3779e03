use Rattle.std.proofs.Common.{◌≡◌, ◌++◌, drop, take, length}
use Rattle.conditions.specs.Conditions.{left_after}
use Rattle.terms.specs.Scopes.{scope}
use Rattle.outcomes.proofs.asking.ask.Given as goal

abbrev pub invariant-loop-b : goal.invariant-loop-b
invariant-loop-b g l =
    let state = g.C.Cells.values l.cells in
    record {
      many : length l.left ≡ length l.initial.left;
      asked : take l.b l.left ++ left_after (scope l.env) state (drop l.b l.stage.branches.items) (drop l.b l.left) ≡ left_after (scope l.env) state l.stage.branches.items l.initial.left;
    }
