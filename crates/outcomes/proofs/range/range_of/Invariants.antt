use Rattle.std.proofs.Common.{◌≡◌, ◌<◌, ◌≤◌, ◌⊎◌, ℕ, List, drop, take}
use Rattle.conditions.specs.Conditions.{left_after, is_one_left}
use Rattle.io_automata.specs.Tuples.{choices, picked}
use Rattle.terms.specs.Meaning.{slot}
use Rattle.terms.specs.Scopes.{scope}
use Rattle.terms.specs.declared.scalar.Scalar.{Scalar}
use Rattle.outcomes.proofs.range.range_of.Given as goal

abbrev pub invariant-loop-b : goal.invariant-loop-b
invariant-loop-b g l =
    let state = g.C.Cells.values l.cells in
    let left = λ (b : ℕ) (others : List Scalar). is_one_left (left_after (record (scope l.env) { parameters = others }) state (drop b l.stage.branches.items) (drop b l.left)) in
    record {
      low : l.low ≤ choices l.param;
      high : l.high ≤ choices l.param;
      outside : (p : ℕ) (others : List Scalar) → p < choices l.param → (p < l.low) ⊎ (l.high ≤ p) → take l.known others ≡ take l.known l.env.parameters.now → slot others l.known ≡ picked l.env.formals.now l.param p → left 0 others ≡ left l.b others;
    }
