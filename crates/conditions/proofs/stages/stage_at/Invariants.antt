use Rattle.std.proofs.Common.{◌≡◌, ◌++◌, List, length, drop}
use Rattle.terms.specs.Datum.{Datum}
use Rattle.terms.specs.Meaning.{Scope}
use Rattle.conditions.specs.Conditions.{AreBranches}
use Rattle.conditions.specs.Held.{each_asked, each_at}
use Rattle.conditions.proofs.stages.stage_at.Given as goal

abbrev pub invariant-loop-tests : goal.invariant-loop-tests
invariant-loop-tests l = record {
  are : AreBranches l.k l.at.items;
  held : (scope : Scope) (state : List Datum) → each_asked scope state l.at.items ++ each_at scope state l.k (drop l.tests-index l.branches) ≡ each_at scope state l.k l.branches;
  many : length l.at.items ≡ l.tests-index;
}
