use Rattle.std.proofs.Common.{◌≤◌, length, map, take}
use Rattle.conditions.specs.Branches.{Stand}
use Rattle.terms.specs.TermTree.{linked, operand_tree, link_tree}
use Rattle.conditions.proofs.branches.+branches.Given as goal

abbrev pub invariant-branches_of-loop-place : goal.invariant-branches_of-loop-place
invariant-branches_of-loop-place l = record {
  stand : Stand (linked (operand_tree l.term.first) (map link_tree (take l.place l.links))) l.is l.branches.items;
  few : length l.branches.items ≤ 16;
}
