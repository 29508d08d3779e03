-- The faults and the sizes of parts of statements.
use Rattle.std.specs.Prelude.{ℕ, ◌+◌, Bool, if◌then◌else◌, nat_le, Option, List, ◌++◌}
use Rattle.terms.specs.TermTree.{TermTree}
use Rattle.terms.specs.EffectTree.{EffectTree}
use Rattle.ioa_trees.specs.Trees.{PlainTerm, PlainDeclared, PlainStatements, PlainBranches, no_statement, more_statements, no_branch, more_branches}
use Rattle.ioa_trees.specs.EffectRules.{effects_of, statements_faults}
use Rattle.ioa_trees.specs.Faults.{Fault, where_wrong}
use Rattle.ioa_trees.specs.Kinds.{is_truth}
use Rattle.ioa_trees.specs.Scopes.{Scope, doubled}
use Rattle.ioa_trees.specs.Sizes.{size, statements_size, later_size}
use Rattle.ioa_trees.specs.TermRules.{faults, judge, truth_of, wants}
use Rattle.ioa_trees.specs.TypeRules.{kind_of, type_faults, unlisted}

-- a loop up to its body
abbrev pub head_faults : Scope → ℕ → ℕ → PlainDeclared → List Fault
head_faults s n at d = where_wrong (nat_le 3 n) at 17 ++ (doubled s (at + 1) d.name ++ (type_faults s (at + 3) d.of ++ unlisted (at + 3) (kind_of s d.of)))

abbrev pub branch_faults : Scope → ℕ → ℕ → PlainTerm × PlainStatements → List Fault
branch_faults s n at b = faults s (at + 1) b.0 ++ (wants is_truth (at + 1) (judge s b.0) ++ statements_faults s n (at + size b.0 + 2) b.1)

abbrev pub branch_size : PlainTerm × PlainStatements → ℕ
branch_size b = size b.0 + statements_size b.1 + 2

-- the statements that are left, the first of all or not
abbrev pub rest_size : Bool → PlainStatements → ℕ
rest_size is_first ss = if is_first then statements_size ss else later_size ss

-- the word `else`, where statements stand behind it
abbrev pub else_word : PlainStatements → ℕ
else_word no_statement = 0
else_word (more_statements a others) = 1

-- the word that ends the branches; a tree without branches, which no source has, would have its first word here too
abbrev pub end_word : PlainBranches → ℕ
end_word no_branch = 2
end_word (more_branches t ss bs) = 1

abbrev pub arm_of : Scope → ℕ → PlainTerm × PlainStatements → Option TermTree × Option EffectTree
arm_of s n b = (truth_of (judge s b.0), effects_of s n b.1)
