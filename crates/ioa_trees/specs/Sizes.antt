-- How many tokens each part of a source has.
use Rattle.std.specs.Prelude.{ℕ, ◌+◌, if◌then◌else◌, List, [], ◌∷◌, Option, Some, None}
use Rattle.ioa_trees.specs.declared.tree.Signed.{Signed}
use Rattle.ioa_trees.specs.Trees.{Bytes, PlainType, Bools, Ints, Range, Named, SeqOf, ArrayOf, PlainTerm, Number, True, False, Variable, Group, Called, Append, Index, Minus, Product, Sum, Compare, Not, And, Or, PlainTerms, no_term, more_terms, PlainFactor, Times, Modulo, PlainFactors, no_factor, more_factors, PlainAddends, no_addend, more_addends, PlainInit, Empty, Fill, Value, PlainDeclared, PlainStatement, Assign, If, For, PlainStatements, no_statement, more_statements, PlainBranches, no_branch, more_branches, PlainParameter, Constant, Typed, PlainEntry, PlainVariable, PlainTransition, PlainAutomaton, PlainComponent, PlainComposed, PlainTypeBody, Same, Enumeration, PlainTypeDefinition}

abbrev pub signed_size : Signed → ℕ
signed_size s = if s.is_negative then 2 else 1

abbrev pub type_size : PlainType → ℕ
type_size Bools = 1
type_size Ints = 1
type_size (Range a b) = signed_size a + 1 + signed_size b
type_size (Named q) = 1
type_size (SeqOf t n) = type_size t + 5
type_size (ArrayOf t u) = type_size t + type_size u + 4

abbrev mutual
  pub size : PlainTerm → ℕ
  size (Number n) = 1
  size True = 1
  size False = 1
  size (Variable q) = 1
  size (Group t) = size t + 2
  size (Called c t) = size t + 3
  size (Append t u) = size t + size u + 4
  size (Index t us) = size t + indexes_size us
  size (Minus t) = size t + 1
  size (Product t fs) = size t + factors_size fs
  size (Sum t ss) = size t + addends_size ss
  size (Compare t r u) = size t + 1 + size u
  size (Not t) = size t + 1
  size (And t us) = size t + joined_size us
  size (Or t us) = size t + joined_size us

  -- each in brackets
  pub indexes_size : PlainTerms → ℕ
  indexes_size no_term = 0
  indexes_size (more_terms t ts) = size t + 2 + indexes_size ts

  -- each behind `and`, or each behind `or`
  pub joined_size : PlainTerms → ℕ
  joined_size no_term = 0
  joined_size (more_terms t ts) = size t + 1 + joined_size ts

  pub factor_size : PlainFactor → ℕ
  factor_size (Times t) = size t + 1
  factor_size (Modulo n) = 2

  pub factors_size : PlainFactors → ℕ
  factors_size no_factor = 0
  factors_size (more_factors f fs) = factor_size f + factors_size fs

  pub addends_size : PlainAddends → ℕ
  addends_size no_addend = 0
  addends_size (more_addends s t ss) = size t + 1 + addends_size ss

abbrev pub init_size : PlainInit → ℕ
init_size Empty = 1
init_size (Fill v) = init_size v + 3
init_size (Value t) = size t

abbrev pub at_size : Option PlainTerm → ℕ
at_size None = 0
at_size (Some t) = size t + 2

abbrev mutual
  pub statement_size : PlainStatement → ℕ
  statement_size (Assign q i v) = at_size i + init_size v + 2
  statement_size (If no_branch ss) = else_size ss + 2
  statement_size (If (more_branches t us bs) ss) = branches_size (more_branches t us bs) + else_size ss + 1
  statement_size (For d ss) = type_size d.of + statements_size ss + 5

  -- each behind `if` or `elseif`
  pub branches_size : PlainBranches → ℕ
  branches_size no_branch = 0
  branches_size (more_branches t ss bs) = size t + statements_size ss + 2 + branches_size bs

  -- behind `else`, where there are some
  pub else_size : PlainStatements → ℕ
  else_size no_statement = 0
  else_size (more_statements s ss) = statement_size s + later_size ss + 1

  pub statements_size : PlainStatements → ℕ
  statements_size no_statement = 0
  statements_size (more_statements s ss) = statement_size s + later_size ss

  -- each behind `;`
  pub later_size : PlainStatements → ℕ
  later_size no_statement = 0
  later_size (more_statements s ss) = statement_size s + 1 + later_size ss

-- the items of a list, with one token between two of them
abbrev pub behind : {A : Type 0} → (A → ℕ) → List A → ℕ
behind f [] = 0
behind f (x ∷ xs) = f x + 1 + behind f xs

abbrev pub listed_size : {A : Type 0} → (A → ℕ) → List A → ℕ
listed_size f [] = 0
listed_size f (x ∷ xs) = f x + behind f xs

-- the same in parentheses or braces, and nothing where there are none
abbrev pub bracketed_size : {A : Type 0} → (A → ℕ) → List A → ℕ
bracketed_size f [] = 0
bracketed_size f (x ∷ xs) = listed_size f (x ∷ xs) + 2

-- one after the other
abbrev pub row_size : {A : Type 0} → (A → ℕ) → List A → ℕ
row_size f [] = 0
row_size f (x ∷ xs) = f x + row_size f xs

abbrev pub name_size : Bytes → ℕ
name_size q = 1

abbrev pub declared_size : PlainDeclared → ℕ
declared_size d = type_size d.of + 2

abbrev pub parameter_size : PlainParameter → ℕ
parameter_size (Constant q) = 2
parameter_size (Typed d) = declared_size d

abbrev pub entry_size : PlainEntry → ℕ
entry_size e = bracketed_size parameter_size e.parameters + 2

abbrev pub variable_size : PlainVariable → ℕ
variable_size v = declared_size v.declared + 1 + init_size v.start

-- behind `pre`, where it stands
abbrev pub pre_size : Option PlainTerm → ℕ
pre_size None = 0
pre_size (Some t) = size t + 1

-- behind `eff`, where it stands
abbrev pub eff_size : PlainStatements → ℕ
eff_size no_statement = 0
eff_size (more_statements s ss) = statements_size (more_statements s ss) + 1

abbrev pub transition_size : PlainTransition → ℕ
transition_size t = entry_size t.entry + pre_size t.pre + eff_size t.eff

abbrev pub task_size : List Bytes → ℕ
task_size ns = bracketed_size name_size ns

-- behind a word, where there are some
abbrev pub after_word : {A : Type 0} → ℕ → List A → ℕ
after_word n [] = 0
after_word n (x ∷ xs) = n + 1

-- from `automaton` on
abbrev pub automaton_size : PlainAutomaton → ℕ
automaton_size a =
    2 + bracketed_size declared_size a.formals + 1 + row_size entry_size a.entries
    + after_word (listed_size variable_size a.variables) a.variables
    + 1 + row_size transition_size a.transitions + after_word (row_size task_size a.tasks) a.tasks

abbrev pub body_size : PlainTypeBody → ℕ
body_size (Same t) = type_size t
body_size (Enumeration []) = 1
body_size (Enumeration (n ∷ ns)) = listed_size name_size (n ∷ ns) + 2

-- from `type` on
abbrev pub definition_size : PlainTypeDefinition → ℕ
definition_size d = body_size d.body + 3

abbrev pub component_size : PlainComponent → ℕ
component_size c = 3 + bracketed_size size c.arguments

-- behind `hidden`, where it stands
abbrev pub hidden_size : List Bytes → ℕ
hidden_size qs = after_word (listed_size name_size qs) qs

-- from `automaton` on
abbrev pub composed_size : PlainComposed → ℕ
composed_size c = 3 + listed_size component_size c.components + hidden_size c.hidden
