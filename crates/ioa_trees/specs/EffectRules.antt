-- Statements: what they do, and their faults.
use Rattle.std.specs.Prelude.{ℕ, ◌+◌, not, Option, Some, None, nat_le, if◌then◌else◌, List, [], ◌++◌}
use Rattle.terms.specs.TermTree.{TermTree}
use Rattle.terms.specs.EffectTree as effect
use Rattle.terms.specs.EffectTree.{EffectTree}
use Rattle.ioa_trees.specs.Trees as tree
use Rattle.ioa_trees.specs.Trees.{Bytes, PlainTerm, PlainInit, PlainStatement, PlainStatements, PlainBranches, no_statement, more_statements, no_branch, more_branches}
use Rattle.ioa_trees.specs.Faults.{Fault, where_wrong}
use Rattle.ioa_trees.specs.Kinds.{Kind, ArrayOf, fits, is_truth, is_array, listed_of, can_be_listed}
use Rattle.ioa_trees.specs.Scopes.{Scope, Meaning, OfVariable, OfLoop, named, declare, doubled, is_variable}
use Rattle.ioa_trees.specs.Sizes.{type_size, size, at_size, statement_size, statements_size, branches_size}
use Rattle.ioa_trees.specs.TermRules.{Judged, judge, faults, wants, unfit, truth_of}
use Rattle.ioa_trees.specs.TypeRules.{kind_of, type_faults, unlisted}
use Rattle.ioa_trees.specs.ValueRules.{put_in, inner_faults, item_kind, is_misfit}

-- the number and the kind of a state variable
abbrev pub cell_of : Option Meaning → Option ℕ
cell_of (Some (OfVariable n k)) = Some n
cell_of _ = None

abbrev pub cell_kind : Option Meaning → Option Kind
cell_kind (Some (OfVariable n k)) = k
cell_kind _ = None

abbrev pub item_of : Option Kind → Option Kind
item_of None = None
item_of (Some k) = item_kind k

-- the kind of the place on the left
abbrev pub left_kind : Option Kind → Option PlainTerm → Option Kind
left_kind k None = k
left_kind k (Some i) = item_of k

-- ---- assignments

abbrev pub assigned : Option ℕ → Option TermTree → Option EffectTree
assigned (Some n) (Some v) = Some (effect.Assign n v)
assigned _ _ = None

abbrev pub item_assigned : ℕ → Kind → Judged → TermTree → Option EffectTree
item_assigned n (ArrayOf r k) u v = if fits r u.kind then Some (effect.AssignItem n u.core (listed_of r) v) else None
item_assigned n _ u v = None

abbrev pub at_item : Option ℕ → Option Kind → Option Judged → Option TermTree → Option EffectTree
at_item (Some n) (Some k) (Some u) (Some v) = item_assigned n k u v
at_item _ _ _ _ = None

abbrev pub assignment_of : Scope → Option Meaning → Option PlainTerm → PlainInit → Option EffectTree
assignment_of s m None v = assigned (cell_of m) (put_in s (cell_kind m) v)
assignment_of s m (Some i) v = at_item (cell_of m) (cell_kind m) (judge s i) (put_in s (item_of (cell_kind m)) v)

-- 12: an index on what is no array, at the name; an index that the array's index type doesn't take, at the index
abbrev pub left_faults : Scope → ℕ → Option Kind → Option PlainTerm → List Fault
left_faults s at (Some k) (Some i) = where_wrong (not (is_array k)) at 12 ++ taken k
  where
    taken : Kind → List Fault
    taken (ArrayOf r j) = unfit r (at + 2) (judge s i)
    taken _ = []
left_faults s at _ _ = []

-- the faults of the index itself
abbrev pub at_faults : Scope → ℕ → Option PlainTerm → List Fault
at_faults s at None = []
at_faults s at (Some i) = faults s (at + 1) i

-- 10: the name is no state variable; else 12, at the name, where the value doesn't fit
abbrev pub assignment_faults : Scope → ℕ → Bytes → Option PlainTerm → PlainInit → List Fault
assignment_faults s at q i v =
    where_wrong (not (is_variable (named q s))) at 10
    ++ (at_faults s (at + 1) i
    ++ (inner_faults s (at + at_size i + 2) v
    ++ (left_faults s at (cell_kind (named q s)) i
    ++ where_wrong (is_misfit s (left_kind (cell_kind (named q s)) i) v) at 12)))

-- ---- statements, inside of so many loops

abbrev pub in_order : Option EffectTree → Option EffectTree → Option EffectTree
in_order (Some a) (Some b) = Some (effect.Then a b)
in_order _ _ = None

abbrev pub branch_of : Option TermTree → Option EffectTree → Option EffectTree → Option EffectTree
branch_of (Some c) (Some a) (Some b) = Some (effect.If c a b)
branch_of _ _ _ = None

abbrev pub loop_of : ℕ → Option Kind → Option EffectTree → Option EffectTree
loop_of n (Some k) (Some a) = if can_be_listed k then Some (effect.For n (listed_of k) a) else None
loop_of n _ _ = None

abbrev pub in_loop : Scope → ℕ → tree.PlainDeclared → Scope
in_loop s n d = declare d.name (OfLoop n (kind_of s d.of)) s

-- what a statement does; nothing where a fault is inside
abbrev mutual
  pub effect_of : Scope → ℕ → PlainStatement → Option EffectTree
  effect_of s n (tree.Assign q i v) = assignment_of s (named q s) i v
  effect_of s n (tree.If bs ss) = branches_of s n bs (effects_of s n ss)
  effect_of s n (tree.For d ss) = loop_of n (kind_of s d.of) (effects_of (in_loop s n d) (n + 1) ss)

  pub branches_of : Scope → ℕ → PlainBranches → Option EffectTree → Option EffectTree
  branches_of s n no_branch otherwise = otherwise
  branches_of s n (more_branches t ss bs) otherwise = branch_of (truth_of (judge s t)) (effects_of s n ss) (branches_of s n bs otherwise)

  -- one after the other
  pub effects_of : Scope → ℕ → PlainStatements → Option EffectTree
  effects_of s n no_statement = Some effect.Nothing
  effects_of s n (more_statements a no_statement) = effect_of s n a
  effects_of s n (more_statements a (more_statements b others)) = in_order (effect_of s n a) (effects_of s n (more_statements b others))

-- the faults of a statement whose first token has this number
abbrev mutual
  pub statement_faults : Scope → ℕ → ℕ → PlainStatement → List Fault
  statement_faults s n at (tree.Assign q i v) = assignment_faults s at q i v
  statement_faults s n at (tree.If bs ss) = branches_faults s n at bs ++ statements_faults s n (at + branches_size bs + 1) ss
  statement_faults s n at (tree.For d ss) =
      where_wrong (nat_le 3 n) at 17
      ++ (doubled s (at + 1) d.name
      ++ (type_faults s (at + 3) d.of
      ++ (unlisted (at + 3) (kind_of s d.of)
      ++ statements_faults (in_loop s n d) (n + 1) (at + type_size d.of + 4) ss)))

  -- each behind `if` or `elseif`
  pub branches_faults : Scope → ℕ → ℕ → PlainBranches → List Fault
  branches_faults s n at no_branch = []
  branches_faults s n at (more_branches t ss bs) =
      faults s (at + 1) t
      ++ (wants is_truth (at + 1) (judge s t)
      ++ (statements_faults s n (at + size t + 2) ss
      ++ branches_faults s n (at + size t + statements_size ss + 2) bs))

  -- with one token between two of them
  pub statements_faults : Scope → ℕ → ℕ → PlainStatements → List Fault
  statements_faults s n at no_statement = []
  statements_faults s n at (more_statements a others) = statement_faults s n at a ++ statements_faults s n (at + statement_size a + 1) others
