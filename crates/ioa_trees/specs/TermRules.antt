-- Terms: what they mean, a term without names and a kind, and their faults.
use Rattle.std.specs.Prelude.{ℕ, ◌+◌, Bool, true, false, not, ◌&&◌, Option, Some, None, nat_eq, if◌then◌else◌, List, [], ◌++◌}
use Rattle.terms.specs.TermTree as core
use Rattle.terms.specs.TermTree.{TermTree}
use Rattle.terms.specs.declared.scalar.Scalar.TheVariants as scalar
use Rattle.terms.specs.declared.term.Operator.{Operator}
use Rattle.terms.specs.declared.term.Operator.TheVariants as operator
use Rattle.ioa_trees.specs.declared.tree.Call.{Call}
use Rattle.ioa_trees.specs.declared.tree.Call.TheVariants as call
use Rattle.ioa_trees.specs.declared.tree.Relation.{Relation}
use Rattle.ioa_trees.specs.declared.tree.Relation.TheVariants as relation
use Rattle.ioa_trees.specs.declared.tree.Sign.{Sign}
use Rattle.ioa_trees.specs.declared.tree.Sign.TheVariants as sign
use Rattle.ioa_trees.specs.Trees as tree
use Rattle.ioa_trees.specs.Trees.{PlainTerm, PlainTerms, PlainFactors, PlainAddends, no_term, more_terms, no_factor, more_factors, no_addend, more_addends}
use Rattle.ioa_trees.specs.Faults.{Fault, where_wrong}
use Rattle.ioa_trees.specs.Kinds.{Kind, Truth, Whole, Range, Enum, SeqOf, ArrayOf, is_whole, is_truth, is_seq, fits, listed_of, shape_of, whole_number}
use Rattle.ioa_trees.specs.Scopes.{Scope, Meaning, OfMember, OfFormal, OfVariable, OfParameter, OfLoop, named, is_value}
use Rattle.ioa_trees.specs.Sizes.{size}

pub record Judged : Type 0 where
  pub core : TermTree
  pub kind : Kind

abbrev pub judged : Kind → TermTree → Option Judged
judged k c = Some (record { core = c; kind = k })

abbrev pub of_kind : TermTree → Option Kind → Option Judged
of_kind c None = None
of_kind c (Some k) = judged k c

-- what a name means in a term
abbrev pub value_meant : Option Meaning → Option Judged
value_meant (Some (OfMember at first n)) = judged (Enum first n) (core.Known (scalar.Member at))
value_meant (Some (OfFormal n k)) = of_kind (core.Formal n) k
value_meant (Some (OfVariable n k)) = of_kind (core.Cell n) k
value_meant (Some (OfParameter n k)) = of_kind (core.Parameter n) k
value_meant (Some (OfLoop n k)) = of_kind (core.Loop n) k
value_meant _ = None

-- the term of one that is a whole number, and of one that is a truth value
abbrev pub whole_of : Option Judged → Option TermTree
whole_of None = None
whole_of (Some j) = if is_whole j.kind then Some j.core else None

abbrev pub truth_of : Option Judged → Option TermTree
truth_of None = None
truth_of (Some j) = if is_truth j.kind then Some j.core else None

abbrev pub of_core : Kind → Option TermTree → Option Judged
of_core k None = None
of_core k (Some c) = judged k c

abbrev pub on_core : (TermTree → TermTree) → Option TermTree → Option TermTree
on_core f None = None
on_core f (Some c) = Some (f c)

abbrev pub joined : Operator → Option TermTree → Option TermTree → Option TermTree
joined o (Some a) (Some b) = Some (core.Binary o a b)
joined o _ _ = None

-- a value put in a place of a kind: of a range it is the nearest number
abbrev pub placed : Kind → TermTree → TermTree
placed (Range low high) c = core.Nearest c low high
placed Truth c = c
placed Whole c = c
placed (Enum first n) c = c
placed (SeqOf k n) c = c
placed (ArrayOf r k) c = c

-- what a call of this word makes of a sequence of such items
abbrev pub called : Call → Kind → ℕ → TermTree → Option Judged
called call.Head k n c = judged k (core.Head c (shape_of k))
called call.Tail k n c = judged (SeqOf k n) (core.Tail c)
called call.Len k n c = judged Whole (core.Length c)

abbrev pub called_on : Call → TermTree → Kind → Option Judged
called_on w c (SeqOf k n) = called w k n c
called_on w c _ = None

abbrev pub call_of : Call → Option Judged → Option Judged
call_of w None = None
call_of w (Some j) = called_on w j.core j.kind

abbrev pub appended_to : TermTree → Kind → Judged → Option Judged
appended_to c (SeqOf k n) u = if fits k u.kind then judged (SeqOf k n) (core.Append c (placed k u.core) n) else None
appended_to c _ u = None

abbrev pub append_of : Option Judged → Option Judged → Option Judged
append_of (Some j) (Some u) = appended_to j.core j.kind u
append_of _ _ = None

abbrev pub element : TermTree → Kind → Judged → Option Judged
element c (ArrayOf r k) u = if fits r u.kind then judged k (core.Index c u.core (listed_of r)) else None
element c _ u = None

abbrev pub element_of : Option Judged → Option Judged → Option Judged
element_of (Some j) (Some u) = element j.core j.kind u
element_of _ _ = None

abbrev pub operator_of : Sign → Operator
operator_of sign.Plus = operator.Plus
operator_of sign.Minus = operator.Minus

-- `=` and `/=` stand between whole numbers or values of equal types, the others between whole numbers
abbrev pub compares : Relation → Kind → Kind → Bool
compares relation.Equal k l = fits k l
compares relation.NotEqual k l = fits k l
compares relation.Less k l = is_whole k && is_whole l
compares relation.AtMost k l = is_whole k && is_whole l
compares relation.Greater k l = is_whole k && is_whole l
compares relation.AtLeast k l = is_whole k && is_whole l

abbrev pub compared : Relation → TermTree → TermTree → TermTree
compared relation.Equal a b = core.Binary operator.Same a b
compared relation.NotEqual a b = core.Binary operator.Differs a b
compared relation.Less a b = core.Binary operator.Less a b
compared relation.AtMost a b = core.Binary operator.AtMost a b
compared relation.Greater a b = core.Binary operator.Less b a
compared relation.AtLeast a b = core.Binary operator.AtMost b a

abbrev pub compare_of : Relation → Option Judged → Option Judged → Option Judged
compare_of r (Some j) (Some u) = if compares r j.kind u.kind then judged Truth (compared r j.core u.core) else None
compare_of r _ _ = None

-- the remainder by 0 means nothing
abbrev pub modulo_of : ℕ → Option TermTree → Option TermTree
modulo_of n None = None
modulo_of n (Some c) = if nat_eq n 0 then None else Some (core.Modulo c (whole_number n))

-- what a term means; nothing where a fault is inside
abbrev mutual
  pub judge : Scope → PlainTerm → Option Judged
  judge s (tree.Number n) = judged Whole (core.Known (scalar.Int (whole_number n)))
  judge s tree.True = judged Truth (core.Known (scalar.Bool true))
  judge s tree.False = judged Truth (core.Known (scalar.Bool false))
  judge s (tree.Variable q) = value_meant (named q s)
  judge s (tree.Group t) = judge s t
  judge s (tree.Called w t) = call_of w (judge s t)
  judge s (tree.Append t u) = append_of (judge s t) (judge s u)
  judge s (tree.Index t us) = indexed s (judge s t) us
  judge s (tree.Minus t) = of_core Whole (on_core core.Negative (whole_of (judge s t)))
  judge s (tree.Product t fs) = of_core Whole (multiplied s (whole_of (judge s t)) fs)
  judge s (tree.Sum t us) = of_core Whole (added s (whole_of (judge s t)) us)
  judge s (tree.Compare t r u) = compare_of r (judge s t) (judge s u)
  judge s (tree.Not t) = of_core Truth (on_core core.Not (truth_of (judge s t)))
  judge s (tree.And t us) = of_core Truth (combined s operator.Both (truth_of (judge s t)) us)
  judge s (tree.Or t us) = of_core Truth (combined s operator.Either (truth_of (judge s t)) us)

  pub indexed : Scope → Option Judged → PlainTerms → Option Judged
  indexed s j no_term = j
  indexed s j (more_terms u us) = indexed s (element_of j (judge s u)) us

  pub multiplied : Scope → Option TermTree → PlainFactors → Option TermTree
  multiplied s c no_factor = c
  multiplied s c (more_factors (tree.Times u) fs) = multiplied s (joined operator.Times c (whole_of (judge s u))) fs
  multiplied s c (more_factors (tree.Modulo n) fs) = multiplied s (modulo_of n c) fs

  pub added : Scope → Option TermTree → PlainAddends → Option TermTree
  added s c no_addend = c
  added s c (more_addends g u us) = added s (joined (operator_of g) c (whole_of (judge s u))) us

  pub combined : Scope → Operator → Option TermTree → PlainTerms → Option TermTree
  combined s o c no_term = c
  combined s o c (more_terms u us) = combined s o (joined o c (truth_of (judge s u))) us

-- 12: a term whose kind isn't what is wanted, at its first token; nothing where it has none
abbrev pub wants : (Kind → Bool) → ℕ → Option Judged → List Fault
wants p at None = []
wants p at (Some j) = where_wrong (not (p j.kind)) at 12

-- 12: a term that doesn't fit a place of this kind
abbrev pub unfit : Kind → ℕ → Option Judged → List Fault
unfit k at u = wants (fits k) at u

-- 12: an item that doesn't fit a sequence, at the item
abbrev pub append_faults : ℕ → Option Judged → Option Judged → List Fault
append_faults at None u = []
append_faults at (Some j) u = item_faults j.kind
  where
    item_faults : Kind → List Fault
    item_faults (SeqOf k n) = unfit k at u
    item_faults _ = []

-- 12: what is indexed is no array, at its first token; an index that the array's index type doesn't take, at the index
abbrev pub index_faults : ℕ → ℕ → Option Judged → Option Judged → List Fault
index_faults at place None u = []
index_faults at place (Some j) u = by_kind j.kind
  where
    by_kind : Kind → List Fault
    by_kind (ArrayOf r k) = unfit r place u
    by_kind _ = where_wrong true at 12

-- 12: what can't be compared, at the right operand
abbrev pub compare_faults : Relation → ℕ → Option Judged → Option Judged → List Fault
compare_faults r at (Some j) (Some u) = where_wrong (not (compares r j.kind u.kind)) at 12
compare_faults r at _ _ = []

-- the faults of a term whose first token has this number
abbrev mutual
  pub faults : Scope → ℕ → PlainTerm → List Fault
  faults s at (tree.Number n) = []
  faults s at tree.True = []
  faults s at tree.False = []
  faults s at (tree.Variable q) = where_wrong (not (is_value (named q s))) at 10
  faults s at (tree.Group t) = faults s (at + 1) t
  faults s at (tree.Called w t) = faults s (at + 2) t ++ wants is_seq (at + 2) (judge s t)
  faults s at (tree.Append t u) =
      faults s (at + 2) t ++ (faults s (at + size t + 3) u ++ (wants is_seq (at + 2) (judge s t) ++ append_faults (at + size t + 3) (judge s t) (judge s u)))
  faults s at (tree.Index t us) = faults s at t ++ indexes_faults s at (judge s t) (at + size t) us
  faults s at (tree.Minus t) = faults s (at + 1) t ++ wants is_whole (at + 1) (judge s t)
  faults s at (tree.Product t fs) = faults s at t ++ (wants is_whole at (judge s t) ++ factors_faults s (at + size t) fs)
  faults s at (tree.Sum t us) = faults s at t ++ (wants is_whole at (judge s t) ++ addends_faults s (at + size t) us)
  faults s at (tree.Compare t r u) = faults s at t ++ (faults s (at + size t + 1) u ++ compare_faults r (at + size t + 1) (judge s t) (judge s u))
  faults s at (tree.Not t) = faults s (at + 1) t ++ wants is_truth (at + 1) (judge s t)
  faults s at (tree.And t us) = faults s at t ++ (wants is_truth at (judge s t) ++ truths_faults s (at + size t) us)
  faults s at (tree.Or t us) = faults s at t ++ (wants is_truth at (judge s t) ++ truths_faults s (at + size t) us)

  -- the indexes of what was judged so far, which begins at the first token
  pub indexes_faults : Scope → ℕ → Option Judged → ℕ → PlainTerms → List Fault
  indexes_faults s first j at no_term = []
  indexes_faults s first j at (more_terms u us) =
      faults s (at + 1) u ++ (index_faults first (at + 1) j (judge s u) ++ indexes_faults s first (element_of j (judge s u)) (at + size u + 2) us)

  pub factors_faults : Scope → ℕ → PlainFactors → List Fault
  factors_faults s at no_factor = []
  factors_faults s at (more_factors (tree.Times u) fs) = faults s (at + 1) u ++ (wants is_whole (at + 1) (judge s u) ++ factors_faults s (at + size u + 1) fs)
  factors_faults s at (more_factors (tree.Modulo n) fs) = where_wrong (nat_eq n 0) (at + 1) 12 ++ factors_faults s (at + 2) fs

  pub addends_faults : Scope → ℕ → PlainAddends → List Fault
  addends_faults s at no_addend = []
  addends_faults s at (more_addends g u us) = faults s (at + 1) u ++ (wants is_whole (at + 1) (judge s u) ++ addends_faults s (at + size u + 1) us)

  pub truths_faults : Scope → ℕ → PlainTerms → List Fault
  truths_faults s at no_term = []
  truths_faults s at (more_terms u us) = faults s (at + 1) u ++ (wants is_truth (at + 1) (judge s u) ++ truths_faults s (at + size u + 1) us)
