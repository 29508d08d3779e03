-- The sizes of types, terms and values count the leaves of their nodes.
use Rattle.std.proofs.Common.{◌≡◌, Bool, true, false, cond, [], ◌∷◌, Option, Some, None, refl, arith}
use Rattle.ioa_trees.specs.declared.tree.Signed.{Signed}
use Rattle.ioa_tokens.specs.declared.Word.TheVariants as w
use Rattle.ioa_tokens.specs.Tokens.{Num}
use Rattle.ioa_trees.specs.Nodes.{signed, Leaf, pack}
use Rattle.ioa_trees.specs.Spelling.{key, branch, signed_node, type_node, node, index_nodes, and_nodes, or_nodes, factor_node, factor_nodes, addend_nodes, init_node, at_index}
use Rattle.ioa_trees.specs.Trees.{PlainType, Bools, Ints, Range, Named, SeqOf, ArrayOf, PlainTerm, Number, True, False, Variable, Group, Called, Append, Index, Minus, Product, Sum, Compare, Not, And, Or, PlainTerms, no_term, more_terms, PlainFactor, Times, Modulo, PlainFactors, no_factor, more_factors, PlainAddends, no_addend, more_addends, PlainInit, Empty, Fill, Value}
use Rattle.ioa_trees.specs.Sizes.{signed_size, type_size, size, indexes_size, joined_size, factor_size, factors_size, addends_size, init_size, at_size}
use Rattle.ioa_trees.proofs.Counts.{count, counts}

signed_counts : (s : Signed) → count (signed_node s) ≡ signed_size s
signed_counts s = by_sign s.is_negative
  where
    by_sign : (b : Bool) → count (cond b (branch signed (key w.Minus ∷ (Leaf (Num s.size) ∷ []))) (branch signed (Leaf (Num s.size) ∷ []))) ≡ cond b 2 1
    by_sign true = refl
    by_sign false = refl

pub type_counts : (t : PlainType) → count (type_node t) ≡ type_size t
type_counts Bools = refl
type_counts Ints = refl
type_counts (Range a b) = omega (arith, signed_counts a, signed_counts b)
type_counts (Named q) = refl
type_counts (SeqOf t n) = omega (arith, type_counts t)
type_counts (ArrayOf t u) = omega (arith, type_counts t, type_counts u)

mutual
  pub term_counts : (t : PlainTerm) → count (node t) ≡ size t
  term_counts (Number n) = refl
  term_counts True = refl
  term_counts False = refl
  term_counts (Variable q) = refl
  term_counts (Group t) = omega (arith, term_counts t)
  term_counts (Called c t) = omega (arith, term_counts t)
  term_counts (Append t u) = omega (arith, term_counts t, term_counts u)
  term_counts (Index t us) = omega (arith, term_counts t, index_counts us)
  term_counts (Minus t) = omega (arith, term_counts t)
  term_counts (Product t fs) = omega (arith, term_counts t, factors_counts fs)
  term_counts (Sum t ss) = omega (arith, term_counts t, addend_counts ss)
  term_counts (Compare t r u) = omega (arith, term_counts t, term_counts u)
  term_counts (Not t) = omega (arith, term_counts t)
  term_counts (And t us) = omega (arith, term_counts t, and_counts us)
  term_counts (Or t us) = omega (arith, term_counts t, or_counts us)

  index_counts : (ts : PlainTerms) → counts (index_nodes ts) ≡ indexes_size ts
  index_counts no_term = refl
  index_counts (more_terms t ts) = omega (arith, term_counts t, index_counts ts)

  and_counts : (ts : PlainTerms) → counts (and_nodes ts) ≡ joined_size ts
  and_counts no_term = refl
  and_counts (more_terms t ts) = omega (arith, term_counts t, and_counts ts)

  or_counts : (ts : PlainTerms) → counts (or_nodes ts) ≡ joined_size ts
  or_counts no_term = refl
  or_counts (more_terms t ts) = omega (arith, term_counts t, or_counts ts)

  factor_counts : (f : PlainFactor) → count (factor_node f) ≡ factor_size f
  factor_counts (Times t) = omega (arith, term_counts t)
  factor_counts (Modulo n) = refl

  factors_counts : (fs : PlainFactors) → counts (factor_nodes fs) ≡ factors_size fs
  factors_counts no_factor = refl
  factors_counts (more_factors f fs) = omega (arith, factor_counts f, factors_counts fs)

  addend_counts : (ss : PlainAddends) → counts (addend_nodes ss) ≡ addends_size ss
  addend_counts no_addend = refl
  addend_counts (more_addends s t ss) = omega (arith, term_counts t, addend_counts ss)

pub init_counts : (v : PlainInit) → count (init_node v) ≡ init_size v
init_counts Empty = refl
init_counts (Fill v) = omega (arith, init_counts v)
init_counts (Value t) = term_counts t

pub at_counts : (i : Option PlainTerm) → counts (pack (at_index i)) ≡ at_size i
at_counts None = refl
at_counts (Some t) = omega (arith, term_counts t)
