-- A term that names no variable has a value of its kind.
use Rattle.std.proofs.Common.{◌≡◌, ◌<◌, ◌+◌, ℕ, ℤ, pos, negsuc, neg_ℤ, ◌+ℤ◌, ◌-ℤ◌, ◌*ℤ◌, int_lt, nat_le, nat_lt, nat_eq, Bool, true, false, ◌&&◌, if◌then◌else◌, Option, None, Some, [], refl, arith}
use Rattle.std.specs.Prelude.{FitsSigned}
use Rattle.std.specs.Int.{w64, cast_signed}
use Rattle.std.proofs.lemmas.Int.{SFits-int_wrap, ints}
use Rattle.terms.specs.TermTree as core
use Rattle.terms.specs.TermTree.{TermTree}
use Rattle.terms.specs.Datum.{scalar_of}
use Rattle.terms.specs.Meaning.{number, value}
use Rattle.terms.specs.Shapes.{rest}
use Rattle.terms.specs.declared.scalar.Scalar.{Scalar}
use Rattle.terms.specs.declared.scalar.Scalar.TheVariants as scalar
use Rattle.terms.specs.declared.term.Operator.TheVariants as operator
use Rattle.io_automata.specs.Steps.{scope_in}
use Rattle.ioa_trees.specs.declared.tree.Call.{Call}
use Rattle.ioa_trees.specs.declared.tree.Relation.{Relation}
use Rattle.ioa_trees.specs.declared.tree.Relation.TheVariants as relation
use Rattle.ioa_trees.specs.declared.tree.Sign.{Sign}
use Rattle.ioa_trees.specs.declared.tree.Sign.TheVariants as sign
use Rattle.ioa_trees.specs.Trees as tree
use Rattle.ioa_trees.specs.Trees.{PlainTerm, PlainTerms, PlainFactors, PlainAddends, no_term, more_terms, no_factor, more_factors, no_addend, more_addends}
use Rattle.ioa_trees.specs.Kinds.{Kind, Truth, Whole, Range, Enum, SeqOf, ArrayOf, is_whole, is_truth, whole_number}
use Rattle.ioa_trees.specs.Scopes.{Scope, named}
use Rattle.ioa_trees.specs.Trees.{Bytes}
use Rattle.ioa_trees.specs.TermRules.{Judged, added, appended_to, append_of, called_on, call_of, combined, compared, compares, compare_of, element, element_of, indexed, joined, judge, modulo_of, multiplied, of_core, on_core, operator_of, truth_of, value_meant, whole_of}

-- ---- values

-- the value of a term that names nothing
abbrev pub ended : TermTree → Scalar
ended c = scalar_of (value c (scope_in [] []) [])

abbrev pub IsWhole : Scalar → Type 0
IsWhole (scalar.Int z) = FitsSigned w64 z
IsWhole (scalar.Bool b) = ⊥
IsWhole (scalar.Member k) = ⊥

abbrev pub IsTruth : Scalar → Type 0
IsTruth (scalar.Int z) = ⊥
IsTruth (scalar.Bool b) = Unit {0}
IsTruth (scalar.Member k) = ⊥

bits_fit : (n : ℕ) → FitsSigned w64 (cast_signed w64 n)
bits_fit n = omega (arith, ints)

rest_fits : (z m : ℤ) → FitsSigned w64 m → FitsSigned w64 (rest z m)
rest_fits z m fit = by z m fit (int_lt (pos 0) m) refl
  where
    by : (z m : ℤ) → FitsSigned w64 m → (b : Bool) → int_lt (pos 0) m ≡ b → FitsSigned w64 (rest z m)
    by z m fit false e = rw e (omega (arith, ints))
    by (pos a) (pos k) fit true e = let less : 0 < k = grind (arith, ints) in rw e (omega (arith, ints, fit, less))
    by (negsuc a) (pos k) fit true e = let less : 0 < k = grind (arith, ints) in rw e (omega (arith, ints, fit, less))
    by z (negsuc k) fit true e = absurd (grind (arith, ints))

module _ (members : ℕ) where
  abbrev pub IsOne : ℕ → ℕ → Scalar → Type 0
  IsOne first n (scalar.Int z) = ⊥
  IsOne first n (scalar.Bool b) = ⊥
  IsOne first n (scalar.Member k) = ((nat_le first k && nat_lt k (first + n)) ≡ true) × (k < members)

  -- the scalar is a value of the kind; no such term has a kind with parts, or is known to be in a range
  abbrev pub Holds : Kind → Scalar → Type 0
  Holds Truth v = IsTruth v
  Holds Whole v = IsWhole v
  Holds (Range low high) v = ⊥
  Holds (Enum first n) v = IsOne first n v
  Holds (SeqOf k n) v = ⊥
  Holds (ArrayOf r k) v = ⊥

  abbrev pub Good : Option Judged → Type 0
  Good None = Unit {0}
  Good (Some j) = Holds j.kind (ended j.core)

  abbrev WholeIn : Option TermTree → Type 0
  WholeIn None = Unit {0}
  WholeIn (Some c) = IsWhole (ended c)

  abbrev TruthIn : Option TermTree → Type 0
  TruthIn None = Unit {0}
  TruthIn (Some c) = IsTruth (ended c)

  whole_by : (k : Kind) (c : TermTree) → Holds k (ended c) → WholeIn (if is_whole k then Some c else None)
  whole_by Truth c h = tt
  whole_by Whole c h = h
  whole_by (Range a b) c h = absurd h
  whole_by (Enum e n) c h = tt
  whole_by (SeqOf k n) c h = tt
  whole_by (ArrayOf r k) c h = tt

  whole_good : (o : Option Judged) → Good o → WholeIn (whole_of o)
  whole_good None h = tt
  whole_good (Some j) h = whole_by j.kind j.core h

  truth_by : (k : Kind) (c : TermTree) → Holds k (ended c) → TruthIn (if is_truth k then Some c else None)
  truth_by Truth c h = h
  truth_by Whole c h = tt
  truth_by (Range a b) c h = tt
  truth_by (Enum e n) c h = tt
  truth_by (SeqOf k n) c h = tt
  truth_by (ArrayOf r k) c h = tt

  truth_good : (o : Option Judged) → Good o → TruthIn (truth_of o)
  truth_good None h = tt
  truth_good (Some j) h = truth_by j.kind j.core h

  of_whole : (o : Option TermTree) → WholeIn o → Good (of_core Whole o)
  of_whole None h = tt
  of_whole (Some c) h = h

  of_truth : (o : Option TermTree) → TruthIn o → Good (of_core Truth o)
  of_truth None h = tt
  of_truth (Some c) h = h

  negative : (o : Option TermTree) → WholeIn (on_core core.Negative o)
  negative None = tt
  negative (Some c) = SFits-int_wrap w64 (neg_ℤ (number (value c (scope_in [] []) [])))

  negated : (o : Option TermTree) → TruthIn (on_core core.Not o)
  negated None = tt
  negated (Some c) = tt

  times : (a b : Option TermTree) → WholeIn (joined operator.Times a b)
  times None b = tt
  times (Some a) None = tt
  times (Some a) (Some b) = SFits-int_wrap w64 (number (value a (scope_in [] []) []) *ℤ number (value b (scope_in [] []) []))

  sums : (g : Sign) (a b : Option TermTree) → WholeIn (joined (operator_of g) a b)
  sums g None b = tt
  sums g (Some a) None = tt
  sums sign.Plus (Some a) (Some b) = SFits-int_wrap w64 (number (value a (scope_in [] []) []) +ℤ number (value b (scope_in [] []) []))
  sums sign.Minus (Some a) (Some b) = SFits-int_wrap w64 (number (value a (scope_in [] []) []) -ℤ number (value b (scope_in [] []) []))

  modulo : (n : ℕ) (o : Option TermTree) → WholeIn (modulo_of n o)
  modulo n None = tt
  modulo n (Some c) = by (nat_eq n 0)
    where
      by : (b : Bool) → WholeIn (if b then None else Some (core.Modulo c (whole_number n)))
      by true = tt
      by false = rest_fits (number (value c (scope_in [] []) [])) (whole_number n) (bits_fit n)

  both : (a b : Option TermTree) → TruthIn (joined operator.Both a b)
  both None b = tt
  both (Some a) None = tt
  both (Some a) (Some b) = tt

  either : (a b : Option TermTree) → TruthIn (joined operator.Either a b)
  either None b = tt
  either (Some a) None = tt
  either (Some a) (Some b) = tt

  compared_by : (r : Relation) (a b : TermTree) → IsTruth (ended (compared r a b))
  compared_by relation.Equal a b = tt
  compared_by relation.NotEqual a b = tt
  compared_by relation.Less a b = tt
  compared_by relation.AtMost a b = tt
  compared_by relation.Greater a b = tt
  compared_by relation.AtLeast a b = tt

  comparison : (r : Relation) (o p : Option Judged) → Good (compare_of r o p)
  comparison r None p = tt
  comparison r (Some j) None = tt
  comparison r (Some j) (Some u) = by (compares r j.kind u.kind)
    where
      by : (b : Bool) → Good (if b then Some (record { core = compared r j.core u.core; kind = Truth }) else None)
      by true = compared_by r j.core u.core
      by false = tt

  called_by : (w : Call) (c : TermTree) (k : Kind) → Holds k (ended c) → Good (called_on w c k)
  called_by w c Truth h = tt
  called_by w c Whole h = tt
  called_by w c (Range a b) h = tt
  called_by w c (Enum e n) h = tt
  called_by w c (SeqOf k n) h = absurd h
  called_by w c (ArrayOf r k) h = tt

  call : (w : Call) (o : Option Judged) → Good o → Good (call_of w o)
  call w None h = tt
  call w (Some j) h = called_by w j.core j.kind h

  appended_by : (c : TermTree) (k : Kind) (u : Judged) → Holds k (ended c) → Good (appended_to c k u)
  appended_by c Truth u h = tt
  appended_by c Whole u h = tt
  appended_by c (Range a b) u h = tt
  appended_by c (Enum e n) u h = tt
  appended_by c (SeqOf k n) u h = absurd h
  appended_by c (ArrayOf r k) u h = tt

  append : (o p : Option Judged) → Good o → Good (append_of o p)
  append None p h = tt
  append (Some j) None h = tt
  append (Some j) (Some u) h = appended_by j.core j.kind u h

  element_by : (c : TermTree) (k : Kind) (u : Judged) → Holds k (ended c) → Good (element c k u)
  element_by c Truth u h = tt
  element_by c Whole u h = tt
  element_by c (Range a b) u h = tt
  element_by c (Enum e n) u h = tt
  element_by c (SeqOf k n) u h = tt
  element_by c (ArrayOf r k) u h = absurd h

  element_good : (o p : Option Judged) → Good o → Good (element_of o p)
  element_good None p h = tt
  element_good (Some j) None h = tt
  element_good (Some j) (Some u) h = element_by j.core j.kind u h

  -- each name that stands in scope has a value of its kind, if it may stand in a term
  abbrev pub Closed : Scope → Type 0
  Closed s = (q : Bytes) → Good (value_meant (named q s))

  module _ (s : Scope) (closed : Closed s) where
    indexes : (j : Option Judged) (us : PlainTerms) → Good j → Good (indexed s j us)
    indexes j no_term h = h
    indexes j (more_terms u us) h = indexes (element_of j (judge s u)) us (element_good j (judge s u) h)

    products : (c : Option TermTree) (fs : PlainFactors) → WholeIn c → WholeIn (multiplied s c fs)
    products c no_factor h = h
    products c (more_factors (tree.Times u) fs) h = products (joined operator.Times c (whole_of (judge s u))) fs (times c (whole_of (judge s u)))
    products c (more_factors (tree.Modulo n) fs) h = products (modulo_of n c) fs (modulo n c)

    addends : (c : Option TermTree) (us : PlainAddends) → WholeIn c → WholeIn (added s c us)
    addends c no_addend h = h
    addends c (more_addends g u us) h = addends (joined (operator_of g) c (whole_of (judge s u))) us (sums g c (whole_of (judge s u)))

    ands : (c : Option TermTree) (us : PlainTerms) → TruthIn c → TruthIn (combined s operator.Both c us)
    ands c no_term h = h
    ands c (more_terms u us) h = ands (joined operator.Both c (truth_of (judge s u))) us (both c (truth_of (judge s u)))

    ors : (c : Option TermTree) (us : PlainTerms) → TruthIn c → TruthIn (combined s operator.Either c us)
    ors c no_term h = h
    ors c (more_terms u us) h = ors (joined operator.Either c (truth_of (judge s u))) us (either c (truth_of (judge s u)))

    pub good : (t : PlainTerm) → Good (judge s t)
    good (tree.Number n) = bits_fit n
    good tree.True = tt
    good tree.False = tt
    good (tree.Variable q) = closed q
    good (tree.Group t) = good t
    good (tree.Called w t) = call w (judge s t) (good t)
    good (tree.Append t u) = append (judge s t) (judge s u) (good t)
    good (tree.Index t us) = indexes (judge s t) us (good t)
    good (tree.Minus t) = of_whole (on_core core.Negative (whole_of (judge s t))) (negative (whole_of (judge s t)))
    good (tree.Product t fs) = of_whole (multiplied s (whole_of (judge s t)) fs) (products (whole_of (judge s t)) fs (whole_good (judge s t) (good t)))
    good (tree.Sum t us) = of_whole (added s (whole_of (judge s t)) us) (addends (whole_of (judge s t)) us (whole_good (judge s t) (good t)))
    good (tree.Compare t r u) = comparison r (judge s t) (judge s u)
    good (tree.Not t) = of_truth (on_core core.Not (truth_of (judge s t))) (negated (truth_of (judge s t)))
    good (tree.And t us) = of_truth (combined s operator.Both (truth_of (judge s t)) us) (ands (truth_of (judge s t)) us (truth_good (judge s t) (good t)))
    good (tree.Or t us) = of_truth (combined s operator.Either (truth_of (judge s t)) us) (ors (truth_of (judge s t)) us (truth_good (judge s t) (good t)))
