-- A term has a meaning exactly where it has no fault.
use Rattle.std.proofs.Common.{◌≡◌, ℕ, ◌+◌, true, not, Option, Some, None, IsSome, nat_eq, [], ◌++◌, refl}
use Rattle.terms.specs.TermTree as core
use Rattle.terms.specs.TermTree.{TermTree}
use Rattle.terms.specs.declared.term.Operator.{Operator}
use Rattle.terms.specs.declared.term.Operator.TheVariants as operator
use Rattle.ioa_trees.specs.declared.tree.Call.{Call}
use Rattle.ioa_trees.specs.declared.tree.Call.TheVariants as call
use Rattle.ioa_trees.specs.declared.tree.Relation.{Relation}
use Rattle.ioa_trees.specs.Trees as tree
use Rattle.ioa_trees.specs.Trees.{PlainTerm, PlainTerms, PlainFactors, PlainAddends, no_term, more_terms, no_factor, more_factors, no_addend, more_addends}
use Rattle.ioa_trees.specs.Faults.{where_wrong}
use Rattle.ioa_trees.specs.Kinds.{Kind, Truth, Whole, Range, Enum, SeqOf, ArrayOf, is_whole, is_truth, is_seq, fits, listed_of, whole_number}
use Rattle.ioa_trees.specs.Scopes.{Scope, Meaning, OfType, OfMember, OfAutomaton, OfComposed, OfFormal, OfVariable, OfParameter, OfLoop, named, is_value}
use Rattle.ioa_trees.specs.Sizes.{size}
use Rattle.ioa_trees.specs.TermRules.{Judged, judge, judged, value_meant, whole_of, truth_of, of_core, on_core, joined, placed, called_on, call_of, appended_to, append_of, element, element_of, operator_of, compares, compared, compare_of, modulo_of, indexed, multiplied, added, combined, wants, append_faults, index_faults, compare_faults, faults, indexes_faults, factors_faults, addends_faults, truths_faults}
use Rattle.ioa_trees.specs.Meant.{AllMeant}
use Rattle.ioa_trees.proofs.NoFaults.{nil_left, nil_right, nil_both, right_if, not_wrong, where_right, where_not_wrong, passed, passed_not}

-- ---- without a fault there is a meaning

whole_ok : (at : ℕ) (j : Option Judged) → IsSome j → wants is_whole at j ≡ [] → IsSome (whole_of j)
whole_ok at None h e = h
whole_ok at (Some j) h e = rw (right_if (is_whole j.kind) at 12 e) refl

pub truth_ok : (at : ℕ) (j : Option Judged) → IsSome j → wants is_truth at j ≡ [] → IsSome (truth_of j)
truth_ok at None h e = h
truth_ok at (Some j) h e = rw (right_if (is_truth j.kind) at 12 e) refl

core_ok : (k : Kind) (c : Option TermTree) → IsSome c → IsSome (of_core k c)
core_ok k None h = h
core_ok k (Some c) h = refl

pub on_ok : (f : TermTree → TermTree) (c : Option TermTree) → IsSome c → IsSome (on_core f c)
on_ok f None h = h
on_ok f (Some c) h = refl

joined_ok : (o : Operator) (a b : Option TermTree) → IsSome a → IsSome b → IsSome (joined o a b)
joined_ok o None b h i = h
joined_ok o (Some a) None h i = i
joined_ok o (Some a) (Some b) h i = refl

modulo_ok : (at n : ℕ) (c : Option TermTree) → IsSome c → where_wrong (nat_eq n 0) at 12 ≡ [] → IsSome (modulo_of n c)
modulo_ok at n None h e = h
modulo_ok at n (Some c) h e = rw (not_wrong (nat_eq n 0) at 12 e) refl

called_ok : (w : Call) (at : ℕ) (c : TermTree) (k : Kind) → where_wrong (not (is_seq k)) at 12 ≡ [] → IsSome (called_on w c k)
called_ok call.Head at c (SeqOf k n) e = refl
called_ok call.Tail at c (SeqOf k n) e = refl
called_ok call.Len at c (SeqOf k n) e = refl
called_ok w at c Truth e = cc
called_ok w at c Whole e = cc
called_ok w at c (Range a b) e = cc
called_ok w at c (Enum a b) e = cc
called_ok w at c (ArrayOf r k) e = cc

call_ok : (w : Call) (at : ℕ) (j : Option Judged) → IsSome j → wants is_seq at j ≡ [] → IsSome (call_of w j)
call_ok w at None h e = h
call_ok w at (Some j) h e = called_ok w at j.core j.kind e

appended_ok : (at p : ℕ) (c : TermTree) (k : Kind) (u : Judged) → where_wrong (not (is_seq k)) at 12 ≡ [] → append_faults p (judged k c) (Some u) ≡ [] → IsSome (appended_to c k u)
appended_ok at p c (SeqOf k n) u e f = rw (right_if (fits k u.kind) p 12 f) refl
appended_ok at p c Truth u e f = cc
appended_ok at p c Whole u e f = cc
appended_ok at p c (Range a b) u e f = cc
appended_ok at p c (Enum a b) u e f = cc
appended_ok at p c (ArrayOf r k) u e f = cc

append_ok : (at p : ℕ) (j u : Option Judged) → IsSome j → IsSome u → wants is_seq at j ≡ [] → append_faults p j u ≡ [] → IsSome (append_of j u)
append_ok at p None u h i e f = h
append_ok at p (Some j) None h i e f = i
append_ok at p (Some j) (Some u) h i e f = appended_ok at p j.core j.kind u e f

item_ok : (at p : ℕ) (c : TermTree) (k : Kind) (u : Judged) → index_faults at p (judged k c) (Some u) ≡ [] → IsSome (element c k u)
item_ok at p c (ArrayOf r k) u e = rw (right_if (fits r u.kind) p 12 e) refl
item_ok at p c Truth u e = cc
item_ok at p c Whole u e = cc
item_ok at p c (Range a b) u e = cc
item_ok at p c (Enum a b) u e = cc
item_ok at p c (SeqOf k n) u e = cc

element_ok : (at p : ℕ) (j u : Option Judged) → IsSome j → IsSome u → index_faults at p j u ≡ [] → IsSome (element_of j u)
element_ok at p None u h i e = h
element_ok at p (Some j) None h i e = i
element_ok at p (Some j) (Some u) h i e = item_ok at p j.core j.kind u e

compare_ok : (r : Relation) (p : ℕ) (j u : Option Judged) → IsSome j → IsSome u → compare_faults r p j u ≡ [] → IsSome (compare_of r j u)
compare_ok r p None u h i e = h
compare_ok r p (Some j) None h i e = i
compare_ok r p (Some j) (Some u) h i e = rw (right_if (compares r j.kind u.kind) p 12 e) refl

mutual
  -- a term without faults has a meaning
  pub judged_if : (s : Scope) → AllMeant s → (at : ℕ) (t : PlainTerm) → faults s at t ≡ [] → IsSome (judge s t)
  judged_if s m at (tree.Number n) h = refl
  judged_if s m at tree.True h = refl
  judged_if s m at tree.False h = refl
  judged_if s m at (tree.Variable q) h = m.values q (right_if (is_value (named q s)) at 10 h)
  judged_if s m at (tree.Group t) h = judged_if s m (at + 1) t h
  judged_if s m at (tree.Called w t) h =
      let a = faults s (at + 2) t in let b = wants is_seq (at + 2) (judge s t) in
      call_ok w (at + 2) (judge s t) (judged_if s m (at + 2) t (nil_left a b h)) (nil_right a b h)
  judged_if s m at (tree.Append t u) h =
      let p = at + size t + 3 in
      let a = faults s (at + 2) t in let b = faults s p u in let c = wants is_seq (at + 2) (judge s t) in let d = append_faults p (judge s t) (judge s u) in
      let r = nil_right a (b ++ (c ++ d)) h in let v = nil_right b (c ++ d) r in
      append_ok (at + 2) p (judge s t) (judge s u) (judged_if s m (at + 2) t (nil_left a (b ++ (c ++ d)) h)) (judged_if s m p u (nil_left b (c ++ d) r)) (nil_left c d v) (nil_right c d v)
  judged_if s m at (tree.Index t us) h =
      let a = faults s at t in let b = indexes_faults s at (judge s t) (at + size t) us in
      indexed_if s m at (judge s t) (judged_if s m at t (nil_left a b h)) (at + size t) us (nil_right a b h)
  judged_if s m at (tree.Minus t) h =
      let a = faults s (at + 1) t in let b = wants is_whole (at + 1) (judge s t) in
      core_ok Whole (on_core core.Negative (whole_of (judge s t))) (on_ok core.Negative (whole_of (judge s t)) (whole_ok (at + 1) (judge s t) (judged_if s m (at + 1) t (nil_left a b h)) (nil_right a b h)))
  judged_if s m at (tree.Product t fs) h =
      let a = faults s at t in let b = wants is_whole at (judge s t) in let c = factors_faults s (at + size t) fs in
      let r = nil_right a (b ++ c) h in
      let w = whole_ok at (judge s t) (judged_if s m at t (nil_left a (b ++ c) h)) (nil_left b c r) in
      core_ok Whole (multiplied s (whole_of (judge s t)) fs) (multiplied_if s m (whole_of (judge s t)) w (at + size t) fs (nil_right b c r))
  judged_if s m at (tree.Sum t us) h =
      let a = faults s at t in let b = wants is_whole at (judge s t) in let c = addends_faults s (at + size t) us in
      let r = nil_right a (b ++ c) h in
      let w = whole_ok at (judge s t) (judged_if s m at t (nil_left a (b ++ c) h)) (nil_left b c r) in
      core_ok Whole (added s (whole_of (judge s t)) us) (added_if s m (whole_of (judge s t)) w (at + size t) us (nil_right b c r))
  judged_if s m at (tree.Compare t r u) h =
      let p = at + size t + 1 in
      let a = faults s at t in let b = faults s p u in let c = compare_faults r p (judge s t) (judge s u) in
      let v = nil_right a (b ++ c) h in
      compare_ok r p (judge s t) (judge s u) (judged_if s m at t (nil_left a (b ++ c) h)) (judged_if s m p u (nil_left b c v)) (nil_right b c v)
  judged_if s m at (tree.Not t) h =
      let a = faults s (at + 1) t in let b = wants is_truth (at + 1) (judge s t) in
      core_ok Truth (on_core core.Not (truth_of (judge s t))) (on_ok core.Not (truth_of (judge s t)) (truth_ok (at + 1) (judge s t) (judged_if s m (at + 1) t (nil_left a b h)) (nil_right a b h)))
  judged_if s m at (tree.And t us) h =
      let a = faults s at t in let b = wants is_truth at (judge s t) in let c = truths_faults s (at + size t) us in
      let r = nil_right a (b ++ c) h in
      let w = truth_ok at (judge s t) (judged_if s m at t (nil_left a (b ++ c) h)) (nil_left b c r) in
      core_ok Truth (combined s operator.Both (truth_of (judge s t)) us) (combined_if s m operator.Both (truth_of (judge s t)) w (at + size t) us (nil_right b c r))
  judged_if s m at (tree.Or t us) h =
      let a = faults s at t in let b = wants is_truth at (judge s t) in let c = truths_faults s (at + size t) us in
      let r = nil_right a (b ++ c) h in
      let w = truth_ok at (judge s t) (judged_if s m at t (nil_left a (b ++ c) h)) (nil_left b c r) in
      core_ok Truth (combined s operator.Either (truth_of (judge s t)) us) (combined_if s m operator.Either (truth_of (judge s t)) w (at + size t) us (nil_right b c r))

  indexed_if : (s : Scope) → AllMeant s → (first : ℕ) (j : Option Judged) → IsSome j → (at : ℕ) (us : PlainTerms) → indexes_faults s first j at us ≡ [] → IsSome (indexed s j us)
  indexed_if s m first j i at no_term h = i
  indexed_if s m first j i at (more_terms u us) h =
      let e = element_of j (judge s u) in
      let a = faults s (at + 1) u in let b = index_faults first (at + 1) j (judge s u) in let c = indexes_faults s first e (at + size u + 2) us in
      let r = nil_right a (b ++ c) h in
      indexed_if s m first e (element_ok first (at + 1) j (judge s u) i (judged_if s m (at + 1) u (nil_left a (b ++ c) h)) (nil_left b c r)) (at + size u + 2) us (nil_right b c r)

  multiplied_if : (s : Scope) → AllMeant s → (x : Option TermTree) → IsSome x → (at : ℕ) (fs : PlainFactors) → factors_faults s at fs ≡ [] → IsSome (multiplied s x fs)
  multiplied_if s m x i at no_factor h = i
  multiplied_if s m x i at (more_factors (tree.Times u) fs) h =
      let y = whole_of (judge s u) in
      let a = faults s (at + 1) u in let b = wants is_whole (at + 1) (judge s u) in let c = factors_faults s (at + size u + 1) fs in
      let r = nil_right a (b ++ c) h in
      let w = whole_ok (at + 1) (judge s u) (judged_if s m (at + 1) u (nil_left a (b ++ c) h)) (nil_left b c r) in
      multiplied_if s m (joined operator.Times x y) (joined_ok operator.Times x y i w) (at + size u + 1) fs (nil_right b c r)
  multiplied_if s m x i at (more_factors (tree.Modulo n) fs) h =
      let a = where_wrong (nat_eq n 0) (at + 1) 12 in let b = factors_faults s (at + 2) fs in
      multiplied_if s m (modulo_of n x) (modulo_ok (at + 1) n x i (nil_left a b h)) (at + 2) fs (nil_right a b h)

  added_if : (s : Scope) → AllMeant s → (x : Option TermTree) → IsSome x → (at : ℕ) (us : PlainAddends) → addends_faults s at us ≡ [] → IsSome (added s x us)
  added_if s m x i at no_addend h = i
  added_if s m x i at (more_addends g u us) h =
      let y = whole_of (judge s u) in
      let a = faults s (at + 1) u in let b = wants is_whole (at + 1) (judge s u) in let c = addends_faults s (at + size u + 1) us in
      let r = nil_right a (b ++ c) h in
      let w = whole_ok (at + 1) (judge s u) (judged_if s m (at + 1) u (nil_left a (b ++ c) h)) (nil_left b c r) in
      added_if s m (joined (operator_of g) x y) (joined_ok (operator_of g) x y i w) (at + size u + 1) us (nil_right b c r)

  combined_if : (s : Scope) → AllMeant s → (o : Operator) (x : Option TermTree) → IsSome x → (at : ℕ) (us : PlainTerms) → truths_faults s at us ≡ [] → IsSome (combined s o x us)
  combined_if s m o x i at no_term h = i
  combined_if s m o x i at (more_terms u us) h =
      let y = truth_of (judge s u) in
      let a = faults s (at + 1) u in let b = wants is_truth (at + 1) (judge s u) in let c = truths_faults s (at + size u + 1) us in
      let r = nil_right a (b ++ c) h in
      let w = truth_ok (at + 1) (judge s u) (judged_if s m (at + 1) u (nil_left a (b ++ c) h)) (nil_left b c r) in
      combined_if s m o (joined o x y) (joined_ok o x y i w) (at + size u + 1) us (nil_right b c r)

-- ---- where there is a meaning there is no fault

value_back : (m : Option Meaning) → IsSome (value_meant m) → is_value m ≡ true
value_back None h = cc
value_back (Some (OfType k)) h = cc
value_back (Some (OfMember a b c)) h = refl
value_back (Some (OfAutomaton n)) h = cc
value_back (Some OfComposed) h = cc
value_back (Some (OfFormal n k)) h = refl
value_back (Some (OfVariable n k)) h = refl
value_back (Some (OfParameter n k)) h = refl
value_back (Some (OfLoop n k)) h = refl

whole_back : (at : ℕ) (j : Option Judged) → IsSome (whole_of j) → IsSome j × (wants is_whole at j ≡ [])
whole_back at None h = (h, refl)
whole_back at (Some j) h = (refl, where_right (is_whole j.kind) at 12 (passed (is_whole j.kind) j.core h))

truth_back : (at : ℕ) (j : Option Judged) → IsSome (truth_of j) → IsSome j × (wants is_truth at j ≡ [])
truth_back at None h = (h, refl)
truth_back at (Some j) h = (refl, where_right (is_truth j.kind) at 12 (passed (is_truth j.kind) j.core h))

core_back : (k : Kind) (c : Option TermTree) → IsSome (of_core k c) → IsSome c
core_back k None h = h
core_back k (Some c) h = refl

on_back : (f : TermTree → TermTree) (c : Option TermTree) → IsSome (on_core f c) → IsSome c
on_back f None h = h
on_back f (Some c) h = refl

joined_back : (o : Operator) (a b : Option TermTree) → IsSome (joined o a b) → IsSome a × IsSome b
joined_back o None b h = absurd (cc)
joined_back o (Some a) None h = (refl, h)
joined_back o (Some a) (Some b) h = (refl, refl)

modulo_back : (at n : ℕ) (c : Option TermTree) → IsSome (modulo_of n c) → IsSome c × (where_wrong (nat_eq n 0) at 12 ≡ [])
modulo_back at n None h = absurd (cc)
modulo_back at n (Some c) h = (refl, where_not_wrong (nat_eq n 0) at 12 (passed_not (nat_eq n 0) (core.Modulo c (whole_number n)) h))

called_back : (w : Call) (c : TermTree) (k : Kind) → IsSome (called_on w c k) → is_seq k ≡ true
called_back w c (SeqOf k n) h = refl
called_back w c Truth h = h
called_back w c Whole h = h
called_back w c (Range a b) h = h
called_back w c (Enum a b) h = h
called_back w c (ArrayOf r k) h = h

call_back : (w : Call) (at : ℕ) (j : Option Judged) → IsSome (call_of w j) → IsSome j × (wants is_seq at j ≡ [])
call_back w at None h = (h, refl)
call_back w at (Some j) h = (refl, where_right (is_seq j.kind) at 12 (called_back w j.core j.kind h))

appended_back : (at p : ℕ) (c : TermTree) (k : Kind) (u : Judged) → IsSome (appended_to c k u) → (wants is_seq at (judged k c) ≡ []) × (append_faults p (judged k c) (Some u) ≡ [])
appended_back at p c (SeqOf k n) u h = (refl, where_right (fits k u.kind) p 12 (passed (fits k u.kind) (record { core = core.Append c (placed k u.core) n; kind = SeqOf k n }) h))
appended_back at p c Truth u h = absurd (cc)
appended_back at p c Whole u h = absurd (cc)
appended_back at p c (Range a b) u h = absurd (cc)
appended_back at p c (Enum a b) u h = absurd (cc)
appended_back at p c (ArrayOf r k) u h = absurd (cc)

append_back : (at p : ℕ) (j u : Option Judged) → IsSome (append_of j u) → (IsSome j × IsSome u) × ((wants is_seq at j ≡ []) × (append_faults p j u ≡ []))
append_back at p None u h = absurd (cc)
append_back at p (Some j) None h = absurd (cc)
append_back at p (Some j) (Some u) h = ((refl, refl), appended_back at p j.core j.kind u h)

item_back : (at p : ℕ) (c : TermTree) (k : Kind) (u : Judged) → IsSome (element c k u) → index_faults at p (judged k c) (Some u) ≡ []
item_back at p c (ArrayOf r k) u h = where_right (fits r u.kind) p 12 (passed (fits r u.kind) (record { core = core.Index c u.core (listed_of r); kind = k }) h)
item_back at p c Truth u h = absurd (cc)
item_back at p c Whole u h = absurd (cc)
item_back at p c (Range a b) u h = absurd (cc)
item_back at p c (Enum a b) u h = absurd (cc)
item_back at p c (SeqOf k n) u h = absurd (cc)

element_back : (at p : ℕ) (j u : Option Judged) → IsSome (element_of j u) → (IsSome j × IsSome u) × (index_faults at p j u ≡ [])
element_back at p None u h = absurd (cc)
element_back at p (Some j) None h = absurd (cc)
element_back at p (Some j) (Some u) h = ((refl, refl), item_back at p j.core j.kind u h)

compare_back : (r : Relation) (p : ℕ) (j u : Option Judged) → IsSome (compare_of r j u) → (IsSome j × IsSome u) × (compare_faults r p j u ≡ [])
compare_back r p None u h = absurd (cc)
compare_back r p (Some j) None h = absurd (cc)
compare_back r p (Some j) (Some u) h = ((refl, refl), where_right (compares r j.kind u.kind) p 12 (passed (compares r j.kind u.kind) (record { core = compared r j.core u.core; kind = Truth }) h))

mutual
  -- a term with a meaning has no fault
  pub faultless : (s : Scope) (at : ℕ) (t : PlainTerm) → IsSome (judge s t) → faults s at t ≡ []
  faultless s at (tree.Number n) h = refl
  faultless s at tree.True h = refl
  faultless s at tree.False h = refl
  faultless s at (tree.Variable q) h = where_right (is_value (named q s)) at 10 (value_back (named q s) h)
  faultless s at (tree.Group t) h = faultless s (at + 1) t h
  faultless s at (tree.Called w t) h =
      let b = call_back w (at + 2) (judge s t) h in
      nil_both (faults s (at + 2) t) (wants is_seq (at + 2) (judge s t)) (faultless s (at + 2) t b.0) b.1
  faultless s at (tree.Append t u) h =
      let p = at + size t + 3 in
      let x = append_back (at + 2) p (judge s t) (judge s u) h in
      let a = faults s (at + 2) t in let b = faults s p u in let c = wants is_seq (at + 2) (judge s t) in let d = append_faults p (judge s t) (judge s u) in
      nil_both a (b ++ (c ++ d)) (faultless s (at + 2) t x.0.0) (nil_both b (c ++ d) (faultless s p u x.0.1) (nil_both c d x.1.0 x.1.1))
  faultless s at (tree.Index t us) h =
      let x = indexes_faultless s at (judge s t) (at + size t) us h in
      nil_both (faults s at t) (indexes_faults s at (judge s t) (at + size t) us) (faultless s at t x.0) x.1
  faultless s at (tree.Minus t) h =
      let x = whole_back (at + 1) (judge s t) (on_back core.Negative (whole_of (judge s t)) (core_back Whole (on_core core.Negative (whole_of (judge s t))) h)) in
      nil_both (faults s (at + 1) t) (wants is_whole (at + 1) (judge s t)) (faultless s (at + 1) t x.0) x.1
  faultless s at (tree.Product t fs) h =
      let x = factors_faultless s (whole_of (judge s t)) (at + size t) fs (core_back Whole (multiplied s (whole_of (judge s t)) fs) h) in
      let y = whole_back at (judge s t) x.0 in
      let a = faults s at t in let b = wants is_whole at (judge s t) in let c = factors_faults s (at + size t) fs in
      nil_both a (b ++ c) (faultless s at t y.0) (nil_both b c y.1 x.1)
  faultless s at (tree.Sum t us) h =
      let x = addends_faultless s (whole_of (judge s t)) (at + size t) us (core_back Whole (added s (whole_of (judge s t)) us) h) in
      let y = whole_back at (judge s t) x.0 in
      let a = faults s at t in let b = wants is_whole at (judge s t) in let c = addends_faults s (at + size t) us in
      nil_both a (b ++ c) (faultless s at t y.0) (nil_both b c y.1 x.1)
  faultless s at (tree.Compare t r u) h =
      let p = at + size t + 1 in
      let x = compare_back r p (judge s t) (judge s u) h in
      let a = faults s at t in let b = faults s p u in let c = compare_faults r p (judge s t) (judge s u) in
      nil_both a (b ++ c) (faultless s at t x.0.0) (nil_both b c (faultless s p u x.0.1) x.1)
  faultless s at (tree.Not t) h =
      let x = truth_back (at + 1) (judge s t) (on_back core.Not (truth_of (judge s t)) (core_back Truth (on_core core.Not (truth_of (judge s t))) h)) in
      nil_both (faults s (at + 1) t) (wants is_truth (at + 1) (judge s t)) (faultless s (at + 1) t x.0) x.1
  faultless s at (tree.And t us) h =
      let x = truths_faultless s operator.Both (truth_of (judge s t)) (at + size t) us (core_back Truth (combined s operator.Both (truth_of (judge s t)) us) h) in
      let y = truth_back at (judge s t) x.0 in
      let a = faults s at t in let b = wants is_truth at (judge s t) in let c = truths_faults s (at + size t) us in
      nil_both a (b ++ c) (faultless s at t y.0) (nil_both b c y.1 x.1)
  faultless s at (tree.Or t us) h =
      let x = truths_faultless s operator.Either (truth_of (judge s t)) (at + size t) us (core_back Truth (combined s operator.Either (truth_of (judge s t)) us) h) in
      let y = truth_back at (judge s t) x.0 in
      let a = faults s at t in let b = wants is_truth at (judge s t) in let c = truths_faults s (at + size t) us in
      nil_both a (b ++ c) (faultless s at t y.0) (nil_both b c y.1 x.1)

  indexes_faultless : (s : Scope) (first : ℕ) (j : Option Judged) (at : ℕ) (us : PlainTerms) → IsSome (indexed s j us) → IsSome j × (indexes_faults s first j at us ≡ [])
  indexes_faultless s first j at no_term h = (h, refl)
  indexes_faultless s first j at (more_terms u us) h =
      let e = element_of j (judge s u) in
      let x = indexes_faultless s first e (at + size u + 2) us h in
      let y = element_back first (at + 1) j (judge s u) x.0 in
      let a = faults s (at + 1) u in let b = index_faults first (at + 1) j (judge s u) in let c = indexes_faults s first e (at + size u + 2) us in
      (y.0.0, nil_both a (b ++ c) (faultless s (at + 1) u y.0.1) (nil_both b c y.1 x.1))

  factors_faultless : (s : Scope) (v : Option TermTree) (at : ℕ) (fs : PlainFactors) → IsSome (multiplied s v fs) → IsSome v × (factors_faults s at fs ≡ [])
  factors_faultless s v at no_factor h = (h, refl)
  factors_faultless s v at (more_factors (tree.Times u) fs) h =
      let x = factors_faultless s (joined operator.Times v (whole_of (judge s u))) (at + size u + 1) fs h in
      let y = joined_back operator.Times v (whole_of (judge s u)) x.0 in
      let z = whole_back (at + 1) (judge s u) y.1 in
      let a = faults s (at + 1) u in let b = wants is_whole (at + 1) (judge s u) in let c = factors_faults s (at + size u + 1) fs in
      (y.0, nil_both a (b ++ c) (faultless s (at + 1) u z.0) (nil_both b c z.1 x.1))
  factors_faultless s v at (more_factors (tree.Modulo n) fs) h =
      let x = factors_faultless s (modulo_of n v) (at + 2) fs h in
      let y = modulo_back (at + 1) n v x.0 in
      (y.0, nil_both (where_wrong (nat_eq n 0) (at + 1) 12) (factors_faults s (at + 2) fs) y.1 x.1)

  addends_faultless : (s : Scope) (v : Option TermTree) (at : ℕ) (us : PlainAddends) → IsSome (added s v us) → IsSome v × (addends_faults s at us ≡ [])
  addends_faultless s v at no_addend h = (h, refl)
  addends_faultless s v at (more_addends g u us) h =
      let x = addends_faultless s (joined (operator_of g) v (whole_of (judge s u))) (at + size u + 1) us h in
      let y = joined_back (operator_of g) v (whole_of (judge s u)) x.0 in
      let z = whole_back (at + 1) (judge s u) y.1 in
      let a = faults s (at + 1) u in let b = wants is_whole (at + 1) (judge s u) in let c = addends_faults s (at + size u + 1) us in
      (y.0, nil_both a (b ++ c) (faultless s (at + 1) u z.0) (nil_both b c z.1 x.1))

  truths_faultless : (s : Scope) (o : Operator) (v : Option TermTree) (at : ℕ) (us : PlainTerms) → IsSome (combined s o v us) → IsSome v × (truths_faults s at us ≡ [])
  truths_faultless s o v at no_term h = (h, refl)
  truths_faultless s o v at (more_terms u us) h =
      let x = truths_faultless s o (joined o v (truth_of (judge s u))) (at + size u + 1) us h in
      let y = joined_back o v (truth_of (judge s u)) x.0 in
      let z = truth_back (at + 1) (judge s u) y.1 in
      let a = faults s (at + 1) u in let b = wants is_truth (at + 1) (judge s u) in let c = truths_faults s (at + size u + 1) us in
      (y.0, nil_both a (b ++ c) (faultless s (at + 1) u z.0) (nil_both b c z.1 x.1))
