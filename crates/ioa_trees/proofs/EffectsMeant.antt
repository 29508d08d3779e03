-- Statements without faults have an effect.
use Rattle.std.proofs.Common.{◌≡◌, ℕ, ◌+◌, true, false, not, Option, Some, None, IsSome, nat_le, [], ◌++◌, refl}
use Rattle.terms.specs.TermTree.{TermTree}
use Rattle.terms.specs.EffectTree.{EffectTree}
use Rattle.ioa_trees.specs.Trees as tree
use Rattle.ioa_trees.specs.Trees.{Bytes, PlainTerm, PlainInit, PlainDeclared, PlainStatement, PlainStatements, PlainBranches, no_statement, more_statements, no_branch, more_branches}
use Rattle.ioa_trees.specs.Faults.{where_wrong}
use Rattle.ioa_trees.specs.Kinds.{Kind, Truth, Whole, Range, Enum, SeqOf, ArrayOf, fits, is_truth}
use Rattle.ioa_trees.specs.Scopes.{Scope, Meaning, OfType, OfMember, OfAutomaton, OfComposed, OfFormal, OfVariable, OfParameter, OfLoop, named, doubled, is_value, is_variable}
use Rattle.ioa_trees.specs.Sizes.{type_size, size, at_size, statement_size, statements_size, branches_size}
use Rattle.ioa_trees.specs.TermRules.{Judged, judge, faults, wants, unfit, value_meant, truth_of}
use Rattle.ioa_trees.specs.TypeRules.{kind_of, type_faults, unlisted}
use Rattle.ioa_trees.specs.ValueRules.{put, put_in, inner_faults, misfits, is_misfit}
use Rattle.ioa_trees.specs.EffectRules.{cell_of, cell_kind, item_of, left_kind, assigned, at_item, assignment_of, left_faults, at_faults, assignment_faults, in_order, branch_of, loop_of, in_loop, effect_of, branches_of, effects_of, statement_faults, branches_faults, statements_faults}
use Rattle.ioa_trees.specs.Meant.{AllMeant}
use Rattle.ioa_trees.proofs.NoFaults.{nil_left, nil_right, right_if, not_wrong}
use Rattle.ioa_trees.proofs.TypesMeant.{kind_if, listed_ok}
use Rattle.ioa_trees.proofs.TermsMeant.{judged_if, truth_ok}
use Rattle.ioa_trees.proofs.ValuesMeant.{put_in_if, fitting}
use Rattle.ioa_trees.proofs.ScopesMeant.{with_loop}

-- ---- assignments

cell_ok : (m : Option Meaning) → is_variable m ≡ true → IsSome (cell_of m)
cell_ok None h = cc
cell_ok (Some (OfType k)) h = cc
cell_ok (Some (OfMember a b c)) h = cc
cell_ok (Some (OfAutomaton n)) h = cc
cell_ok (Some OfComposed) h = cc
cell_ok (Some (OfFormal n k)) h = cc
cell_ok (Some (OfVariable n k)) h = refl
cell_ok (Some (OfParameter n k)) h = cc
cell_ok (Some (OfLoop n k)) h = cc

cell_value : (m : Option Meaning) → is_variable m ≡ true → is_value m ≡ true
cell_value None h = cc
cell_value (Some (OfType k)) h = cc
cell_value (Some (OfMember a b c)) h = refl
cell_value (Some (OfAutomaton n)) h = cc
cell_value (Some OfComposed) h = cc
cell_value (Some (OfFormal n k)) h = refl
cell_value (Some (OfVariable n k)) h = refl
cell_value (Some (OfParameter n k)) h = refl
cell_value (Some (OfLoop n k)) h = refl

cell_kind_ok : (m : Option Meaning) → is_variable m ≡ true → IsSome (value_meant m) → IsSome (cell_kind m)
cell_kind_ok None h i = cc
cell_kind_ok (Some (OfType k)) h i = cc
cell_kind_ok (Some (OfMember a b c)) h i = cc
cell_kind_ok (Some (OfAutomaton n)) h i = cc
cell_kind_ok (Some OfComposed) h i = cc
cell_kind_ok (Some (OfFormal n k)) h i = cc
cell_kind_ok (Some (OfVariable n None)) h i = i
cell_kind_ok (Some (OfVariable n (Some k))) h i = refl
cell_kind_ok (Some (OfParameter n k)) h i = cc
cell_kind_ok (Some (OfLoop n k)) h i = cc

assigned_ok : (n : Option ℕ) (v : Option TermTree) → IsSome n → IsSome v → IsSome (assigned n v)
assigned_ok None v h i = h
assigned_ok (Some n) None h i = i
assigned_ok (Some n) (Some v) h i = refl

item_ok : (n : ℕ) (r k : Kind) (at : ℕ) (u : Option Judged) (v : Option TermTree) → IsSome u → IsSome v → unfit r at u ≡ [] → IsSome (at_item (Some n) (Some (ArrayOf r k)) u v)
item_ok n r k at None v h i e = h
item_ok n r k at (Some u) None h i e = i
item_ok n r k at (Some u) (Some v) h i e = rw (right_if (fits r u.kind) at 12 e) refl

at_item_ok : (s : Scope) → AllMeant s → (n : Option ℕ) (k : Option Kind) (i : PlainTerm) (v : PlainInit) (at place : ℕ) → IsSome n → IsSome k → IsSome (judge s i) → left_faults s at k (Some i) ≡ [] → inner_faults s place v ≡ [] → misfits s (item_of k) 0 v ≡ [] → IsSome (at_item n k (judge s i) (put_in s (item_of k) v))
at_item_ok s m None k i v at place a b c d e f = a
at_item_ok s m (Some n) None i v at place a b c d e f = b
at_item_ok s m (Some n) (Some (ArrayOf r k)) i v at place a b c d e f = item_ok n r k (at + 2) (judge s i) (put s k v) c (put_in_if s m (Some k) refl place 0 v e f) d
at_item_ok s m (Some n) (Some Truth) i v at place a b c d e f = cc
at_item_ok s m (Some n) (Some Whole) i v at place a b c d e f = cc
at_item_ok s m (Some n) (Some (Range x y)) i v at place a b c d e f = cc
at_item_ok s m (Some n) (Some (Enum x y)) i v at place a b c d e f = cc
at_item_ok s m (Some n) (Some (SeqOf k x)) i v at place a b c d e f = cc

assignment_by : (s : Scope) → AllMeant s → (m : Option Meaning) → is_variable m ≡ true → IsSome (value_meant m) → (at place : ℕ) (i : Option PlainTerm) (v : PlainInit) → at_faults s (at + 1) i ≡ [] → inner_faults s place v ≡ [] → left_faults s at (cell_kind m) i ≡ [] → is_misfit s (left_kind (cell_kind m) i) v ≡ false → IsSome (assignment_of s m i v)
assignment_by s a m h j at place None v b c d e = assigned_ok (cell_of m) (put_in s (cell_kind m) v) (cell_ok m h) (put_in_if s a (cell_kind m) (cell_kind_ok m h j) place 0 v c (fitting s (cell_kind m) v e))
assignment_by s a m h j at place (Some i) v b c d e = at_item_ok s a (cell_of m) (cell_kind m) i v at place (cell_ok m h) (cell_kind_ok m h j) (judged_if s a (at + 1 + 1) i b) d c (fitting s (item_of (cell_kind m)) v e)

-- an assignment without faults has an effect
pub assignment_if : (s : Scope) → AllMeant s → (at : ℕ) (q : Bytes) (i : Option PlainTerm) (v : PlainInit) → assignment_faults s at q i v ≡ [] → IsSome (assignment_of s (named q s) i v)
assignment_if s m at q i v h =
    let k = cell_kind (named q s) in
    let w = is_misfit s (left_kind k i) v in
    let a = where_wrong (not (is_variable (named q s))) at 10 in let b = at_faults s (at + 1) i in let c = inner_faults s (at + at_size i + 2) v in
    let d = left_faults s at k i in let e = where_wrong w at 12 in
    let x = right_if (is_variable (named q s)) at 10 (nil_left a (b ++ (c ++ (d ++ e))) h) in
    let f = nil_right a (b ++ (c ++ (d ++ e))) h in
    let g = nil_right b (c ++ (d ++ e)) f in
    let j = nil_right c (d ++ e) g in
    assignment_by s m (named q s) x (m.values q (cell_value (named q s) x)) at (at + at_size i + 2) i v (nil_left b (c ++ (d ++ e)) f) (nil_left c (d ++ e) g) (nil_left d e j) (not_wrong w at 12 (nil_right d e j))

-- ---- statements

in_order_ok : (a b : Option EffectTree) → IsSome a → IsSome b → IsSome (in_order a b)
in_order_ok None b h i = h
in_order_ok (Some a) None h i = i
in_order_ok (Some a) (Some b) h i = refl

branch_ok : (c : Option TermTree) (a b : Option EffectTree) → IsSome c → IsSome a → IsSome b → IsSome (branch_of c a b)
branch_ok None a b h i j = h
branch_ok (Some c) None b h i j = i
branch_ok (Some c) (Some a) None h i j = j
branch_ok (Some c) (Some a) (Some b) h i j = refl

loop_ok : (n at : ℕ) (k : Option Kind) (a : Option EffectTree) → IsSome k → IsSome a → unlisted at k ≡ [] → IsSome (loop_of n k a)
loop_ok n at None a h i e = h
loop_ok n at (Some k) None h i e = i
loop_ok n at (Some k) (Some a) h i e = rw (listed_ok at k e) refl

-- a scope stays meant in a loop whose type has a kind
pub meant_in_loop : (s : Scope) (n : ℕ) (d : PlainDeclared) → AllMeant s → IsSome (kind_of s d.of) → AllMeant (in_loop s n d)
meant_in_loop s n d m h = with_loop d.name n (kind_of s d.of) s m h

mutual
  -- a statement without faults has an effect
  pub effect_if : (s : Scope) → AllMeant s → (n at : ℕ) (a : PlainStatement) → statement_faults s n at a ≡ [] → IsSome (effect_of s n a)
  effect_if s m n at (tree.Assign q i v) h = assignment_if s m at q i v h
  effect_if s m n at (tree.If bs ss) h =
      let p = at + branches_size bs + 1 in
      let a = branches_faults s n at bs in let b = statements_faults s n p ss in
      branches_if s m n at bs (nil_left a b h) (effects_of s n ss) (effects_if s m n p ss (nil_right a b h))
  effect_if s m n at (tree.For d ss) h =
      let p = at + type_size d.of + 4 in let k = kind_of s d.of in let r = in_loop s n d in
      let a = where_wrong (nat_le 3 n) at 17 in let b = doubled s (at + 1) d.name in let c = type_faults s (at + 3) d.of in
      let e = unlisted (at + 3) k in let f = statements_faults r (n + 1) p ss in
      let u = nil_right a (b ++ (c ++ (e ++ f))) h in
      let v = nil_right b (c ++ (e ++ f)) u in
      let w = nil_right c (e ++ f) v in
      let i = kind_if s m (at + 3) d.of (nil_left c (e ++ f) v) in
      loop_ok n (at + 3) k (effects_of r (n + 1) ss) i (effects_if r (meant_in_loop s n d m i) (n + 1) p ss (nil_right e f w)) (nil_left e f w)

  branches_if : (s : Scope) → AllMeant s → (n at : ℕ) (bs : PlainBranches) → branches_faults s n at bs ≡ [] → (o : Option EffectTree) → IsSome o → IsSome (branches_of s n bs o)
  branches_if s m n at no_branch h o i = i
  branches_if s m n at (more_branches t ss bs) h o i =
      let p = at + size t + 2 in let q = at + size t + statements_size ss + 2 in
      let a = faults s (at + 1) t in let b = wants is_truth (at + 1) (judge s t) in
      let c = statements_faults s n p ss in let d = branches_faults s n q bs in
      let u = nil_right a (b ++ (c ++ d)) h in
      let v = nil_right b (c ++ d) u in
      let w = truth_ok (at + 1) (judge s t) (judged_if s m (at + 1) t (nil_left a (b ++ (c ++ d)) h)) (nil_left b (c ++ d) u) in
      branch_ok (truth_of (judge s t)) (effects_of s n ss) (branches_of s n bs o) w (effects_if s m n p ss (nil_left c d v)) (branches_if s m n q bs (nil_right c d v) o i)

  -- statements without faults have an effect
  pub effects_if : (s : Scope) → AllMeant s → (n at : ℕ) (ss : PlainStatements) → statements_faults s n at ss ≡ [] → IsSome (effects_of s n ss)
  effects_if s m n at no_statement h = refl
  effects_if s m n at (more_statements a no_statement) h =
      effect_if s m n at a (nil_left (statement_faults s n at a) [] h)
  effects_if s m n at (more_statements a (more_statements b others)) h =
      let p = at + statement_size a + 1 in
      let c = statement_faults s n at a in let d = statements_faults s n p (more_statements b others) in
      in_order_ok (effect_of s n a) (effects_of s n (more_statements b others)) (effect_if s m n at a (nil_left c d h)) (effects_if s m n p (more_statements b others) (nil_right c d h))
