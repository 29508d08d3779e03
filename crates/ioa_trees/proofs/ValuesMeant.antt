-- A value without faults that fits its place has a meaning there.
use Rattle.std.proofs.Common.{◌≡◌, ℕ, ◌+◌, true, false, Option, Some, None, IsSome, List, [], ◌∷◌, refl}
use Rattle.terms.specs.TermTree as core
use Rattle.terms.specs.TermTree.{TermTree}
use Rattle.ioa_trees.specs.Trees as tree
use Rattle.ioa_trees.specs.Trees.{PlainInit}
use Rattle.ioa_trees.specs.Faults.{Fault}
use Rattle.ioa_trees.specs.Kinds.{Kind, Truth, Whole, Range, Enum, SeqOf, ArrayOf, count, small, fits}
use Rattle.ioa_trees.specs.Scopes.{Scope}
use Rattle.ioa_trees.specs.TermRules.{Judged, judge, unfit}
use Rattle.ioa_trees.specs.ValueRules.{value_in, put, put_in, inner_faults, misfits, is_misfit}
use Rattle.ioa_trees.specs.Meant.{AllMeant}
use Rattle.ioa_trees.proofs.NoFaults.{right_if}
use Rattle.ioa_trees.proofs.TermsMeant.{judged_if, on_ok}

pub value_ok : (k : Kind) (at : ℕ) (j : Option Judged) → IsSome j → unfit k at j ≡ [] → IsSome (value_in k j)
value_ok k at None h e = h
value_ok k at (Some j) h e = rw (right_if (fits k j.kind) at 12 e) refl

-- a value without faults that fits its place has a meaning
pub put_if : (s : Scope) → AllMeant s → (k : Kind) (at place : ℕ) (v : PlainInit) → inner_faults s at v ≡ [] → misfits s (Some k) place v ≡ [] → IsSome (put s k v)
put_if s m (SeqOf k n) at place tree.Empty h e = refl
put_if s m Truth at place tree.Empty h e = cc
put_if s m Whole at place tree.Empty h e = cc
put_if s m (Range a b) at place tree.Empty h e = cc
put_if s m (Enum a b) at place tree.Empty h e = cc
put_if s m (ArrayOf r k) at place tree.Empty h e = cc
put_if s m (ArrayOf r k) at place (tree.Fill v) h e = on_ok (core.Fill (small (count r))) (put s k v) (put_if s m k (at + 2) (place + 2) v h e)
put_if s m Truth at place (tree.Fill v) h e = cc
put_if s m Whole at place (tree.Fill v) h e = cc
put_if s m (Range a b) at place (tree.Fill v) h e = cc
put_if s m (Enum a b) at place (tree.Fill v) h e = cc
put_if s m (SeqOf k n) at place (tree.Fill v) h e = cc
put_if s m k at place (tree.Value t) h e = value_ok k place (judge s t) (judged_if s m at t h) e

pub put_in_if : (s : Scope) → AllMeant s → (k : Option Kind) → IsSome k → (at place : ℕ) (v : PlainInit) → inner_faults s at v ≡ [] → misfits s k place v ≡ [] → IsSome (put_in s k v)
put_in_if s m None i at place v h e = i
put_in_if s m (Some k) i at place v h e = put_if s m k at place v h e

fitting_by : (s : Scope) (k : Option Kind) (v : PlainInit) (xs : List Fault) → misfits s k 0 v ≡ xs → is_misfit s k v ≡ false → xs ≡ []
fitting_by s k v [] e h = refl
fitting_by s k v (x ∷ xs) e h =
    let wrong : is_misfit s k v ≡ true = rw e refl in
    cc

-- what isn't said not to fit fits
pub fitting : (s : Scope) (k : Option Kind) (v : PlainInit) → is_misfit s k v ≡ false → misfits s k 0 v ≡ []
fitting s k v h = fitting_by s k v (misfits s k 0 v) refl h
