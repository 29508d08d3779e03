-- What is put in a place: its meaning there, and its faults.
use Rattle.std.specs.Prelude.{ℕ, ◌+◌, Bool, true, false, not, Option, Some, None, if◌then◌else◌, List, [], ◌∷◌}
use Rattle.terms.specs.TermTree as core
use Rattle.terms.specs.TermTree.{TermTree}
use Rattle.ioa_trees.specs.Trees as tree
use Rattle.ioa_trees.specs.Trees.{PlainInit}
use Rattle.ioa_trees.specs.Faults.{Fault, at_fault, where_wrong}
use Rattle.ioa_trees.specs.Kinds.{Kind, Truth, Whole, Range, Enum, SeqOf, ArrayOf, count, fits, small, is_seq, is_array}
use Rattle.ioa_trees.specs.Scopes.{Scope}
use Rattle.ioa_trees.specs.TermRules.{Judged, judge, faults, placed, unfit, on_core}

abbrev pub value_in : Kind → Option Judged → Option TermTree
value_in k None = None
value_in k (Some j) = if fits k j.kind then Some (placed k j.core) else None

-- the value in a place of this kind; nothing where it doesn't fit
abbrev pub put : Scope → Kind → PlainInit → Option TermTree
put s (SeqOf k n) tree.Empty = Some core.Empty
put s Truth tree.Empty = None
put s Whole tree.Empty = None
put s (Range low high) tree.Empty = None
put s (Enum first n) tree.Empty = None
put s (ArrayOf r k) tree.Empty = None
put s (ArrayOf r k) (tree.Fill v) = on_core (core.Fill (small (count r))) (put s k v)
put s Truth (tree.Fill v) = None
put s Whole (tree.Fill v) = None
put s (Range low high) (tree.Fill v) = None
put s (Enum first n) (tree.Fill v) = None
put s (SeqOf k n) (tree.Fill v) = None
put s k (tree.Value t) = value_in k (judge s t)

abbrev pub put_in : Scope → Option Kind → PlainInit → Option TermTree
put_in s None v = None
put_in s (Some k) v = put s k v

-- the faults of the terms inside
abbrev pub inner_faults : Scope → ℕ → PlainInit → List Fault
inner_faults s at tree.Empty = []
inner_faults s at (tree.Fill v) = inner_faults s (at + 2) v
inner_faults s at (tree.Value t) = faults s at t

-- the kind of the elements of an array
abbrev pub item_kind : Kind → Option Kind
item_kind (ArrayOf r k) = Some k
item_kind _ = None

-- 12: the innermost value that doesn't fit its place, at its first token
abbrev pub misfits : Scope → Option Kind → ℕ → PlainInit → List Fault
misfits s None at v = []
misfits s (Some k) at tree.Empty = where_wrong (not (is_seq k)) at 12
misfits s (Some k) at (tree.Fill v) = if is_array k then misfits s (item_kind k) (at + 2) v else at_fault at 12
misfits s (Some k) at (tree.Value t) = unfit k at (judge s t)

abbrev pub has_fault : List Fault → Bool
has_fault [] = false
has_fault (f ∷ fs) = true

-- a value doesn't fit its place
abbrev pub is_misfit : Scope → Option Kind → PlainInit → Bool
is_misfit s k v = has_fault (misfits s k 0 v)
