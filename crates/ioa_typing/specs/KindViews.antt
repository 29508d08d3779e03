-- Kinds without where they lie in memory.
use Rattle.std.specs.Prelude.{ℕ, min, Option, Some, None}
use Rattle.ioa_typing.specs.declared.kind.Kind.{Kind}
use Rattle.ioa_typing.specs.declared.kind.Kind.TheOpen.{Kind-F}
use Rattle.ioa_typing.specs.declared.kind.Kind.TheOpen as k
use Rattle.ioa_typing.specs.declared.kind.Kind.TheFolds.{fold-Kind}
use Rattle.ioa_typing.specs.declared.shape.Shape.{Shape}
use Rattle.ioa_typing.specs.declared.shape.Shape.TheVariants as h
use Rattle.ioa_trees.specs.Kinds as plain
use Rattle.ioa_trees.specs.Kinds.{Truth, Whole, Range, Enum, SeqOf, ArrayOf}

abbrev pub kind_step : Kind-F plain.Kind → plain.Kind
kind_step k.Truth = Truth
kind_step k.Whole = Whole
kind_step (k.Range a b) = Range a b
kind_step (k.Enumeration e n) = Enum e n
kind_step (k.Seq t n) = SeqOf t.value n
kind_step (k.Array r t) = ArrayOf r.value t.value

abbrev pub kind_tree : Kind → plain.Kind
kind_tree = fold-Kind plain.Kind kind_step

abbrev pub option_tree : Option Kind → Option plain.Kind
option_tree None = None
option_tree (Some k) = Some (kind_tree k)

-- a kind that was taken apart once
abbrev pub shape_tree : Shape → plain.Kind
shape_tree h.Truth = Truth
shape_tree h.Whole = Whole
shape_tree (h.Range a b) = Range a b
shape_tree (h.Enumeration e n) = Enum e n
shape_tree (h.Seq t n) = SeqOf (kind_tree t.now) n
shape_tree (h.Array r t) = ArrayOf (kind_tree r.now) (kind_tree t.now)

-- a number as it is counted: all above every limit are one
abbrev pub capped : ℕ → ℕ
capped n = min n 65537
