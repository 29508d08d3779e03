-- A type as a tree, wherever it lies in memory.
use Rattle.std.specs.Prelude.{ℕ, ℤ}
use Rattle.terms.specs.declared.scalar.Listed.{Listed as ListedType}
use Rattle.terms.specs.declared.scalar.Shape.{Shape}
use Rattle.terms.specs.declared.scalar.Shape.TheVariants as shape

-- the types, as the code's type has them
pub data ShapeTree : Type 0 where
  Int : ShapeTree
  Range : (low high : ℤ) → ShapeTree
  Listed : (listed : ListedType) → ShapeTree
  Seq : (item : ShapeTree) (room : ℕ) → ShapeTree
  Array : (index : ListedType) (item : ShapeTree) → ShapeTree

-- the tree that a type of the code stands for
abbrev pub shape_tree : Shape → ShapeTree
shape_tree shape.Int = Int
shape_tree (shape.Range low high) = Range low high
shape_tree (shape.Listed listed) = Listed listed
shape_tree (shape.Seq' p item room) = Seq (shape_tree item) room
shape_tree (shape.Array' index p item) = Array index (shape_tree item)
