-- The derived comparison of types compares their trees.
use Rattle.std.specs.Prelude.{◌≡◌, ◌&&◌, nat_eq, refl}
use Rattle.std.specs.Bool.{Decides}
use Rattle.std.proofs.Common.{◌∙◌}
use Rattle.std.proofs.lemmas.Bool.Decides.{Decides-at}
use Rattle.terms.specs.ShapeTree.{shape_tree}
use Rattle.terms.specs.SameTrees.{same_shape}
use Rattle.terms.specs.SameTreeLaws.{shape_decides}
use Rattle.terms.specs.declared.scalar.Shape.{Shape}
use Rattle.terms.specs.declared.scalar.Shape.TheVariants as shape
use Rattle.terms.specs.contracts.scalar.ListedPartialEq.TheImpl as listed_eq
use Rattle.terms.specs.contracts.scalar.ShapePartialEq.TheImpl as shape_eq
use Rattle.terms.specs.contracts.scalar.ShapePartialEq.TheImpl.Laws as shape_laws

shapes_by : (a b : Shape) → shape_laws.unfolded a b ≡ same_shape (shape_tree a) (shape_tree b) → shape_eq.ghosts.eq a b ≡ same_shape (shape_tree a) (shape_tree b)
shapes_by a b step = shape_laws.is a b ∙ step

pub same_shapes : (a b : Shape) → shape_eq.ghosts.eq a b ≡ same_shape (shape_tree a) (shape_tree b)
same_shapes (shape.Seq' p item room) (shape.Seq' q item' room') =
    let same = same_shapes item item' in
    shapes_by (shape.Seq' p item room) (shape.Seq' q item' room') (λ i. same i && nat_eq room room')
same_shapes (shape.Array' index p item) (shape.Array' index' q item') =
    let same = same_shapes item item' in
    shapes_by (shape.Array' index p item) (shape.Array' index' q item') (λ i. listed_eq.ghosts.eq index index' && same i)
same_shapes shape.Int shape.Int = shapes_by shape.Int shape.Int refl
same_shapes (shape.Range low high) (shape.Range low' high') = shapes_by (shape.Range low high) (shape.Range low' high') refl
same_shapes (shape.Listed index) (shape.Listed index') = shapes_by (shape.Listed index) (shape.Listed index') refl
same_shapes one other = shapes_by one other refl

pub equal_shapes : (a b : Shape) → Decides (shape_eq.ghosts.eq a b) (shape_tree a ≡ shape_tree b)
equal_shapes a b = Decides-at (shape_eq.ghosts.eq a b) (same_shape (shape_tree a) (shape_tree b)) (same_shapes a b) (shape_decides (shape_tree a) (shape_tree b))

pub ruleset derived_same = (same_shapes)
