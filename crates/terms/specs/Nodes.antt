-- What a node stands for.
use Rattle.terms.specs.Datum.{Datum, Just, pack}
use Rattle.terms.specs.declared.value.Node.{Node}
use Rattle.terms.specs.declared.value.Node.TheVariants.{Scalar, Items}

-- the value of a node
abbrev pub datum : Node → Datum
datum (Scalar scalar) = Just scalar
datum (Items items) = pack items.items
