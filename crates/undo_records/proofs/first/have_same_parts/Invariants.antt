use Rattle.std.proofs.Common.{◌≡◌, drop, length}
use lib.Pointwise.{pointwise}
use Rattle.terms.specs.Datum.{items_of}
use Rattle.terms.specs.Same.{same}
use Rattle.undo_records.specs.Traced.{first_value}
use Rattle.undo_records.proofs.first.have_same_parts.Given as goal

abbrev pub invariant-loop-index : goal.invariant-loop-index
invariant-loop-index l =
    let xs = items_of (first_value l.a) in
    let ys = items_of (first_value l.b) in
    length xs ≡ l.count → length ys ≡ l.count → pointwise same xs ys ≡ pointwise same (drop l.index xs) (drop l.index ys)
