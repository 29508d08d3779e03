-- A term as a tree, wherever it lies in memory.
use Rattle.std.specs.Prelude.{ℕ, ℤ, List, [], ◌∷◌}
use Rattle.terms.specs.ShapeTree.{ShapeTree, shape_tree}
use Rattle.terms.specs.declared.scalar.Listed.{Listed}
use Rattle.terms.specs.declared.scalar.Scalar.{Scalar}
use Rattle.terms.specs.declared.term.Operator.{Operator}
use Rattle.terms.specs.declared.term.Term.{Term}
use Rattle.terms.specs.declared.term.Operand.{Operand}
use Rattle.terms.specs.declared.term.Link.{Link}
use Rattle.terms.specs.declared.term.Link.TheOpen.{Term-F, Operand-F, Link-F}
use Rattle.terms.specs.declared.term.Link.TheOpen as code
use Rattle.terms.specs.declared.term.Link.TheFolds.{fold-Term, fold-Operand, fold-Link}

-- the terms, each operator with its operands
pub data TermTree : Type 0 where
  Known : (scalar : Scalar) → TermTree
  Formal : (slot : ℕ) → TermTree
  Parameter : (slot : ℕ) → TermTree
  Loop : (slot : ℕ) → TermTree
  Cell : (slot : ℕ) → TermTree
  Not : (part : TermTree) → TermTree
  Negative : (part : TermTree) → TermTree
  Modulo : (part : TermTree) (divisor : ℤ) → TermTree
  Nearest : (part : TermTree) (low high : ℤ) → TermTree
  Binary : (operator : Operator) (left right : TermTree) → TermTree
  Length : (part : TermTree) → TermTree
  Head : (part : TermTree) (item : ShapeTree) → TermTree
  Tail : (part : TermTree) → TermTree
  Append : (part last : TermTree) (room : ℕ) → TermTree
  Index : (part at : TermTree) (index : Listed) → TermTree
  Empty : TermTree
  Fill : (count : ℕ) (item : TermTree) → TermTree

-- what a term goes on with: an operator with its right operand, or a remainder
pub data LinkTree : Type 0 where
  On : (operator : Operator) (right : TermTree) → LinkTree
  Remainder : (divisor : ℤ) → LinkTree

-- a term and one link behind it
abbrev pub link_on : TermTree → LinkTree → TermTree
link_on term (On operator right) = Binary operator term right
link_on term (Remainder divisor) = Modulo term divisor

-- a term and the links behind it, from the left
abbrev pub linked : TermTree → List LinkTree → TermTree
linked term [] = term
linked term (link ∷ links) = linked (link_on term link) links

-- an operand of the code, with the tree of each inner term in its place
abbrev pub operand_step : Operand-F LinkTree TermTree TermTree → TermTree
operand_step (code.Known scalar) = Known scalar
operand_step (code.Formal slot) = Formal slot
operand_step (code.Parameter slot) = Parameter slot
operand_step (code.Loop slot) = Loop slot
operand_step (code.Cell slot) = Cell slot
operand_step (code.Not part) = Not part.value
operand_step (code.Negative part) = Negative part.value
operand_step (code.Nearest part low high) = Nearest part.value low high
operand_step (code.Length part) = Length part.value
operand_step (code.Head part item) = Head part.value (shape_tree item)
operand_step (code.Tail part) = Tail part.value
operand_step (code.Append part last room) = Append part.value last.value room
operand_step (code.Index part at index) = Index part.value at.value index
operand_step code.Empty = Empty
operand_step (code.Fill count item) = Fill count item.value

abbrev pub link_step : Link-F LinkTree TermTree TermTree → LinkTree
link_step (code.Operator operator right) = On operator right
link_step (code.Modulo divisor) = Remainder divisor

abbrev pub term_step : Term-F LinkTree TermTree TermTree → TermTree
term_step term = linked term.first term.links.items

-- the tree that a term of the code stands for
abbrev pub term_tree : Term → TermTree
term_tree = fold-Term LinkTree TermTree TermTree link_step operand_step term_step

abbrev pub operand_tree : Operand → TermTree
operand_tree = fold-Operand LinkTree TermTree TermTree link_step operand_step term_step

abbrev pub link_tree : Link → LinkTree
link_tree = fold-Link LinkTree TermTree TermTree link_step operand_step term_step
