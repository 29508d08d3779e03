-- Faults, terms and kinds without where they lie in memory.
use Rattle.std.specs.Prelude.{Option, Some, None}
use Rattle.terms.specs.declared.term.Term.{Term}
use Rattle.terms.specs.TermTree.{TermTree, term_tree}
use Rattle.ioa_typing.specs.FaultNumbers.{fault_number}
use Rattle.ioa_typing.specs.KindViews.{shape_tree}
use Rattle.ioa_trees.specs.Faults as plain
use Rattle.ioa_trees.specs.TermRules.{Judged}
use Rattle.ioa_typing.specs.declared.typed.Typed.{Typed}
use Rattle.ioa_typing.specs.declared.fault.Fault.{Fault}

abbrev pub fault_tree : Fault → plain.Fault
fault_tree f = record { place = f.place; number = fault_number f.kind }

abbrev pub least_tree : Option Fault → Option plain.Fault
least_tree None = None
least_tree (Some f) = Some (fault_tree f)

abbrev pub typed_tree : Typed → Judged
typed_tree t = record { core = term_tree t.core; kind = shape_tree t.shape }

abbrev pub judged_tree : Option Typed → Option Judged
judged_tree None = None
judged_tree (Some t) = Some (typed_tree t)

abbrev pub core_tree : Option Term → Option TermTree
core_tree None = None
core_tree (Some t) = Some (term_tree t)
