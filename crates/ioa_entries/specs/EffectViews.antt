-- What is put in a place, and effects, without where they lie in memory.
use Rattle.std.specs.Prelude.{ℕ, Option, Some, None, List, [], if◌then◌else◌}
use Rattle.terms.specs.declared.effect.Effect.{Effect}
use Rattle.terms.specs.EffectTree.{EffectTree, effect_tree}
use Rattle.terms.specs.TermTree.{TermTree}
use Rattle.terms.specs.declared.scalar.Listed.{Listed}
use Rattle.ioa_typing.specs.declared.shape.Shape.{Shape}
use Rattle.ioa_typing.specs.KindViews.{shape_tree}
use Rattle.ioa_trees.specs.Faults.{Fault, at_fault}
use Rattle.ioa_trees.specs.Kinds.{Kind, can_be_listed, listed_of}
use Rattle.ioa_trees.specs.TermRules.{Judged}
use Rattle.ioa_typing.specs.declared.typed.Typed.{Typed}
use Rattle.ioa_typing.specs.TermViews.{core_tree, judged_tree}
use Rattle.ioa_entries.specs.declared.effects.Arm.{Arm}

abbrev pub place_kind : Option Shape → Option Kind
place_kind None = None
place_kind (Some h) = Some (shape_tree h)

-- the fault of a value that doesn't fit, at its place
abbrev pub misfit_faults : Option ℕ → List Fault
misfit_faults None = []
misfit_faults (Some place) = at_fault place 12

abbrev pub done_tree : Option Effect → Option EffectTree
done_tree None = None
done_tree (Some e) = Some (effect_tree e)

abbrev pub arm_tree : Arm → Option TermTree × Option EffectTree
arm_tree a = (core_tree a.test, done_tree a.body)

-- the members over which a loop goes, where they can be listed
abbrev pub members_of : Option Kind → Option Listed
members_of None = None
members_of (Some k) = if can_be_listed k then Some (listed_of k) else None

-- the index of an assignment, where there is one
abbrev pub judged_at : Option (Option Typed) → Option (Option Judged)
judged_at None = None
judged_at (Some j) = Some (judged_tree j)
