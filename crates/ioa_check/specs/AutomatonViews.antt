-- Sets of names, tasks and cells without where they lie in memory.
use Rattle.std.specs.Prelude.{ℕ, Option, List, Vec, map, string_bytes}
use Rattle.std.specs.Global.{Global}
use Rattle.terms.specs.TermTree.{TermTree}
use Rattle.ioa_trees.specs.Kinds.{Kind}
use Rattle.ioa_typing.specs.KindViews.{option_tree}
use Rattle.ioa_typing.specs.TermViews.{core_tree}
use Rattle.ioa_check.specs.declared.used.Used.{Used}
use Rattle.ioa_check.specs.declared.variables.Cell.{Cell}

-- the names of a set, in the order in which they came
abbrev pub used_names : Used → List (List ℕ)
used_names u = map string_bytes u.names.keys

-- the places of each task
abbrev pub place_lists : List (Vec ℕ Global) → List (List ℕ)
place_lists ts = map (λ t. t.items) ts

-- what the type of a state variable means, and its start value
abbrev pub cell_kind : Cell → Option Kind
cell_kind c = option_tree c.kind

abbrev pub cell_start : Cell → Option TermTree
cell_start c = core_tree c.start
