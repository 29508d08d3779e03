-- The faults that a check notes.
use Rattle.std.specs.Prelude.{◌≡◌, List}
use Rattle.ioa_trees.specs.Faults.{Fault, keep}
use Rattle.ioa_typing.specs.TermViews.{least_tree}
use Rattle.ioa_typing.specs.declared.progress.Progress.{Progress}

-- these faults are noted between the two
abbrev pub AreNoted : Progress → Progress → List Fault → Type 0
AreNoted before after faults = least_tree after.least ≡ keep (least_tree before.least) faults
