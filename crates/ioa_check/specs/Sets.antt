-- Names of a set, whatever their order and however often they stand.
use Rattle.std.specs.Prelude.{◌≡◌, ◌||◌, bytes_eq, List}
use Rattle.std.specs.List.{list_any}
use Rattle.ioa_trees.specs.Trees.{Bytes}

-- the same names
abbrev pub AreNames : List Bytes → List Bytes → Type 0
AreNames names others = (q : Bytes) → list_any (bytes_eq q) names ≡ list_any (bytes_eq q) others

-- the names of a set to which some were added
abbrev pub Adds : List Bytes → List Bytes → List Bytes → Type 0
Adds after names before = (q : Bytes) → list_any (bytes_eq q) after ≡ (list_any (bytes_eq q) names || list_any (bytes_eq q) before)
