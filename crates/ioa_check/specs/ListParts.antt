-- Parts of lists.
use Rattle.std.specs.Prelude.{ℕ, Bool, if◌then◌else◌, List, [], ◌∷◌}
use Rattle.ioa_trees.specs.Trees.{Bytes}
use Rattle.ioa_trees.specs.Sizes.{behind, listed_size}

-- the items of a list that are left, the first of all or not
abbrev pub left_size : {A : Type 0} → Bool → (A → ℕ) → List A → ℕ
left_size is_first f xs = if is_first then listed_size f xs else behind f xs

-- the words before the members of an enumeration; one without members, which no source has, would be one word
abbrev pub enumeration_words : List Bytes → ℕ
enumeration_words [] = 1
enumeration_words (q ∷ qs) = 2
