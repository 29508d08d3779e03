-- Partitions of the components of a composition into groups.
use Rattle.std.specs.Prelude.{◌≡◌, ◌<◌, ◌≤◌, ◌+◌, ◌/◌, ◌==◌, ℕ, List, All, cond, count_by, filter, nat_lt, length, slice_index}
use Rattle.std.specs.List.{range_with_len}

-- how many components stand in a group, where the list has of each component its group
abbrev pub size_of : List ℕ → ℕ → ℕ
size_of group_of group = count_by (λ g. g == group) group_of

-- the components that stand in a group, in order
abbrev pub members_of : List ℕ → ℕ → List ℕ
members_of group_of group = filter (λ i. slice_index group_of i == group) (range_with_len 0 (length group_of))

-- Each of so many components stands in one of so many groups, which are numbered from 0, and each group has a member.
pub record IsPartition (components groups : ℕ) (group_of : List ℕ) : Type 0 where
  pub every : length group_of ≡ components
  pub below : All (λ g. g < groups) group_of
  pub filled : (group : ℕ) → group < groups → 0 < size_of group_of group

-- The groups are as even as can be: each has as many members as come to a group on average, rounded down, or one more.
pub record AreEven (groups : ℕ) (group_of : List ℕ) : Type 0 where
  pub least : (group : ℕ) → group < groups → length group_of / groups ≤ size_of group_of group
  pub most : (group : ℕ) → group < groups → size_of group_of group ≤ length group_of / groups + 1

-- how many members a group has where the first groups have one more than the others
abbrev pub block_size : (least greater group : ℕ) → ℕ
block_size least greater group = cond (nat_lt group greater) (least + 1) least
