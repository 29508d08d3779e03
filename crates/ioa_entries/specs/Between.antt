-- What stands between the items of a list.
use Rattle.std.specs.Prelude.{ℕ, Bool, if◌then◌else◌}

-- the token between two items
abbrev pub between : Bool → ℕ
between is_first = if is_first then 0 else 1
