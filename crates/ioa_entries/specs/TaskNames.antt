-- Lists of names.
use Rattle.std.specs.Prelude.{ℕ, List, map, string_bytes, Vec}
use Rattle.std.specs.Global.{Global}
use Rattle.std.specs.declared.string.String.{String}

-- the names of each task
abbrev pub task_names : List (Vec (String Global) Global) → List (List (List ℕ))
task_names ts = map (λ t. map string_bytes t.items) ts
