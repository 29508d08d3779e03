-- The gaps of turns.
use Rattle.std.specs.Prelude.{nat_le, Bool, List}
use Rattle.std.specs.List.{list_all}
use Rattle.std.specs.declared.vec.Vec.{Vec}
use Rattle.task_seed.specs.declared.turns.Turn.{Turn}

-- the gap is 0 to 65,535
abbrev pub is_in_range : Turn → Bool
is_in_range turn = nat_le turn.gap 65535

-- so are all
abbrev pub all_in_range : {A : Type 0} → List (Vec Turn A) → Bool
all_in_range lists = list_all (λ turns. list_all is_in_range turns.items) lists
