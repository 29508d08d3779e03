-- Lists of turns, from their last one.
use Rattle.std.specs.Prelude.{ℕ, Bool, false, not, nat_lt, List, [], ◌∷◌}
use Rattle.event_keys.specs.declared.outcome.Turned.{Turned}
use Rattle.event_keys.specs.Ranks.{rank}

-- there is a last turn, and it is not below a bound
abbrev pub is_last_from : ℕ → List Turned → Bool
is_last_from b [] = false
is_last_from b (t ∷ ts) = not (nat_lt (rank t.key) b)
