-- Turns of two lists put together.
use Rattle.std.specs.Prelude.{cond, nat_lt, List, [], ◌∷◌}
use Rattle.virtual_time.specs.Reference.{Turn}

-- The turn in its place among these, the greatest key first.
abbrev pub put_turn : {A : Type 0} → Turn A → List (Turn A) → List (Turn A)
put_turn t [] = t ∷ []
put_turn t (u ∷ us) = cond (nat_lt u.key t.key) (t ∷ u ∷ us) (u ∷ put_turn t us)

-- Each of the first turns in its place among the others.
abbrev pub put_turns : {A : Type 0} → List (Turn A) → List (Turn A) → List (Turn A)
put_turns [] us = us
put_turns (t ∷ ts) us = put_turns ts (put_turn t us)
