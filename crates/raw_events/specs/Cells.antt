-- What a cell is seen as.
use Rattle.std.specs.Prelude.{◌≡◌, List, [], ◌∷◌, length}
use Rattle.std.proofs.Common.{sym}
use Rattle.std.proofs.Math.Nat.{suc-ne-zero}

-- the item of a list of one
abbrev pub the_only : {X : Type 0} → (xs : List X) → length xs ≡ 1 → X
the_only [] e = absurd (suc-ne-zero 0 (sym e))
the_only (x ∷ xs) e = x
