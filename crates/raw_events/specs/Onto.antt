-- Lists that are turned over, as a cursor turns what it passes.
use Rattle.std.specs.Prelude.{◌≡◌, List, [], ◌∷◌, ◌++◌, reverse}
use Rattle.std.proofs.Common.{refl}
use mathlib.Core.List.{reverse_aux}

-- the items of a list, one by one put in front of another
abbrev pub onto : {X : Type 0} → List X → List X → List X
onto [] ys = ys
onto (x ∷ xs) ys = onto xs (x ∷ ys)

-- it is the list turned round, and the other one
pub reversed_onto : {X : Type 0} (xs ys : List X) → reverse xs ++ ys ≡ onto xs ys
reversed_onto {X = X} xs ys = go xs [] ys
  where
    go : (xs us ys : List X) → reverse_aux xs us ++ ys ≡ onto xs (us ++ ys)
    go [] us ys = refl
    go (x ∷ xs) us ys = go xs (x ∷ us) ys
