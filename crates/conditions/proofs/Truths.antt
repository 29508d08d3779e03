-- Truth values joined by `and`, `or` and `not`.
use Rattle.std.specs.Prelude.{◌≡◌, Bool as Truth, true, false, not, ◌&&◌, ◌||◌, refl}
use Rattle.conditions.specs.Conditions.{turned}
use Rattle.conditions.specs.Branches.{joined}

pub and_true : (a : Truth) → a && true ≡ a
and_true true = refl
and_true false = refl

pub or_false : (a : Truth) → a || false ≡ a
or_false true = refl
or_false false = refl

pub and_false : (a : Truth) → a && false ≡ false
and_false true = refl
and_false false = refl

pub and_assoc : (a b c : Truth) → (a && b) && c ≡ a && (b && c)
and_assoc true b c = refl
and_assoc false b c = refl

pub or_assoc : (a b c : Truth) → (a || b) || c ≡ a || (b || c)
or_assoc true b c = refl
or_assoc false b c = refl

-- a branch with each of others, the first of them apart
pub spread : (all a b c : Truth) → (all || (a && b)) || (a && c) ≡ all || (a && (b || c))
spread true a b c = refl
spread false true b c = refl
spread false false b c = refl

-- each branch of one list with those of another, the first of them apart
pub spread_both : (all a b c : Truth) → (all || (a && c)) || (b && c) ≡ all || ((a || b) && c)
spread_both true a b c = refl
spread_both false true b true = refl
spread_both false true true false = refl
spread_both false true false false = refl
spread_both false false b c = refl

pub turned_not : (is b : Truth) → turned (not is) b ≡ turned is (not b)
turned_not true b = refl
turned_not false true = refl
turned_not false false = refl

-- where both have to be true both are, and where they have to be false one is
pub turned_both : (is a b : Truth) → joined is (turned is a) (turned is b) ≡ turned is (a && b)
turned_both true a b = refl
turned_both false true b = refl
turned_both false false b = refl

pub turned_either : (is a b : Truth) → joined (not is) (turned is a) (turned is b) ≡ turned is (a || b)
turned_either true a b = refl
turned_either false true b = refl
turned_either false false b = refl
