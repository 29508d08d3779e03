-- Commands without global arguments, and answers of nothing.
use Rattle.std.specs.Prelude.{◌≡◌, Bool, true, false, not, ◌&&◌, refl, Option, None, MatchOption}
use Rattle.std.proofs.Common.{subst, sym}

-- what stands third in a chain that holds
pub third : (a b c rest : Bool) → (a && (b && (not c && rest))) ≡ true → c ≡ false
third true true false rest h = refl
third true true true rest h = cc
third true false c rest h = cc
third false b c rest h = cc

-- nothing, and why
pub nothing : {X : Type 0} (r : Option X) (P : Type 0) (Q : X → Type 0) → r ≡ None → P → MatchOption r P Q
nothing r P Q is why = subst (λ o. MatchOption o P Q) (sym is) why
