-- Writing piece by piece.
use Rattle.std.proofs.Common.{◌≡◌, ◌+◌, ℕ, zero, suc, List, [], ◌∷◌, ◌++◌, length, refl, ap, ◌∙◌, add-one, arith, Result, Ok, Err, OnOk}
use Rattle.ioa_tokens.specs.Bytes.{Text}
use Rattle.ioa_tokens.specs.Cutting.{Part}
use Rattle.ioa_layout.specs.declared.gap.Gap.{Gap}
use Rattle.ioa_layout.specs.Gaps.{blanks, following}

last_blank : (n : ℕ) → blanks (suc n) ≡ blanks n ++ 32 ∷ []
last_blank zero = refl
last_blank (suc n) = ap (λ t. 32 ∷ t) (last_blank n)

pub blanks_more : (n : ℕ) → blanks (n + 1) ≡ blanks n ++ 32 ∷ []
blanks_more n = ap blanks (add-one n) ∙ last_blank n

pub following_none : (qs : List Part) (gs : List Gap) → length gs ≡ 0 → following qs gs ≡ 10 ∷ []
following_none [] gs h = refl
following_none (q ∷ qs) [] h = refl
following_none (q ∷ qs) (g ∷ gs) h = absurd (omega arith)

pub ok_along : {X E : Type 0} (r : Result X E) (a b c : Text) → OnOk r (a ≡ b) → b ≡ c → OnOk r (a ≡ c)
ok_along (Ok x) a b c h e = h ∙ e
ok_along (Err x) a b c h e = tt
