-- The longest token is taken.
use Rattle.std.proofs.Common.{◌≡◌, ℕ, [], ◌∷◌, ◌++◌, length, true, false, refl, sym, ◌∙◌, ap, subst, arith, inl, inr, append-nil, length-append}
use Rattle.std.proofs.lemmas.Bool.{cases_Bool, eqb-true}
use Rattle.std.specs.Prelude.{◌==◌, ◌&&◌, if◌then◌else◌}
use Rattle.ioa_tokens.specs.declared.word.Word.{Word}
use Rattle.ioa_tokens.specs.declared.word.Word.TheVariants as w
use Rattle.ioa_tokens.specs.Bytes.{Text, is_word_byte}
use Rattle.ioa_tokens.specs.Tokens.{Tok, Key}
use Rattle.ioa_tokens.specs.Spelling.{spelling, is_reserved, takes_equal, IsToken, goes_on}
use Rattle.ioa_tokens.specs.Cutting.{Mark}
use Rattle.ioa_tokens.specs.Finding.{front, found}
use Rattle.ioa_tokens.proofs.Fronts.{piece_found, found_len}

-- a token that ended there would be found in place of the longer one
pub longer_goes_on : (t u : Tok) (text rest : Text) (b : ℕ) → IsToken t text → IsToken u (text ++ b ∷ rest) → goes_on t b ≡ true
longer_goes_on t u text rest b h k = elim (cases_Bool (goes_on t b)) [
  | inl yes_on ↦ yes_on
  | inr off ↦ (let short : front (text ++ b ∷ rest) ≡ found (Mark t) (length text) = piece_found (Mark t) text (b ∷ rest) h (rw off refl) in
      let long : front ((text ++ b ∷ rest) ++ []) ≡ found (Mark u) (length (text ++ b ∷ rest)) = piece_found (Mark u) (text ++ b ∷ rest) [] k refl in
      let same : length text ≡ length (text ++ b ∷ rest) = found_len (Mark t) (Mark u) (length text) (length (text ++ b ∷ rest))
      (sym short ∙ ap front (sym (append-nil (text ++ b ∷ rest))) ∙ long) in
      absurd (omega (arith, length-append text (b ∷ rest))))
]

sign_with_equal : (v : Word) (b : ℕ) → (takes_equal v && b == 61) ≡ true → (u : Word) × (spelling u ≡ spelling v ++ b ∷ [])
sign_with_equal w.Type b e = absurd (cc)
sign_with_equal w.Enumeration b e = absurd (cc)
sign_with_equal w.Of b e = absurd (cc)
sign_with_equal w.Automaton b e = absurd (cc)
sign_with_equal w.Signature b e = absurd (cc)
sign_with_equal w.Input b e = absurd (cc)
sign_with_equal w.Output b e = absurd (cc)
sign_with_equal w.Internal b e = absurd (cc)
sign_with_equal w.Const b e = absurd (cc)
sign_with_equal w.States b e = absurd (cc)
sign_with_equal w.Transitions b e = absurd (cc)
sign_with_equal w.Pre b e = absurd (cc)
sign_with_equal w.Eff b e = absurd (cc)
sign_with_equal w.Tasks b e = absurd (cc)
sign_with_equal w.Components b e = absurd (cc)
sign_with_equal w.If b e = absurd (cc)
sign_with_equal w.Then b e = absurd (cc)
sign_with_equal w.Elseif b e = absurd (cc)
sign_with_equal w.Else b e = absurd (cc)
sign_with_equal w.Fi b e = absurd (cc)
sign_with_equal w.For b e = absurd (cc)
sign_with_equal w.Do b e = absurd (cc)
sign_with_equal w.Od b e = absurd (cc)
sign_with_equal w.Empty b e = absurd (cc)
sign_with_equal w.Fill b e = absurd (cc)
sign_with_equal w.Head b e = absurd (cc)
sign_with_equal w.Tail b e = absurd (cc)
sign_with_equal w.Len b e = absurd (cc)
sign_with_equal w.Append b e = absurd (cc)
sign_with_equal w.True b e = absurd (cc)
sign_with_equal w.False b e = absurd (cc)
sign_with_equal w.And b e = absurd (cc)
sign_with_equal w.Or b e = absurd (cc)
sign_with_equal w.Not b e = absurd (cc)
sign_with_equal w.Mod b e = absurd (cc)
sign_with_equal w.Bool b e = absurd (cc)
sign_with_equal w.Int b e = absurd (cc)
sign_with_equal w.Seq b e = absurd (cc)
sign_with_equal w.Array b e = absurd (cc)
sign_with_equal w.Idle b e = absurd (cc)
sign_with_equal w.Hidden b e = absurd (cc)
sign_with_equal w.Assign b e = absurd (cc)
sign_with_equal w.DotDot b e = absurd (cc)
sign_with_equal w.Colon b e = (w.Assign, ap (λ x. 58 ∷ x ∷ []) (sym (eqb-true b 61 e)))
sign_with_equal w.Comma b e = absurd (cc)
sign_with_equal w.Semicolon b e = absurd (cc)
sign_with_equal w.Open b e = absurd (cc)
sign_with_equal w.Close b e = absurd (cc)
sign_with_equal w.OpenBracket b e = absurd (cc)
sign_with_equal w.CloseBracket b e = absurd (cc)
sign_with_equal w.OpenBrace b e = absurd (cc)
sign_with_equal w.CloseBrace b e = absurd (cc)
sign_with_equal w.Equal b e = absurd (cc)
sign_with_equal w.NotEqual b e = absurd (cc)
sign_with_equal w.Less b e = (w.AtMost, ap (λ x. 60 ∷ x ∷ []) (sym (eqb-true b 61 e)))
sign_with_equal w.AtMost b e = absurd (cc)
sign_with_equal w.Greater b e = (w.AtLeast, ap (λ x. 62 ∷ x ∷ []) (sym (eqb-true b 61 e)))
sign_with_equal w.AtLeast b e = absurd (cc)
sign_with_equal w.Plus b e = absurd (cc)
sign_with_equal w.Minus b e = absurd (cc)
sign_with_equal w.Times b e = absurd (cc)

pub longer_sign : (v : Word) (b : ℕ) → is_reserved v ≡ false → goes_on (Key v) b ≡ true → (u : Word) × (spelling u ≡ spelling v ++ b ∷ [])
longer_sign v b h e = sign_with_equal v b (subst (λ t. (if t then is_word_byte b else takes_equal v && b == 61) ≡ true) h e)
