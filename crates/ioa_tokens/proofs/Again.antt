-- A laid out text is read again.
use Rattle.std.proofs.Common.{◌≡◌, List, [], ◌∷◌, map, Result, Ok, Err, IfOk, IfErr, MatchResult, refl, sym, ◌∙◌, ap, subst}
use Rattle.std.specs.Str.{IsAscii}
use Rattle.ioa_tokens.specs.declared.token.Token.{Token}
use Rattle.ioa_tokens.specs.declared.fault.TokensError.{TokensError}
use Rattle.ioa_tokens.specs.declared.fault.TokensError.TheVariants as fault
use Rattle.ioa_tokens.specs.Bytes.{Text}
use Rattle.ioa_tokens.specs.Tokens.{Tok, tok_of, placed, toks_of}
use Rattle.ioa_tokens.specs.Cutting.{IsTokens, IsFault}
use Rattle.ioa_tokens.specs.Layout.{layout, AreProper}
use Rattle.ioa_tokens.proofs.Ascii.{ascii_or_wide}
use Rattle.ioa_tokens.proofs.Proper.{read_proper}
use Rattle.ioa_tokens.proofs.Layouts.{layout_is_ascii, read_back, layout_is_not_bad}

toks_placed : (ts : List Token) → map (λ p. p.tok) (placed ts) ≡ toks_of ts
toks_placed [] = refl
toks_placed (t ∷ ts) = ap (λ us. tok_of t.kind ∷ us) (toks_placed ts)

pub toks_again : (source : Text) (ts : List Token) (toks : List Tok) → AreProper toks → source ≡ layout toks → IsTokens source (placed ts) → toks_of ts ≡ toks
toks_again source ts toks h e k = sym (toks_placed ts) ∙ read_back toks (placed ts) h (subst (λ s. IsTokens s (placed ts)) e k)

pub no_fault : (source : Text) (e : TokensError) (toks : List Tok) → AreProper toks → source ≡ layout toks → IsFault source e → e ≡ fault.NoMemory
no_fault source fault.NoMemory toks h same k = refl
no_fault source (fault.NotAscii at) toks h same k = absurd (ascii_or_wide (layout toks) at (layout_is_ascii toks h) (subst (λ s. IsFault s (fault.NotAscii at)) same k))
no_fault source (fault.BadToken at) toks h same k = absurd (layout_is_not_bad toks at h (subst (λ s. IsFault s (fault.BadToken at)) same k).1)

pub again : {Y : Type 0} (items : Y → List Token) (source : Text) (r : Result Y TokensError) → IfOk r (λ ts. IsAscii source × IsTokens source (placed (items ts))) → IfErr r (λ e. IsFault source e)
    → (toks : List Tok) → AreProper toks → source ≡ layout toks → MatchResult r (λ ts. toks_of (items ts) ≡ toks) (λ e. e ≡ fault.NoMemory)
again items source (Ok ts) h k toks p e = toks_again source (items ts) toks p e h.1
again items source (Err f) h k toks p e = no_fault source f toks p e k

pub proper : {Y : Type 0} (items : Y → List Token) (source : Text) (r : Result Y TokensError) → IfOk r (λ ts. IsAscii source × IsTokens source (placed (items ts)))
    → IfOk r (λ ts. AreProper (toks_of (items ts)))
proper items source (Ok ts) h = subst (λ us. AreProper us) (toks_placed (items ts)) (read_proper source (placed (items ts)) h.1)
proper items source (Err f) h = tt
