-- The tokens of a source can be laid out.
use Rattle.std.proofs.Common.{ℕ, ◌+◌, List, [], ◌∷◌, ◌++◌, map, length, sym, subst}
use Rattle.ioa_tokens.specs.Bytes.{Text}
use Rattle.ioa_tokens.specs.Tokens.{Tok, Name, Num, Key, Placed}
use Rattle.ioa_tokens.specs.Spelling.{IsName, IsToken}
use Rattle.ioa_tokens.specs.Cutting.{Piece, Blank, Comment, Mark, Part, IsPiece, IsCut, keep, placed_from, IsTokens}
use Rattle.ioa_tokens.specs.Layout.{IsProper, AreProper}

token_is_proper : (t : Tok) (text : Text) → IsToken t text → IsProper t
token_is_proper (Name s) text h = subst (λ x. IsName x) (sym h.0) h.1
token_is_proper (Num n) text h = h.fits
token_is_proper (Key v) text h = tt

keep_proper : (p : Piece) (text : Text) (at : ℕ) (ts : List Placed) → IsPiece p text → AreProper (map (λ p. p.tok) ts) → AreProper (map (λ p. p.tok) (keep p at ts))
keep_proper Blank text at ts h k = k
keep_proper Comment text at ts h k = k
keep_proper (Mark t) text at ts h k = (token_is_proper t text h, k)

parts_proper : (at : ℕ) (ps : List Part) (rest : Text) → IsCut ps rest → AreProper (map (λ p. p.tok) (placed_from at ps))
parts_proper at [] rest h = tt
parts_proper at (p ∷ ps) rest h = keep_proper p.piece p.text at (placed_from (at + length p.text) ps) h.0 (parts_proper (at + length p.text) ps rest h.2)

pub read_proper : (source : Text) (ts : List Placed) → IsTokens source ts → AreProper (map (λ p. p.tok) ts)
read_proper source ts h = subst (λ us. AreProper (map (λ p. p.tok) us)) h.kept (parts_proper 0 h.parts [] h.cut)

pub both_proper : (ts us : List Tok) → AreProper ts → AreProper us → AreProper (ts ++ us)
both_proper [] us h k = k
both_proper (t ∷ ts) us h k = (h.0, both_proper ts us h.1 k)

pub parts_are_proper : (ts us : List Tok) → AreProper (ts ++ us) → AreProper ts × AreProper us
parts_are_proper [] us h = (tt, h)
parts_are_proper (t ∷ ts) us h = let rest = parts_are_proper ts us h.1 in ((h.0, rest.0), rest.1)
