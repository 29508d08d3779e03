-- A source has no more tokens than bytes.
use Rattle.std.proofs.Common.{◌≤◌, ◌+◌, ℕ, List, [], ◌∷◌, length, ap, subst, arith, length-append}
use Rattle.ioa_tokens.specs.declared.Word.{Word}
use Rattle.ioa_tokens.specs.declared.Word.TheVariants as w
use Rattle.ioa_tokens.specs.Bytes.{Text}
use Rattle.ioa_tokens.specs.Tokens.{Tok, Name, Num, Key, Placed}
use Rattle.ioa_tokens.specs.Spelling.{IsToken, spelling}
use Rattle.ioa_tokens.specs.Cutting.{Piece, Blank, Comment, Mark, IsPiece, Part, text_of, IsCut, keep, placed_from}
use Rattle.ioa_trees.specs.Trees.{PlainSource}
use Rattle.ioa_trees.specs.Spelling.{spell}
use Rattle.ioa_front.specs.Reading.{Spells, most_bytes}
use Rattle.ioa_front.proofs.Found.{count}

word_some : (v : Word) → 1 ≤ length (spelling v)
word_some w.Type = omega arith
word_some v = omega arith

token_some : (t : Tok) (text : Text) → IsToken t text → 1 ≤ length text
token_some (Name s) [] is = cc
token_some (Name s) (b ∷ bs) is = omega arith
token_some (Num n) text is = omega (arith, is.some)
token_some (Key v) text is = subst (λ z. 1 ≤ length z) is (word_some v)

kept : (p : Piece) (text : Text) (at : ℕ) (ts : List Placed) → IsPiece p text → length (keep p at ts) ≤ length text + length ts
kept Blank text at ts is = omega arith
kept Comment text at ts is = omega arith
kept (Mark t) text at ts is = omega (arith, token_some t text is)

parts_few : (at : ℕ) (ps : List Part) (rest : Text) → IsCut ps rest → length (placed_from at ps) ≤ length (text_of ps)
parts_few at [] rest cut = omega arith
parts_few at (p ∷ ps) rest cut =
    let next = at + length p.text in
    let one = kept p.piece p.text at (placed_from next ps) cut.0 in
    let more = parts_few next ps rest cut.2 in
    omega (arith, one, more, length-append p.text (text_of ps))

pub few_tokens : (source : Text) (x : PlainSource) → Spells source x → length source ≤ most_bytes → length (spell x) ≤ most_bytes
few_tokens source x s small =
    let some = parts_few 0 s.cut.parts [] s.cut.cut in
    omega (arith, small, some, ap (λ z. length z) s.cut.whole, ap (λ z. length z) s.cut.kept, count s.tokens, ap (λ z. length z) s.spelled)
