-- A word is a name where its tokens are that name alone.
use Rattle.std.proofs.Common.{◌≡◌, ℕ, Bool, List, [], ◌∷◌, map, refl, ap, sym, subst, ◌∙◌, append-nil, ◌<◌, ◌≤◌, length, get_or, arith}
use Rattle.std.specs.Prelude.{Decides}
use Rattle.std.specs.Borrow.{Bor}
use Rattle.ioa_tokens.specs.declared.fault.TokensError.{TokensError}
use Rattle.ioa_tokens.specs.declared.fault.TokensError.TheVariants as fault
use Rattle.ioa_tokens.specs.declared.token.Kind.TheVariants as kind
use Rattle.ioa_tokens.specs.declared.token.Token.{Token}
use Rattle.ioa_tokens.specs.Bytes.{Text}
use Rattle.ioa_tokens.specs.Tokens.{Tok, Name, Num, Key, Placed, placed, tok_of, toks_of}
use Rattle.ioa_tokens.specs.Spelling.{IsName}
use Rattle.ioa_tokens.specs.Layout.{AreProper}
use Rattle.ioa_tokens.specs.Cutting.{IsTokens, IsBadAt, IsFault, Mark}

abbrev named : Tok → Text
named (Name s) = s
named (Num n) = []
named (Key w) = []

abbrev first_named : List Tok → Text
first_named [] = []
first_named (t ∷ ts) = named t

pub one_name : (ts : List Token) (d : Token) (text : Bor (List ℕ)) → 1 ≤ length ts → length ts < 2 → (get_or ts 0 d).kind ≡ kind.Name text → toks_of ts ≡ Name text.now ∷ []
one_name [] d text some few is = absurd (omega arith)
one_name (t ∷ []) d text some few is = ap (λ k. tok_of k ∷ []) is
one_name (t ∷ u ∷ ts) d text some few is = absurd (omega arith)

pub is_that_name : (ts : List Token) (text name : Text) (r : Bool) → toks_of ts ≡ Name text ∷ [] → Decides r (text ≡ name) → Decides r (toks_of ts ≡ Name name ∷ [])
is_that_name ts text name r is same = ((λ h. is ∙ ap (λ t. Name t ∷ []) (same.0 h)), λ e. same.1 (ap first_named (sym is ∙ e)))

-- a name by itself is its one token
name_alone : (word : Text) → IsName word → IsTokens word (record { tok = Name word; at = 0 } ∷ [])
name_alone word h =
    record {
      parts = record { piece = Mark (Name word); text = word } ∷ [];
      whole = append-nil word;
      cut = ((refl, h), refl, tt);
      kept = refl;
    }

toks_of_placed : (ts : List Token) → map (λ p. p.tok) (placed ts) ≡ toks_of ts
toks_of_placed [] = refl
toks_of_placed (t ∷ ts) = ap (λ rest. tok_of t.kind ∷ rest) (toks_of_placed ts)

pub is_name_by_tokens : (word : Text) (ts : List Token) (r : Bool) → ((source : Text) (a b : List Placed) → IsTokens source a → IsTokens source b → a ≡ b) → IsTokens word (placed ts) → AreProper (toks_of ts)
    → Decides r (toks_of ts ≡ Name word ∷ []) → Decides r (IsName word)
is_name_by_tokens word ts r once tokens proper just =
    ((λ h. (subst AreProper (just.0 h) proper).0), λ name. just.1 (sym (toks_of_placed ts) ∙ ap (map (λ p. p.tok)) (once word (placed ts) _ tokens (name_alone word name))))

pub has_tokens : (word : Text) → IsName word → (ts : List Placed) × IsTokens word ts
has_tokens word h = (_, name_alone word h)

pub bad_token : (word : Text) (e : TokensError) (at : ℕ) → e ≡ fault.BadToken at → IsFault word e → IsBadAt word at
bad_token word e at is h = (subst (IsFault word) is h).1
