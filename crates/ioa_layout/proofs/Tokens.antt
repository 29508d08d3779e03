-- What tokens are made of, and where they end.
use Rattle.std.proofs.Common.{◌≡◌, ◌<◌, ℕ, [], ◌∷◌, length, Bool, true, false, refl, subst, arith}
use Rattle.std.specs.Prelude.{◌==◌, ◌&&◌, not}
use Rattle.std.specs.List.{list_all}
use Rattle.std.proofs.lemmas.Bool.{and_parts, and_right, cond_both, not-true}
use Rattle.std.proofs.lemmas.Bool.Decides.{nat_tests}
use Rattle.ioa_tokens.specs.declared.word.Word.{Word}
use Rattle.ioa_tokens.specs.declared.word.Word.TheVariants as w
use Rattle.ioa_tokens.specs.Bytes.{Text, is_digit, is_word_byte, stops}
use Rattle.ioa_tokens.specs.Tokens.{Tok, Name, Num, Key}
use Rattle.ioa_tokens.specs.Spelling.{spelling, is_reserved, takes_equal, IsName, IsToken, goes_on}
use Rattle.ioa_tokens.specs.Cutting.{Mark, ends}
use Rattle.ioa_tokens.proofs.Fronts.{all_mono}
use Rattle.ioa_layout.specs.Ink.{is_in_token}
use Rattle.ioa_layout.specs.Gaps.{is_free, ends_itself}

word_is_in : (b : ℕ) → is_word_byte b ≡ true → is_in_token b ≡ true
word_is_in b h = grind (arith, nat_tests)

digit_is_in : (b : ℕ) → is_digit b ≡ true → is_in_token b ≡ true
digit_is_in b h = grind (arith, nat_tests)

spelled_in : (v : Word) → list_all is_in_token (spelling v) ≡ true
spelled_in w.Type = refl
spelled_in w.Enumeration = refl
spelled_in w.Of = refl
spelled_in w.Automaton = refl
spelled_in w.Signature = refl
spelled_in w.Input = refl
spelled_in w.Output = refl
spelled_in w.Internal = refl
spelled_in w.Const = refl
spelled_in w.States = refl
spelled_in w.Transitions = refl
spelled_in w.Pre = refl
spelled_in w.Eff = refl
spelled_in w.Tasks = refl
spelled_in w.Components = refl
spelled_in w.If = refl
spelled_in w.Then = refl
spelled_in w.Elseif = refl
spelled_in w.Else = refl
spelled_in w.Fi = refl
spelled_in w.For = refl
spelled_in w.Do = refl
spelled_in w.Od = refl
spelled_in w.Empty = refl
spelled_in w.Fill = refl
spelled_in w.Head = refl
spelled_in w.Tail = refl
spelled_in w.Len = refl
spelled_in w.Append = refl
spelled_in w.True = refl
spelled_in w.False = refl
spelled_in w.And = refl
spelled_in w.Or = refl
spelled_in w.Not = refl
spelled_in w.Mod = refl
spelled_in w.Bool = refl
spelled_in w.Int = refl
spelled_in w.Seq = refl
spelled_in w.Array = refl
spelled_in w.Idle = refl
spelled_in w.Hidden = refl
spelled_in w.Assign = refl
spelled_in w.DotDot = refl
spelled_in w.Colon = refl
spelled_in w.Comma = refl
spelled_in w.Semicolon = refl
spelled_in w.Open = refl
spelled_in w.Close = refl
spelled_in w.OpenBracket = refl
spelled_in w.CloseBracket = refl
spelled_in w.OpenBrace = refl
spelled_in w.CloseBrace = refl
spelled_in w.Equal = refl
spelled_in w.NotEqual = refl
spelled_in w.Less = refl
spelled_in w.AtMost = refl
spelled_in w.Greater = refl
spelled_in w.AtLeast = refl
spelled_in w.Plus = refl
spelled_in w.Minus = refl
spelled_in w.Times = refl

abbrev is_some : Text → Bool
is_some [] = false
is_some (b ∷ bs) = true

spelled_some : (v : Word) → is_some (spelling v) ≡ true
spelled_some w.Type = refl
spelled_some w.Enumeration = refl
spelled_some w.Of = refl
spelled_some w.Automaton = refl
spelled_some w.Signature = refl
spelled_some w.Input = refl
spelled_some w.Output = refl
spelled_some w.Internal = refl
spelled_some w.Const = refl
spelled_some w.States = refl
spelled_some w.Transitions = refl
spelled_some w.Pre = refl
spelled_some w.Eff = refl
spelled_some w.Tasks = refl
spelled_some w.Components = refl
spelled_some w.If = refl
spelled_some w.Then = refl
spelled_some w.Elseif = refl
spelled_some w.Else = refl
spelled_some w.Fi = refl
spelled_some w.For = refl
spelled_some w.Do = refl
spelled_some w.Od = refl
spelled_some w.Empty = refl
spelled_some w.Fill = refl
spelled_some w.Head = refl
spelled_some w.Tail = refl
spelled_some w.Len = refl
spelled_some w.Append = refl
spelled_some w.True = refl
spelled_some w.False = refl
spelled_some w.And = refl
spelled_some w.Or = refl
spelled_some w.Not = refl
spelled_some w.Mod = refl
spelled_some w.Bool = refl
spelled_some w.Int = refl
spelled_some w.Seq = refl
spelled_some w.Array = refl
spelled_some w.Idle = refl
spelled_some w.Hidden = refl
spelled_some w.Assign = refl
spelled_some w.DotDot = refl
spelled_some w.Colon = refl
spelled_some w.Comma = refl
spelled_some w.Semicolon = refl
spelled_some w.Open = refl
spelled_some w.Close = refl
spelled_some w.OpenBracket = refl
spelled_some w.CloseBracket = refl
spelled_some w.OpenBrace = refl
spelled_some w.CloseBrace = refl
spelled_some w.Equal = refl
spelled_some w.NotEqual = refl
spelled_some w.Less = refl
spelled_some w.AtMost = refl
spelled_some w.Greater = refl
spelled_some w.AtLeast = refl
spelled_some w.Plus = refl
spelled_some w.Minus = refl
spelled_some w.Times = refl

some_length : (text : Text) → is_some text ≡ true → 0 < length text
some_length [] h = absurd (cc)
some_length (b ∷ bs) h = omega arith

-- neither a blank nor the begin of a comment is in a token
pub token_is_in : (t : Tok) (text : Text) → IsToken t text → list_all is_in_token text ≡ true
token_is_in (Name s) text h = all_mono is_word_byte is_in_token word_is_in text h.1.goes_on
token_is_in (Num n) text h = all_mono is_digit is_in_token digit_is_in text h.digits
token_is_in (Key v) text h = subst (λ x. list_all is_in_token x ≡ true) h (spelled_in v)

name_some : (text : Text) → IsName text → 0 < length text
name_some [] h = absurd (let e = h.begins in cc)
name_some (b ∷ bs) h = omega arith

pub token_is_some : (t : Tok) (text : Text) → IsToken t text → 0 < length text
token_is_some (Name s) text h = name_some text h.1
token_is_some (Num n) text h = h.some
token_is_some (Key v) text h = subst (λ x. 0 < length x) h (some_length (spelling v) (spelled_some v))

-- no token goes on with a byte that is neither of a word nor `=`
never_on : (t : Tok) (b : ℕ) → is_word_byte b ≡ false → (b == 61) ≡ false → goes_on t b ≡ false
never_on (Name s) b h e = h
never_on (Num n) b h e = h
never_on (Key v) b h e = cond_both (is_reserved v) (is_word_byte b) (takes_equal v && b == 61) (λ t. t ≡ false) (λ _. h) (λ _. and_right (takes_equal v) (b == 61) e)

pub free_ends : (t : Tok) (b : ℕ) (rest : Text) → is_free b ≡ true → ends (Mark t) (b ∷ rest) ≡ true
free_ends t b rest h =
    let parts = and_parts (not (is_word_byte b)) (not (b == 61)) h in
    rw (never_on t b (not-true (is_word_byte b) parts.0) (not-true (b == 61) parts.1)) refl

stops_always : (test : ℕ → Bool) → ((b : ℕ) → test b ≡ false) → (bs : Text) → stops test bs ≡ true
stops_always test h [] = refl
stops_always test h (b ∷ bs) = rw (h b) refl

-- nothing goes on with these signs
pub sign_ends : (v : Word) (rest : Text) → ends_itself v ≡ true → ends (Mark (Key v)) rest ≡ true
sign_ends w.Type rest h = absurd (cc)
sign_ends w.Enumeration rest h = absurd (cc)
sign_ends w.Of rest h = absurd (cc)
sign_ends w.Automaton rest h = absurd (cc)
sign_ends w.Signature rest h = absurd (cc)
sign_ends w.Input rest h = absurd (cc)
sign_ends w.Output rest h = absurd (cc)
sign_ends w.Internal rest h = absurd (cc)
sign_ends w.Const rest h = absurd (cc)
sign_ends w.States rest h = absurd (cc)
sign_ends w.Transitions rest h = absurd (cc)
sign_ends w.Pre rest h = absurd (cc)
sign_ends w.Eff rest h = absurd (cc)
sign_ends w.Tasks rest h = absurd (cc)
sign_ends w.Components rest h = absurd (cc)
sign_ends w.If rest h = absurd (cc)
sign_ends w.Then rest h = absurd (cc)
sign_ends w.Elseif rest h = absurd (cc)
sign_ends w.Else rest h = absurd (cc)
sign_ends w.Fi rest h = absurd (cc)
sign_ends w.For rest h = absurd (cc)
sign_ends w.Do rest h = absurd (cc)
sign_ends w.Od rest h = absurd (cc)
sign_ends w.Empty rest h = absurd (cc)
sign_ends w.Fill rest h = absurd (cc)
sign_ends w.Head rest h = absurd (cc)
sign_ends w.Tail rest h = absurd (cc)
sign_ends w.Len rest h = absurd (cc)
sign_ends w.Append rest h = absurd (cc)
sign_ends w.True rest h = absurd (cc)
sign_ends w.False rest h = absurd (cc)
sign_ends w.And rest h = absurd (cc)
sign_ends w.Or rest h = absurd (cc)
sign_ends w.Not rest h = absurd (cc)
sign_ends w.Mod rest h = absurd (cc)
sign_ends w.Bool rest h = absurd (cc)
sign_ends w.Int rest h = absurd (cc)
sign_ends w.Seq rest h = absurd (cc)
sign_ends w.Array rest h = absurd (cc)
sign_ends w.Idle rest h = absurd (cc)
sign_ends w.Hidden rest h = absurd (cc)
sign_ends w.Assign rest h = absurd (cc)
sign_ends w.DotDot rest h = stops_always (goes_on (Key w.DotDot)) (λ b. refl) rest
sign_ends w.Colon rest h = absurd (cc)
sign_ends w.Comma rest h = absurd (cc)
sign_ends w.Semicolon rest h = absurd (cc)
sign_ends w.Open rest h = stops_always (goes_on (Key w.Open)) (λ b. refl) rest
sign_ends w.Close rest h = absurd (cc)
sign_ends w.OpenBracket rest h = stops_always (goes_on (Key w.OpenBracket)) (λ b. refl) rest
sign_ends w.CloseBracket rest h = absurd (cc)
sign_ends w.OpenBrace rest h = absurd (cc)
sign_ends w.CloseBrace rest h = absurd (cc)
sign_ends w.Equal rest h = absurd (cc)
sign_ends w.NotEqual rest h = absurd (cc)
sign_ends w.Less rest h = absurd (cc)
sign_ends w.AtMost rest h = absurd (cc)
sign_ends w.Greater rest h = absurd (cc)
sign_ends w.AtLeast rest h = absurd (cc)
sign_ends w.Plus rest h = absurd (cc)
sign_ends w.Minus rest h = stops_always (goes_on (Key w.Minus)) (λ b. refl) rest
sign_ends w.Times rest h = absurd (cc)
