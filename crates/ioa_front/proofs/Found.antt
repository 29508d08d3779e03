-- From what the machine says of the tokens to what the bytes spell, or why they are refused.
use Rattle.std.proofs.Common.{◌≡◌, ◌≤◌, ◌<◌, ◌+◌, ◌-◌, ℕ, zero, suc, Bool, true, false, nat_lt, List, [], ◌∷◌, ◌++◌, length, take, drop, slice_index_or, Option, Some, None, Result, Ok, Err, IsErr, IfOk, IfErr, refl, sym, ◌∙◌, ap, subst, cond, arith}
use Rattle.std.proofs.lemmas.List.{take-append-drop, length-drop}
use Rattle.std.specs.Str.{IsAscii}
use Rattle.std.specs.Result.{IsErrAnd}
use Rattle.ioa_tokens.specs.Bytes.{Text, IsFirstWide}
use Rattle.ioa_tokens.specs.Cutting.{IsBadAt, IsFault, IsTokens}
use Rattle.ioa_tokens.specs.Layout.{AreProper}
use Rattle.ioa_tokens.specs.Tokens.{Tok, Placed, placed, placed_of, toks_of}
use Rattle.ioa_tokens.specs.declared.Token.{Token}
use Rattle.ioa_tokens.specs.declared.TokensError.{TokensError}
use Rattle.ioa_tokens.specs.declared.TokensError.TheVariants as refused
use Rattle.ioa_trees.specs.declared.tree.SourceTree.{SourceTree}
use Rattle.ioa_front.specs.declared.fault.ReadError.{ReadError}
use Rattle.ioa_front.specs.declared.fault.ReadError.TheVariants as fault
use Rattle.ioa_trees.specs.Nodes.{Node, make}
use Rattle.ioa_trees.specs.Grammar.{IsText}
use Rattle.ioa_phrases.specs.Machine.{Frames, Bottom, In, State, Want, At, Done, Step, Verdict, Read, Syntax, Deep, nullable, finish, ending, move, on, go, start}
use Rattle.ioa_trees.specs.Trees.{PlainSource}
use Rattle.ioa_trees.specs.Spelling.{source_node, spell}
use Rattle.ioa_trees.specs.Views.{view_source}
use Rattle.ioa_front.specs.Reading.{Gets, IsReadable, IsRefusal, IsSyntaxAt, IsTooDeep, Spells, Stuck, first_at, lifted, most_bytes, toks}
use Rattle.ioa_front.specs.Theorem.{IsFound, left_at}
use Rattle.ioa_phrases.proofs.Prefix.{go_left, left}
use Rattle.ioa_phrases.proofs.Sound.{read_formed}
use Rattle.ioa_phrases.proofs.Spelled.{read_spells}
use Rattle.ioa_phrases.proofs.Complete.{read_again}
use Rattle.ioa_phrases.proofs.Viable.{begins, deep_begins}
use Rattle.ioa_phrases.proofs.Refused.{ends, short}
use Rattle.ioa_phrases.proofs.Faults.{first_deep, first_syntax}
use Rattle.ioa_phrases.proofs.Once.{same_source}

pub toks_placed : (ts : List Token) → toks (placed ts) ≡ toks_of ts
toks_placed [] = refl
toks_placed (t ∷ ts) = ap (λ z. (placed_of t).tok ∷ z) (toks_placed ts)

toks_append : (ps qs : List Placed) → toks (ps ++ qs) ≡ toks ps ++ toks qs
toks_append [] qs = refl
toks_append (p ∷ ps) qs = ap (λ z. p.tok ∷ z) (toks_append ps qs)

pub count : (ps : List Placed) → length (toks ps) ≡ length ps
count [] = refl
count (p ∷ ps) = ap suc (count ps)

-- the tokens before the last n, and those
abbrev front : List Placed → ℕ → List Placed
front ps n = take (length ps - n) ps

abbrev back : List Placed → ℕ → List Placed
back ps n = drop (length ps - n) ps

whole : (ps : List Placed) (n : ℕ) → front ps n ++ back ps n ≡ ps
whole ps n = take-append-drop (length ps - n) ps

back_count : (ps : List Placed) (n : ℕ) → n ≤ length ps → length (toks (back ps n)) ≡ n
back_count ps n l = omega (arith, l, count (back ps n), length-drop (length ps - n) ps)

split : (v : ℕ → Verdict) (ps : List Placed) (n : ℕ) → n ≤ length ps → go true start (toks ps) ≡ v n
    → go true start (toks (front ps n) ++ toks (back ps n)) ≡ v (length (toks (back ps n)))
split v ps n l h = ap (λ z. go true start z) (sym (toks_append (front ps n) (back ps n)) ∙ ap toks (whole ps n)) ∙ (h ∙ ap v (sym (back_count ps n l)))

few : (ps : List Placed) (n : ℕ) (v : Verdict) → go true start (toks ps) ≡ v → left v ≡ n → n ≤ length ps
few ps n v h e = omega (arith, e, ap left h, go_left true start (toks ps), count ps)

-- the machine says that a token is too deep only where there is one
abbrev is_deep : Verdict → Bool
is_deep (Read x) = false
is_deep (Syntax n) = false
is_deep (Deep n) = true

shallow : (b : Bool) (v : Verdict) → is_deep v ≡ false → is_deep (cond b v (Syntax 0)) ≡ false
shallow true v h = h
shallow false v h = refl

finish_shallow : (k : Frames) (n : Node) → is_deep (finish k n) ≡ false
finish_shallow Bottom n = refl
finish_shallow (In s done ps i k) n = shallow (nullable ps) (finish k (make s (done ++ n ∷ []))) (finish_shallow k (make s (done ++ n ∷ [])))

ending_shallow : (s : State) → is_deep (ending s) ≡ false
ending_shallow (Want s k) = refl
ending_shallow (At s done ps k) = shallow (nullable ps) (finish k (make s done)) (finish_shallow k (make s done))
ending_shallow (Done n) = refl

some_left : (s : State) (ts : List Tok) (n : ℕ) → go true s ts ≡ Deep n → 1 ≤ n
some_left s [] n h = let a : false ≡ true = sym (ending_shallow s) ∙ ap is_deep h in cc
some_left s (t ∷ ts) n h = at_move (move s t) h (λ m. some_left m ts n)
  where
    at_test : (b : Bool) (v : Verdict) → (v ≡ Deep n → 1 ≤ n) → cond b (Deep (length ts + 1)) v ≡ Deep n → 1 ≤ n
    at_test true v g e = omega (arith, ap left e)
    at_test false v g e = g e

    at_move : (m : Option Step) → on m (λ m. cond (nat_lt 64 m.depth) (Deep (length ts + 1)) (go true m.next ts)) (Syntax (length ts + 1)) ≡ Deep n
        → ((m : State) → go true m ts ≡ Deep n → 1 ≤ n) → 1 ≤ n
    at_move None e g = cc
    at_move (Some m) e g = at_test (nat_lt 64 m.depth) (go true m.next ts) (g m.next) e

-- ---- the promises

pub spelled : (source : Text) (ps : List Placed) (end : ℕ) (r : Result SourceTree ReadError) → IsAscii source → IsTokens source ps → IsFound ps end r → IfOk r (λ s. Spells source (view_source s))
spelled source ps end (Ok s) a c h = record { ascii = a; tokens = ps; cut = c; spelled = sym (read_spells true (toks ps) (source_node (view_source s)) h) }
spelled source ps end (Err e) a c h = tt

pub readable : (ps : List Placed) (end : ℕ) (r : Result SourceTree ReadError) → AreProper (toks ps) → IsFound ps end r → IfOk r (λ s. IsReadable (view_source s))
readable ps end (Ok s) p h = (read_formed true (toks ps) (source_node (view_source s)) h, subst AreProper (sym (read_spells true (toks ps) (source_node (view_source s)) h)) p)
readable ps end (Err e) p h = tt

abbrev node_of : Node → Verdict → Node
node_of other (Read n) = n
node_of other (Syntax n) = other
node_of other (Deep n) = other

pub only : (ps : List Placed) (end : ℕ) (r : Result SourceTree ReadError) → IsFound ps end r → (x : PlainSource) → IsReadable x → toks ps ≡ spell x → Gets x r
only ps end r h x p e = by_answer r h
  where
    read : go true start (toks ps) ≡ Read (source_node x)
    read = ap (λ z. go true start z) e ∙ read_again true (source_node x) p.0

    by_answer : (r : Result SourceTree ReadError) → IsFound ps end r → Gets x r
    by_answer (Ok s) h = same_source true (view_source s) x (read_formed true (toks ps) (source_node (view_source s)) h) p.0 (ap (node_of (source_node x)) (sym h ∙ read))
    by_answer (Err fault.NoMemory) h = refl
    by_answer (Err (fault.NotAscii at)) h = absurd h
    by_answer (Err (fault.BadToken at)) h = absurd h
    by_answer (Err (fault.Syntax at)) h = let a : Syntax h.0 ≡ Read (source_node x) = sym h.1.0 ∙ read in cc
    by_answer (Err fault.TooLarge) h = absurd h
    by_answer (Err fault.TooDeep) h = let a : Deep h.0 ≡ Read (source_node x) = sym h.1 ∙ read in cc

stuck : (pre : List Tok) (rest : List Placed) → go true start (pre ++ toks rest) ≡ Syntax (length (toks rest)) → Stuck pre rest
stuck pre [] h = λ x. short (pre ++ []) 0 h (subst (λ z. IsText false z) (sym (append_nil pre)) x)
  where
    append_nil : (ts : List Tok) → ts ++ [] ≡ ts
    append_nil [] = refl
    append_nil (t ∷ ts) = ap (λ z. t ∷ z) (append_nil ts)
stuck pre (p ∷ rest) h = λ more x. ends pre (toks rest) more p.tok (h ∙ ap (λ z. Syntax z) (omega arith)) x

syntax_at : (source : Text) (ps : List Placed) (n at : ℕ) → IsTokens source ps → go true start (toks ps) ≡ Syntax n → at ≡ left_at (length source) ps n → IsSyntaxAt source at
syntax_at source ps n at c h e =
    let l = few ps n (Syntax n) h refl in
    let there = split (λ z. Syntax z) ps n l h in
    record {
      before = front ps n;
      left = back ps n;
      cut = subst (λ z. IsTokens source z) (sym (whole ps n)) c;
      begins = begins true (toks (front ps n)) (toks (back ps n)) there;
      within = λ m more f y. let w = first_syntax (toks (front ps n)) (toks (back ps n)) more m there f y in record { before = w.0; after = w.1.0; depths_are = w.1.1.0; same = w.1.1.1.0; low = w.1.1.1.1 };
      stuck = stuck (toks (front ps n)) (back ps n) there;
      place = sym e;
    }

deep_at : (source : Text) (before rest : List Placed) → IsTokens source (before ++ rest) → 1 ≤ length (toks rest) → go true start (toks before ++ toks rest) ≡ Deep (length (toks rest)) → IsTooDeep source
deep_at source before [] c l h = absurd (omega (arith, l))
deep_at source before (p ∷ rest) c l h =
    let there : go true start (toks before ++ p.tok ∷ toks rest) ≡ Deep (length (toks rest) + 1) = h ∙ ap (λ z. Deep z) (omega arith) in
    let b = deep_begins (toks before) p.tok (toks rest) there in
    record {
      before = before;
      deep = p;
      left = rest;
      cut = c;
      begins = (b.0, subst (λ z. IsText false z) (one_more (toks before) p.tok b.0) b.1);
      first = λ m more f y. let w = first_deep (toks before) (toks rest) more p.tok m there f y in record { before = w.0; after = w.1.0; depths_are = w.1.1.0; same = w.1.1.1.0; low = w.1.1.1.1 };
    }
  where
    one_more : (pre : List Tok) (t : Tok) (more : List Tok) → pre ++ t ∷ more ≡ (pre ++ t ∷ []) ++ more
    one_more [] t more = refl
    one_more (u ∷ pre) t more = ap (λ z. u ∷ z) (one_more pre t more)

pub token_refused : (source : Text) (ps : List Placed) (r : Result SourceTree ReadError) → length source ≤ most_bytes → IsAscii source → IsTokens source ps → IsFound ps (length source) r → IfErr r (λ e. IsRefusal source e)
token_refused source ps (Ok s) l a c h = tt
token_refused source ps (Err fault.NoMemory) l a c h = tt
token_refused source ps (Err (fault.NotAscii at)) l a c h = absurd h
token_refused source ps (Err (fault.BadToken at)) l a c h = absurd h
token_refused source ps (Err fault.TooLarge) l a c h = absurd h
token_refused source ps (Err (fault.Syntax at)) l a c h = (l, (a, syntax_at source ps h.0 at c h.1.0 h.1.1))
token_refused source ps (Err fault.TooDeep) l a c h =
    let n = h.0 in
    let few_left = few ps n (Deep n) h.1 refl in
    let some = some_left start (toks ps) n h.1 in
    (l, (a, deep_at source (front ps n) (back ps n) (subst (λ z. IsTokens source z) (sym (whole ps n)) c) (omega (arith, some, back_count ps n few_left)) (split (λ z. Deep z) ps n few_left h.1)))

-- ---- the tokens

pub placed_at : (end : ℕ) (ts : List Token) (i : ℕ) (t : Token) → i < length ts → ((d : Token) → t ≡ slice_index_or ts i d) → t.at ≡ first_at end (drop i (placed ts))
placed_at end [] i t h f = absurd (omega (arith, h))
placed_at end (u ∷ ts) zero t h f = ap (λ z. z.at) (f u)
placed_at end (u ∷ ts) (suc i) t h f = placed_at end ts i t (omega (arith, h)) f

placed_count : (ts : List Token) → length (placed ts) ≡ length ts
placed_count [] = refl
placed_count (t ∷ ts) = ap suc (placed_count ts)

pub found_at : (end : ℕ) (ts : List Token) (n i : ℕ) (t : Token) → i ≡ length ts - n → i < length ts → ((d : Token) → t ≡ slice_index_or ts i d) → t.at ≡ left_at end (placed ts) n
found_at end ts n i t e h f = placed_at end ts i t h f ∙ ap (λ z. first_at end (drop z (placed ts))) (e ∙ ap (λ z. z - n) (sym (placed_count ts)))

-- ---- where the tokens were refused

pub tokens_only : (source : Text) (x : PlainSource) (r : Result SourceTree ReadError) (e : TokensError) → IsErr r → IsErrAnd r (λ z. z ≡ lifted e) → IsFault source e
    → ((ts : List Placed) (at : ℕ) → IsTokens source ts → IsBadAt source at → ⊥) → ((at : ℕ) → IsAscii source → IsFirstWide source at → ⊥) → Spells source x → Gets x r
tokens_only source x (Ok s) e is same h bad wide spells = cc
tokens_only source x (Err z) refused.NoMemory is same h bad wide spells = same
tokens_only source x (Err z) (refused.NotAscii at) is same h bad wide spells = absurd (wide at spells.ascii h)
tokens_only source x (Err z) (refused.BadToken at) is same h bad wide spells = absurd (bad spells.tokens at spells.cut h.1)

lifted_refusal : (source : Text) (e : TokensError) → length source ≤ most_bytes → IsFault source e → IsRefusal source (lifted e)
lifted_refusal source refused.NoMemory l h = tt
lifted_refusal source (refused.NotAscii at) l h = (l, h)
lifted_refusal source (refused.BadToken at) l h = (l, h)

pub tokens_refused : (source : Text) (r : Result SourceTree ReadError) (e : TokensError) → length source ≤ most_bytes → IsErr r → IsErrAnd r (λ z. z ≡ lifted e) → IsFault source e → IfErr r (λ z. IsRefusal source z)
tokens_refused source (Ok s) e l is same h = tt
tokens_refused source (Err z) e l is same h = subst (λ z. IsRefusal source z) (sym same) (lifted_refusal source e l h)
