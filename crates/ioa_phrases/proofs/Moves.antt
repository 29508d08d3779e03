-- Moves of the machine that the readers make.
use Rattle.std.proofs.Common.{◌≡◌, ◌≤◌, ◌+◌, ℕ, zero, suc, Bool, true, false, nat_lt, List, [], ◌∷◌, ◌++◌, length, Option, Some, None, Result, Ok, Err, refl, sym, ◌∙◌, ap, subst, cond, arith}
use borrow.Author.Tests.{le-ltb}
use Rattle.std.proofs.lemmas.Bool.Decides.{nat_tests}
use Rattle.ioa_phrases.specs.declared.stop.Stop.{Stop}
use Rattle.ioa_phrases.specs.declared.stop.Stop.TheVariants as stop
use Rattle.ioa_tokens.specs.declared.Word.{Word}
use Rattle.ioa_tokens.specs.Tokens.{Tok, Name, Num, Key, sees}
use Rattle.ioa_tokens.specs.declared.Word.TheVariants as w
use Rattle.ioa_trees.specs.declared.tree.EntryKind.{EntryKind}
use Rattle.ioa_trees.specs.declared.tree.EntryKind.TheVariants as kind
use Rattle.ioa_trees.specs.declared.tree.Sign.{Sign}
use Rattle.ioa_trees.specs.declared.tree.Sign.TheVariants as sign
use Rattle.ioa_trees.specs.declared.tree.Relation.{Relation}
use Rattle.ioa_trees.specs.declared.tree.Relation.TheVariants as relation
use Rattle.ioa_trees.specs.Spelling.{word_of_kind, word_of_sign, word_of_relation}
use Rattle.ioa_phrases.proofs.Complete.{Quiet, skip_many, skip_maybe}
use Rattle.ioa_trees.specs.Nodes.{Sort, Node, Leaf, and_part, argument_part, arguments, component_part, eff_part, else_part, elseif_part, formal_part, hidden, index_part, name_part, or_part, parameter_part, parameters, pre_part, statement_part, states, task, tasks, type_definition, variable_part, comparison, compared, negation, unary, postfix, sum, addend, product, factor, init, term, formal, entry, variable, component, type, type_body}
use Rattle.ioa_trees.specs.Grammar.{entry_parts, first, Class, Part, Place, many, maybe, token, word, name, number, led, plain, pick, accepts, outside}
use Rattle.ioa_phrases.specs.Machine.{Frames, depth, In, State, Step, Want, At, want, at, move, go, on, Verdict, Syntax, Deep, descend_by, enter}
use Rattle.ioa_phrases.specs.Reads.{Names, NamesInside, Stops, Gives, GivesLow, front_name, front_number, leads, starts_by, may_start, deep_stop, front_starts}
use Rattle.ioa_phrases.proofs.Told.{enter_is, move_want, want_ending, hit, heads, starts, starts_by as classes_by}

pub low_depth : (d : ℕ) (k : Frames) → depth k ≡ d → d ≤ 64 → nat_lt 64 (depth k) ≡ false
low_depth d k e l = le-ltb 64 (depth k) (omega (arith, e, l))

-- in a place that isn't too deep the limit says nothing
pub gives_low : {Y : Type 0} (n : Y → Node) (rest : Y → List Tok) (f : Frames → State) (d : ℕ) (ts : List Tok) (r : Result Y Stop) → d ≤ 64 → GivesLow n rest f d ts r → Gives n rest f d ts r
gives_low n rest f d ts (Ok y) l h = λ k e. h k e (low_depth d k e l)
gives_low n rest f d ts (Err x) l h = λ k e. h k e (low_depth d k e l)

-- ---- a token that has to stand there and doesn't

one_more : (ts : List Tok) → Syntax (length ts + 1) ≡ Syntax (suc (length ts))
one_more ts = ap (λ n. Syntax n) (omega arith)

pub no_word : (w : Word) (s : Sort) (done : List Node) (i : Place) (ps : List Part) (k : Frames) (ts : List Tok) → sees w ts ≡ false → go true (At s done (token (word w) i ∷ ps) k) ts ≡ Syntax (length ts)
no_word w s done i ps k [] h = refl
no_word w s done i ps k (t ∷ ts) h = rw h (one_more ts)

pub no_name : (s : Sort) (done : List Node) (i : Place) (ps : List Part) (k : Frames) (ts : List Tok) → front_name ts ≡ false → go true (At s done (token name i ∷ ps) k) ts ≡ Syntax (length ts)
no_name s done i ps k [] h = refl
no_name s done i ps k (Name t ∷ ts) h = cc
no_name s done i ps k (Num n ∷ ts) h = one_more ts
no_name s done i ps k (Key w ∷ ts) h = one_more ts

pub no_number : (s : Sort) (done : List Node) (i : Place) (ps : List Part) (k : Frames) (ts : List Tok) → front_number ts ≡ false → go true (At s done (token number i ∷ ps) k) ts ≡ Syntax (length ts)
no_number s done i ps k [] h = refl
no_number s done i ps k (Name t ∷ ts) h = one_more ts
no_number s done i ps k (Num n ∷ ts) h = cc
no_number s done i ps k (Key w ∷ ts) h = one_more ts

-- ---- one pair too many

pick_leads : (l : List (Class × List Part)) (t : Tok) → leads l t ≡ false → pick t l ≡ None
pick_leads [] t h = refl
pick_leads ((c, qs) ∷ rest) t h = at_test (accepts c t) h (pick_leads rest t)
  where
    at_test : (x : Bool) → cond x true (leads rest t) ≡ false → (leads rest t ≡ false → pick t rest ≡ None) → cond x (Some qs) (pick t rest) ≡ None
    at_test true h f = cc
    at_test false h f = f h

leads_pick : (l : List (Class × List Part)) (t : Tok) → leads l t ≡ true → (ps : List Part) × (pick t l ≡ Some ps)
leads_pick [] t h = cc
leads_pick ((c, qs) ∷ rest) t h = at_test (accepts c t) h (leads_pick rest t)
  where
    at_test : (x : Bool) → cond x true (leads rest t) ≡ true → (leads rest t ≡ true → (ps : List Part) × (pick t rest ≡ Some ps)) → (ps : List Part) × (cond x (Some qs) (pick t rest) ≡ Some ps)
    at_test true h f = (qs, refl)
    at_test false h f = f h

no_start : (f : ℕ) (s : Sort) (t : Tok) (k : Frames) → starts_by f s t ≡ false → descend_by f s t k ≡ None
no_start zero s t k h = refl
no_start (suc f) s t k h = at_led (leads (led s) t) refl (plain s) h (λ p. no_start f p.0 t (In s [] p.1 outside k))
  where
    at_led : (x : Bool) → leads (led s) t ≡ x → (p : Option (Sort × List Part)) → cond x true (on p (λ p. starts_by f p.0 t) false) ≡ false
        → ((p : Sort × List Part) → starts_by f p.0 t ≡ false → descend_by f p.0 t (In s [] p.1 outside k) ≡ None)
        → on (pick t (led s)) (λ qs. Some (at s (Leaf t ∷ []) qs k)) (on p (λ p. descend_by f p.0 t (In s [] p.1 outside k)) None) ≡ None
    at_led true u p h g = cc
    at_led false u None h g = rw (pick_leads (led s) t u) refl
    at_led false u (Some p) h g = rw (pick_leads (led s) t u) (g p h)

pub some_start : (f : ℕ) (s : Sort) (t : Tok) (k : Frames) → starts_by f s t ≡ true → (m : State) × (descend_by f s t k ≡ Some m)
some_start zero s t k h = cc
some_start (suc f) s t k h = at_led (leads (led s) t) refl (plain s) h (λ p. some_start f p.0 t (In s [] p.1 outside k))
  where
    at_led : (x : Bool) → leads (led s) t ≡ x → (p : Option (Sort × List Part)) → cond x true (on p (λ p. starts_by f p.0 t) false) ≡ true
        → ((p : Sort × List Part) → starts_by f p.0 t ≡ true → (m : State) × (descend_by f p.0 t (In s [] p.1 outside k) ≡ Some m))
        → (m : State) × (on (pick t (led s)) (λ qs. Some (at s (Leaf t ∷ []) qs k)) (on p (λ p. descend_by f p.0 t (In s [] p.1 outside k)) None) ≡ Some m)
    at_led true u p h g = let w = leads_pick (led s) t u in (at s (Leaf t ∷ []) w.0 k, rw w.1 refl)
    at_led false u None h g = cc
    at_led false u (Some p) h g = let w = g p h in (w.0, rw (pick_leads (led s) t u) w.1)

too_deep : (s : Sort) (k : Frames) (ts : List Tok) → nat_lt 64 (depth k) ≡ true → Stops (deep_stop s ts) (go true (want s k) ts)
too_deep s k [] h = want_ending s k
too_deep s k (t ∷ ts) h = at_start (may_start s t) refl
  where
    along : {v w : Verdict} (e : Stop) → w ≡ v → Stops e v → Stops e w
    along e p h = subst (λ z. Stops e z) (sym p) h

    entered : go true (want s k) (t ∷ ts) ≡ on (on {B = Option Step} (enter s t k) (λ n. Some (record { next = n; depth = depth k })) None) (λ m. cond (nat_lt 64 m.depth) (Deep (length ts + 1)) (go true m.next ts)) (Syntax (length ts + 1))
    entered = ap (λ z. on z (λ m. cond (nat_lt 64 m.depth) (Deep (length ts + 1)) (go true m.next ts)) (Syntax (length ts + 1))) (move_want s t k)

    at_start : (x : Bool) → may_start s t ≡ x → Stops (cond x (stop.Deep (length ts + 1)) (stop.Syntax (length ts + 1))) (go true (want s k) (t ∷ ts))
    at_start true u = let w = some_start 16 s t k u in entered ∙ rw (w.1, h) refl
    at_start false u = entered ∙ rw (no_start 16 s t k u) refl

-- why the first token of a rule is too deep
pub deep_gives : {Y : Type 0} (n : Y → Node) (rest : Y → List Tok) (s : Sort) (d : ℕ) (ts : List Tok) → 65 ≤ d → Gives n rest (want s) d ts (Err (deep_stop s ts))
deep_gives n rest s d ts l = λ k e. too_deep s k ts (high (depth k) (omega (arith, e, l)))
  where
    high : (d : ℕ) → 65 ≤ d → nat_lt 64 d ≡ true
    high d l = grind (arith, nat_tests)

-- ---- what may stand there and doesn't

quiet_word : (w : Word) (ts : List Tok) → sees w ts ≡ false → Quiet (word w ∷ []) ts
quiet_word w [] h = tt
quiet_word w (t ∷ ts) h = rw h refl

pub no_or_part : (z : Sort) (done : List Node) (i : Place) (ps : List Part) (k : Frames) (ts : List Tok) → sees w.Or ts ≡ false → go true (At z done (many or_part i ∷ ps) k) ts ≡ go true (at z done ps k) ts
no_or_part z done i ps k ts h = skip_many true z or_part done i ps k ts (quiet_word w.Or ts h)

pub no_and_part : (z : Sort) (done : List Node) (i : Place) (ps : List Part) (k : Frames) (ts : List Tok) → sees w.And ts ≡ false → go true (At z done (many and_part i ∷ ps) k) ts ≡ go true (at z done ps k) ts
no_and_part z done i ps k ts h = skip_many true z and_part done i ps k ts (quiet_word w.And ts h)

pub no_index_part : (z : Sort) (done : List Node) (i : Place) (ps : List Part) (k : Frames) (ts : List Tok) → sees w.OpenBracket ts ≡ false → go true (At z done (many index_part i ∷ ps) k) ts ≡ go true (at z done ps k) ts
no_index_part z done i ps k ts h = skip_many true z index_part done i ps k ts (quiet_word w.OpenBracket ts h)

pub no_index : (z : Sort) (done : List Node) (i : Place) (ps : List Part) (k : Frames) (ts : List Tok) → sees w.OpenBracket ts ≡ false → go true (At z done (maybe index_part i ∷ ps) k) ts ≡ go true (at z done ps k) ts
no_index z done i ps k ts h = skip_maybe true z index_part done i ps k ts (quiet_word w.OpenBracket ts h)

pub no_name_part : (z : Sort) (done : List Node) (i : Place) (ps : List Part) (k : Frames) (ts : List Tok) → sees w.Comma ts ≡ false → go true (At z done (many name_part i ∷ ps) k) ts ≡ go true (at z done ps k) ts
no_name_part z done i ps k ts h = skip_many true z name_part done i ps k ts (quiet_word w.Comma ts h)

pub no_argument_part : (z : Sort) (done : List Node) (i : Place) (ps : List Part) (k : Frames) (ts : List Tok) → sees w.Comma ts ≡ false → go true (At z done (many argument_part i ∷ ps) k) ts ≡ go true (at z done ps k) ts
no_argument_part z done i ps k ts h = skip_many true z argument_part done i ps k ts (quiet_word w.Comma ts h)

pub no_arguments : (z : Sort) (done : List Node) (i : Place) (ps : List Part) (k : Frames) (ts : List Tok) → sees w.Open ts ≡ false → go true (At z done (maybe arguments i ∷ ps) k) ts ≡ go true (at z done ps k) ts
no_arguments z done i ps k ts h = skip_maybe true z arguments done i ps k ts (quiet_word w.Open ts h)

pub no_statement_part : (z : Sort) (done : List Node) (i : Place) (ps : List Part) (k : Frames) (ts : List Tok) → sees w.Semicolon ts ≡ false → go true (At z done (many statement_part i ∷ ps) k) ts ≡ go true (at z done ps k) ts
no_statement_part z done i ps k ts h = skip_many true z statement_part done i ps k ts (quiet_word w.Semicolon ts h)

pub no_elseif_part : (z : Sort) (done : List Node) (i : Place) (ps : List Part) (k : Frames) (ts : List Tok) → sees w.Elseif ts ≡ false → go true (At z done (many elseif_part i ∷ ps) k) ts ≡ go true (at z done ps k) ts
no_elseif_part z done i ps k ts h = skip_many true z elseif_part done i ps k ts (quiet_word w.Elseif ts h)

pub no_else_part : (z : Sort) (done : List Node) (i : Place) (ps : List Part) (k : Frames) (ts : List Tok) → sees w.Else ts ≡ false → go true (At z done (maybe else_part i ∷ ps) k) ts ≡ go true (at z done ps k) ts
no_else_part z done i ps k ts h = skip_maybe true z else_part done i ps k ts (quiet_word w.Else ts h)

pub no_pre_part : (z : Sort) (done : List Node) (i : Place) (ps : List Part) (k : Frames) (ts : List Tok) → sees w.Pre ts ≡ false → go true (At z done (maybe pre_part i ∷ ps) k) ts ≡ go true (at z done ps k) ts
no_pre_part z done i ps k ts h = skip_maybe true z pre_part done i ps k ts (quiet_word w.Pre ts h)

pub no_eff_part : (z : Sort) (done : List Node) (i : Place) (ps : List Part) (k : Frames) (ts : List Tok) → sees w.Eff ts ≡ false → go true (At z done (maybe eff_part i ∷ ps) k) ts ≡ go true (at z done ps k) ts
no_eff_part z done i ps k ts h = skip_maybe true z eff_part done i ps k ts (quiet_word w.Eff ts h)

pub no_formal_part : (z : Sort) (done : List Node) (i : Place) (ps : List Part) (k : Frames) (ts : List Tok) → sees w.Comma ts ≡ false → go true (At z done (many formal_part i ∷ ps) k) ts ≡ go true (at z done ps k) ts
no_formal_part z done i ps k ts h = skip_many true z formal_part done i ps k ts (quiet_word w.Comma ts h)

pub no_parameters : (z : Sort) (done : List Node) (i : Place) (ps : List Part) (k : Frames) (ts : List Tok) → sees w.Open ts ≡ false → go true (At z done (maybe parameters i ∷ ps) k) ts ≡ go true (at z done ps k) ts
no_parameters z done i ps k ts h = skip_maybe true z parameters done i ps k ts (quiet_word w.Open ts h)

pub no_parameter_part : (z : Sort) (done : List Node) (i : Place) (ps : List Part) (k : Frames) (ts : List Tok) → sees w.Comma ts ≡ false → go true (At z done (many parameter_part i ∷ ps) k) ts ≡ go true (at z done ps k) ts
no_parameter_part z done i ps k ts h = skip_many true z parameter_part done i ps k ts (quiet_word w.Comma ts h)

pub no_variable_part : (z : Sort) (done : List Node) (i : Place) (ps : List Part) (k : Frames) (ts : List Tok) → sees w.Comma ts ≡ false → go true (At z done (many variable_part i ∷ ps) k) ts ≡ go true (at z done ps k) ts
no_variable_part z done i ps k ts h = skip_many true z variable_part done i ps k ts (quiet_word w.Comma ts h)

pub no_states : (z : Sort) (done : List Node) (i : Place) (ps : List Part) (k : Frames) (ts : List Tok) → sees w.States ts ≡ false → go true (At z done (maybe states i ∷ ps) k) ts ≡ go true (at z done ps k) ts
no_states z done i ps k ts h = skip_maybe true z states done i ps k ts (quiet_word w.States ts h)

pub no_tasks : (z : Sort) (done : List Node) (i : Place) (ps : List Part) (k : Frames) (ts : List Tok) → sees w.Tasks ts ≡ false → go true (At z done (maybe tasks i ∷ ps) k) ts ≡ go true (at z done ps k) ts
no_tasks z done i ps k ts h = skip_maybe true z tasks done i ps k ts (quiet_word w.Tasks ts h)

pub no_task : (z : Sort) (done : List Node) (i : Place) (ps : List Part) (k : Frames) (ts : List Tok) → sees w.OpenBrace ts ≡ false → go true (At z done (many task i ∷ ps) k) ts ≡ go true (at z done ps k) ts
no_task z done i ps k ts h = skip_many true z task done i ps k ts (quiet_word w.OpenBrace ts h)

pub no_type_definition : (z : Sort) (done : List Node) (i : Place) (ps : List Part) (k : Frames) (ts : List Tok) → sees w.Type ts ≡ false → go true (At z done (many type_definition i ∷ ps) k) ts ≡ go true (at z done ps k) ts
no_type_definition z done i ps k ts h = skip_many true z type_definition done i ps k ts (quiet_word w.Type ts h)

pub no_component_part : (z : Sort) (done : List Node) (i : Place) (ps : List Part) (k : Frames) (ts : List Tok) → sees w.Semicolon ts ≡ false → go true (At z done (many component_part i ∷ ps) k) ts ≡ go true (at z done ps k) ts
no_component_part z done i ps k ts h = skip_many true z component_part done i ps k ts (quiet_word w.Semicolon ts h)

pub no_hidden : (z : Sort) (done : List Node) (i : Place) (ps : List Part) (k : Frames) (ts : List Tok) → sees w.Hidden ts ≡ false → go true (At z done (maybe hidden i ∷ ps) k) ts ≡ go true (at z done ps k) ts
no_hidden z done i ps k ts h = skip_maybe true z hidden done i ps k ts (quiet_word w.Hidden ts h)

no_front : (f : ℕ) (r : Sort) (t : Tok) → starts_by f r t ≡ false → hit (classes_by f r) t ≡ false
no_front zero r t h = refl
no_front (suc f) r t h = at_led (led r) (plain r) h (λ p. no_front f p.0 t)
  where
    at_led : (l : List (Class × List Part)) (p : Option (Sort × List Part)) → cond (leads l t) true (on p (λ p. starts_by f p.0 t) false) ≡ false
        → ((p : Sort × List Part) → starts_by f p.0 t ≡ false → hit (classes_by f p.0) t ≡ false)
        → hit (heads l ++ on p (λ p. classes_by f p.0) []) t ≡ false
    at_led [] None h g = refl
    at_led [] (Some p) h g = g p h
    at_led ((c, ps) ∷ l) p h g = at_class (accepts c t) h (λ h. at_led l p h g)
      where
        at_class : (x : Bool) → cond (cond x true (leads l t)) true (on p (λ p. starts_by f p.0 t) false) ≡ false
            → (cond (leads l t) true (on p (λ p. starts_by f p.0 t) false) ≡ false → hit (heads l ++ on p (λ p. classes_by f p.0) []) t ≡ false)
            → cond x true (hit (heads l ++ on p (λ p. classes_by f p.0) []) t) ≡ false
        at_class true h g = cc
        at_class false h g = g h

quiet_front : (r : Sort) (ts : List Tok) → front_starts r ts ≡ false → Quiet (starts r) ts
quiet_front r [] h = tt
quiet_front r (t ∷ ts) h = no_front 16 r t h

pub no_many : (z r : Sort) (done : List Node) (i : Place) (ps : List Part) (k : Frames) (ts : List Tok) → front_starts r ts ≡ false → go true (At z done (many r i ∷ ps) k) ts ≡ go true (at z done ps k) ts
no_many z r done i ps k ts h = skip_many true z r done i ps k ts (quiet_front r ts h)

pub no_maybe : (z r : Sort) (done : List Node) (i : Place) (ps : List Part) (k : Frames) (ts : List Tok) → front_starts r ts ≡ false → go true (At z done (maybe r i ∷ ps) k) ts ≡ go true (at z done ps k) ts
no_maybe z r done i ps k ts h = skip_maybe true z r done i ps k ts (quiet_front r ts h)

-- ---- prefixes and signs

pub stops_along : (e : Stop) {a b : Verdict} → a ≡ b → Stops e b → Stops e a
stops_along e p h = subst (λ v. Stops e v) (sym p) h

pub no_not : (k : Frames) (ts : List Tok) → sees w.Not ts ≡ false → nat_lt 64 (depth k) ≡ false → go true (Want negation k) ts ≡ go true (want comparison (In negation [] [] outside k)) ts
no_not k [] h l = refl
no_not k (t ∷ ts) h l =
    ap (λ z. on z (λ m. cond (nat_lt 64 m.depth) (Deep (length ts + 1)) (go true m.next ts)) (Syntax (length ts + 1))) moved
  where
    moved : move (Want negation k) t ≡ move (want comparison (In negation [] [] outside k)) t
    moved = rw (enter_is negation t k) (rw h (sym (move_want comparison t (In negation [] [] outside k))))

pub no_minus : (k : Frames) (ts : List Tok) → sees w.Minus ts ≡ false → nat_lt 64 (depth k) ≡ false → go true (Want unary k) ts ≡ go true (want postfix (In unary [] [] outside k)) ts
no_minus k [] h l = refl
no_minus k (t ∷ ts) h l =
    ap (λ z. on z (λ m. cond (nat_lt 64 m.depth) (Deep (length ts + 1)) (go true m.next ts)) (Syntax (length ts + 1))) moved
  where
    moved : move (Want unary k) t ≡ move (want postfix (In unary [] [] outside k)) t
    moved = rw (enter_is unary t k) (rw h (sym (move_want postfix t (In unary [] [] outside k))))

pub relation_step : (r : Relation) (done : List Node) (k : Frames) (ts : List Tok)
    → go true (At comparison done (maybe compared outside ∷ []) k) (Key (word_of_relation r) ∷ ts) ≡ go true (want sum (In compared (Leaf (Key (word_of_relation r)) ∷ []) [] outside (In comparison done [] outside k))) ts
relation_step relation.Equal done k ts = refl
relation_step relation.NotEqual done k ts = refl
relation_step relation.Less done k ts = refl
relation_step relation.AtMost done k ts = refl
relation_step relation.Greater done k ts = refl
relation_step relation.AtLeast done k ts = refl

pub sign_step : (s : Sign) (done : List Node) (k : Frames) (ts : List Tok)
    → go true (At sum done (many addend outside ∷ []) k) (Key (word_of_sign s) ∷ ts) ≡ go true (want product (In addend (Leaf (Key (word_of_sign s)) ∷ []) [] outside (In sum done (many addend outside ∷ []) outside k))) ts
sign_step sign.Plus done k ts = refl
sign_step sign.Minus done k ts = refl

pub not_gives : {Y : Type 0} (n : Y → Node) (rest : Y → List Tok) (d : ℕ) (ts : List Tok) (r : Result Y Stop) → sees w.Not ts ≡ false → Gives n rest (want comparison) d ts r → GivesLow n rest (want negation) d ts r
not_gives n rest d ts (Ok y) h g = λ k e l. no_not k ts h l ∙ g (In negation [] [] outside k) e
not_gives n rest d ts (Err x) h g = λ k e l. stops_along x (no_not k ts h l) (g (In negation [] [] outside k) e)

pub minus_gives : {Y : Type 0} (n : Y → Node) (rest : Y → List Tok) (d : ℕ) (ts : List Tok) (r : Result Y Stop) → sees w.Minus ts ≡ false → GivesLow n rest (want postfix) d ts r → GivesLow n rest (want unary) d ts r
minus_gives n rest d ts (Ok y) h g = λ k e l. no_minus k ts h l ∙ g (In unary [] [] outside k) e l
minus_gives n rest d ts (Err x) h g = λ k e l. stops_along x (no_minus k ts h l) (g (In unary [] [] outside k) e l)

quiet_two : (v u : Word) (ts : List Tok) → sees v ts ≡ false → sees u ts ≡ false → Quiet (word v ∷ (word u ∷ [])) ts
quiet_two v u [] h g = tt
quiet_two v u (t ∷ ts) h g = rw (h, g) refl

pub no_factor : (done : List Node) (k : Frames) (ts : List Tok) → sees w.Times ts ≡ false → sees w.Mod ts ≡ false → go true (At product done (many factor outside ∷ []) k) ts ≡ go true (at product done [] k) ts
no_factor done k ts h g = skip_many true product factor done outside [] k ts (quiet_two w.Times w.Mod ts h g)

pub no_value : (k : Frames) (ts : List Tok) → sees w.Empty ts ≡ false → sees w.Fill ts ≡ false → nat_lt 64 (depth k) ≡ false → go true (Want init k) ts ≡ go true (want term (In init [] [] outside k)) ts
no_value k [] h g l = refl
no_value k (t ∷ ts) h g l =
    ap (λ z. on z (λ m. cond (nat_lt 64 m.depth) (Deep (length ts + 1)) (go true m.next ts)) (Syntax (length ts + 1))) moved
  where
    moved : move (Want init k) t ≡ move (want term (In init [] [] outside k)) t
    moved = rw (enter_is init t k) (rw (h, g) (sym (move_want term t (In init [] [] outside k))))

pub value_gives : {Y : Type 0} (n : Y → Node) (rest : Y → List Tok) (d : ℕ) (ts : List Tok) (r : Result Y Stop) → sees w.Empty ts ≡ false → sees w.Fill ts ≡ false → Gives n rest (want term) d ts r → GivesLow n rest (want init) d ts r
value_gives n rest d ts (Ok y) h f g = λ k e l. no_value k ts h f l ∙ g (In init [] [] outside k) e
value_gives n rest d ts (Err x) h f g = λ k e l. stops_along x (no_value k ts h f l) (g (In init [] [] outside k) e)

pub name_first : (s : Sort) (done : List Node) (ps : List Part) (k : Frames) (t : List ℕ) (ts : List Tok) → depth k + 1 ≤ 64 → go true (At s done (token name first ∷ ps) k) (Name t ∷ ts) ≡ go true (at s (done ++ Leaf (Name t) ∷ []) ps k) ts
name_first s done ps k t ts l = rw (le-ltb 64 (depth k + 1) l) refl

high_depth : (d : ℕ) → 65 ≤ d → nat_lt 64 d ≡ true
high_depth d l = grind (arith, nat_tests)

pub name_deep : (s : Sort) (done : List Node) (ps : List Part) (k : Frames) (ts : List Tok) → 65 ≤ depth k + 1 → front_name ts ≡ true → go true (At s done (token name first ∷ ps) k) ts ≡ Deep (length ts)
name_deep s done ps k [] l h = cc
name_deep s done ps k (Name t ∷ ts) l h = rw (high_depth (depth k + 1) l) (ap (λ n. Deep n) (omega arith))
name_deep s done ps k (Num n ∷ ts) l h = cc
name_deep s done ps k (Key w ∷ ts) l h = cc

pub inside_stops : {Y : Type 0} (of : Y → List ℕ) (rest : Y → List Tok) (d : ℕ) (ts : List Tok) (e : Stop) (s : Sort) (done : List Node) (ps : List Part) (k : Frames)
    → NamesInside of rest d ts (Err e) → depth k ≡ d → Stops e (go true (At s done (token name first ∷ ps) k) ts)
inside_stops of rest d ts stop.Memory s done ps k h e = tt
inside_stops of rest d ts (stop.Syntax n) s done ps k h e = no_name s done first ps k ts h.0 ∙ ap (λ n. Syntax n) (sym h.1)
inside_stops of rest d ts (stop.Deep n) s done ps k h e = name_deep s done ps k ts (omega (arith, e, h.1.1)) h.0 ∙ ap (λ n. Deep n) (sym h.1.0)

no_formal : (k : Frames) (ts : List Tok) → front_name ts ≡ false → go true (Want formal k) ts ≡ Syntax (length ts)
no_formal k [] h = refl
no_formal k (Name t ∷ ts) h = cc
no_formal k (Num n ∷ ts) h = one_more ts
no_formal k (Key w ∷ ts) h = one_more ts

pub formal_stops : {Y : Type 0} (of : Y → List ℕ) (rest : Y → List Tok) (ts : List Tok) (e : Stop) (k : Frames) → Names of rest ts (Err e) → Stops e (go true (Want formal k) ts)
formal_stops of rest ts stop.Memory k h = tt
formal_stops of rest ts (stop.Syntax n) k h = no_formal k ts h.0 ∙ ap_syntax h.1
  where
    ap_syntax : stop.Syntax n ≡ stop.Syntax (length ts) → Syntax (length ts) ≡ Syntax n
    ap_syntax e = cc
formal_stops of rest ts (stop.Deep n) k h = cc

no_component : (k : Frames) (ts : List Tok) → front_name ts ≡ false → go true (Want component k) ts ≡ Syntax (length ts)
no_component k [] h = refl
no_component k (Name t ∷ ts) h = cc
no_component k (Num n ∷ ts) h = one_more ts
no_component k (Key w ∷ ts) h = one_more ts

pub component_stops : {Y : Type 0} (of : Y → List ℕ) (rest : Y → List Tok) (ts : List Tok) (e : Stop) (k : Frames) → Names of rest ts (Err e) → Stops e (go true (Want component k) ts)
component_stops of rest ts stop.Memory k h = tt
component_stops of rest ts (stop.Syntax n) k h = no_component k ts h.0 ∙ ap_syntax h.1
  where
    ap_syntax : stop.Syntax n ≡ stop.Syntax (length ts) → Syntax (length ts) ≡ Syntax n
    ap_syntax e = cc
component_stops of rest ts (stop.Deep n) k h = cc

no_variable : (k : Frames) (ts : List Tok) → front_name ts ≡ false → go true (Want variable k) ts ≡ Syntax (length ts)
no_variable k [] h = refl
no_variable k (Name t ∷ ts) h = cc
no_variable k (Num n ∷ ts) h = one_more ts
no_variable k (Key w ∷ ts) h = one_more ts

pub variable_stops : {Y : Type 0} (of : Y → List ℕ) (rest : Y → List Tok) (ts : List Tok) (e : Stop) (k : Frames) → Names of rest ts (Err e) → Stops e (go true (Want variable k) ts)
variable_stops of rest ts stop.Memory k h = tt
variable_stops of rest ts (stop.Syntax n) k h = no_variable k ts h.0 ∙ ap_syntax h.1
  where
    ap_syntax : stop.Syntax n ≡ stop.Syntax (length ts) → Syntax (length ts) ≡ Syntax n
    ap_syntax e = cc
variable_stops of rest ts (stop.Deep n) k h = cc

pub no_brace : (k : Frames) (ts : List Tok) → sees w.OpenBrace ts ≡ false → go true (Want task k) ts ≡ Syntax (length ts)
no_brace k [] h = refl
no_brace k (t ∷ ts) h = rw h (one_more ts)

-- no token that can begin this rule
pub refused : (s : Sort) (k : Frames) (ts : List Tok) → front_starts s ts ≡ false → go true (want s k) ts ≡ Syntax (length ts)
refused s k [] h = want_ending s k
refused s k (t ∷ ts) h = ap (λ z. on z (λ m. cond (nat_lt 64 m.depth) (Deep (length ts + 1)) (go true m.next ts)) (Syntax (length ts + 1))) moved ∙ one_more ts
  where
    moved : move (want s k) t ≡ None
    moved = move_want s t k ∙ rw (no_start 16 s t k h) refl

pub no_entry : (k : Frames) (ts : List Tok) → front_starts entry ts ≡ false → go true (Want entry k) ts ≡ Syntax (length ts)
no_entry k ts h = refused entry k ts h

pub kind_step : (e : EntryKind) (k : Frames) (ts : List Tok) → nat_lt 64 (depth k) ≡ false
    → go true (Want entry k) (Key (word_of_kind e) ∷ ts) ≡ go true (at entry (Leaf (Key (word_of_kind e)) ∷ []) entry_parts k) ts
kind_step kind.Input k ts h = rw h refl
kind_step kind.Output k ts h = rw h refl
kind_step kind.Internal k ts h = rw h refl

pub no_enumeration : (k : Frames) (ts : List Tok) → sees w.Enumeration ts ≡ false → nat_lt 64 (depth k) ≡ false → go true (Want type_body k) ts ≡ go true (want type (In type_body [] [] outside k)) ts
no_enumeration k [] h l = refl
no_enumeration k (t ∷ ts) h l =
    ap (λ z. on z (λ m. cond (nat_lt 64 m.depth) (Deep (length ts + 1)) (go true m.next ts)) (Syntax (length ts + 1))) moved
  where
    moved : move (Want type_body k) t ≡ move (want type (In type_body [] [] outside k)) t
    moved = rw (enter_is type_body t k) (rw h (sym (move_want type t (In type_body [] [] outside k))))

pub body_gives : {Y : Type 0} (n : Y → Node) (rest : Y → List Tok) (d : ℕ) (ts : List Tok) (r : Result Y Stop) → sees w.Enumeration ts ≡ false → Gives n rest (want type) d ts r → GivesLow n rest (want type_body) d ts r
body_gives n rest d ts (Ok y) h g = λ k e l. no_enumeration k ts h l ∙ g (In type_body [] [] outside k) e
body_gives n rest d ts (Err x) h g = λ k e l. stops_along x (no_enumeration k ts h l) (g (In type_body [] [] outside k) e)

pub ruleset moves = (no_word, no_name, no_number)
