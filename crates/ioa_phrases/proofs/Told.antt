-- The next token always tells what to do: no token that may follow a rule is one that may go on with it.
use Rattle.std.proofs.Common.{rules, ◌≡◌, ℕ, zero, suc, Bool, true, false, ◌&&◌, List, [], ◌∷◌, ◌++◌, Some, None, refl, sym, ◌∙◌, subst, cond}
use denote.Enum.Bare.{same_true, true_same}
use Rattle.ioa_tokens.specs.contracts.Word.{the_type}
use Rattle.ioa_tokens.specs.declared.Word.{Word}
use Rattle.ioa_tokens.specs.declared.Word.TheVariants as w
use Rattle.ioa_tokens.specs.Tokens.{Tok, Name, Num, Key, same_word, is}
use Rattle.ioa_trees.specs.Nodes.{Sort, source, type_definition, type_body, name_part, type, signed, basic, further, formal, formal_part, states, variable, variable_part, tasks, task, entry, parameters, parameter, parameter_part, transition, pre_part, eff_part, component, component_part, hidden, arguments, argument_part, statements, statement_part, statement, choice, elseif_part, else_part, index_part, init, term, or_part, conjunction, and_part, negation, comparison, compared, sum, addend, product, factor, unary, postfix, primary, Leaf}
use Rattle.ioa_trees.specs.Grammar.{Class, name, number, word, accepts, Part, token, one, maybe, many, led, plain, whole, pick, outside}
use Rattle.ioa_phrases.specs.Machine.{Frames, In, depth, on, want, at, enter, move, ending, Syntax}

-- ---- classes of tokens

abbrev pub same_class : Class → Class → Bool
same_class name name = true
same_class number number = true
same_class (word v) (word u) = same_word v u
same_class _ _ = false

abbrev pub hit : List Class → Tok → Bool
hit [] t = false
hit (c ∷ cs) t = cond (accepts c t) true (hit cs t)

abbrev pub has : List Class → Class → Bool
has [] c = false
has (d ∷ ds) c = cond (same_class d c) true (has ds c)

abbrev pub apart : List Class → List Class → Bool
apart [] ds = true
apart (c ∷ cs) ds = cond (has ds c) false (apart cs ds)

abbrev pub within : List Class → List Class → Bool
within [] ds = true
within (c ∷ cs) ds = cond (has ds c) (within cs ds) false

word_is : (v u : Word) → same_word v u ≡ true → v ≡ u
word_is v u h = same_true the_type (search rules) v u h

overlap : (c d : Class) (t : Tok) → accepts c t ≡ true → accepts d t ≡ true → same_class d c ≡ true
overlap name name t h g = refl
overlap name number (Name s) h g = cc
overlap name number (Num s) h g = cc
overlap name number (Key s) h g = cc
overlap name (word v) (Name s) h g = cc
overlap name (word v) (Num s) h g = cc
overlap name (word v) (Key s) h g = cc
overlap number name (Name s) h g = cc
overlap number name (Num s) h g = cc
overlap number name (Key s) h g = cc
overlap number number t h g = refl
overlap number (word v) (Name s) h g = cc
overlap number (word v) (Num s) h g = cc
overlap number (word v) (Key s) h g = cc
overlap (word v) name (Name s) h g = cc
overlap (word v) name (Num s) h g = cc
overlap (word v) name (Key s) h g = cc
overlap (word v) number (Name s) h g = cc
overlap (word v) number (Num s) h g = cc
overlap (word v) number (Key s) h g = cc
overlap (word v) (word u) (Name s) h g = cc
overlap (word v) (word u) (Num s) h g = cc
overlap (word v) (word u) (Key x) h g = true_same the_type u v (sym (word_is x u g) ∙ word_is x v h)

same_accepts : (c d : Class) (t : Tok) → same_class d c ≡ true → accepts c t ≡ true → accepts d t ≡ true
same_accepts name name t h g = g
same_accepts name number t h g = cc
same_accepts name (word v) t h g = cc
same_accepts number name t h g = cc
same_accepts number number t h g = g
same_accepts number (word v) t h g = cc
same_accepts (word v) name t h g = cc
same_accepts (word v) number t h g = cc
same_accepts (word v) (word u) t h g = subst (λ z. is z t ≡ true) (sym (word_is u v h)) g

not_has : (ds : List Class) (c : Class) (t : Tok) → has ds c ≡ false → accepts c t ≡ true → hit ds t ≡ false
not_has [] c t h g = refl
not_has (d ∷ ds) c t h g = at_same (same_class d c) refl (accepts d t) refl h (λ h. not_has ds c t h g)
  where
    at_same : (x : Bool) → same_class d c ≡ x → (y : Bool) → accepts d t ≡ y → cond x true (has ds c) ≡ false → (has ds c ≡ false → hit ds t ≡ false) → cond y true (hit ds t) ≡ false
    at_same true u y v h f = cc
    at_same false u true v h f = let o = overlap c d t g v in cc
    at_same false u false v h f = f h

pub apart_hit : (cs ds : List Class) (t : Tok) → apart cs ds ≡ true → hit cs t ≡ true → hit ds t ≡ false
apart_hit [] ds t h g = cc
apart_hit (c ∷ cs) ds t h g = at_has (has ds c) refl (accepts c t) refl h g (λ h g. apart_hit cs ds t h g)
  where
    at_has : (x : Bool) → has ds c ≡ x → (y : Bool) → accepts c t ≡ y → cond x false (apart cs ds) ≡ true → cond y true (hit cs t) ≡ true
        → (apart cs ds ≡ true → hit cs t ≡ true → hit ds t ≡ false) → hit ds t ≡ false
    at_has true u y v h g f = cc
    at_has false u true v h g f = not_has ds c t u v
    at_has false u false v h g f = f h g

has_hit : (ds : List Class) (c : Class) (t : Tok) → has ds c ≡ true → accepts c t ≡ true → hit ds t ≡ true
has_hit [] c t h g = cc
has_hit (d ∷ ds) c t h g = at_same (same_class d c) refl h (λ h. has_hit ds c t h g)
  where
    after_first : (y : Bool) → hit ds t ≡ true → cond y true (hit ds t) ≡ true
    after_first true h = refl
    after_first false h = h

    at_same : (x : Bool) → same_class d c ≡ x → cond x true (has ds c) ≡ true → (has ds c ≡ true → hit ds t ≡ true) → cond (accepts d t) true (hit ds t) ≡ true
    at_same true u h f = rw (same_accepts c d t u g) refl
    at_same false u h f = after_first (accepts d t) (f h)

pub within_hit : (cs ds : List Class) (t : Tok) → within cs ds ≡ true → hit ds t ≡ false → hit cs t ≡ false
within_hit [] ds t h g = refl
within_hit (c ∷ cs) ds t h g = at_has (has ds c) refl (accepts c t) refl h (λ h. within_hit cs ds t h g)
  where
    at_has : (x : Bool) → has ds c ≡ x → (y : Bool) → accepts c t ≡ y → cond x (within cs ds) false ≡ true → (within cs ds ≡ true → hit cs t ≡ false) → cond y true (hit cs t) ≡ false
    at_has true u true v h f = let o = has_hit ds c t u v in cc
    at_has true u false v h f = f h
    at_has false u y v h f = cc

pub hit_left : (cs ds : List Class) (t : Tok) → hit cs t ≡ true → hit (cs ++ ds) t ≡ true
hit_left [] ds t h = cc
hit_left (c ∷ cs) ds t h = at_first (accepts c t) h (hit_left cs ds t)
  where
    at_first : (x : Bool) → cond x true (hit cs t) ≡ true → (hit cs t ≡ true → hit (cs ++ ds) t ≡ true) → cond x true (hit (cs ++ ds) t) ≡ true
    at_first true h f = refl
    at_first false h f = f h

pub hit_right : (cs ds : List Class) (t : Tok) → hit ds t ≡ true → hit (cs ++ ds) t ≡ true
hit_right [] ds t h = h
hit_right (c ∷ cs) ds t h = at_first (accepts c t) (hit_right cs ds t h)
  where
    at_first : (x : Bool) → hit (cs ++ ds) t ≡ true → cond x true (hit (cs ++ ds) t) ≡ true
    at_first true h = refl
    at_first false h = h

pub miss_left : (cs ds : List Class) (t : Tok) → hit (cs ++ ds) t ≡ false → hit cs t ≡ false
miss_left [] ds t h = refl
miss_left (c ∷ cs) ds t h = at_first (accepts c t) h (miss_left cs ds t)
  where
    at_first : (x : Bool) → cond x true (hit (cs ++ ds) t) ≡ false → (hit (cs ++ ds) t ≡ false → hit cs t ≡ false) → cond x true (hit cs t) ≡ false
    at_first true h f = h
    at_first false h f = f h

pub miss_right : (cs ds : List Class) (t : Tok) → hit (cs ++ ds) t ≡ false → hit ds t ≡ false
miss_right [] ds t h = h
miss_right (c ∷ cs) ds t h = at_first (accepts c t) h (miss_right cs ds t)
  where
    at_first : (x : Bool) → cond x true (hit (cs ++ ds) t) ≡ false → (hit (cs ++ ds) t ≡ false → hit ds t ≡ false) → hit ds t ≡ false
    at_first true h f = cc
    at_first false h f = f h

-- ---- the tokens with which something begins, and those that go on with what could be at its end

abbrev pub heads : List (Class × List Part) → List Class
heads [] = []
heads ((c, ps) ∷ rest) = c ∷ heads rest

abbrev pub starts_by : ℕ → Sort → List Class
starts_by zero s = []
starts_by (suc f) s = heads (led s) ++ on (plain s) (λ p. starts_by f p.0) []

abbrev pub starts : Sort → List Class
starts s = starts_by 16 s

abbrev pub firsts : List Part → List Class
firsts [] = []
firsts (token c i ∷ ps) = c ∷ []
firsts (one s i ∷ ps) = starts s
firsts (maybe s i ∷ ps) = starts s ++ firsts ps
firsts (many s i ∷ ps) = starts s ++ firsts ps

abbrev pub trails : Sort → List Class
trails type_definition = word w.Comma ∷ []
trails type_body = word w.Comma ∷ []
trails basic = word w.Open ∷ (word w.Pre ∷ (word w.Eff ∷ (word w.Semicolon ∷ (word w.Or ∷ (word w.And ∷ (word w.Equal ∷ (word w.NotEqual ∷ (word w.Less ∷ (word w.AtMost ∷ (word w.Greater ∷ (word w.AtLeast ∷ (word w.Plus ∷ (word w.Minus ∷ (word w.Times ∷ (word w.Mod ∷ (word w.OpenBracket ∷ (word w.Input ∷ (word w.Output ∷ (word w.Internal ∷ (word w.Tasks ∷ (word w.OpenBrace ∷ [])))))))))))))))))))))
trails states = word w.Comma ∷ (word w.Or ∷ (word w.And ∷ (word w.Equal ∷ (word w.NotEqual ∷ (word w.Less ∷ (word w.AtMost ∷ (word w.Greater ∷ (word w.AtLeast ∷ (word w.Plus ∷ (word w.Minus ∷ (word w.Times ∷ (word w.Mod ∷ (word w.OpenBracket ∷ [])))))))))))))
trails variable = word w.Or ∷ (word w.And ∷ (word w.Equal ∷ (word w.NotEqual ∷ (word w.Less ∷ (word w.AtMost ∷ (word w.Greater ∷ (word w.AtLeast ∷ (word w.Plus ∷ (word w.Minus ∷ (word w.Times ∷ (word w.Mod ∷ (word w.OpenBracket ∷ []))))))))))))
trails variable_part = word w.Or ∷ (word w.And ∷ (word w.Equal ∷ (word w.NotEqual ∷ (word w.Less ∷ (word w.AtMost ∷ (word w.Greater ∷ (word w.AtLeast ∷ (word w.Plus ∷ (word w.Minus ∷ (word w.Times ∷ (word w.Mod ∷ (word w.OpenBracket ∷ []))))))))))))
trails tasks = word w.OpenBrace ∷ []
trails entry = word w.Open ∷ []
trails transition = word w.Open ∷ (word w.Pre ∷ (word w.Eff ∷ (word w.Semicolon ∷ (word w.Or ∷ (word w.And ∷ (word w.Equal ∷ (word w.NotEqual ∷ (word w.Less ∷ (word w.AtMost ∷ (word w.Greater ∷ (word w.AtLeast ∷ (word w.Plus ∷ (word w.Minus ∷ (word w.Times ∷ (word w.Mod ∷ (word w.OpenBracket ∷ []))))))))))))))))
trails pre_part = word w.Or ∷ (word w.And ∷ (word w.Equal ∷ (word w.NotEqual ∷ (word w.Less ∷ (word w.AtMost ∷ (word w.Greater ∷ (word w.AtLeast ∷ (word w.Plus ∷ (word w.Minus ∷ (word w.Times ∷ (word w.Mod ∷ (word w.OpenBracket ∷ []))))))))))))
trails eff_part = word w.Semicolon ∷ (word w.Or ∷ (word w.And ∷ (word w.Equal ∷ (word w.NotEqual ∷ (word w.Less ∷ (word w.AtMost ∷ (word w.Greater ∷ (word w.AtLeast ∷ (word w.Plus ∷ (word w.Minus ∷ (word w.Times ∷ (word w.Mod ∷ (word w.OpenBracket ∷ [])))))))))))))
trails component = word w.Open ∷ []
trails component_part = word w.Open ∷ []
trails hidden = word w.Comma ∷ []
trails argument_part = word w.Or ∷ (word w.And ∷ (word w.Equal ∷ (word w.NotEqual ∷ (word w.Less ∷ (word w.AtMost ∷ (word w.Greater ∷ (word w.AtLeast ∷ (word w.Plus ∷ (word w.Minus ∷ (word w.Times ∷ (word w.Mod ∷ (word w.OpenBracket ∷ []))))))))))))
trails statements = word w.Semicolon ∷ (word w.Or ∷ (word w.And ∷ (word w.Equal ∷ (word w.NotEqual ∷ (word w.Less ∷ (word w.AtMost ∷ (word w.Greater ∷ (word w.AtLeast ∷ (word w.Plus ∷ (word w.Minus ∷ (word w.Times ∷ (word w.Mod ∷ (word w.OpenBracket ∷ [])))))))))))))
trails statement_part = word w.Or ∷ (word w.And ∷ (word w.Equal ∷ (word w.NotEqual ∷ (word w.Less ∷ (word w.AtMost ∷ (word w.Greater ∷ (word w.AtLeast ∷ (word w.Plus ∷ (word w.Minus ∷ (word w.Times ∷ (word w.Mod ∷ (word w.OpenBracket ∷ []))))))))))))
trails statement = word w.Or ∷ (word w.And ∷ (word w.Equal ∷ (word w.NotEqual ∷ (word w.Less ∷ (word w.AtMost ∷ (word w.Greater ∷ (word w.AtLeast ∷ (word w.Plus ∷ (word w.Minus ∷ (word w.Times ∷ (word w.Mod ∷ (word w.OpenBracket ∷ []))))))))))))
trails choice = word w.Semicolon ∷ (word w.Or ∷ (word w.And ∷ (word w.Equal ∷ (word w.NotEqual ∷ (word w.Less ∷ (word w.AtMost ∷ (word w.Greater ∷ (word w.AtLeast ∷ (word w.Plus ∷ (word w.Minus ∷ (word w.Times ∷ (word w.Mod ∷ (word w.OpenBracket ∷ [])))))))))))))
trails elseif_part = word w.Semicolon ∷ (word w.Or ∷ (word w.And ∷ (word w.Equal ∷ (word w.NotEqual ∷ (word w.Less ∷ (word w.AtMost ∷ (word w.Greater ∷ (word w.AtLeast ∷ (word w.Plus ∷ (word w.Minus ∷ (word w.Times ∷ (word w.Mod ∷ (word w.OpenBracket ∷ [])))))))))))))
trails else_part = word w.Semicolon ∷ (word w.Or ∷ (word w.And ∷ (word w.Equal ∷ (word w.NotEqual ∷ (word w.Less ∷ (word w.AtMost ∷ (word w.Greater ∷ (word w.AtLeast ∷ (word w.Plus ∷ (word w.Minus ∷ (word w.Times ∷ (word w.Mod ∷ (word w.OpenBracket ∷ [])))))))))))))
trails init = word w.Or ∷ (word w.And ∷ (word w.Equal ∷ (word w.NotEqual ∷ (word w.Less ∷ (word w.AtMost ∷ (word w.Greater ∷ (word w.AtLeast ∷ (word w.Plus ∷ (word w.Minus ∷ (word w.Times ∷ (word w.Mod ∷ (word w.OpenBracket ∷ []))))))))))))
trails term = word w.Or ∷ (word w.And ∷ (word w.Equal ∷ (word w.NotEqual ∷ (word w.Less ∷ (word w.AtMost ∷ (word w.Greater ∷ (word w.AtLeast ∷ (word w.Plus ∷ (word w.Minus ∷ (word w.Times ∷ (word w.Mod ∷ (word w.OpenBracket ∷ []))))))))))))
trails or_part = word w.And ∷ (word w.Equal ∷ (word w.NotEqual ∷ (word w.Less ∷ (word w.AtMost ∷ (word w.Greater ∷ (word w.AtLeast ∷ (word w.Plus ∷ (word w.Minus ∷ (word w.Times ∷ (word w.Mod ∷ (word w.OpenBracket ∷ [])))))))))))
trails conjunction = word w.And ∷ (word w.Equal ∷ (word w.NotEqual ∷ (word w.Less ∷ (word w.AtMost ∷ (word w.Greater ∷ (word w.AtLeast ∷ (word w.Plus ∷ (word w.Minus ∷ (word w.Times ∷ (word w.Mod ∷ (word w.OpenBracket ∷ [])))))))))))
trails and_part = word w.Equal ∷ (word w.NotEqual ∷ (word w.Less ∷ (word w.AtMost ∷ (word w.Greater ∷ (word w.AtLeast ∷ (word w.Plus ∷ (word w.Minus ∷ (word w.Times ∷ (word w.Mod ∷ (word w.OpenBracket ∷ []))))))))))
trails negation = word w.Equal ∷ (word w.NotEqual ∷ (word w.Less ∷ (word w.AtMost ∷ (word w.Greater ∷ (word w.AtLeast ∷ (word w.Plus ∷ (word w.Minus ∷ (word w.Times ∷ (word w.Mod ∷ (word w.OpenBracket ∷ []))))))))))
trails comparison = word w.Equal ∷ (word w.NotEqual ∷ (word w.Less ∷ (word w.AtMost ∷ (word w.Greater ∷ (word w.AtLeast ∷ (word w.Plus ∷ (word w.Minus ∷ (word w.Times ∷ (word w.Mod ∷ (word w.OpenBracket ∷ []))))))))))
trails compared = word w.Plus ∷ (word w.Minus ∷ (word w.Times ∷ (word w.Mod ∷ (word w.OpenBracket ∷ []))))
trails sum = word w.Plus ∷ (word w.Minus ∷ (word w.Times ∷ (word w.Mod ∷ (word w.OpenBracket ∷ []))))
trails addend = word w.Times ∷ (word w.Mod ∷ (word w.OpenBracket ∷ []))
trails product = word w.Times ∷ (word w.Mod ∷ (word w.OpenBracket ∷ []))
trails factor = word w.OpenBracket ∷ []
trails unary = word w.OpenBracket ∷ []
trails postfix = word w.OpenBracket ∷ []
trails _ = []

abbrev pub empty : List Part → Bool
empty [] = true
empty (token c i ∷ ps) = false
empty (one s i ∷ ps) = false
empty (maybe s i ∷ ps) = empty ps
empty (many s i ∷ ps) = empty ps

abbrev pub ends : List Part → List Class
ends [] = []
ends (token c i ∷ ps) = ends ps
ends (one s i ∷ ps) = cond (empty ps) (trails s) [] ++ ends ps
ends (maybe s i ∷ ps) = cond (empty ps) (starts s ++ trails s) [] ++ ends ps
ends (many s i ∷ ps) = cond (empty ps) (starts s ++ trails s) [] ++ ends ps

abbrev pub is_part : Sort → Bool
is_part source = false
is_part _ = true

abbrev pub safe : List Part → Bool
safe [] = true
safe (token c i ∷ ps) = safe ps
safe (one s i ∷ ps) = is_part s && (apart (firsts ps) (trails s) && safe ps)
safe (maybe s i ∷ ps) = is_part s && (apart (firsts ps) (starts s) && (apart (firsts ps) (trails s) && safe ps))
safe (many s i ∷ ps) = is_part s && (apart (starts s ++ firsts ps) (trails s) && (apart (firsts ps) (starts s) && safe ps))

abbrev pub body : List Class → List Part → Bool
body cs ps = safe ps && within (ends ps) cs

abbrev pub bodies : List Class → List (Class × List Part) → Bool
bodies cs [] = true
bodies cs ((c, ps) ∷ rest) = body cs ps && bodies cs rest

abbrev pub told : Sort → Bool
told s = bodies (trails s) (led s) && on (plain s) (λ p. body (trails s) (one p.0 outside ∷ p.1) && apart (starts p.0) (heads (led s))) true

pub all_told : (s : Sort) → told s ≡ true
all_told source = refl
all_told type_definition = refl
all_told type_body = refl
all_told name_part = refl
all_told type = refl
all_told signed = refl
all_told basic = refl
all_told further = refl
all_told formal = refl
all_told formal_part = refl
all_told states = refl
all_told variable = refl
all_told variable_part = refl
all_told tasks = refl
all_told task = refl
all_told entry = refl
all_told parameters = refl
all_told parameter = refl
all_told parameter_part = refl
all_told transition = refl
all_told pre_part = refl
all_told eff_part = refl
all_told component = refl
all_told component_part = refl
all_told hidden = refl
all_told arguments = refl
all_told argument_part = refl
all_told statements = refl
all_told statement_part = refl
all_told statement = refl
all_told choice = refl
all_told elseif_part = refl
all_told else_part = refl
all_told index_part = refl
all_told init = refl
all_told term = refl
all_told or_part = refl
all_told conjunction = refl
all_told and_part = refl
all_told negation = refl
all_told comparison = refl
all_told compared = refl
all_told sum = refl
all_told addend = refl
all_told product = refl
all_told factor = refl
all_told unary = refl
all_told postfix = refl
all_told primary = refl

pub whole_safe : safe whole ≡ true
whole_safe = refl

-- ---- a chain of rules is followed to its end

pub starts_is : (s : Sort) → starts s ≡ heads (led s) ++ on (plain s) (λ p. starts p.0) []
starts_is source = refl
starts_is type_definition = refl
starts_is type_body = refl
starts_is name_part = refl
starts_is type = refl
starts_is signed = refl
starts_is basic = refl
starts_is further = refl
starts_is formal = refl
starts_is formal_part = refl
starts_is states = refl
starts_is variable = refl
starts_is variable_part = refl
starts_is tasks = refl
starts_is task = refl
starts_is entry = refl
starts_is parameters = refl
starts_is parameter = refl
starts_is parameter_part = refl
starts_is transition = refl
starts_is pre_part = refl
starts_is eff_part = refl
starts_is component = refl
starts_is component_part = refl
starts_is hidden = refl
starts_is arguments = refl
starts_is argument_part = refl
starts_is statements = refl
starts_is statement_part = refl
starts_is statement = refl
starts_is choice = refl
starts_is elseif_part = refl
starts_is else_part = refl
starts_is index_part = refl
starts_is init = refl
starts_is term = refl
starts_is or_part = refl
starts_is conjunction = refl
starts_is and_part = refl
starts_is negation = refl
starts_is comparison = refl
starts_is compared = refl
starts_is sum = refl
starts_is addend = refl
starts_is product = refl
starts_is factor = refl
starts_is unary = refl
starts_is postfix = refl
starts_is primary = refl

pub enter_is : (s : Sort) (t : Tok) (k : Frames) → enter s t k ≡ on (pick t (led s)) (λ qs. Some (at s (Leaf t ∷ []) qs k)) (on (plain s) (λ p. enter p.0 t (In s [] p.1 outside k)) None)
enter_is source t k = refl
enter_is type_definition t k = refl
enter_is type_body t k = refl
enter_is name_part t k = refl
enter_is type t k = refl
enter_is signed t k = refl
enter_is basic t k = refl
enter_is further t k = refl
enter_is formal t k = refl
enter_is formal_part t k = refl
enter_is states t k = refl
enter_is variable t k = refl
enter_is variable_part t k = refl
enter_is tasks t k = refl
enter_is task t k = refl
enter_is entry t k = refl
enter_is parameters t k = refl
enter_is parameter t k = refl
enter_is parameter_part t k = refl
enter_is transition t k = refl
enter_is pre_part t k = refl
enter_is eff_part t k = refl
enter_is component t k = refl
enter_is component_part t k = refl
enter_is hidden t k = refl
enter_is arguments t k = refl
enter_is argument_part t k = refl
enter_is statements t k = refl
enter_is statement_part t k = refl
enter_is statement t k = refl
enter_is choice t k = refl
enter_is elseif_part t k = refl
enter_is else_part t k = refl
enter_is index_part t k = refl
enter_is init t k = refl
enter_is term t k = refl
enter_is or_part t k = refl
enter_is conjunction t k = refl
enter_is and_part t k = refl
enter_is negation t k = refl
enter_is comparison t k = refl
enter_is compared t k = refl
enter_is sum t k = refl
enter_is addend t k = refl
enter_is product t k = refl
enter_is factor t k = refl
enter_is unary t k = refl
enter_is postfix t k = refl
enter_is primary t k = refl

pub move_want : (s : Sort) (t : Tok) (k : Frames) → move (want s k) t ≡ on (enter s t k) (λ n. Some (record { next = n; depth = depth k })) None
move_want source t k = refl
move_want type_definition t k = refl
move_want type_body t k = refl
move_want name_part t k = refl
move_want type t k = refl
move_want signed t k = refl
move_want basic t k = refl
move_want further t k = refl
move_want formal t k = refl
move_want formal_part t k = refl
move_want states t k = refl
move_want variable t k = refl
move_want variable_part t k = refl
move_want tasks t k = refl
move_want task t k = refl
move_want entry t k = refl
move_want parameters t k = refl
move_want parameter t k = refl
move_want parameter_part t k = refl
move_want transition t k = refl
move_want pre_part t k = refl
move_want eff_part t k = refl
move_want component t k = refl
move_want component_part t k = refl
move_want hidden t k = refl
move_want arguments t k = refl
move_want argument_part t k = refl
move_want statements t k = refl
move_want statement_part t k = refl
move_want statement t k = refl
move_want choice t k = refl
move_want elseif_part t k = refl
move_want else_part t k = refl
move_want index_part t k = refl
move_want init t k = refl
move_want term t k = refl
move_want or_part t k = refl
move_want conjunction t k = refl
move_want and_part t k = refl
move_want negation t k = refl
move_want comparison t k = refl
move_want compared t k = refl
move_want sum t k = refl
move_want addend t k = refl
move_want product t k = refl
move_want factor t k = refl
move_want unary t k = refl
move_want postfix t k = refl
move_want primary t k = refl

pub want_ending : (s : Sort) (k : Frames) → ending (want s k) ≡ Syntax 0
want_ending source k = refl
want_ending type_definition k = refl
want_ending type_body k = refl
want_ending name_part k = refl
want_ending type k = refl
want_ending signed k = refl
want_ending basic k = refl
want_ending further k = refl
want_ending formal k = refl
want_ending formal_part k = refl
want_ending states k = refl
want_ending variable k = refl
want_ending variable_part k = refl
want_ending tasks k = refl
want_ending task k = refl
want_ending entry k = refl
want_ending parameters k = refl
want_ending parameter k = refl
want_ending parameter_part k = refl
want_ending transition k = refl
want_ending pre_part k = refl
want_ending eff_part k = refl
want_ending component k = refl
want_ending component_part k = refl
want_ending hidden k = refl
want_ending arguments k = refl
want_ending argument_part k = refl
want_ending statements k = refl
want_ending statement_part k = refl
want_ending statement k = refl
want_ending choice k = refl
want_ending elseif_part k = refl
want_ending else_part k = refl
want_ending index_part k = refl
want_ending init k = refl
want_ending term k = refl
want_ending or_part k = refl
want_ending conjunction k = refl
want_ending and_part k = refl
want_ending negation k = refl
want_ending comparison k = refl
want_ending compared k = refl
want_ending sum k = refl
want_ending addend k = refl
want_ending product k = refl
want_ending factor k = refl
want_ending unary k = refl
want_ending postfix k = refl
want_ending primary k = refl
