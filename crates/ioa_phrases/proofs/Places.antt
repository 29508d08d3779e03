-- The places in the table are those that the depths of a tree give.
use Rattle.std.proofs.Common.{◌≡◌, ◌≤◌, ◌+◌, ◌-◌, ℕ, Bool, true, false, ◌&&◌, nat_lt, List, [], ◌∷◌, ◌++◌, length, length-append, append-nil, Some, refl, sym, ◌∙◌, ap, subst, cond, arith}
use borrow.Author.Tests.{le-ltb}
use Rattle.std.proofs.lemmas.Bool.{ltb-false}
use Rattle.ioa_tokens.specs.declared.Word.TheVariants as w
use Rattle.ioa_tokens.specs.Tokens.{Tok, Name, Num, Key, is}
use Rattle.ioa_trees.specs.Nodes.{Sort, source, type_definition, type_body, name_part, type, signed, basic, further, formal, formal_part, states, variable, variable_part, tasks, task, entry, parameters, parameter, parameter_part, transition, pre_part, eff_part, component, component_part, hidden, arguments, argument_part, statements, statement_part, statement, choice, elseif_part, else_part, index_part, init, term, or_part, conjunction, and_part, negation, comparison, compared, sum, addend, product, factor, unary, postfix, primary, Node, Leaf, Branch, Nodes, none, more, pack, alone, passes, make, yield, yields, yield_nodes}
use Rattle.ioa_trees.specs.Grammar.{Class, name, number, word, accepts, Place, outside, first, inside, deeper, Part, token, one, maybe, many, led, plain, whole, pick, Is, Are, by_token, by_rule, a_source, end, a_token, a_rule, absent, present, no_more, one_more}
use Rattle.ioa_phrases.specs.Machine.{on, checked, nullable}
use Rattle.ioa_phrases.specs.Depths.{opens, closes, here, behind, depths, depths_in}
use Rattle.ioa_phrases.proofs.Spelled.{yields_pack}
use Rattle.ioa_phrases.proofs.Complete.{both_left, both_right}
use Rattle.ioa_phrases.proofs.Words.{is_key}

-- ---- a row of the table, part by part

abbrev pub same_place : Place → Place → Bool
same_place outside outside = true
same_place first first = true
same_place inside inside = true
same_place _ _ = false

pub same_place_is : (i j : Place) → same_place i j ≡ true → i ≡ j
same_place_is outside outside h = refl
same_place_is outside first h = cc
same_place_is outside inside h = cc
same_place_is first outside h = cc
same_place_is first first h = refl
same_place_is first inside h = cc
same_place_is inside outside h = cc
same_place_is inside first h = cc
same_place_is inside inside h = refl

-- the place after a part that stood in this one
abbrev pub settled : Place → Place
settled outside = outside
settled first = inside
settled inside = inside

abbrev pub is_settled : Place → Bool
is_settled outside = true
is_settled first = false
is_settled inside = true

abbrev turn_at : Bool → Bool → Place → Place
turn_at c o j = cond c outside (cond o first (settled j))

abbrev pub turn : Sort → Place → Tok → Place
turn s j t = turn_at (closes t) (opens s t) j

abbrev fits_at : Bool → Bool → Place → Place → Bool
fits_at c o j i = cond c (same_place inside j && same_place outside i) (cond o (same_place outside j && same_place outside i) (same_place i j))

abbrev pub fits_token : Sort → Place → Tok → Place → Bool
fits_token s j t i = fits_at (closes t) (opens s t) j i

abbrev token_of : Class → Tok
token_of name = Name []
token_of number = Num 0
token_of (word v) = Key v

-- These parts are in the places that the count gives, where the first comes at this one.
abbrev pub agree : Sort → Place → List Part → Bool
agree s j [] = true
agree s j (token c i ∷ ps) = fits_token s j (token_of c) i && agree s (turn s j (token_of c)) ps
agree s j (one r i ∷ ps) = same_place i j && agree s (settled j) ps
agree s j (maybe r i ∷ ps) = same_place i j && (is_settled j && agree s j ps)
agree s j (many r i ∷ ps) = same_place i j && (is_settled j && agree s j ps)

abbrev alternatives : Sort → List (Class × List Part) → Bool
alternatives s [] = true
alternatives s ((c, ps) ∷ rest) = agree s outside (token c outside ∷ ps) && alternatives s rest

-- a token that may stand for a whole node
abbrev leaves : List (Class × List Part) → Bool
leaves [] = true
leaves ((c, ps) ∷ rest) = cond (nullable ps) (is w.Empty (token_of c)) true && leaves rest

abbrev agreed : Sort → Bool
agreed s = alternatives s (led s) && (on (plain s) (λ p. agree s outside (one p.0 outside ∷ p.1)) true && cond (passes s) (leaves (led s)) true)

all_agreed : (s : Sort) → agreed s ≡ true
all_agreed source = refl
all_agreed type_definition = refl
all_agreed type_body = refl
all_agreed name_part = refl
all_agreed type = refl
all_agreed signed = refl
all_agreed basic = refl
all_agreed further = refl
all_agreed formal = refl
all_agreed formal_part = refl
all_agreed states = refl
all_agreed variable = refl
all_agreed variable_part = refl
all_agreed tasks = refl
all_agreed task = refl
all_agreed entry = refl
all_agreed parameters = refl
all_agreed parameter = refl
all_agreed parameter_part = refl
all_agreed transition = refl
all_agreed pre_part = refl
all_agreed eff_part = refl
all_agreed component = refl
all_agreed component_part = refl
all_agreed hidden = refl
all_agreed arguments = refl
all_agreed argument_part = refl
all_agreed statements = refl
all_agreed statement_part = refl
all_agreed statement = refl
all_agreed choice = refl
all_agreed elseif_part = refl
all_agreed else_part = refl
all_agreed index_part = refl
all_agreed init = refl
all_agreed term = refl
all_agreed or_part = refl
all_agreed conjunction = refl
all_agreed and_part = refl
all_agreed negation = refl
all_agreed comparison = refl
all_agreed compared = refl
all_agreed sum = refl
all_agreed addend = refl
all_agreed product = refl
all_agreed factor = refl
all_agreed unary = refl
all_agreed postfix = refl
all_agreed primary = refl

pub whole_agrees : agree source outside whole ≡ true
whole_agrees = refl

pub token_agrees : (s : Sort) (j : Place) (c : Class) (t : Tok) (i : Place) (ps : List Part) → accepts c t ≡ true → agree s j (token c i ∷ ps) ≡ true
    → (fits_token s j t i && agree s (turn s j t) ps) ≡ true
token_agrees s j name (Name x) i ps a h = h
token_agrees s j name (Num x) i ps a h = cc
token_agrees s j name (Key x) i ps a h = cc
token_agrees s j number (Name x) i ps a h = cc
token_agrees s j number (Num x) i ps a h = h
token_agrees s j number (Key x) i ps a h = cc
token_agrees s j (word v) t i ps a h = subst (λ z. (fits_token s j z i && agree s (turn s j z) ps) ≡ true) (sym (is_key v t a)) h

pick_agrees : (s : Sort) (l : List (Class × List Part)) (t : Tok) (ps : List Part) → alternatives s l ≡ true → pick t l ≡ Some ps
    → (fits_token s outside t outside && agree s (turn s outside t) ps) ≡ true
pick_agrees s [] t ps h e = cc
pick_agrees s ((c, qs) ∷ rest) t ps h e =
    at_test (accepts c t) refl e (pick_agrees s rest t ps (both_right (agree s outside (token c outside ∷ qs)) _ h))
  where
    at_test : (x : Bool) → accepts c t ≡ x → cond x (Some qs) (pick t rest) ≡ Some ps
        → (pick t rest ≡ Some ps → (fits_token s outside t outside && agree s (turn s outside t) ps) ≡ true)
        → (fits_token s outside t outside && agree s (turn s outside t) ps) ≡ true
    at_test true u e f =
        let same : qs ≡ ps = cc in
        subst (λ z. (fits_token s outside t outside && agree s (turn s outside t) z) ≡ true) same
        (token_agrees s outside c t outside qs u (both_left (agree s outside (token c outside ∷ qs)) _ h))
    at_test false u e f = f e

pub led_agrees : (s : Sort) (t : Tok) (ps : List Part) → pick t (led s) ≡ Some ps → (fits_token s outside t outside && agree s (turn s outside t) ps) ≡ true
led_agrees s t ps e = pick_agrees s (led s) t ps (both_left (alternatives s (led s)) _ (all_agreed s)) e

pub plain_agrees : (s r : Sort) (ps : List Part) → plain s ≡ Some (r, ps) → agree s outside ps ≡ true
plain_agrees s r ps e =
    let h = both_left (on (plain s) (λ p. agree s outside (one p.0 outside ∷ p.1)) true) _ (both_right (alternatives s (led s)) _ (all_agreed s)) in
    subst (λ z. on z (λ p. agree s outside (one p.0 outside ∷ p.1)) true ≡ true) e h

-- ---- a token in its place

-- what is known of the limit at a place of a rule that comes at this depth
abbrev pub Known : Place → ℕ → Type 0
Known outside d = d ≤ 64
Known first d = d ≤ 64
Known inside d = d + 1 ≤ 64

known_low : (j : Place) (d : ℕ) → Known j d → d ≤ 64
known_low outside d k = k
known_low first d k = k
known_low inside d k = omega (arith, k)

pub known_settled : (j : Place) (d : ℕ) → is_settled j ≡ true → Known j d → deeper j d ≤ 64
known_settled outside d h k = k
known_settled first d h k = cc
known_settled inside d h k = k

pub known_next : (j : Place) (d : ℕ) → deeper j d ≤ 64 → Known (settled j) d
known_next outside d k = k
known_next first d k = k
known_next inside d k = k

pub known_next_step : (j : Place) (d : ℕ) → Known j d → deeper j d ≤ 65
known_next_step outside d k = omega (arith, k)
known_next_step first d k = omega (arith, k)
known_next_step inside d k = omega (arith, k)

pub settled_deeper : (j : Place) (d : ℕ) → deeper (settled j) d ≡ deeper j d
settled_deeper outside d = refl
settled_deeper first d = refl
settled_deeper inside d = refl

one_less : (d : ℕ) → d + 1 - 1 ≡ d
one_less d = omega arith

test_at : (c o : Bool) (j i : Place) (d : ℕ) → fits_at c o j i ≡ true → Known j d → nat_lt 64 (checked i d) ≡ nat_lt 64 (cond c (deeper j d - 1) (deeper j d))
test_at true o outside i d h k = cc
test_at true o first i d h k = cc
test_at true o inside outside d h k = sym (le-ltb 64 (d + 1 - 1) (omega (arith, k)))
test_at true o inside first d h k = cc
test_at true o inside inside d h k = cc
test_at false true outside outside d h k = sym (le-ltb 64 d k)
test_at false true outside first d h k = cc
test_at false true outside inside d h k = cc
test_at false true first i d h k = cc
test_at false true inside i d h k = cc
test_at false false outside outside d h k = sym (le-ltb 64 d k)
test_at false false outside first d h k = cc
test_at false false outside inside d h k = cc
test_at false false first outside d h k = cc
test_at false false first first d h k = refl
test_at false false first inside d h k = cc
test_at false false inside outside d h k = cc
test_at false false inside first d h k = cc
test_at false false inside inside d h k = sym (le-ltb 64 (d + 1) k)

behind_at : (c o : Bool) (j i : Place) (d : ℕ) → fits_at c o j i ≡ true → cond c (deeper j d - 1) (cond o (deeper j d + 1) (deeper j d)) ≡ deeper (turn_at c o j) d
behind_at true o outside i d h = cc
behind_at true o first i d h = cc
behind_at true o inside i d h = one_less d
behind_at false true outside i d h = refl
behind_at false true first i d h = cc
behind_at false true inside i d h = cc
behind_at false false j i d h = sym (settled_deeper j d)

known_at : (c o : Bool) (j i : Place) (d : ℕ) → fits_at c o j i ≡ true → Known j d → nat_lt 64 (cond c (deeper j d - 1) (deeper j d)) ≡ false → Known (turn_at c o j) d
known_at true o j i d h k l = known_low j d k
known_at false true j i d h k l = known_low j d k
known_at false false j i d h k l = known_next j d (ltb-false 64 (deeper j d) l)

here_at : (c : Bool) (j : Place) (d : ℕ) → Known j d → cond c (deeper j d - 1) (deeper j d) ≤ 65
here_at true j d k = let l = known_next_step j d k in omega (arith, l)
here_at false j d k = known_next_step j d k

pub token_test : (s : Sort) (j i : Place) (t : Tok) (d : ℕ) → fits_token s j t i ≡ true → Known j d → nat_lt 64 (checked i d) ≡ nat_lt 64 (here (Leaf t) (deeper j d))
token_test s j i t d h k = test_at (closes t) (opens s t) j i d h k

pub token_behind : (s : Sort) (j i : Place) (t : Tok) (d : ℕ) → fits_token s j t i ≡ true → behind s (Leaf t) (deeper j d) ≡ deeper (turn s j t) d
token_behind s j i t d h = behind_at (closes t) (opens s t) j i d h

pub token_known : (s : Sort) (j i : Place) (t : Tok) (d : ℕ) → fits_token s j t i ≡ true → Known j d → nat_lt 64 (here (Leaf t) (deeper j d)) ≡ false → Known (turn s j t) d
token_known s j i t d h k l = known_at (closes t) (opens s t) j i d h k l

pub token_here : (j : Place) (t : Tok) (d : ℕ) → Known j d → here (Leaf t) (deeper j d) ≤ 65
token_here j t d k = here_at (closes t) j d k

-- the first token of a rule closes nothing
pub first_here : (s : Sort) (t : Tok) (d : ℕ) → fits_token s outside t outside ≡ true → here (Leaf t) d ≡ d
first_here s t d h = at_close (closes t) h
  where
    at_close : (c : Bool) → fits_at c (opens s t) outside outside ≡ true → cond c (d - 1) d ≡ d
    at_close true h = cc
    at_close false h = refl

-- ---- a node among the parts

abbrev pub Still : Node → Type 0
Still (Leaf t) = is w.Empty t ≡ true
Still (Branch s ns) = Unit {0}

are_nullable : {b : Bool} {d : ℕ} {ps : List Part} {ns : List Node} → Are b d ps ns → ns ≡ [] → nullable ps ≡ true
are_nullable end e = refl
are_nullable (a_token f a are) e = cc
are_nullable (a_rule l is are) e = cc
are_nullable (absent are) e = are_nullable are e
are_nullable (present is are) e = cc
are_nullable (no_more are) e = are_nullable are e
are_nullable (one_more is are) e = cc

empty_token : (c : Class) (t : Tok) → accepts c t ≡ true → is w.Empty (token_of c) ≡ true → is w.Empty t ≡ true
empty_token name t a h = cc
empty_token number t a h = cc
empty_token (word v) t a h = subst (λ z. is w.Empty z ≡ true) (sym (is_key v t a)) h

pick_leaf : (l : List (Class × List Part)) (t : Tok) (ps : List Part) → leaves l ≡ true → pick t l ≡ Some ps → nullable ps ≡ true → is w.Empty t ≡ true
pick_leaf [] t ps h e n = cc
pick_leaf ((c, qs) ∷ rest) t ps h e n = at_test (accepts c t) refl e (λ e. pick_leaf rest t ps (both_right (cond (nullable qs) (is w.Empty (token_of c)) true) _ h) e n)
  where
    at_test : (x : Bool) → accepts c t ≡ x → cond x (Some qs) (pick t rest) ≡ Some ps → (pick t rest ≡ Some ps → is w.Empty t ≡ true) → is w.Empty t ≡ true
    at_test true u e f =
        let same : qs ≡ ps = cc in
        let null : nullable qs ≡ true = subst (λ z. nullable z ≡ true) (sym same) n in
        empty_token c t u (subst (λ z. cond z (is w.Empty (token_of c)) true ≡ true) null (both_left (cond (nullable qs) (is w.Empty (token_of c)) true) _ h))
    at_test false u e f = f e

make_still : (s : Sort) (n : Node) (ns : List Node) → (passes s ≡ true → ns ≡ [] → Still n) → Still (make s (n ∷ ns))
make_still s n ns f = at_test (passes s) f
  where
    at_alone : (ns : List Node) → (ns ≡ [] → Still n) → Still (alone s (n ∷ ns))
    at_alone [] f = f refl
    at_alone (m ∷ ns) f = tt

    at_test : (c : Bool) → (c ≡ true → ns ≡ [] → Still n) → Still (cond c (alone s (n ∷ ns)) (Branch s (pack (n ∷ ns))))
    at_test true f = at_alone ns (f refl)
    at_test false f = tt

pub still : {b : Bool} {s : Sort} {d : ℕ} {n : Node} → Is b s d n → Still n
still {s = s} (by_token t ps ns p are e) =
    subst Still (sym e) (make_still s (Leaf t) ns (λ c z. pick_leaf (led s) t ps (lone c) p (are_nullable are z)))
  where
    lone : passes s ≡ true → leaves (led s) ≡ true
    lone c = subst (λ z. cond z (leaves (led s)) true ≡ true) c
        (both_right (on (plain s) (λ p. agree s outside (one p.0 outside ∷ p.1)) true) _ (both_right (alternatives s (led s)) _ (all_agreed s)))
still {s = s} (by_rule r ps m ns p is are e) = subst Still (sym e) (make_still s m ns (λ c z. still is))
still (a_source ns are e) = subst Still (sym e) tt

pub still_here : (n : Node) (d : ℕ) → Still n → here n d ≡ d
still_here (Leaf t) d h = ap (λ z. here (Leaf z) d) (is_key w.Empty t h)
still_here (Branch s ns) d h = refl

pub still_behind : (s : Sort) (n : Node) (d : ℕ) → Still n → behind s n d ≡ d
still_behind s (Leaf t) d h = ap (λ z. behind s (Leaf z) d) (is_key w.Empty t h)
still_behind s (Branch r ns) d h = refl

pub node_depths : (s : Sort) (n : Node) (ns : Nodes) (d : ℕ) → Still n → depths_in s d (more n ns) ≡ depths d n ++ depths_in s d ns
node_depths s n ns d h = ap (λ z. depths z n ++ depths_in s (behind s n d) ns) (still_here n d h) ∙ ap (λ z. depths d n ++ depths_in s z ns) (still_behind s n d h)

-- the first part of a rule comes where the rule does
pub make_depths : (s : Sort) (d : ℕ) (n : Node) (ns : List Node) → here n d ≡ d → depths d (make s (n ∷ ns)) ≡ depths_in s d (more n (pack ns))
make_depths s d n ns h = at_test (passes s)
  where
    at_alone : (ns : List Node) → depths d (alone s (n ∷ ns)) ≡ depths_in s d (more n (pack ns))
    at_alone [] = ap (λ z. depths z n) (sym h) ∙ sym (append-nil (depths (here n d) n))
    at_alone (m ∷ ns) = refl

    at_test : (c : Bool) → depths d (cond c (alone s (n ∷ ns)) (Branch s (pack (n ∷ ns)))) ≡ depths_in s d (more n (pack ns))
    at_test true = at_alone ns
    at_test false = refl

pub first_depths : (s : Sort) (d : ℕ) (n : Node) (t : Tok) (ps : List Part) (ns : List Node) → pick t (led s) ≡ Some ps → n ≡ make s (Leaf t ∷ ns)
    → depths d n ≡ d ∷ depths_in s (deeper (turn s outside t) d) (pack ns)
first_depths s d n t ps ns p e =
    let h = both_left (fits_token s outside t outside) _ (led_agrees s t ps p) in
    ap (λ z. depths d z) e ∙ (make_depths s d (Leaf t) ns (first_here s t d h)
    ∙ (ap (λ z. z ∷ depths_in s (behind s (Leaf t) d) (pack ns)) (first_here s t d h) ∙ ap (λ z. d ∷ depths_in s z (pack ns)) (token_behind s outside outside t d h)))

pub rule_depths : {b : Bool} {r : Sort} {d : ℕ} {n : Node} (s : Sort) (m : Node) (ns : List Node) → Is b r d m → n ≡ make s (m ∷ ns) → depths d n ≡ depths d m ++ depths_in s d (pack ns)
rule_depths {d = d} s m ns x e = ap (λ z. depths d z) e ∙ (make_depths s d m ns (still_here m d (still x)) ∙ node_depths s m (pack ns) d (still x))

-- ---- a depth for each token

mutual
  pub counts : (d : ℕ) (n : Node) → length (depths d n) ≡ length (yield n)
  counts d (Leaf t) = refl
  counts d (Branch s ns) = counts_in s d ns

  counts_in : (s : Sort) (d : ℕ) (ns : Nodes) → length (depths_in s d ns) ≡ length (yield_nodes ns)
  counts_in s d none = refl
  counts_in s d (more n ns) =
      length-append (depths (here n d) n) (depths_in s (behind s n d) ns)
      ∙ (ap (λ z. z + length (depths_in s (behind s n d) ns)) (counts (here n d) n)
      ∙ (ap (λ z. length (yield n) + z) (counts_in s (behind s n d) ns) ∙ sym (length-append (yield n) (yield_nodes ns))))

pub counts_row : (s : Sort) (d : ℕ) (ns : List Node) → length (depths_in s d (pack ns)) ≡ length (yields ns)
counts_row s d ns = counts_in s d (pack ns) ∙ ap length (yields_pack ns)
