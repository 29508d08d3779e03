-- Whatever was read so far, a text of the grammar goes on from it.
use Rattle.std.proofs.Common.{length-append, ◌≡◌, ◌+◌, ℕ, Bool, true, false, ◌&&◌, nat_lt, List, [], ◌∷◌, ◌++◌, length, append_assoc, append-nil, Option, Some, None, refl, sym, ◌∙◌, ap, cond, arith}
use denote.Enum.Bare.{true_same}
use Rattle.ioa_tokens.specs.contracts.Word.{the_type}
use Rattle.ioa_tokens.specs.declared.Word.TheVariants as w
use Rattle.ioa_tokens.specs.Tokens.{Tok, Name, Num, Key}
use Rattle.ioa_trees.specs.Nodes.{Sort, source, type_definition, type_body, name_part, type, signed, basic, further, formal, formal_part, states, variable, variable_part, tasks, task, entry, parameters, parameter, parameter_part, transition, pre_part, eff_part, component, component_part, hidden, arguments, argument_part, statements, statement_part, statement, choice, elseif_part, else_part, index_part, init, term, or_part, conjunction, and_part, negation, comparison, compared, sum, addend, product, factor, unary, postfix, primary, Node, Leaf, make, yield, yields}
use Rattle.ioa_trees.specs.Grammar.{Class, name, number, word, accepts, Part, token, one, maybe, many, led, plain, whole, pick, Is, Are, by_token, by_rule, a_source, end, a_token, a_rule, absent, no_more, Place, outside, first, inside, deeper, Fits}
use Rattle.ioa_phrases.specs.Machine.{Frames, Bottom, In, depth, State, Want, At, Done, Step, on, move, Syntax, Deep, go, start}
use Rattle.ioa_phrases.proofs.Prefix.{left}
use Rattle.ioa_phrases.proofs.Sound.{Full, Good, move_good, start_good}
use Rattle.ioa_phrases.proofs.Spelled.{said, spelled, make_yields, yields_append, move_spelled}

-- ---- something of each rule

abbrev pub Sample : Sort → Type 0
Sample s = (d : ℕ) → (n : Node) × Is false s d n

abbrev pub Samples : List Part → Type 0
Samples ps = (d : ℕ) → (ns : List Node) × Are false d ps ns

by_first : (s : Sort) (t : Tok) (ps : List Part) → pick t (led s) ≡ Some ps → Samples ps → Sample s
by_first s t ps e f = λ d. let x = f d in (make s (Leaf t ∷ x.0), by_token t ps x.0 e x.1 refl)

by_other : (s r : Sort) (ps : List Part) → plain s ≡ Some (r, ps) → Sample r → Samples ps → Sample s
by_other s r ps e g f = λ d. let m = g d in let x = f d in (make s (m.0 ∷ x.0), by_rule r ps m.0 x.0 e m.1 x.1 refl)

no_parts : Samples []
no_parts d = ([], end)

fits_any : (i : Place) (d : ℕ) → Fits false i d
fits_any outside d = tt
fits_any first d = tt
fits_any inside d = tt

with_token : {c : Class} {i : Place} {ps : List Part} (t : Tok) → accepts c t ≡ true → Samples ps → Samples (token c i ∷ ps)
with_token {i = i} t a f = λ d. let x = f d in (Leaf t ∷ x.0, a_token (fits_any i d) a x.1)

with_rule : {s : Sort} {i : Place} {ps : List Part} → Sample s → Samples ps → Samples (one s i ∷ ps)
with_rule {i = i} g f = λ d. let n = g (deeper i d) in let x = f d in (n.0 ∷ x.0, a_rule tt n.1 x.1)

without_maybe : {s : Sort} {i : Place} {ps : List Part} → Samples ps → Samples (maybe s i ∷ ps)
without_maybe f = λ d. let x = f d in (x.0, absent x.1)

without_many : {s : Sort} {i : Place} {ps : List Part} → Samples ps → Samples (many s i ∷ ps)
without_many f = λ d. let x = f d in (x.0, no_more x.1)

sample_signed : Sample signed
sample_signed = by_first signed (Num 0) _ refl (no_parts)

sample_type : Sample type
sample_type = by_first type (Key w.Bool) _ refl (no_parts)

sample_type_body : Sample type_body
sample_type_body = by_other type_body type _ refl sample_type (no_parts)

sample_type_definition : Sample type_definition
sample_type_definition = by_first type_definition (Key w.Type) _ refl (with_token (Name []) refl (with_token (Key w.Equal) refl (with_rule sample_type_body no_parts)))

sample_name_part : Sample name_part
sample_name_part = by_first name_part (Key w.Comma) _ refl (with_token (Name []) refl no_parts)

sample_primary : Sample primary
sample_primary = by_first primary (Num 0) _ refl (no_parts)

sample_postfix : Sample postfix
sample_postfix = by_other postfix primary _ refl sample_primary (without_many no_parts)

sample_unary : Sample unary
sample_unary = by_other unary postfix _ refl sample_postfix (no_parts)

sample_product : Sample product
sample_product = by_other product unary _ refl sample_unary (without_many no_parts)

sample_sum : Sample sum
sample_sum = by_other sum product _ refl sample_product (without_many no_parts)

sample_comparison : Sample comparison
sample_comparison = by_other comparison sum _ refl sample_sum (without_maybe no_parts)

sample_negation : Sample negation
sample_negation = by_other negation comparison _ refl sample_comparison (no_parts)

sample_conjunction : Sample conjunction
sample_conjunction = by_other conjunction negation _ refl sample_negation (without_many no_parts)

sample_term : Sample term
sample_term = by_other term conjunction _ refl sample_conjunction (without_many no_parts)

sample_init : Sample init
sample_init = by_other init term _ refl sample_term (no_parts)

sample_factor : Sample factor
sample_factor = by_first factor (Key w.Mod) _ refl (with_token (Num 0) refl no_parts)

sample_addend : Sample addend
sample_addend = by_first addend (Key w.Plus) _ refl (with_rule sample_product no_parts)

sample_compared : Sample compared
sample_compared = by_first compared (Key w.Less) _ refl (with_rule sample_sum no_parts)

sample_and_part : Sample and_part
sample_and_part = by_first and_part (Key w.And) _ refl (with_rule sample_negation no_parts)

sample_or_part : Sample or_part
sample_or_part = by_first or_part (Key w.Or) _ refl (with_rule sample_conjunction no_parts)

sample_index_part : Sample index_part
sample_index_part = by_first index_part (Key w.OpenBracket) _ refl (with_rule sample_term (with_token (Key w.CloseBracket) refl no_parts))

sample_argument_part : Sample argument_part
sample_argument_part = by_first argument_part (Key w.Comma) _ refl (with_rule sample_term no_parts)

sample_arguments : Sample arguments
sample_arguments = by_first arguments (Key w.Open) _ refl (with_rule sample_term (without_many (with_token (Key w.Close) refl no_parts)))

sample_statement : Sample statement
sample_statement = by_first statement (Name []) _ refl (without_maybe (with_token (Key w.Assign) refl (with_rule sample_init no_parts)))

sample_statements : Sample statements
sample_statements = by_other statements statement _ refl sample_statement (without_many no_parts)

sample_statement_part : Sample statement_part
sample_statement_part = by_first statement_part (Key w.Semicolon) _ refl (with_rule sample_statement no_parts)

sample_choice : Sample choice
sample_choice = by_other choice term _ refl sample_term (with_token (Key w.Then) refl (with_rule sample_statements no_parts))

sample_elseif_part : Sample elseif_part
sample_elseif_part = by_first elseif_part (Key w.Elseif) _ refl (with_rule sample_choice no_parts)

sample_else_part : Sample else_part
sample_else_part = by_first else_part (Key w.Else) _ refl (with_rule sample_statements no_parts)

sample_pre_part : Sample pre_part
sample_pre_part = by_first pre_part (Key w.Pre) _ refl (with_rule sample_term no_parts)

sample_eff_part : Sample eff_part
sample_eff_part = by_first eff_part (Key w.Eff) _ refl (with_rule sample_statements no_parts)

sample_formal : Sample formal
sample_formal = by_first formal (Name []) _ refl (with_token (Key w.Colon) refl (with_rule sample_type no_parts))

sample_formal_part : Sample formal_part
sample_formal_part = by_first formal_part (Key w.Comma) _ refl (with_rule sample_formal no_parts)

sample_parameter : Sample parameter
sample_parameter = by_first parameter (Key w.Const) _ refl (with_token (Name []) refl no_parts)

sample_parameter_part : Sample parameter_part
sample_parameter_part = by_first parameter_part (Key w.Comma) _ refl (with_rule sample_parameter no_parts)

sample_parameters : Sample parameters
sample_parameters = by_first parameters (Key w.Open) _ refl (with_rule sample_parameter (without_many (with_token (Key w.Close) refl no_parts)))

sample_entry : Sample entry
sample_entry = by_first entry (Key w.Input) _ refl (with_token (Name []) refl (without_maybe no_parts))

sample_transition : Sample transition
sample_transition = by_other transition entry _ refl sample_entry (without_maybe (without_maybe no_parts))

sample_variable : Sample variable
sample_variable = by_first variable (Name []) _ refl (with_token (Key w.Colon) refl (with_rule sample_type (with_token (Key w.Assign) refl (with_rule sample_init no_parts))))

sample_variable_part : Sample variable_part
sample_variable_part = by_first variable_part (Key w.Comma) _ refl (with_rule sample_variable no_parts)

sample_states : Sample states
sample_states = by_first states (Key w.States) _ refl (with_rule sample_variable (without_many no_parts))

sample_task : Sample task
sample_task = by_first task (Key w.OpenBrace) _ refl (with_token (Name []) refl (without_many (with_token (Key w.CloseBrace) refl no_parts)))

sample_tasks : Sample tasks
sample_tasks = by_first tasks (Key w.Tasks) _ refl (with_rule sample_task (without_many no_parts))

sample_basic : Sample basic
sample_basic = by_first basic (Key w.Signature) _ refl (with_rule sample_entry (without_many (without_maybe (with_token (Key w.Transitions) refl (with_rule sample_transition (without_many (without_maybe no_parts)))))))

sample_further : Sample further
sample_further = by_other further basic _ refl sample_basic (with_token (Key w.Automaton) refl (with_token (Name []) refl no_parts))

sample_component : Sample component
sample_component = by_first component (Name []) _ refl (with_token (Key w.Colon) refl (with_token (Name []) refl (without_maybe no_parts)))

sample_component_part : Sample component_part
sample_component_part = by_first component_part (Key w.Semicolon) _ refl (with_rule sample_component no_parts)

sample_hidden : Sample hidden
sample_hidden = by_first hidden (Key w.Hidden) _ refl (with_token (Name []) refl (without_many no_parts))

sample_whole : Samples whole
sample_whole = without_many (with_token (Key w.Automaton) refl (with_token (Name []) refl (with_rule sample_basic (with_token (Key w.Automaton) refl (with_token (Name []) refl (without_many (with_token (Key w.Components) refl (with_rule sample_component (without_many (without_maybe no_parts))))))))))

sample_source : Sample source
sample_source = λ d. let x = sample_whole d in (make source x.0, a_source x.0 x.1 refl)

pub sample : (s : Sort) → Sample s
sample source = sample_source
sample type_definition = sample_type_definition
sample type_body = sample_type_body
sample name_part = sample_name_part
sample type = sample_type
sample signed = sample_signed
sample basic = sample_basic
sample further = sample_further
sample formal = sample_formal
sample formal_part = sample_formal_part
sample states = sample_states
sample variable = sample_variable
sample variable_part = sample_variable_part
sample tasks = sample_tasks
sample task = sample_task
sample entry = sample_entry
sample parameters = sample_parameters
sample parameter = sample_parameter
sample parameter_part = sample_parameter_part
sample transition = sample_transition
sample pre_part = sample_pre_part
sample eff_part = sample_eff_part
sample component = sample_component
sample component_part = sample_component_part
sample hidden = sample_hidden
sample arguments = sample_arguments
sample argument_part = sample_argument_part
sample statements = sample_statements
sample statement_part = sample_statement_part
sample statement = sample_statement
sample choice = sample_choice
sample elseif_part = sample_elseif_part
sample else_part = sample_else_part
sample index_part = sample_index_part
sample init = sample_init
sample term = sample_term
sample or_part = sample_or_part
sample conjunction = sample_conjunction
sample and_part = sample_and_part
sample negation = sample_negation
sample comparison = sample_comparison
sample compared = sample_compared
sample sum = sample_sum
sample addend = sample_addend
sample product = sample_product
sample factor = sample_factor
sample unary = sample_unary
sample postfix = sample_postfix
sample primary = sample_primary

class_token : (c : Class) → (t : Tok) × (accepts c t ≡ true)
class_token name = (Name [], refl)
class_token number = (Num 0, refl)
class_token (word v) = (Key v, true_same the_type v v refl)

samples : (ps : List Part) → Samples ps
samples [] = no_parts
samples (token c i ∷ ps) = let t = class_token c in with_token t.0 t.1 (samples ps)
samples (one s i ∷ ps) = with_rule (sample s) (samples ps)
samples (maybe s i ∷ ps) = without_maybe (samples ps)
samples (many s i ∷ ps) = without_many (samples ps)

-- ---- the whole goes on

abbrev Goes : List Tok → Type 0
Goes ts = (more : List Tok) × ((r : Node) × (Is false source 0 r × (yield r ≡ ts ++ more)))

said_on : (k : Frames) (s : Sort) (done : List Node) (n : Node) (ns : List Node) (more : List Tok)
    → (said k ++ yield (make s (done ++ n ∷ ns))) ++ more ≡ ((said k ++ yields done) ++ yield n) ++ (yields ns ++ more)
said_on k s done n ns more = rw (make_yields s (done ++ n ∷ ns), yields_append done (n ∷ ns)) (simp append_assoc)

full_goes : (k : Frames) (n : Node) → Full false k n → Goes (said k ++ yield n)
full_goes Bottom n f = ([], (n, (f, sym (append-nil (yield n)))))
full_goes (In s done ps i k) n f =
    let x = samples ps (depth k) in
    let w = full_goes k (make s (done ++ n ∷ x.0)) (f x.0 x.1) in
    (yields x.0 ++ w.0, (w.1.0, (w.1.1.0, w.1.1.1 ∙ said_on k s done n x.0 w.0)))

state_goes : (s : State) → Good false s → Goes (spelled s)
state_goes (Want s k) g =
    let x = sample s (depth k) in
    let w = full_goes k x.0 (g tt x.0 x.1) in
    (yield x.0 ++ w.0, (w.1.0, (w.1.1.0, w.1.1.1 ∙ append_assoc (said k) (yield x.0) w.0)))
state_goes (At s done ps k) g =
    let x = samples ps (depth k) in
    let w = full_goes k (make s (done ++ x.0)) (g x.0 x.1) in
    (yields x.0 ++ w.0, (w.1.0, (w.1.1.0, w.1.1.1 ∙ rw (make_yields s (done ++ x.0), yields_append done x.0) (simp append_assoc))))
state_goes (Done n) g = ([], (n, (g, sym (append-nil (yield n)))))

step_goes : (s : State) (p : Tok) (ts : List Tok) (m : Step) → move s p ≡ Some m
    → (more : List Tok) × ((r : Node) × (Is false source 0 r × (yield r ≡ spelled m.next ++ (ts ++ more))))
    → (more : List Tok) × ((r : Node) × (Is false source 0 r × (yield r ≡ spelled s ++ (p ∷ (ts ++ more)))))
step_goes s p ts m e w = (w.0, (w.1.0, (w.1.1.0, w.1.1.1 ∙ (ap (λ z. z ++ (ts ++ w.0)) (move_spelled s p m e) ∙ append_assoc (spelled s) (p ∷ []) (ts ++ w.0)))))

-- Up to a token that is refused, or to the end where nothing is, the tokens begin a text.
go_begins : (b : Bool) (s : State) (pre ts : List Tok) → Good false s → go b s (pre ++ ts) ≡ Syntax (length ts)
    → (more : List Tok) × ((r : Node) × (Is false source 0 r × (yield r ≡ spelled s ++ (pre ++ more))))
go_begins b s [] ts g h = state_goes s g
go_begins b s (p ∷ pre) ts g h = at_move (move s p) refl h (λ n. go_begins b n pre ts)
  where
    at_move : (m : Option Step) → move s p ≡ m
        → on m (λ n. cond (b && nat_lt 64 n.depth) (Deep (length (pre ++ ts) + 1)) (go b n.next (pre ++ ts))) (Syntax (length (pre ++ ts) + 1)) ≡ Syntax (length ts)
        → ((n : State) → Good false n → go b n (pre ++ ts) ≡ Syntax (length ts) → (more : List Tok) × ((r : Node) × (Is false source 0 r × (yield r ≡ spelled n ++ (pre ++ more)))))
        → (more : List Tok) × ((r : Node) × (Is false source 0 r × (yield r ≡ spelled s ++ (p ∷ (pre ++ more)))))
    at_move None u e f = absurd (omega (arith, ap left e, length-append pre ts))
    at_move (Some m) u e f = at_test (b && nat_lt 64 m.depth) e
      where
        at_test : (c : Bool) → cond c (Deep (length (pre ++ ts) + 1)) (go b m.next (pre ++ ts)) ≡ Syntax (length ts)
            → (more : List Tok) × ((r : Node) × (Is false source 0 r × (yield r ≡ spelled s ++ (p ∷ (pre ++ more)))))
        at_test true e = cc
        at_test false e = step_goes s p pre m u (f m.next (move_good false s p m g u refl) e)

-- So it is with the token that stands too deep in it.
go_deep_begins : (s : State) (pre : List Tok) (t : Tok) (r : List Tok) → Good false s → go true s (pre ++ t ∷ r) ≡ Deep (length r + 1)
    → (more : List Tok) × ((x : Node) × (Is false source 0 x × (yield x ≡ spelled s ++ (pre ++ t ∷ more))))
go_deep_begins s [] t r g h = at_move (move s t) refl h
  where
    at_move : (m : Option Step) → move s t ≡ m
        → on m (λ n. cond (nat_lt 64 n.depth) (Deep (length r + 1)) (go true n.next r)) (Syntax (length r + 1)) ≡ Deep (length r + 1)
        → (more : List Tok) × ((x : Node) × (Is false source 0 x × (yield x ≡ spelled s ++ (t ∷ more))))
    at_move None u e = cc
    at_move (Some m) u e = step_goes s t [] m u (state_goes m.next (move_good false s t m g u refl))
go_deep_begins s (p ∷ pre) t r g h = at_move (move s p) refl h (λ n. go_deep_begins n pre t r)
  where
    at_move : (m : Option Step) → move s p ≡ m
        → on m (λ n. cond (nat_lt 64 n.depth) (Deep (length (pre ++ t ∷ r) + 1)) (go true n.next (pre ++ t ∷ r))) (Syntax (length (pre ++ t ∷ r) + 1)) ≡ Deep (length r + 1)
        → ((n : State) → Good false n → go true n (pre ++ t ∷ r) ≡ Deep (length r + 1) → (more : List Tok) × ((x : Node) × (Is false source 0 x × (yield x ≡ spelled n ++ (pre ++ t ∷ more)))))
        → (more : List Tok) × ((x : Node) × (Is false source 0 x × (yield x ≡ spelled s ++ (p ∷ (pre ++ t ∷ more)))))
    at_move None u e f = cc
    at_move (Some m) u e f = at_test (nat_lt 64 m.depth) e
      where
        at_test : (c : Bool) → cond c (Deep (length (pre ++ t ∷ r) + 1)) (go true m.next (pre ++ t ∷ r)) ≡ Deep (length r + 1)
            → (more : List Tok) × ((x : Node) × (Is false source 0 x × (yield x ≡ spelled s ++ (p ∷ (pre ++ t ∷ more)))))
        at_test true e = absurd (omega (arith, ap left e, length-append pre (t ∷ r)))
        at_test false e = let w = f m.next (move_good false s p m g u refl) e in
            (w.0, (w.1.0, (w.1.1.0, w.1.1.1 ∙ (ap (λ z. z ++ (pre ++ t ∷ w.0)) (move_spelled s p m u) ∙ append_assoc (spelled s) (p ∷ []) (pre ++ t ∷ w.0)))))

pub begins : (b : Bool) (pre ts : List Tok) → go b start (pre ++ ts) ≡ Syntax (length ts)
    → (more : List Tok) × ((r : Node) × (Is false source 0 r × (yield r ≡ pre ++ more)))
begins b pre ts h = go_begins b start pre ts (start_good false) h

pub deep_begins : (pre : List Tok) (t : Tok) (r : List Tok) → go true start (pre ++ t ∷ r) ≡ Deep (length r + 1)
    → (more : List Tok) × ((x : Node) × (Is false source 0 x × (yield x ≡ pre ++ t ∷ more)))
deep_begins pre t r h = go_deep_begins start pre t r (start_good false) h
