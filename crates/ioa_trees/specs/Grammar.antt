-- The grammar. A rule has alternatives that are told by their first token, and at most one that begins with another rule.
use Rattle.std.specs.Prelude.{◌≡◌, ◌≤◌, ℕ, ◌+◌, Bool, true, false, if◌then◌else◌, List, [], ◌∷◌, Option, Some, None}
use Rattle.ioa_tokens.specs.declared.Word.{Word}
use Rattle.ioa_tokens.specs.declared.Word.TheVariants as w
use Rattle.ioa_tokens.specs.Tokens.{Tok, Name, Num, Key, is}
use Rattle.ioa_trees.specs.Nodes.{Sort, source, type_definition, type_body, name_part, type, signed, basic, further, formal, formal_part, states, variable, variable_part, tasks, task, entry, parameters, parameter, parameter_part, transition, pre_part, eff_part, component, component_part, hidden, arguments, argument_part, statements, statement_part, statement, choice, elseif_part, else_part, index_part, init, term, or_part, conjunction, and_part, negation, comparison, compared, sum, addend, product, factor, unary, postfix, primary, Node, Leaf, make, yield}

-- classes of tokens
pub data Class : Type 0 where
  name : Class
  number : Class
  word : Word → Class

abbrev pub accepts : Class → Tok → Bool
accepts name (Name s) = true
accepts name (Num n) = false
accepts name (Key w) = false
accepts number (Name s) = false
accepts number (Num n) = true
accepts number (Key w) = false
accepts (word w) t = is w t

-- Whether a part stands inside of a pair or behind a prefix that this rule opens. The first part there comes right after it.
pub data Place : Type 0 where
  outside : Place
  first : Place
  inside : Place

abbrev pub deeper : Place → ℕ → ℕ
deeper outside d = d
deeper first d = d + 1
deeper inside d = d + 1

-- a part of a rule: one token, one of a rule, one or none, any number
pub data Part : Type 0 where
  token : Class → Place → Part
  one : Sort → Place → Part
  maybe : Sort → Place → Part
  many : Sort → Place → Part

-- "signature" Entry {Entry} ["states" ..] "transitions" Trans {Trans} ["tasks" ..], after its first word
abbrev pub after_signature : List Part
after_signature =
    one entry outside ∷ (many entry outside ∷ (maybe states outside ∷ (token (word w.Transitions) outside ∷
    (one transition outside ∷ (many transition outside ∷ (maybe tasks outside ∷ []))))))

abbrev pub length_parts : List Part
length_parts = token (word w.Comma) inside ∷ (token number inside ∷ (token (word w.CloseBracket) outside ∷ []))

abbrev pub seq_parts : List Part
seq_parts = token (word w.OpenBracket) outside ∷ (one type first ∷ length_parts)

abbrev pub element_parts : List Part
element_parts = one type inside ∷ (token (word w.CloseBracket) outside ∷ [])

abbrev pub array_parts : List Part
array_parts = token (word w.OpenBracket) outside ∷ (one type first ∷ (token (word w.Comma) inside ∷ element_parts))

abbrev pub range_parts : List Part
range_parts = token (word w.DotDot) outside ∷ (one signed outside ∷ [])

abbrev pub second_parts : List Part
second_parts = one term inside ∷ (token (word w.Close) outside ∷ [])

abbrev pub append_parts : List Part
append_parts = token (word w.Open) outside ∷ (one term first ∷ (token (word w.Comma) inside ∷ second_parts))

abbrev pub else_parts : List Part
else_parts = maybe else_part inside ∷ (token (word w.Fi) outside ∷ [])

abbrev pub if_parts : List Part
if_parts = one choice first ∷ (many elseif_part inside ∷ else_parts)

abbrev pub value_parts : List Part
value_parts = token (word w.Assign) outside ∷ (one init outside ∷ [])

abbrev pub assign_parts : List Part
assign_parts = maybe index_part outside ∷ value_parts

abbrev pub fill_parts : List Part
fill_parts = token (word w.Open) outside ∷ (one init first ∷ (token (word w.Close) outside ∷ []))

abbrev pub loop_parts : List Part
loop_parts = token (word w.Do) inside ∷ (one statements inside ∷ (token (word w.Od) outside ∷ []))

abbrev pub for_parts : List Part
for_parts = token name first ∷ (token (word w.Colon) inside ∷ (one type inside ∷ loop_parts))

abbrev pub entry_parts : List Part
entry_parts = token name outside ∷ (maybe parameters outside ∷ [])

abbrev pub parameters_parts : List Part
parameters_parts = one parameter first ∷ (many parameter_part inside ∷ (token (word w.Close) outside ∷ []))

abbrev pub arguments_parts : List Part
arguments_parts = one term first ∷ (many argument_part inside ∷ (token (word w.Close) outside ∷ []))

abbrev pub definition_parts : List Part
definition_parts = token name outside ∷ (token (word w.Equal) outside ∷ (one type_body outside ∷ []))

abbrev pub enumeration_parts : List Part
enumeration_parts = token (word w.Of) outside ∷ (token name outside ∷ (many name_part outside ∷ []))

abbrev pub group_parts : List Part
group_parts = one term first ∷ (token (word w.Close) outside ∷ [])

abbrev pub in_parentheses : List Part
in_parentheses = token (word w.Open) outside ∷ group_parts

-- the alternatives by first token, and what follows it
abbrev pub led : Sort → List (Class × List Part)
led type_definition = (word w.Type, definition_parts) ∷ []
led type_body = (word w.Enumeration, enumeration_parts) ∷ []
led name_part = (word w.Comma, token name outside ∷ []) ∷ []
led type =
    (word w.Bool, []) ∷ ((word w.Int, []) ∷ ((name, []) ∷
    ((word w.Seq, seq_parts) ∷ ((word w.Array, array_parts) ∷ []))))
led signed = (number, []) ∷ ((word w.Minus, token number outside ∷ []) ∷ [])
led basic =
    (word w.Open, one formal first ∷ (many formal_part inside ∷ (token (word w.Close) outside ∷ (token (word w.Signature) outside ∷ after_signature)))) ∷
    ((word w.Signature, after_signature) ∷ [])
led formal = (name, token (word w.Colon) outside ∷ (one type outside ∷ [])) ∷ []
led formal_part = (word w.Comma, one formal outside ∷ []) ∷ []
led states = (word w.States, one variable outside ∷ (many variable_part outside ∷ [])) ∷ []
led variable = (name, token (word w.Colon) outside ∷ (one type outside ∷ value_parts)) ∷ []
led variable_part = (word w.Comma, one variable outside ∷ []) ∷ []
led tasks = (word w.Tasks, one task outside ∷ (many task outside ∷ [])) ∷ []
led task = (word w.OpenBrace, token name outside ∷ (many name_part outside ∷ (token (word w.CloseBrace) outside ∷ []))) ∷ []
led entry = (word w.Input, entry_parts) ∷ ((word w.Output, entry_parts) ∷ ((word w.Internal, entry_parts) ∷ []))
led parameters = (word w.Open, parameters_parts) ∷ []
led parameter = (word w.Const, token name outside ∷ []) ∷ ((name, token (word w.Colon) outside ∷ (one type outside ∷ [])) ∷ [])
led parameter_part = (word w.Comma, one parameter outside ∷ []) ∷ []
led pre_part = (word w.Pre, one term outside ∷ []) ∷ []
led eff_part = (word w.Eff, one statements outside ∷ []) ∷ []
led component = (name, token (word w.Colon) outside ∷ (token name outside ∷ (maybe arguments outside ∷ []))) ∷ []
led component_part = (word w.Semicolon, one component outside ∷ []) ∷ []
led hidden = (word w.Hidden, token name outside ∷ (many name_part outside ∷ [])) ∷ []
led arguments = (word w.Open, arguments_parts) ∷ []
led argument_part = (word w.Comma, one term outside ∷ []) ∷ []
led statement_part = (word w.Semicolon, one statement outside ∷ []) ∷ []
led statement =
    (name, assign_parts) ∷
    ((word w.If, if_parts) ∷ ((word w.For, for_parts) ∷ []))
led elseif_part = (word w.Elseif, one choice outside ∷ []) ∷ []
led else_part = (word w.Else, one statements outside ∷ []) ∷ []
led index_part = (word w.OpenBracket, one term first ∷ (token (word w.CloseBracket) outside ∷ [])) ∷ []
led init = (word w.Empty, []) ∷ ((word w.Fill, fill_parts) ∷ [])
led or_part = (word w.Or, one conjunction outside ∷ []) ∷ []
led and_part = (word w.And, one negation outside ∷ []) ∷ []
led negation = (word w.Not, one negation first ∷ []) ∷ []
led compared =
    (word w.Equal, one sum outside ∷ []) ∷ ((word w.NotEqual, one sum outside ∷ []) ∷ ((word w.Less, one sum outside ∷ []) ∷
    ((word w.AtMost, one sum outside ∷ []) ∷ ((word w.Greater, one sum outside ∷ []) ∷ ((word w.AtLeast, one sum outside ∷ []) ∷ [])))))
led addend = (word w.Plus, one product outside ∷ []) ∷ ((word w.Minus, one product outside ∷ []) ∷ [])
led factor = (word w.Times, one unary outside ∷ []) ∷ ((word w.Mod, token number outside ∷ []) ∷ [])
led unary = (word w.Minus, one unary first ∷ []) ∷ []
led primary =
    (number, []) ∷ ((word w.True, []) ∷ ((word w.False, []) ∷ ((name, []) ∷
    ((word w.Open, group_parts) ∷
    ((word w.Head, in_parentheses) ∷ ((word w.Tail, in_parentheses) ∷ ((word w.Len, in_parentheses) ∷
    ((word w.Append, append_parts) ∷ []))))))))
led _ = []

-- the alternative that begins with another rule, and what follows that
abbrev pub plain : Sort → Option (Sort × List Part)
plain type_body = Some (type, [])
plain type = Some (signed, range_parts)
plain further = Some (basic, token (word w.Automaton) outside ∷ (token name outside ∷ []))
plain transition = Some (entry, maybe pre_part outside ∷ (maybe eff_part outside ∷ []))
plain statements = Some (statement, many statement_part outside ∷ [])
plain choice = Some (term, token (word w.Then) outside ∷ (one statements outside ∷ []))
plain init = Some (term, [])
plain term = Some (conjunction, many or_part outside ∷ [])
plain conjunction = Some (negation, many and_part outside ∷ [])
plain negation = Some (comparison, [])
plain comparison = Some (sum, maybe compared outside ∷ [])
plain sum = Some (product, many addend outside ∷ [])
plain product = Some (unary, many factor outside ∷ [])
plain unary = Some (postfix, [])
plain postfix = Some (primary, many index_part outside ∷ [])
plain _ = None

-- {TypeDef} Basic {Basic} Composed, where what follows the second name and each later one is told by the token after it
abbrev pub whole : List Part
whole =
    many type_definition outside ∷ (token (word w.Automaton) outside ∷ (token name outside ∷ (one basic outside ∷
    (token (word w.Automaton) outside ∷ (token name outside ∷ (many further outside ∷
    (token (word w.Components) outside ∷ (one component outside ∷ (many component_part outside ∷ (maybe hidden outside ∷ []))))))))))

-- what follows this token
abbrev pub pick : Tok → List (Class × List Part) → Option (List Part)
pick t [] = None
pick t ((c, ps) ∷ rest) = if accepts c t then Some ps else pick t rest

-- The limit on the depth, where there is one. It is met at each rule, and at a token that comes first inside.
abbrev pub Low : Bool → ℕ → Type 0
Low true d = d ≤ 64
Low false d = Unit {0}

abbrev pub Fits : Bool → Place → ℕ → Type 0
Fits limited outside d = Unit {0}
Fits limited first d = Low limited (d + 1)
Fits limited inside d = Unit {0}

-- Which nodes a rule gives at a depth, and which lists of nodes its parts give.
mutual
  pub data Is (limited : Bool) : Sort → ℕ → Node → Type 0 where
    by_token : {d : ℕ} {s : Sort} {n : Node} (t : Tok) (ps : List Part) (ns : List Node)
        → pick t (led s) ≡ Some ps → Are limited d ps ns → n ≡ make s (Leaf t ∷ ns) → Is limited s d n
    by_rule : {d : ℕ} {s : Sort} {n : Node} (r : Sort) (ps : List Part) (m : Node) (ns : List Node)
        → plain s ≡ Some (r, ps) → Is limited r d m → Are limited d ps ns → n ≡ make s (m ∷ ns) → Is limited s d n
    a_source : {d : ℕ} {n : Node} (ns : List Node) → Are limited d whole ns → n ≡ make source ns → Is limited source d n

  pub data Are (limited : Bool) : ℕ → List Part → List Node → Type 0 where
    end : {d : ℕ} → Are limited d [] []
    a_token : {d : ℕ} {c : Class} {i : Place} {ps : List Part} {t : Tok} {ns : List Node}
        → Fits limited i d → accepts c t ≡ true → Are limited d ps ns → Are limited d (token c i ∷ ps) (Leaf t ∷ ns)
    a_rule : {d : ℕ} {s : Sort} {i : Place} {ps : List Part} {n : Node} {ns : List Node}
        → Low limited (deeper i d) → Is limited s (deeper i d) n → Are limited d ps ns → Are limited d (one s i ∷ ps) (n ∷ ns)
    absent : {d : ℕ} {s : Sort} {i : Place} {ps : List Part} {ns : List Node}
        → Are limited d ps ns → Are limited d (maybe s i ∷ ps) ns
    present : {d : ℕ} {s : Sort} {i : Place} {ps : List Part} {n : Node} {ns : List Node}
        → Is limited s (deeper i d) n → Are limited d ps ns → Are limited d (maybe s i ∷ ps) (n ∷ ns)
    no_more : {d : ℕ} {s : Sort} {i : Place} {ps : List Part} {ns : List Node}
        → Are limited d ps ns → Are limited d (many s i ∷ ps) ns
    one_more : {d : ℕ} {s : Sort} {i : Place} {ps : List Part} {n : Node} {ns : List Node}
        → Is limited s (deeper i d) n → Are limited d (many s i ∷ ps) ns → Are limited d (many s i ∷ ps) (n ∷ ns)

-- The tokens are a text of the grammar, within the limit where there is one.
abbrev pub IsText : Bool → List Tok → Type 0
IsText limited ts = (n : Node) × (Is limited source 0 n × (yield n ≡ ts))
