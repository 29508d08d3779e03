-- A source is had back from its node: two sources with one node are the same.
use Rattle.std.proofs.Common.{◌≡◌, ◌<◌, ℕ, arith, length, Bool, true, false, cond, List, [], ◌∷◌, ◌++◌, map, Option, Some, None, refl, sym, ◌∙◌, ap}
use Rattle.ioa_trees.specs.declared.tree.EntryKind.TheVariants as kind
use Rattle.ioa_tokens.specs.declared.Word.TheVariants as w
use Rattle.ioa_tokens.specs.Tokens.{Name, Key, is}
use Rattle.ioa_trees.specs.Nodes.{source, type_definition, type_body, name_part, basic, further, formal, formal_part, states, variable_part, tasks, entry, parameter_part, transition, pre_part, eff_part, component, component_part, hidden, argument_part, Node, Leaf, Branch, Nodes, none, more, pack}
use Rattle.ioa_trees.specs.Trees.{Bytes, PlainType, Bools, Ints, Range, Named, SeqOf, ArrayOf, PlainTerm, Empty, PlainDeclared, PlainStatements, no_statement, more_statements, PlainParameter, Constant, Typed, PlainEntry, PlainVariable, PlainTransition, PlainAutomaton, PlainComponent, PlainTypeBody, Same, Enumeration, PlainTypeDefinition, PlainSource}
use Rattle.ioa_trees.specs.Spelling.{key, named, type_node, node, formal_node, parameter_node, parts, parameters_node, entry_node, variable_node, states_node, pre_node, eff_node, transition_node, task_node, tasks_node, body_nodes, formals_nodes, basic_node, arguments_node, component_node, components_nodes, hidden_node, type_body_node, next_name, further_nodes, source_nodes, source_node, spell, IsSource}
use Rattle.ioa_trees.specs.Grammar.{Part, token, many, word, outside, Is, Are, by_token, by_rule, a_source, a_token, no_more, one_more}
use Rattle.ioa_phrases.proofs.Complete.{one_tree}
use Rattle.ioa_phrases.proofs.Backwards.{back_init, back_kind, back_parts, back_parts_to, back_statements, back_term, back_type, declared_of, init_of, inside, items, kind_of, name_of, statements_of, term_of, type_of}

-- ---- definitions of types

abbrev type_body_of : Node → PlainTypeBody
type_body_of (Leaf t) = Enumeration []
type_body_of (Branch type_body (more k (more o ns))) = Enumeration (items name_of ns)
type_body_of n = Same (type_of n)

back_type_body : (b : PlainTypeBody) → type_body_of (type_body_node b) ≡ b
back_type_body (Enumeration []) = refl
back_type_body (Enumeration (s ∷ ss)) = λ i. Enumeration (s ∷ back_parts name_part name_of named (λ s. refl) ss i)
back_type_body (Same t) = at_type t ∙ ap Same (back_type t)
  where
    at_type : (t : PlainType) → type_body_of (type_node t) ≡ Same (type_of (type_node t))
    at_type Bools = refl
    at_type Ints = refl
    at_type (Range a b) = refl
    at_type (Named s) = refl
    at_type (SeqOf t n) = refl
    at_type (ArrayOf t u) = refl

-- ---- parts of an automaton

back_declared : (d : PlainDeclared) → declared_of (pack (named d.name ∷ (key w.Colon ∷ (type_node d.of ∷ [])))) ≡ d
back_declared d = λ i. record { name = d.name; of = back_type d.of i }

abbrev parameter_of : Node → PlainParameter
parameter_of (Branch s (more (Leaf (Key k)) (more n ns))) = Constant (name_of n)
parameter_of (Branch s ns) = Typed (declared_of ns)
parameter_of _ = Constant []

back_parameter : (p : PlainParameter) → parameter_of (parameter_node p) ≡ p
back_parameter (Constant s) = refl
back_parameter (Typed d) = ap Typed (back_declared d)

abbrev entry_of : Node → PlainEntry
entry_of (Branch s (more (Leaf (Key k)) (more n ns))) = record { kind = kind_of k; name = name_of n; parameters = inside parameter_of ns }
entry_of _ = record { kind = kind.Internal; name = []; parameters = [] }

back_entry : (e : PlainEntry) → entry_of (entry_node e) ≡ e
back_entry e = λ i. record { kind = back_kind e.kind i; name = e.name; parameters = parameters_back e.parameters i }
  where
    parameters_back : (ps : List PlainParameter) → inside parameter_of (pack (parameters_node ps)) ≡ ps
    parameters_back [] = refl
    parameters_back (p ∷ ps) = λ i. back_parameter p i ∷ back_parts_to parameter_part w.Close parameter_of parameter_node back_parameter ps i

abbrev variable_of : Node → PlainVariable
variable_of (Branch s (more n (more c (more t (more a (more v ns)))))) = record { declared = declared_of (more n (more c (more t none))); start = init_of v }
variable_of _ = record { declared = declared_of none; start = Empty }

back_variable : (v : PlainVariable) → variable_of (variable_node v) ≡ v
back_variable v = λ i. record { declared = back_declared v.declared i; start = back_init v.start i }

abbrev pre_of : Nodes → Option PlainTerm
pre_of (more (Branch pre_part (more k (more n ms))) ns) = Some (term_of n)
pre_of _ = None

abbrev eff_of : Nodes → PlainStatements
eff_of none = no_statement
eff_of (more (Branch eff_part (more k (more n ms))) ns) = statements_of n
eff_of (more n ns) = eff_of ns

abbrev transition_of : Nodes → PlainTransition
transition_of (more n ns) = record { entry = entry_of n; pre = pre_of ns; eff = eff_of ns }
transition_of none = record { entry = entry_of (Branch entry none); pre = None; eff = no_statement }

back_transition : (t : PlainTransition) → transition_of (pack (entry_node t.entry ∷ (pre_node t.pre ++ eff_node t.eff))) ≡ t
back_transition t = λ i. record { entry = back_entry t.entry i; pre = pre_back t.pre t.eff i; eff = eff_back t.pre t.eff i }
  where
    pre_back : (p : Option PlainTerm) (ss : PlainStatements) → pre_of (pack (pre_node p ++ eff_node ss)) ≡ p
    pre_back None no_statement = refl
    pre_back None (more_statements s ss) = refl
    pre_back (Some t) ss = ap Some (back_term t)

    eff_back : (p : Option PlainTerm) (ss : PlainStatements) → eff_of (pack (pre_node p ++ eff_node ss)) ≡ ss
    eff_back None no_statement = refl
    eff_back None (more_statements s ss) = back_statements (more_statements s ss)
    eff_back (Some t) no_statement = refl
    eff_back (Some t) (more_statements s ss) = back_statements (more_statements s ss)

abbrev tasks_of : Nodes → List (List Bytes)
tasks_of none = []
tasks_of (more n ns) = inside name_of (more n none) ∷ tasks_of ns

back_tasks : (ts : List (List Bytes)) → tasks_of (pack (map task_node ts)) ≡ ts
back_tasks [] = refl
back_tasks ([] ∷ ts) = ap (λ z. [] ∷ z) (back_tasks ts)
back_tasks ((s ∷ ss) ∷ ts) = λ i. (s ∷ back_parts_to name_part w.CloseBrace name_of named (λ s. refl) ss i) ∷ back_tasks ts i

-- ---- automata, read from their end

abbrev unnamed : List PlainDeclared → List PlainEntry → List PlainVariable → List PlainTransition → List (List Bytes) → PlainAutomaton
unnamed ds es vs ts ks = record { name = []; formals = ds; entries = es; variables = vs; transitions = ts; tasks = ks }

abbrev with_formal : PlainDeclared → PlainAutomaton → PlainAutomaton
with_formal d a = unnamed (d ∷ a.formals) a.entries a.variables a.transitions a.tasks

abbrev with_entry : PlainEntry → PlainAutomaton → PlainAutomaton
with_entry e a = unnamed a.formals (e ∷ a.entries) a.variables a.transitions a.tasks

abbrev with_transition : PlainTransition → PlainAutomaton → PlainAutomaton
with_transition t a = unnamed a.formals a.entries a.variables (t ∷ a.transitions) a.tasks

abbrev with_variables : List PlainVariable → PlainAutomaton → PlainAutomaton
with_variables vs a = unnamed a.formals a.entries vs a.transitions a.tasks

abbrev basic_from : Nodes → PlainAutomaton
basic_from none = unnamed [] [] [] [] []
basic_from (more (Branch formal ks) ns) = with_formal (declared_of ks) (basic_from ns)
basic_from (more (Branch formal_part (more k (more (Branch s ks) ms))) ns) = with_formal (declared_of ks) (basic_from ns)
basic_from (more (Branch entry ks) ns) = with_entry (entry_of (Branch entry ks)) (basic_from ns)
basic_from (more (Branch states (more k ks)) ns) = with_variables (items variable_of ks) (basic_from ns)
basic_from (more (Branch transition ks) ns) = with_transition (transition_of ks) (basic_from ns)
basic_from (more (Branch tasks (more k ks)) ns) = unnamed [] [] [] [] (tasks_of ks)
basic_from (more n ns) = basic_from ns

abbrev basic_of : Node → PlainAutomaton
basic_of (Branch s ns) = basic_from ns
basic_of (Leaf t) = unnamed [] [] [] [] []

back_basic : (a : PlainAutomaton) → basic_of (basic_node a) ≡ unnamed a.formals a.entries a.variables a.transitions a.tasks
back_basic a = formals_back a.formals
  where
    at_tasks : (ks : List (List Bytes)) → basic_from (pack (tasks_node ks)) ≡ unnamed [] [] [] [] ks
    at_tasks [] = refl
    at_tasks (k ∷ ks) = ap (λ z. unnamed [] [] [] [] z) (back_tasks (k ∷ ks))

    at_transitions : (ts : List PlainTransition) → basic_from (pack (map transition_node ts ++ tasks_node a.tasks)) ≡ unnamed [] [] [] ts a.tasks
    at_transitions [] = at_tasks a.tasks
    at_transitions (t ∷ ts) = λ i. with_transition (back_transition t i) (at_transitions ts i)

    behaviour : List Node
    behaviour = key w.Transitions ∷ (map transition_node a.transitions ++ tasks_node a.tasks)

    at_states : (vs : List PlainVariable) → basic_from (pack (states_node vs ++ behaviour)) ≡ unnamed [] [] vs a.transitions a.tasks
    at_states [] = at_transitions a.transitions
    at_states (v ∷ vs) = λ i. with_variables (back_variable v i ∷ back_parts variable_part variable_of variable_node back_variable vs i) (at_transitions a.transitions i)

    at_entries : (es : List PlainEntry) → basic_from (pack (map entry_node es ++ (states_node a.variables ++ behaviour))) ≡ unnamed [] es a.variables a.transitions a.tasks
    at_entries [] = at_states a.variables
    at_entries (e ∷ es) = λ i. with_entry (back_entry e i) (at_entries es i)

    at_parts : (ds : List PlainDeclared)
        → basic_from (pack ((parts formal_part w.Comma formal_node ds ++ key w.Close ∷ []) ++ (key w.Signature ∷ body_nodes a))) ≡ unnamed ds a.entries a.variables a.transitions a.tasks
    at_parts [] = at_entries a.entries
    at_parts (d ∷ ds) = λ i. with_formal (back_declared d i) (at_parts ds i)

    formals_back : (ds : List PlainDeclared) → basic_from (pack (formals_nodes ds ++ (key w.Signature ∷ body_nodes a))) ≡ unnamed ds a.entries a.variables a.transitions a.tasks
    formals_back [] = at_entries a.entries
    formals_back (d ∷ ds) = λ i. with_formal (back_declared d i) (at_parts ds i)

-- ---- sources, read from their end

abbrev laid : List PlainTypeDefinition → List PlainAutomaton → Bytes → List PlainComponent → List Bytes → PlainSource
laid ts rest s cs hs = record { types = ts; automata = rest; composed = record { name = s; components = cs; hidden = hs } }

-- A name is that of the automaton that follows it, or of the composed one.
abbrev with_name : Bytes → PlainSource → PlainSource
with_name s x = give x.automata
  where
    give : List PlainAutomaton → PlainSource
    give [] = laid x.types [] s x.composed.components x.composed.hidden
    give (a ∷ rest) =
        laid x.types (record { name = s; formals = a.formals; entries = a.entries; variables = a.variables; transitions = a.transitions; tasks = a.tasks } ∷ rest) x.composed.name x.composed.components x.composed.hidden

abbrev with_type : PlainTypeDefinition → PlainSource → PlainSource
with_type d x = laid (d ∷ x.types) x.automata x.composed.name x.composed.components x.composed.hidden

abbrev with_automaton : PlainAutomaton → PlainSource → PlainSource
with_automaton a x = laid x.types (a ∷ x.automata) x.composed.name x.composed.components x.composed.hidden

abbrev with_component : PlainComponent → PlainSource → PlainSource
with_component c x = laid x.types x.automata x.composed.name (c ∷ x.composed.components) x.composed.hidden

abbrev definition_of : Nodes → PlainTypeDefinition
definition_of (more k (more n (more e (more b ns)))) = record { name = name_of n; body = type_body_of b }
definition_of _ = record { name = []; body = Enumeration [] }

abbrev component_of : Node → PlainComponent
component_of (Branch s (more n (more c (more a ns)))) = record { name = name_of n; automaton = name_of a; arguments = inside term_of ns }
component_of _ = record { name = []; automaton = []; arguments = [] }

back_component : (c : PlainComponent) → component_of (component_node c) ≡ c
back_component c = λ i. record { name = c.name; automaton = c.automaton; arguments = arguments_back c.arguments i }
  where
    arguments_back : (ts : List PlainTerm) → inside term_of (pack (arguments_node ts)) ≡ ts
    arguments_back [] = refl
    arguments_back (t ∷ ts) = λ i. back_term t i ∷ back_parts_to argument_part w.Close term_of node back_term ts i

abbrev source_from : Nodes → PlainSource
source_from none = laid [] [] [] [] []
source_from (more (Leaf (Name s)) ns) = with_name s (source_from ns)
source_from (more (Branch type_definition ks) ns) = with_type (definition_of ks) (source_from ns)
source_from (more (Branch basic ks) ns) = with_automaton (basic_from ks) (source_from ns)
source_from (more (Branch further (more b (more k (more n ms)))) ns) = with_automaton (basic_of b) (with_name (name_of n) (source_from ns))
source_from (more (Branch component ks) ns) = with_component (component_of (Branch component ks)) (source_from ns)
source_from (more (Branch component_part (more k (more n ms))) ns) = with_component (component_of n) (source_from ns)
source_from (more (Branch hidden (more k ks)) ns) = laid [] [] [] [] (items name_of ks)
source_from (more n ns) = source_from ns

abbrev source_of : Node → PlainSource
source_of (Branch s ns) = source_from ns
source_of (Leaf t) = laid [] [] [] [] []

at_hidden : (hs : List Bytes) → source_from (pack (hidden_node hs)) ≡ laid [] [] [] [] hs
at_hidden [] = refl
at_hidden (s ∷ ss) = λ i. laid [] [] [] [] (s ∷ back_parts name_part name_of named (λ s. refl) ss i)

at_components : (cs : List PlainComponent) (hs : List Bytes) → source_from (pack (components_nodes cs ++ hidden_node hs)) ≡ laid [] [] [] cs hs
at_components [] hs = at_hidden hs
at_components (c ∷ cs) hs = λ i. with_component (back_component c i) (at_parts cs i)
  where
    at_parts : (cs : List PlainComponent) → source_from (pack (parts component_part w.Semicolon component_node cs ++ hidden_node hs)) ≡ laid [] [] [] cs hs
    at_parts [] = at_hidden hs
    at_parts (c ∷ cs) = λ i. with_component (back_component c i) (at_parts cs i)

at_further : (rest : List PlainAutomaton) (s : Bytes) (cs : List PlainComponent) (hs : List Bytes)
    → with_name (next_name rest s) (source_from (pack (further_nodes rest s ++ (key w.Components ∷ (components_nodes cs ++ hidden_node hs))))) ≡ laid [] rest s cs hs
at_further [] s cs hs = ap (with_name s) (at_components cs hs)
at_further (a ∷ rest) s cs hs = λ i. with_name a.name (with_automaton (back_basic a i) (at_further rest s cs hs i))

-- where there is an automaton
back_source : (ts : List PlainTypeDefinition) (a : PlainAutomaton) (rest : List PlainAutomaton) (s : Bytes) (cs : List PlainComponent) (hs : List Bytes)
    → source_of (source_node (laid ts (a ∷ rest) s cs hs)) ≡ laid ts (a ∷ rest) s cs hs
back_source [] a rest s cs hs = at_further (a ∷ rest) s cs hs
back_source (t ∷ ts) a rest s cs hs = λ i. with_type (record { name = t.name; body = back_type_body t.body i }) (back_source ts a rest s cs hs i)

-- ---- The grammar wants an automaton.

abbrev begins : Node → Bool
begins (Leaf t) = is w.Automaton t
begins _ = false

abbrev has_automaton : Nodes → Bool
has_automaton none = false
has_automaton (more n ns) = cond (begins n) true (has_automaton ns)

wants : {b : Bool} {d : ℕ} {ps : List Part} (ns : List Node)
    → Are b d (many type_definition outside ∷ (token (word w.Automaton) outside ∷ ps)) ns → has_automaton (pack ns) ≡ true
wants ns (no_more (a_token f a r)) = rw a refl
wants (n ∷ ns) (one_more m r) = at_test (begins n) (wants ns r)
  where
    at_test : (x : Bool) → has_automaton (pack ns) ≡ true → cond x true (has_automaton (pack ns)) ≡ true
    at_test true h = refl
    at_test false h = h

abbrev nodes_of : Node → Nodes
nodes_of (Branch s ns) = ns
nodes_of (Leaf t) = none

source_wants : {b : Bool} (n : Node) → Is b source 0 n → has_automaton (nodes_of n) ≡ true
source_wants n (by_token t ps ns p are e) = cc
source_wants n (by_rule r ps m ns p one are e) = cc
source_wants n (a_source ns are e) = ap (λ z. has_automaton (nodes_of z)) e ∙ wants ns are

none_hidden : (hs : List Bytes) → has_automaton (pack (hidden_node hs)) ≡ false
none_hidden [] = refl
none_hidden (s ∷ ss) = refl

has_none : (ts : List PlainTypeDefinition) (s : Bytes) (cs : List PlainComponent) (hs : List Bytes) → has_automaton (pack (source_nodes (laid ts [] s cs hs))) ≡ false
has_none (t ∷ ts) s cs hs = has_none ts s cs hs
has_none [] s [] hs = none_hidden hs
has_none [] s (c ∷ cs) hs = at_parts cs
  where
    at_parts : (cs : List PlainComponent) → has_automaton (pack (parts component_part w.Semicolon component_node cs ++ hidden_node hs)) ≡ false
    at_parts [] = none_hidden hs
    at_parts (c ∷ cs) = at_parts cs

-- A source has an automaton beside the composed one.
pub some_automaton : (b : Bool) (x : PlainSource) → IsSource b x → 0 < length x.automata
some_automaton b x p = at_automata x.automata p
  where
    at_automata : (rest : List PlainAutomaton) → IsSource b (laid x.types rest x.composed.name x.composed.components x.composed.hidden) → 0 < length rest
    at_automata [] p = let a : true ≡ false = sym (source_wants _ p) ∙ has_none x.types x.composed.name x.composed.components x.composed.hidden in cc
    at_automata (a ∷ rest) p = omega arith

source_back : (b : Bool) (x : PlainSource) → IsSource b x → source_of (source_node x) ≡ x
source_back b x p = at_automata x.automata p
  where
    at_automata : (rest : List PlainAutomaton) → IsSource b (laid x.types rest x.composed.name x.composed.components x.composed.hidden)
        → source_of (source_node (laid x.types rest x.composed.name x.composed.components x.composed.hidden)) ≡ laid x.types rest x.composed.name x.composed.components x.composed.hidden
    at_automata [] p = let a : true ≡ false = sym (source_wants _ p) ∙ has_none x.types x.composed.name x.composed.components x.composed.hidden in cc
    at_automata (a ∷ rest) p = back_source x.types a rest x.composed.name x.composed.components x.composed.hidden

-- Two sources with one node are the same.
pub same_source : (limited : Bool) (x y : PlainSource) → IsSource limited x → IsSource limited y → source_node x ≡ source_node y → x ≡ y
same_source b x y p q e = sym (source_back b x p) ∙ (ap source_of e ∙ source_back b y q)

-- Two sources that are spelled alike are the same.
pub one_source : (limited : Bool) (x y : PlainSource) → IsSource limited x → IsSource limited y → spell x ≡ spell y → x ≡ y
one_source b x y p q e = same_source b x y p q (one_tree b (source_node x) (source_node y) p q e)
