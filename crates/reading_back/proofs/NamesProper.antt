-- The names of a readable source are names of the language.
use Rattle.std.proofs.Common.{◌+◌, ℕ, List, [], ◌∷◌, ◌++◌, map}
use Rattle.ioa_tokens.specs.declared.Word.TheVariants as w
use Rattle.ioa_tokens.specs.Layout.{AreProper}
use Rattle.ioa_tokens.specs.Spelling.{IsName}
use Rattle.ioa_tokens.specs.Tokens.{Tok}
use Rattle.ioa_trees.specs.Nodes.{further, name_part, Node, pack, yield, yield_nodes}
use Rattle.ioa_trees.specs.Spelling.{key, named, branch, parts, entry_node, states_node, pre_node, eff_node, transition_node, tasks_node, body_nodes, formals_nodes, basic_node, composed_nodes, type_body_node, type_definition_node, next_name, further_nodes, automata_nodes, spell}
use Rattle.ioa_trees.specs.Trees as tree
use Rattle.ioa_trees.specs.Trees.{Bytes, PlainTypeBody, PlainTypeDefinition, PlainTransition, PlainAutomaton, PlainSource}
use Rattle.ioa_trees.specs.Scopes.{Scope}
use Rattle.ioa_trees.specs.EntryRules.{Meant, meant_by}
use Rattle.ioa_trees.specs.AutomatonRules.{MeantAutomaton, around}
use Rattle.ioa_trees.specs.SourceRules.{all_members, members_in, meanings_of, with_automaton}
use Rattle.io_automata.specs.Each.{Each, each_append, each_map}

-- ---- parts of proper tokens

left : (ts us : List Tok) → AreProper (ts ++ us) → AreProper ts
left [] us h = tt
left (t ∷ ts) us h = (h.0, left ts us h.1)

right : (ts us : List Tok) → AreProper (ts ++ us) → AreProper us
right [] us h = h
right (t ∷ ts) us h = right ts us h.1

abbrev Proper : List Node → Type 0
Proper ns = AreProper (yield_nodes (pack ns))

first_part : (ns ms : List Node) → Proper (ns ++ ms) → Proper ns
first_part [] ms h = tt
first_part (n ∷ ns) ms h = join (yield n) (yield_nodes (pack ns)) (left (yield n) (yield_nodes (pack (ns ++ ms))) h) (first_part ns ms (right (yield n) (yield_nodes (pack (ns ++ ms))) h))
  where
    join : (ts us : List Tok) → AreProper ts → AreProper us → AreProper (ts ++ us)
    join [] us a b = b
    join (t ∷ ts) us a b = (a.0, join ts us a.1 b)

second_part : (ns ms : List Node) → Proper (ns ++ ms) → Proper ms
second_part [] ms h = h
second_part (n ∷ ns) ms h = second_part ns ms (right (yield n) (yield_nodes (pack (ns ++ ms))) h)

head_part : (n : Node) (ns : List Node) → Proper (n ∷ ns) → AreProper (yield n)
head_part n ns h = left (yield n) (yield_nodes (pack ns)) h

tail_part : (n : Node) (ns : List Node) → Proper (n ∷ ns) → Proper ns
tail_part n ns h = right (yield n) (yield_nodes (pack ns)) h

each_node : {A : Type 0} (f : A → Node) (P : A → Type 0) → ((x : A) → AreProper (yield (f x)) → P x) → (xs : List A) → Proper (map f xs) → Each P xs
each_node f P g [] h = tt
each_node f P g (x ∷ xs) h = (g x (head_part (f x) (map f xs) h), each_node f P g xs (tail_part (f x) (map f xs) h))

-- ---- members

names_of : (qs : List Bytes) → Proper (parts name_part w.Comma named qs) → Each IsName qs
names_of qs h = each_node (λ q. branch name_part (key w.Comma ∷ (named q ∷ []))) IsName (λ q p. p.1.0) qs h

body_proper : (b : PlainTypeBody) → AreProper (yield (type_body_node b)) → Each IsName (members_in b)
body_proper (tree.Same t) h = tt
body_proper (tree.Enumeration []) h = tt
body_proper (tree.Enumeration (q ∷ qs)) h = (h.1.1.0, names_of qs h.1.1.1)

definition_proper : (d : PlainTypeDefinition) → AreProper (yield (type_definition_node d)) → Each IsName (members_in d.body)
definition_proper d h = body_proper d.body (head_part (type_body_node d.body) [] h.1.1.1)

definitions_proper : (ds : List PlainTypeDefinition) → Proper (map type_definition_node ds) → Each IsName (all_members ds)
definitions_proper [] h = tt
definitions_proper (d ∷ ds) h =
    each_append IsName (members_in d.body) (all_members ds)
    (definition_proper d (head_part (type_definition_node d) (map type_definition_node ds) h))
    (definitions_proper ds (tail_part (type_definition_node d) (map type_definition_node ds) h))

-- ---- entries

abbrev pub IsNamed : PlainTransition → Type 0
IsNamed t = IsName t.entry.name

transition_proper : (t : PlainTransition) → AreProper (yield (transition_node t)) → IsNamed t
transition_proper t h = (head_part (entry_node t.entry) (pre_node t.pre ++ eff_node t.eff) h).1.0

basic_proper : (a : PlainAutomaton) → AreProper (yield (basic_node a)) → Each IsNamed a.transitions
basic_proper a h =
    let body = tail_part (key w.Signature) (body_nodes a) (second_part (formals_nodes a.formals) (key w.Signature ∷ body_nodes a) h) in
    let states = second_part (map entry_node a.entries) (states_node a.variables ++ (key w.Transitions ∷ (map transition_node a.transitions ++ tasks_node a.tasks))) body in
    let transitions = tail_part (key w.Transitions) (map transition_node a.transitions ++ tasks_node a.tasks) (second_part (states_node a.variables) (key w.Transitions ∷ (map transition_node a.transitions ++ tasks_node a.tasks)) states) in
    each_node transition_node IsNamed transition_proper a.transitions (first_part (map transition_node a.transitions) (tasks_node a.tasks) transitions)

abbrev AreIn : PlainAutomaton → Type 0
AreIn a = Each IsNamed a.transitions

further_proper : (xs : List PlainAutomaton) (q : Bytes) → Proper (further_nodes xs q) → Each AreIn xs
further_proper [] q h = tt
further_proper (a ∷ rest) q h =
    let inside : List Node = basic_node a ∷ (key w.Automaton ∷ (named (next_name rest q) ∷ [])) in (
      basic_proper a (head_part (basic_node a) (key w.Automaton ∷ (named (next_name rest q) ∷ [])) (head_part (branch further inside) (further_nodes rest q) h)),
      further_proper rest q (tail_part (branch further inside) (further_nodes rest q) h),
    )

automata_proper : (xs : List PlainAutomaton) (q : Bytes) → Proper (automata_nodes xs q) → Each AreIn xs
automata_proper [] q h = tt
automata_proper (a ∷ rest) q h =
    let later : List Node = key w.Automaton ∷ (named (next_name rest q) ∷ further_nodes rest q) in
    let body : Proper (basic_node a ∷ later) = h.1.1 in
    let after : Proper later = tail_part (basic_node a) later body in
    (basic_proper a (head_part (basic_node a) later body), further_proper rest q after.1.1)

-- ---- the whole

pub record NamesOf (x : PlainSource) : Type 0 where
  pub members : Each IsName (all_members x.types)
  pub entries : Each AreIn x.automata

pub names_proper : (x : PlainSource) → AreProper (spell x) → NamesOf x
names_proper x h =
    let rest = second_part (map type_definition_node x.types) (automata_nodes x.automata x.composed.name ++ composed_nodes x.composed) h in
    record {
      members = definitions_proper x.types (first_part (map type_definition_node x.types) (automata_nodes x.automata x.composed.name ++ composed_nodes x.composed) h);
      entries = automata_proper x.automata x.composed.name (first_part (automata_nodes x.automata x.composed.name) (composed_nodes x.composed) rest);
    }

-- what is meant has the names of what is written
abbrev pub HasNames : MeantAutomaton → Type 0
HasNames a = Each (λ (e : Meant). IsName e.name) a.entries

pub meant_named : (s : Scope) (n : ℕ) (xs : List PlainAutomaton) → Each AreIn xs → Each HasNames (meanings_of s n xs)
meant_named s n [] h = tt
meant_named s n (a ∷ rest) h = (
  each_map (λ (e : Meant). IsName e.name) (meant_by (around (with_automaton s n a) a)) a.transitions h.0,
  meant_named (with_automaton s n a) (n + 1) rest h.1,
)
