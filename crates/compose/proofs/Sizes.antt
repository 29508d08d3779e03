-- What is counted has no more parts than tokens.
use Rattle.std.proofs.Common.{◌≡◌, ◌≤◌, ◌<◌, ℕ, ◌+◌, Bool, true, List, [], ◌∷◌, ◌++◌, length, length-append, map, arith}
use Rattle.std.specs.List.{All}
use Rattle.std.proofs.lemmas.List.{length-map}
use Rattle.std.proofs.lemmas.List.Sums.{sum_by-cons}
use Rattle.std.proofs.lemmas.List.Elements.{All-nil, All-cons, All-head, All-tail}
use Rattle.ioa_tokens.specs.declared.Word.TheVariants as w
use Rattle.ioa_trees.specs.Nodes.{source, basic, further, tasks, Branch, Nodes, none, pack}
use Rattle.ioa_trees.specs.Spelling.{key, named, entry_node, states_node, transition_node, task_node, tasks_node, body_nodes, formals_nodes, basic_node, composed_nodes, type_definition_node, next_name, further_nodes, automata_nodes, source_nodes, spell, IsSource}
use Rattle.ioa_trees.specs.Trees as tree
use Rattle.ioa_trees.specs.Trees.{Bytes, PlainTypeBody, PlainTypeDefinition, PlainTransition, PlainAutomaton, PlainSource}
use Rattle.ioa_trees.specs.Scopes.{Scope}
use Rattle.ioa_trees.specs.Sizes.{name_size, behind, row_size, after_word, transition_size, task_size, automaton_size, body_size, composed_size}
use Rattle.ioa_trees.specs.EntryRules.{meant_by}
use Rattle.ioa_trees.specs.AutomatonRules.{MeantAutomaton, around, place_of, meaning_of}
use Rattle.ioa_trees.specs.SourceRules.{members_in, definitions_size, all_members, with_automaton, automata_size, meanings_of, types_scope, composed_at, source_meaning}
use Rattle.compose.specs.Sound.{entries_in}
use Rattle.compose.proofs.Filled.{filled, all_filled, is_filled, split_filled, inner_filled, first_filled}

-- ---- members

names_behind : (qs : List Bytes) → length qs ≤ behind name_size qs
names_behind [] = omega arith
names_behind (q ∷ qs) = omega (arith, names_behind qs)

body_members : (b : PlainTypeBody) → length (members_in b) ≤ body_size b
body_members (tree.Same t) = omega arith
body_members (tree.Enumeration []) = omega arith
body_members (tree.Enumeration (q ∷ qs)) = omega (arith, names_behind qs)

-- each member is a token of its definition
pub members_sized : (ds : List PlainTypeDefinition) → length (all_members ds) ≤ definitions_size ds
members_sized [] = omega arith
members_sized (d ∷ ds) = omega (arith, length-append (members_in d.body) (all_members ds), body_members d.body, members_sized ds)

-- ---- tasks

names_task : (t : List Bytes) → filled (task_node t) ≡ true → 1 ≤ task_size t
names_task [] h = absurd (cc)
names_task (q ∷ qs) h = omega arith

each_task : (ts : List (List Bytes)) → all_filled (pack (map task_node ts)) ≡ true → length ts ≤ row_size task_size ts
each_task [] h = omega arith
each_task (t ∷ ts) h =
    let both = first_filled (task_node t) (pack (map task_node ts)) h in
    omega (arith, names_task t both.0, each_task ts both.1)

all_tasks : (ts : List (List Bytes)) → all_filled (pack (tasks_node ts)) ≡ true → length ts ≤ after_word (row_size task_size ts) ts
all_tasks [] h = omega arith
all_tasks (t ∷ ts) h =
    let inner = inner_filled tasks (pack (key w.Tasks ∷ (task_node t ∷ map task_node ts))) (first_filled (Branch tasks (pack (key w.Tasks ∷ (task_node t ∷ map task_node ts)))) none h).0 in
    omega (arith, each_task (t ∷ ts) inner)

abbrev IsFilled : PlainAutomaton → Type 0
IsFilled a = filled (basic_node a) ≡ true

-- each task has a token of its automaton
tasks_sized : (a : PlainAutomaton) → IsFilled a → length a.tasks ≤ automaton_size a
tasks_sized a h =
    let body = (split_filled (formals_nodes a.formals) (key w.Signature ∷ body_nodes a) (inner_filled basic (pack (formals_nodes a.formals ++ (key w.Signature ∷ body_nodes a))) h)).1 in
    let states = (split_filled (map entry_node a.entries) (states_node a.variables ++ (key w.Transitions ∷ (map transition_node a.transitions ++ tasks_node a.tasks))) body).1 in
    let transitions = (split_filled (states_node a.variables) (key w.Transitions ∷ (map transition_node a.transitions ++ tasks_node a.tasks)) states).1 in
    let last = (split_filled (map transition_node a.transitions) (tasks_node a.tasks) transitions).1 in
    omega (arith, all_tasks a.tasks last)

-- ---- automata

further_filled : (xs : List PlainAutomaton) (q : Bytes) → all_filled (pack (further_nodes xs q)) ≡ true → All IsFilled xs
further_filled [] q h = All-nil IsFilled
further_filled (a ∷ rest) q h =
    let inside : Nodes = pack (basic_node a ∷ (key w.Automaton ∷ (named (next_name rest q) ∷ []))) in
    let both = first_filled (Branch further inside) (pack (further_nodes rest q)) h in
    All-cons IsFilled a rest (first_filled (basic_node a) (pack (key w.Automaton ∷ (named (next_name rest q) ∷ []))) (inner_filled further inside both.0)).0 (further_filled rest q both.1)

automata_filled : (xs : List PlainAutomaton) (q : Bytes) → all_filled (pack (automata_nodes xs q)) ≡ true → All IsFilled xs
automata_filled [] q h = All-nil IsFilled
automata_filled (a ∷ rest) q h =
    let both = first_filled (basic_node a) (pack (key w.Automaton ∷ (named (next_name rest q) ∷ further_nodes rest q))) h in
    All-cons IsFilled a rest both.0 (further_filled rest q both.1)

abbrev Few : ℕ → MeantAutomaton → Type 0
Few most a = length a.tasks ≤ most

automata_few : (most : ℕ) (s : Scope) (n : ℕ) (xs : List PlainAutomaton) → All IsFilled xs → automata_size xs ≤ most → All (Few most) (meanings_of s n xs)
automata_few most s n [] all h = All-nil (Few most)
automata_few most s n (a ∷ rest) all h =
    let r = with_automaton s n a in
    let mapped = length-map a.tasks (λ t. map (λ q. place_of q 0 a.transitions) t) in
    All-cons (Few most) (meaning_of r a) (meanings_of r (n + 1) rest)
    (omega (arith, mapped, tasks_sized a (All-head IsFilled a rest all), h))
    (automata_few most r (n + 1) rest (All-tail IsFilled a rest all) (omega (arith, h)))

-- ---- entries

each_transition : (ts : List PlainTransition) → length ts + length ts ≤ row_size transition_size ts
each_transition [] = omega arith
each_transition (t ∷ ts) = omega (arith, each_transition ts)

-- each entry that is meant has a transition, of two tokens at least
entries_sized : (s : Scope) (n : ℕ) (xs : List PlainAutomaton) → entries_in (meanings_of s n xs) + entries_in (meanings_of s n xs) ≤ automata_size xs
entries_sized s n [] = omega arith
entries_sized s n (a ∷ rest) =
    let r = with_automaton s n a in
    let mapped = length-map a.transitions (meant_by (around r a)) in
    let step : entries_in (meanings_of s n (a ∷ rest)) ≡ length (map (meant_by (around r a)) a.transitions) + entries_in (meanings_of r (n + 1) rest) = sum_by-cons (λ (m : MeantAutomaton). length m.entries) (meaning_of r a) (meanings_of r (n + 1) rest) in
    omega (arith, step, mapped, each_transition a.transitions, entries_sized r (n + 1) rest)

-- ---- the whole

abbrev pub AllLong : Type 0
AllLong = (x : PlainSource) → 0 < length x.automata → length (spell x) ≡ composed_at x + composed_size x.composed

pub members_few : AllLong → (x : PlainSource) → 0 < length x.automata → length (source_meaning x).members ≤ length (spell x)
members_few long x h = omega (arith, long x h, members_sized x.types)

pub entries_few : AllLong → (x : PlainSource) → 0 < length x.automata → entries_in (source_meaning x).automata + entries_in (source_meaning x).automata ≤ length (spell x)
entries_few long x h = omega (arith, long x h, entries_sized (types_scope x) 0 x.automata)

pub tasks_few : AllLong → (b : Bool) (x : PlainSource) → IsSource b x → 0 < length x.automata → All (λ a. length a.tasks ≤ length (spell x)) (source_meaning x).automata
tasks_few long b x is h =
    let nodes = inner_filled source (pack (source_nodes x)) (is_filled b is) in
    let rest = (split_filled (map type_definition_node x.types) (automata_nodes x.automata x.composed.name ++ composed_nodes x.composed) nodes).1 in
    let automata = (split_filled (automata_nodes x.automata x.composed.name) (composed_nodes x.composed) rest).0 in
    automata_few (length (spell x)) (types_scope x) 0 x.automata (automata_filled x.automata x.composed.name automata) (omega (arith, long x h))
