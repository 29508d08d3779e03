-- Where the parts of an automaton stand among its tokens.
use Rattle.std.proofs.Common.{◌≡◌, ◌<◌, ℕ, ◌+◌, List, [], ◌∷◌, ◌++◌, map, length, take, drop, length-append, append_assoc, refl, sym, ap, ◌∙◌, arith}
use Rattle.std.proofs.lemmas.List.{map-append}
use Rattle.ioa_tokens.specs.declared.Word.{Word}
use Rattle.ioa_tokens.specs.declared.Word.TheVariants as w
use Rattle.ioa_tokens.specs.Tokens.{Tok}
use Rattle.ioa_trees.specs.Nodes.{Sort, states, tasks, formal_part, variable_part, Node, yield, yields}
use Rattle.ioa_trees.specs.Spelling.{key, branch, parts, separated, formal_node, formals_nodes, entry_node, variable_node, states_node, transition_node, task_node, tasks_node, body_nodes}
use Rattle.ioa_trees.specs.Trees.{Bytes, PlainDeclared, PlainEntry, PlainVariable, PlainTransition, PlainAutomaton}
use Rattle.ioa_trees.specs.Sizes.{behind, listed_size, bracketed_size, row_size, declared_size, entry_size, variable_size, transition_size, task_size, after_word}
use Rattle.ioa_trees.specs.AutomatonRules.{signature_at, states_at, transitions_at, tasks_at}
use Rattle.ioa_trees.specs.Places.{automaton_tokens}
use Rattle.ioa_trees.proofs.Counts.{count}
use Rattle.ioa_trees.proofs.CountsAutomata.{row_counts, formal_counts, formals_counts, entry_counts, variable_counts, states_counts, transition_counts, task_counts}
use Rattle.ioa_trees.proofs.Placed.{yields_pack, yields_append, leading, leading_counts, leading_tokens, advance, taken}

-- an item of a row
row_placed : {A : Type 0} (f : A → Node) (g : A → ℕ) → ((x : A) → count (f x) ≡ g x) → (ts : List Tok) (n : ℕ) (all before after : List A) (x : A) (rest : List Node)
    → all ≡ before ++ x ∷ after → drop n ts ≡ yields (map f all ++ rest) → take (g x) (drop (n + row_size g before) ts) ≡ yield (f x)
row_placed f g e ts n all before after x rest same h =
    let more : List Node = map f after ++ rest in
    taken ts (n + row_size g before) (g x) (f x) more
    (advance ts n (row_size g before) (n + row_size g before) (map f before) (f x ∷ more)
    (h ∙ ap yields (ap (λ z. map f z ++ rest) same ∙ (ap (λ z. z ++ rest) (map-append f before (x ∷ after)) ∙ append_assoc (map f before) (map f (x ∷ after)) rest)))
    (row_counts f g e before) refl)
    (e x)

-- an item of a list with a sign between two
pub separated_placed : {A : Type 0} (s : Sort) (v : Word) (f : A → Node) (g : A → ℕ) → ((x : A) → count (f x) ≡ g x)
    → (ts : List Tok) (n : ℕ) (all before after : List A) (x : A) (rest : List Node)
    → all ≡ before ++ x ∷ after → drop n ts ≡ yields (separated s v f all ++ rest) → take (g x) (drop (n + behind g before) ts) ≡ yield (f x)
separated_placed s v f g e ts n all before after x rest same h =
    let more : List Node = parts s v f after ++ rest in
    taken ts (n + behind g before) (g x) (f x) more
    (advance ts n (behind g before) (n + behind g before) (leading s v f before) (f x ∷ more)
    (h ∙ (ap (λ z. yields (separated s v f z ++ rest)) same ∙ leading_tokens s v f before after x rest))
    (leading_counts s v f g e before) refl)
    (e x)

pub some : {A : Type 0} (all before after : List A) (x : A) → all ≡ before ++ x ∷ after → 0 < length all
some all before after x e = omega (arith, ap length e, length-append before (x ∷ after))

pub opened : (s : Sort) (ns rest : List Node) → yields (branch s ns ∷ rest) ≡ yields (ns ++ rest)
opened s ns rest = ap (λ z. z ++ yields rest) (yields_pack ns) ∙ sym (yields_append ns rest)

abbrev from_transitions : PlainAutomaton → List Node
from_transitions a = key w.Transitions ∷ (map transition_node a.transitions ++ tasks_node a.tasks)

at_formals : (a : PlainAutomaton) → drop 2 (automaton_tokens a) ≡ yields (formals_nodes a.formals ++ (key w.Signature ∷ body_nodes a))
at_formals a = yields_pack (formals_nodes a.formals ++ (key w.Signature ∷ body_nodes a))

at_signature : (a : PlainAutomaton) → drop (signature_at 0 a) (automaton_tokens a) ≡ yields (key w.Signature ∷ body_nodes a)
at_signature a =
    advance (automaton_tokens a) 2 (bracketed_size declared_size a.formals) (signature_at 0 a) (formals_nodes a.formals) (key w.Signature ∷ body_nodes a)
    (at_formals a) (formals_counts a.formals) (omega arith)

at_entries : (a : PlainAutomaton) → drop (signature_at 0 a + 1) (automaton_tokens a) ≡ yields (body_nodes a)
at_entries a = advance (automaton_tokens a) (signature_at 0 a) 1 (signature_at 0 a + 1) (key w.Signature ∷ []) (body_nodes a) (at_signature a) refl refl

at_states : (a : PlainAutomaton) → drop (states_at 0 a) (automaton_tokens a) ≡ yields (states_node a.variables ++ from_transitions a)
at_states a =
    advance (automaton_tokens a) (signature_at 0 a + 1) (row_size entry_size a.entries) (states_at 0 a) (map entry_node a.entries)
    (states_node a.variables ++ from_transitions a) (at_entries a) (row_counts entry_node entry_size entry_counts a.entries) refl

at_transitions : (a : PlainAutomaton) → drop (transitions_at 0 a) (automaton_tokens a) ≡ yields (from_transitions a)
at_transitions a =
    advance (automaton_tokens a) (states_at 0 a) (after_word (listed_size variable_size a.variables) a.variables) (transitions_at 0 a)
    (states_node a.variables) (from_transitions a) (at_states a) (states_counts a.variables) refl

past_transitions : (a : PlainAutomaton) → drop (transitions_at 0 a + 1) (automaton_tokens a) ≡ yields (map transition_node a.transitions ++ tasks_node a.tasks)
past_transitions a =
    advance (automaton_tokens a) (transitions_at 0 a) 1 (transitions_at 0 a + 1) (key w.Transitions ∷ [])
    (map transition_node a.transitions ++ tasks_node a.tasks) (at_transitions a) refl refl

at_tasks : (a : PlainAutomaton) → drop (tasks_at 0 a) (automaton_tokens a) ≡ yields (tasks_node a.tasks)
at_tasks a =
    advance (automaton_tokens a) (transitions_at 0 a + 1) (row_size transition_size a.transitions) (tasks_at 0 a) (map transition_node a.transitions)
    (tasks_node a.tasks) (past_transitions a) (row_counts transition_node transition_size transition_counts a.transitions) refl

opened_formals : (ds : List PlainDeclared) (rest : List Node) → 0 < length ds
    → yields (formals_nodes ds ++ rest) ≡ yields (key w.Open ∷ (separated formal_part w.Comma formal_node ds ++ (key w.Close ∷ rest)))
opened_formals [] rest h = absurd (omega (arith, h))
opened_formals (d ∷ ds) rest h =
    ap (λ z. yields (key w.Open ∷ (formal_node d ∷ z))) (append_assoc (parts formal_part w.Comma formal_node ds) (key w.Close ∷ []) rest)

opened_states : (vs : List PlainVariable) (rest : List Node) → 0 < length vs
    → yields (states_node vs ++ rest) ≡ yields (key w.States ∷ (separated variable_part w.Comma variable_node vs ++ rest))
opened_states [] rest h = absurd (omega (arith, h))
opened_states (v ∷ vs) rest h = opened states (key w.States ∷ (variable_node v ∷ parts variable_part w.Comma variable_node vs)) rest

opened_tasks : (ts : List (List Bytes)) → 0 < length ts → yields (tasks_node ts) ≡ yields (key w.Tasks ∷ (map task_node ts ++ []))
opened_tasks [] h = absurd (omega (arith, h))
opened_tasks (t ∷ ts) h = opened tasks (key w.Tasks ∷ (task_node t ∷ map task_node ts)) []

pub formal_placed : (a : PlainAutomaton) (before after : List PlainDeclared) (d : PlainDeclared) → a.formals ≡ before ++ d ∷ after
    → take (declared_size d) (drop (3 + behind declared_size before) (automaton_tokens a)) ≡ yield (formal_node d)
formal_placed a before after d e =
    let rest : List Node = key w.Close ∷ (key w.Signature ∷ body_nodes a) in
    separated_placed formal_part w.Comma formal_node declared_size formal_counts (automaton_tokens a) 3 a.formals before after d rest e
    (advance (automaton_tokens a) 2 1 3 (key w.Open ∷ []) (separated formal_part w.Comma formal_node a.formals ++ rest)
    (at_formals a ∙ opened_formals a.formals (key w.Signature ∷ body_nodes a) (some a.formals before after d e)) refl refl)

pub entry_placed : (a : PlainAutomaton) (before after : List PlainEntry) (e : PlainEntry) → a.entries ≡ before ++ e ∷ after
    → take (entry_size e) (drop (signature_at 0 a + 1 + row_size entry_size before) (automaton_tokens a)) ≡ yield (entry_node e)
entry_placed a before after e same =
    row_placed entry_node entry_size entry_counts (automaton_tokens a) (signature_at 0 a + 1) a.entries before after e
    (states_node a.variables ++ from_transitions a) same (at_entries a)

pub variable_placed : (a : PlainAutomaton) (before after : List PlainVariable) (v : PlainVariable) → a.variables ≡ before ++ v ∷ after
    → take (variable_size v) (drop (states_at 0 a + 1 + behind variable_size before) (automaton_tokens a)) ≡ yield (variable_node v)
variable_placed a before after v e =
    separated_placed variable_part w.Comma variable_node variable_size variable_counts (automaton_tokens a) (states_at 0 a + 1)
    a.variables before after v (from_transitions a) e
    (advance (automaton_tokens a) (states_at 0 a) 1 (states_at 0 a + 1) (key w.States ∷ [])
    (separated variable_part w.Comma variable_node a.variables ++ from_transitions a)
    (at_states a ∙ opened_states a.variables (from_transitions a) (some a.variables before after v e)) refl refl)

pub transition_placed : (a : PlainAutomaton) (before after : List PlainTransition) (t : PlainTransition) → a.transitions ≡ before ++ t ∷ after
    → take (transition_size t) (drop (transitions_at 0 a + 1 + row_size transition_size before) (automaton_tokens a)) ≡ yield (transition_node t)
transition_placed a before after t e =
    row_placed transition_node transition_size transition_counts (automaton_tokens a) (transitions_at 0 a + 1) a.transitions before after t
    (tasks_node a.tasks) e (past_transitions a)

pub task_placed : (a : PlainAutomaton) (before after : List (List Bytes)) (t : List Bytes) → a.tasks ≡ before ++ t ∷ after
    → take (task_size t) (drop (tasks_at 0 a + 1 + row_size task_size before) (automaton_tokens a)) ≡ yield (task_node t)
task_placed a before after t e =
    row_placed task_node task_size task_counts (automaton_tokens a) (tasks_at 0 a + 1) a.tasks before after t [] e
    (advance (automaton_tokens a) (tasks_at 0 a) 1 (tasks_at 0 a + 1) (key w.Tasks ∷ []) (map task_node a.tasks ++ [])
    (at_tasks a ∙ opened_tasks a.tasks (some a.tasks before after t e)) refl refl)
