-- Automata that aren't composed: what they mean, and their faults.
use Rattle.std.specs.Prelude.{ℕ, ◌+◌, Bool, not, ◌&&◌, ◌||◌, Option, Some, None, nat_le, nat_lt, bytes_eq, if◌then◌else◌, List, [], ◌∷◌, ◌++◌, length, map}
use Rattle.std.specs.List.{list_any}
use Rattle.terms.specs.TermTree.{TermTree}
use Rattle.ioa_trees.specs.Trees as tree
use Rattle.ioa_trees.specs.Trees.{Bytes, PlainDeclared, PlainParameter, PlainEntry, PlainVariable, PlainTransition, PlainStatement, PlainStatements, PlainBranches, no_statement, more_statements, no_branch, more_branches, PlainAutomaton}
use Rattle.ioa_trees.specs.Faults.{Fault, where_wrong}
use Rattle.ioa_trees.specs.Kinds.{Kind, weight, most_weight}
use Rattle.ioa_trees.specs.Scopes.{Scope, OfFormal, OfVariable, declare, doubled, taken_before}
use Rattle.ioa_trees.specs.Sizes.{declared_size, type_size, variable_size, bracketed_size, row_size, listed_size, after_word, entry_size, transition_size, task_size}
use Rattle.ioa_trees.specs.TypeRules.{kind_of, type_faults, unscalar}
use Rattle.ioa_trees.specs.ValueRules.{put_in, inner_faults, misfits}
use Rattle.ioa_trees.specs.EntryRules.{Meant, is_controlled, entries_faults, transitions_faults, meant_by}

-- ---- formals

abbrev pub with_formals : Scope → ℕ → List PlainDeclared → Scope
with_formals s n [] = s
with_formals s n (d ∷ ds) = with_formals (declare d.name (OfFormal n (kind_of s d.of)) s) (n + 1) ds

abbrev pub formals_faults : Scope → ℕ → ℕ → List PlainDeclared → List Fault
formals_faults s n at [] = []
formals_faults s n at (d ∷ ds) =
    doubled s at d.name
    ++ (type_faults s (at + 2) d.of
    ++ (unscalar (at + 2) (kind_of s d.of)
    ++ formals_faults (declare d.name (OfFormal n (kind_of s d.of)) s) (n + 1) (at + declared_size d + 1) ds))

-- ---- state variables

abbrev pub with_variables : Scope → Scope → ℕ → List PlainVariable → Scope
with_variables types s n [] = s
with_variables types s n (v ∷ vs) = with_variables types (declare v.declared.name (OfVariable n (kind_of types v.declared.of)) s) (n + 1) vs

abbrev pub weight_of : Option Kind → ℕ
weight_of None = 0
weight_of (Some k) = weight k

-- 17: the type with which the state goes over its weight
abbrev pub goes_over : ℕ → Option Kind → Bool
goes_over before k = nat_le before most_weight && nat_lt most_weight (before + weight_of k)

abbrev pub variable_faults : Scope → List Bytes → ℕ → ℕ → PlainVariable → List Fault
variable_faults s used before at v =
    taken_before s used at v.declared.name
    ++ (type_faults s (at + 2) v.declared.of
    ++ (where_wrong (goes_over before (kind_of s v.declared.of)) (at + 2) 17
    ++ (inner_faults s (at + type_size v.declared.of + 3) v.start
    ++ misfits s (kind_of s v.declared.of) (at + type_size v.declared.of + 3) v.start)))

-- types and start values see what is seen before the signature; a name is doubled against the parameters of all entries too
abbrev pub variables_faults : Scope → List Bytes → ℕ → ℕ → List PlainVariable → List Fault
variables_faults s used before at [] = []
variables_faults s used before at (v ∷ vs) =
    variable_faults s used before at v
    ++ variables_faults s (v.declared.name ∷ used) (before + weight_of (kind_of s v.declared.of)) (at + variable_size v + 1) vs

-- ---- tasks

abbrev pub is_controlled_name : List PlainEntry → Bytes → Bool
is_controlled_name entries q = list_any (λ e. is_controlled e.kind && bytes_eq q e.name) entries

-- 16: a name that is no output or internal, or that stood in a task before
abbrev pub task_faults : List PlainEntry → List Bytes → ℕ → List Bytes → List Fault
task_faults entries before at [] = []
task_faults entries before at (q ∷ qs) =
    where_wrong (not (is_controlled_name entries q) || list_any (bytes_eq q) before) at 16 ++ task_faults entries (q ∷ before) (at + 2) qs

abbrev pub tasks_faults : List PlainEntry → List Bytes → ℕ → List (List Bytes) → List Fault
tasks_faults entries before at [] = []
tasks_faults entries before at (t ∷ ts) = task_faults entries before (at + 1) t ++ tasks_faults entries (t ++ before) (at + task_size t) ts

-- ---- the places of its parts

abbrev pub signature_at : ℕ → PlainAutomaton → ℕ
signature_at at a = at + 2 + bracketed_size declared_size a.formals

abbrev pub states_at : ℕ → PlainAutomaton → ℕ
states_at at a = signature_at at a + 1 + row_size entry_size a.entries

abbrev pub transitions_at : ℕ → PlainAutomaton → ℕ
transitions_at at a = states_at at a + after_word (listed_size variable_size a.variables) a.variables

abbrev pub tasks_at : ℕ → PlainAutomaton → ℕ
tasks_at at a = transitions_at at a + 1 + row_size transition_size a.transitions

-- ---- what it sees

-- types, start values and parameters see the formals
abbrev pub inside : Scope → PlainAutomaton → Scope
inside s a = with_formals s 0 a.formals

-- transitions see the state variables too
abbrev pub around : Scope → PlainAutomaton → Scope
around s a = with_variables (inside s a) (inside s a) 0 a.variables

-- the names of the parameters of all entries
abbrev pub typed_names : List PlainParameter → List Bytes
typed_names [] = []
typed_names (tree.Constant q ∷ ps) = typed_names ps
typed_names (tree.Typed d ∷ ps) = d.name ∷ typed_names ps

abbrev pub all_of : {A B : Type 0} → (A → List B) → List A → List B
all_of f [] = []
all_of f (x ∷ xs) = f x ++ all_of f xs

abbrev pub entry_names : List PlainEntry → List Bytes
entry_names es = all_of (λ e. typed_names e.parameters) es

-- the faults behind its name; its first token has this number
abbrev pub body_faults : Scope → ℕ → PlainAutomaton → List Fault
body_faults s at a =
    where_wrong (nat_lt 16 (length a.formals)) (at + 1) 17
    ++ (formals_faults s 0 (at + 3) a.formals
    ++ (entries_faults (inside s a) [] a.transitions a.tasks (signature_at at a + 1) a.entries
    ++ (variables_faults (inside s a) (entry_names a.entries) 0 (states_at at a + 1) a.variables
    ++ (transitions_faults (around s a) a.entries [] (transitions_at at a + 1) a.transitions
    ++ tasks_faults a.entries [] (tasks_at at a + 1) a.tasks))))

-- ---- the names that it declares

abbrev mutual
  pub loops_of : PlainStatement → List Bytes
  loops_of (tree.Assign q i v) = []
  loops_of (tree.If bs ss) = loops_in bs ++ all_loops ss
  loops_of (tree.For d ss) = d.name ∷ all_loops ss

  pub loops_in : PlainBranches → List Bytes
  loops_in no_branch = []
  loops_in (more_branches t ss bs) = all_loops ss ++ loops_in bs

  pub all_loops : PlainStatements → List Bytes
  all_loops no_statement = []
  all_loops (more_statements a others) = loops_of a ++ all_loops others

abbrev pub locals : PlainAutomaton → List Bytes
locals a =
    map (λ d. d.name) a.formals
    ++ (entry_names a.entries
    ++ (map (λ v. v.declared.name) a.variables
    ++ all_of (λ t. all_loops t.eff) a.transitions))

-- ---- what it means

pub record MeantAutomaton : Type 0 where
  pub name : Bytes
  pub formals : List (Option Kind)
  pub entries : List Meant
  pub variables : List (Option Kind)
  pub start : List (Option TermTree)
  -- the places of entries, which stand in the order of their transitions
  pub tasks : List (List ℕ)

abbrev pub formal_kinds : Scope → ℕ → List PlainDeclared → List (Option Kind)
formal_kinds s n [] = []
formal_kinds s n (d ∷ ds) = kind_of s d.of ∷ formal_kinds (declare d.name (OfFormal n (kind_of s d.of)) s) (n + 1) ds

-- the place of the transition of the output or internal of this name
abbrev pub place_of : Bytes → ℕ → List PlainTransition → ℕ
place_of q n [] = n
place_of q n (t ∷ ts) = if is_controlled t.entry.kind && bytes_eq q t.entry.name then n else place_of q (n + 1) ts

abbrev pub meaning_of : Scope → PlainAutomaton → MeantAutomaton
meaning_of s a = record {
  name = a.name;
  formals = formal_kinds s 0 a.formals;
  entries = map (meant_by (around s a)) a.transitions;
  variables = map (λ v. kind_of (inside s a) v.declared.of) a.variables;
  start = map (λ v. put_in (inside s a) (kind_of (inside s a) v.declared.of) v.start) a.variables;
  tasks = map (λ t. map (λ q. place_of q 0 a.transitions) t) a.tasks;
}
