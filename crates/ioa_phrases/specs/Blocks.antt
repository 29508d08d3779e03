-- What the readers of the blocks of an automaton, and of a source, ensure.
use Rattle.std.specs.Prelude.{◌≡◌, true, List, [], ◌∷◌, ◌++◌, map, Result, Ok, Err, string_bytes, String}
use Rattle.std.specs.declared.alloc.Global.{Global}
use Rattle.std.specs.Prelude.{Vec}
use Rattle.ioa_phrases.specs.declared.stop.Stop.{Stop}
use Rattle.ioa_trees.specs.declared.tree.ComponentTree.{ComponentTree}
use Rattle.ioa_trees.specs.declared.tree.Declared.{Declared}
use Rattle.ioa_trees.specs.declared.tree.SourceTree.{SourceTree}
use Rattle.ioa_trees.specs.declared.tree.TypeDefinition.{TypeDefinition}
use Rattle.ioa_trees.specs.declared.tree.Variable.{Variable}
use Rattle.ioa_tokens.specs.declared.Word.TheVariants as w
use Rattle.ioa_tokens.specs.Tokens.{Tok}
use Rattle.ioa_trees.specs.Nodes.{Sort, source, type_definition, basic, further, formal, formal_part, variable, variable_part, tasks, transition, component, component_part, hidden, Node}
use Rattle.ioa_trees.specs.Grammar.{Part, token, name, word, one, maybe, many, outside, first, inside, after_signature, definition_parts, whole}
use Rattle.ioa_phrases.specs.Machine.{Frames, Bottom, In, Read, depth, at, want, start, go}
use Rattle.ioa_trees.specs.Spelling.{key, branch, formal_node, formals_nodes, variable_node, task_node, component_node, source_node, type_definition_node}
use Rattle.ioa_trees.specs.Trees.{PlainDeclared}
use Rattle.ioa_trees.specs.Views.{view_component, view_declared, view_source, view_type_definition, view_variable}
use Rattle.ioa_phrases.specs.Reads.{Stops}

abbrev pub formal_item : Declared → Node
formal_item d = formal_node (view_declared d)

abbrev pub formal_part_item : Declared → Node
formal_part_item d = branch formal_part (key w.Comma ∷ (formal_node (view_declared d) ∷ []))

abbrev pub variable_item : Variable → Node
variable_item v = variable_node (view_variable v)

abbrev pub variable_part_item : Variable → Node
variable_part_item v = branch variable_part (key w.Comma ∷ (variable_node (view_variable v) ∷ []))

abbrev pub task_item : Vec (String Global) Global → Node
task_item t = task_node (map string_bytes t.items)

abbrev pub component_item : ComponentTree → Node
component_item c = component_node (view_component c)

abbrev pub component_part_item : ComponentTree → Node
component_part_item c = branch component_part (key w.Semicolon ∷ (component_node (view_component c) ∷ []))

abbrev pub definition_item : TypeDefinition → Node
definition_item d = type_definition_node (view_type_definition d)

-- the word before the first entry, and what follows
abbrev pub signature_parts : List Part
signature_parts = token (word w.Signature) outside ∷ after_signature

abbrev pub formal_parts : List Part
formal_parts = one formal first ∷ (many formal_part inside ∷ (token (word w.Close) outside ∷ signature_parts))

abbrev pub variable_parts : List Part
variable_parts = one variable outside ∷ (many variable_part outside ∷ [])

-- what follows the state variables
abbrev pub after_states : List Part
after_states = token (word w.Transitions) outside ∷ (one transition outside ∷ (many transition outside ∷ (maybe tasks outside ∷ [])))

-- the formals and the word that follows them
abbrev pub head_nodes : List PlainDeclared → List Node
head_nodes ds = formals_nodes ds ++ key w.Signature ∷ []

-- the end of a source
abbrev pub hidden_parts : List Part
hidden_parts = maybe hidden outside ∷ []

abbrev pub component_parts : List Part
component_parts = token (word w.Components) outside ∷ (one component outside ∷ (many component_part outside ∷ hidden_parts))

abbrev pub further_parts : List Part
further_parts = many further outside ∷ component_parts

-- the word and the name that follow each automaton
abbrev pub next_parts : List Part → List Part
next_parts ps = token (word w.Automaton) outside ∷ (token name outside ∷ ps)

abbrev pub automata_parts : List Part
automata_parts = next_parts (one basic outside ∷ next_parts further_parts)

-- The first of these parts, up to the second, stand at the front, inside of no pair.
abbrev pub ReadsParts : {Y : Type 0} → (Y → List Node) → (Y → List Tok) → Sort → List Part → List Part → List Tok → Result Y Stop → Type 0
ReadsParts n rest z from to ts (Ok y) = (done : List Node) (k : Frames) → depth k ≡ 0
    → go true (at z done from k) ts ≡ go true (at z (done ++ n y) to k) (rest y)
ReadsParts n rest z from to ts (Err e) = (done : List Node) (k : Frames) → depth k ≡ 0
    → Stops e (go true (at z done from k) ts)

-- The formals of an automaton and the word that follows them stand at the front.
abbrev pub Heads : {Y : Type 0} → (Y → List Node) → (Y → List Tok) → List Tok → Result Y Stop → Type 0
Heads n rest ts (Ok y) = (k : Frames) → depth k ≡ 0 → go true (want basic k) ts ≡ go true (at basic (n y) after_signature k) (rest y)
Heads n rest ts (Err e) = (k : Frames) → depth k ≡ 0 → Stops e (go true (want basic k) ts)

-- The formals behind their parenthesis, and the word that follows them, stand at the front.
abbrev pub HeadsInside : {Y : Type 0} → (Y → List Node) → (Y → List Tok) → List Part → List Tok → Result Y Stop → Type 0
HeadsInside n rest to ts (Ok y) = (k : Frames) → depth k ≡ 0 → go true (at basic (key w.Open ∷ []) formal_parts k) ts ≡ go true (at basic (n y) to k) (rest y)
HeadsInside n rest to ts (Err e) = (k : Frames) → depth k ≡ 0 → Stops e (go true (at basic (key w.Open ∷ []) formal_parts k) ts)

-- An automaton, the word and the name that follow it stand at the front.
abbrev pub BasicThen : {Y : Type 0} → (Y → List Node) → (Y → List Tok) → List Tok → Result Y Stop → Type 0
BasicThen n rest ts (Ok y) = (z : Sort) (done : List Node) (ps : List Part) (k : Frames) → depth k ≡ 0
    → go true (want basic (In z done (next_parts ps) outside k)) ts ≡ go true (at z (done ++ n y) ps k) (rest y)
BasicThen n rest ts (Err e) = (z : Sort) (done : List Node) (ps : List Part) (k : Frames) → depth k ≡ 0
    → Stops e (go true (want basic (In z done (next_parts ps) outside k)) ts)

-- The first of these parts of a source, up to the second, stand at the front.
abbrev pub Goes : {Y : Type 0} → (Y → List Node) → (Y → List Tok) → List Part → List Part → List Tok → Result Y Stop → Type 0
Goes n rest from to ts (Ok y) = (done : List Node) → go true (at source done from Bottom) ts ≡ go true (at source (done ++ n y) to Bottom) (rest y)
Goes n rest from to ts (Err e) = (done : List Node) → Stops e (go true (at source done from Bottom) ts)

-- The definitions of types behind the first word of all stand at the front.
abbrev pub SomeTypes : {Y : Type 0} → (Y → List Node) → (Y → List Tok) → List Tok → Result Y Stop → Type 0
SomeTypes n rest ts (Ok y) = (done : List Node)
    → go true (at type_definition (key w.Type ∷ []) definition_parts (In source done whole outside Bottom)) ts ≡ go true (at source (done ++ n y) automata_parts Bottom) (rest y)
SomeTypes n rest ts (Err e) = (done : List Node) → Stops e (go true (at type_definition (key w.Type ∷ []) definition_parts (In source done whole outside Bottom)) ts)

-- The tokens are one source, all of them, or it is said where they stop being one.
abbrev pub Exact : List Tok → Result SourceTree Stop → Type 0
Exact ts (Ok s) = go true start ts ≡ Read (source_node (view_source s))
Exact ts (Err e) = Stops e (go true start ts)
