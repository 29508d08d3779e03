-- Lists of one rule, one after the other.
use Rattle.std.specs.Prelude.{◌≡◌, true, List, ◌∷◌, ◌++◌, Result, Ok, Err}
use Rattle.ioa_phrases.specs.declared.stop.Stop.{Stop}
use Rattle.ioa_trees.specs.declared.tree.Entry.{Entry}
use Rattle.ioa_trees.specs.declared.tree.Transition.{Transition}
use Rattle.ioa_tokens.specs.Tokens.{Tok}
use Rattle.ioa_trees.specs.Nodes.{Sort, Node}
use Rattle.ioa_trees.specs.Grammar.{Part, one, many, outside}
use Rattle.ioa_phrases.specs.Machine.{Frames, depth, at, go}
use Rattle.ioa_trees.specs.Spelling.{entry_node, transition_node}
use Rattle.ioa_trees.specs.Views.{view_entry, view_transition}
use Rattle.ioa_phrases.specs.Reads.{Stops}

abbrev pub entry_item : Entry → Node
entry_item e = entry_node (view_entry e)

abbrev pub transition_item : Transition → Node
transition_item t = transition_node (view_transition t)

-- One of this rule and any number of others stand at the front, inside of no pair.
abbrev pub SomeOf : {Y : Type 0} → (Y → List Node) → (Y → List Tok) → Sort → List Tok → Result Y Stop → Type 0
SomeOf n rest r ts (Ok y) = (z : Sort) (done : List Node) (ps : List Part) (k : Frames) → depth k ≡ 0
    → go true (at z done (one r outside ∷ (many r outside ∷ ps)) k) ts ≡ go true (at z (done ++ n y) ps k) (rest y)
SomeOf n rest r ts (Err e) = (z : Sort) (done : List Node) (ps : List Part) (k : Frames) → depth k ≡ 0
    → Stops e (go true (at z done (one r outside ∷ (many r outside ∷ ps)) k) ts)
