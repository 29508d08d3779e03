-- The tokens that the places of an automaton count.
use Rattle.std.specs.Prelude.{List, ◌∷◌}
use Rattle.ioa_tokens.specs.declared.Word.TheVariants as w
use Rattle.ioa_tokens.specs.Tokens.{Tok, Name, Key}
use Rattle.ioa_trees.specs.Nodes.{yield}
use Rattle.ioa_trees.specs.Spelling.{basic_node}
use Rattle.ioa_trees.specs.Trees.{PlainAutomaton}

-- from its word on
abbrev pub automaton_tokens : PlainAutomaton → List Tok
automaton_tokens a = Key w.Automaton ∷ (Name a.name ∷ yield (basic_node a))
