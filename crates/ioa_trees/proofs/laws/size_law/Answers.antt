use Rattle.std.proofs.Common.{◌+◌, ◌∙◌, ap}
use Rattle.ioa_trees.specs.Spelling.{type_node, node, init_node, statement_node, entry_node, transition_node, basic_node, component_node, type_definition_node}
use Rattle.ioa_trees.proofs.Counts.{counted}
use Rattle.ioa_trees.proofs.CountsTerms.{type_counts, term_counts, init_counts}
use Rattle.ioa_trees.proofs.CountsStatements.{statement_counts}
use Rattle.ioa_trees.proofs.CountsAutomata.{entry_counts, transition_counts, basic_counts, component_counts, definition_counts}
use Rattle.ioa_trees.proofs.Placed.{composed_placed, all_long}
use Rattle.ioa_trees.proofs.laws.size_law.Goals as goal

pub returns-clause-types : goal.returns-clause-types
returns-clause-types c t = counted (type_node t) ∙ type_counts t

pub returns-clause-terms : goal.returns-clause-terms
returns-clause-terms c t = counted (node t) ∙ term_counts t

pub returns-clause-values : goal.returns-clause-values
returns-clause-values c v = counted (init_node v) ∙ init_counts v

pub returns-clause-statements : goal.returns-clause-statements
returns-clause-statements c a = counted (statement_node a) ∙ statement_counts a

pub returns-clause-entries : goal.returns-clause-entries
returns-clause-entries c e = counted (entry_node e) ∙ entry_counts e

pub returns-clause-transitions : goal.returns-clause-transitions
returns-clause-transitions c t = counted (transition_node t) ∙ transition_counts t

pub returns-clause-automata : goal.returns-clause-automata
returns-clause-automata c a = ap (λ n. n + 2) (counted (basic_node a)) ∙ basic_counts a

pub returns-clause-components : goal.returns-clause-components
returns-clause-components c x = counted (component_node x) ∙ component_counts x

pub returns-clause-definitions : goal.returns-clause-definitions
returns-clause-definitions c d = counted (type_definition_node d) ∙ definition_counts d

pub returns-clause-whole : goal.returns-clause-whole
returns-clause-whole c = composed_placed

pub returns-clause-all : goal.returns-clause-all
returns-clause-all c = all_long
