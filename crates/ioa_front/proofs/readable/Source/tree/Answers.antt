use Rattle.std.proofs.Common.{true, ◌<◌, length, subst}
use Rattle.ioa_trees.specs.Views.{view_source}
use Rattle.ioa_phrases.proofs.Once.{some_automaton}
use Rattle.ioa_front.proofs.readable.Source.tree.Goals as goal

-- by what its type says of the tree
pub returns-clause-some : goal.returns-clause-some
returns-clause-some c = subst (λ t. 0 < length (view_source t).automata) c.self.view_is (some_automaton true (view_source c.self.inside.tree) c.self.invariant.0.0)
