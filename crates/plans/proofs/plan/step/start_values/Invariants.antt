use Rattle.std.proofs.Common.{◌≡◌, map, take}
use Rattle.terms.specs.TermTree.{term_tree}
use Rattle.io_automata.specs.Steps.{start_value}
use Rattle.plans.proofs.plan.step.start_values.Given as goal

abbrev pub invariant-loop-term : goal.invariant-loop-term
invariant-loop-term l = l.values.items ≡ map (start_value l.formals) (map term_tree (take l.term-index l.terms))
