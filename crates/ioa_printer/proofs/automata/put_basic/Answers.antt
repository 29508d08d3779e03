use Rattle.ioa_trees.specs.Views.{view_automaton}
use Rattle.ioa_printer.proofs.Printed.{basic_put}
use Rattle.ioa_printer.proofs.automata.put_basic.Goals as goal

pub returns : goal.returns
returns c = basic_put _ _ _ (view_automaton c.args.automaton.now) c.in_ok-put_head.ensures c.in_ok-put_behaviour.ensures
