use Rattle.std.proofs.Common.{◌≡◌, ◌++◌, drop, map}
use Rattle.ioa_printer.specs.Printed.{automata_toks}
use Rattle.ioa_trees.specs.Views.{view_automaton}
use Rattle.ioa_printer.proofs.source.put_each_automaton.Given as goal

abbrev pub invariant-loop-automaton : goal.invariant-loop-automaton
invariant-loop-automaton l =
    l.page ++ automata_toks (map view_automaton (drop l.automaton-index l.automata)) ≡ l.initial.page ++ automata_toks (map view_automaton l.automata)
