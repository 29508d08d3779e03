use Rattle.std.proofs.Common.{◌≡◌, ℕ, ◌+◌, ◌++◌, ◌||◌, bytes_eq, List, drop, length, map}
use Rattle.std.specs.List.{list_any}
use Rattle.ioa_trees.specs.Views.{view_automaton}
use Rattle.ioa_trees.specs.Faults.{keep}
use Rattle.ioa_trees.specs.SourceRules.{all_locals, automata_faults, automata_size, meanings_of, with_automata}
use Rattle.ioa_typing.specs.NameViews.{names_tree}
use Rattle.ioa_typing.specs.TermViews.{least_tree}
use Rattle.ioa_check.specs.Meant.{automaton_tree}
use Rattle.ioa_check.specs.AutomatonViews.{used_names}
use Rattle.ioa_check.proofs.automata.check_automata.Given as goal

abbrev pub invariant-loop-automaton : goal.invariant-loop-automaton
invariant-loop-automaton l = record {
  at : l.progress.at + automata_size (map view_automaton (drop l.automaton-index l.automata)) ≡ l.initial.progress.at + automata_size (map view_automaton l.automata);
  names : with_automata (names_tree l.names) (length l.meant.items) (map view_automaton (drop l.automaton-index l.automata)) ≡ with_automata (names_tree l.initial.names) 0 (map view_automaton l.automata);
  used : (q : List ℕ) → (list_any (bytes_eq q) (all_locals (map view_automaton (drop l.automaton-index l.automata))) || list_any (bytes_eq q) (used_names l.used))
      ≡ (list_any (bytes_eq q) (all_locals (map view_automaton l.automata)) || list_any (bytes_eq q) (used_names l.initial.used));
  faults : keep (least_tree l.progress.least) (automata_faults (names_tree l.names) (used_names l.used) (length l.meant.items) l.progress.at (map view_automaton (drop l.automaton-index l.automata)))
      ≡ keep (least_tree l.initial.progress.least) (automata_faults (names_tree l.initial.names) (used_names l.initial.used) 0 l.initial.progress.at (map view_automaton l.automata));
  meant : map automaton_tree l.meant.items ++ meanings_of (names_tree l.names) (length l.meant.items) (map view_automaton (drop l.automaton-index l.automata)) ≡ meanings_of (names_tree l.initial.names) 0 (map view_automaton l.automata);
}
