use Rattle.std.proofs.Common.{◌≡◌, ◌+◌, drop, map, option_map}
use Rattle.ioa_trees.specs.Views.{view_parameter}
use Rattle.ioa_trees.specs.EntryRules.{parameters_faults, times, tuples, with_parameters}
use Rattle.ioa_trees.specs.Faults.{keep}
use Rattle.ioa_trees.specs.Sizes.{listed_size, parameter_size}
use Rattle.ioa_typing.specs.KindViews.{capped}
use Rattle.ioa_typing.specs.NameViews.{names_tree}
use Rattle.ioa_typing.specs.TermViews.{least_tree}
use Rattle.ioa_entries.specs.EntryParts.{between, rest_size}
use Rattle.ioa_entries.proofs.parameters.check_parameters.Given as goal

abbrev pub invariant-loop-place : goal.invariant-loop-place
invariant-loop-place l = record {
  at : l.progress.at + rest_size l.place (map view_parameter (drop l.place l.parameters)) ≡ l.initial.progress.at + listed_size parameter_size (map view_parameter l.parameters);
  names : with_parameters (names_tree l.names) l.place (map view_parameter (drop l.place l.parameters)) ≡ with_parameters (names_tree l.initial.names) 0 (map view_parameter l.parameters);
  faults : keep (least_tree l.progress.least) (parameters_faults (names_tree l.names) l.controlled l.place (l.progress.at + between l.place) (map view_parameter (drop l.place l.parameters)))
      ≡ keep (least_tree l.initial.progress.least) (parameters_faults (names_tree l.initial.names) l.controlled 0 l.initial.progress.at (map view_parameter l.parameters));
  small : option_map capped l.tuples ≡ l.tuples;
  many : option_map capped (times l.tuples (tuples (names_tree l.names) l.place (map view_parameter (drop l.place l.parameters))))
      ≡ option_map capped (tuples (names_tree l.initial.names) 0 (map view_parameter l.parameters));
}
