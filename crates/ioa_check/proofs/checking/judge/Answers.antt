use Rattle.std.proofs.Common.{rules, refl, None}
use Rattle.ioa_check.specs.Meant.{automaton_tree}
use Rattle.ioa_check.specs.AutomatonViews.{used_names}
use Rattle.ioa_typing.specs.NameViews.{names_tree}
use Rattle.ioa_trees.specs.Views.{view_source}
use Rattle.ioa_typing.specs.TermViews.{least_tree}
use Rattle.std.proofs.Common.{map}
use Rattle.ioa_check.proofs.Whole.{all_kept}
use Rattle.ioa_check.proofs.checking.judge.Goals as goal

pub returns-clause-least : goal.returns-clause-least
returns-clause-least c = all_kept (view_source c.args.tree.now) (record {
  s = names_tree c.new-names.result;
  t = names_tree c.check_definitions.new.names;
  u = names_tree c.check_automata.new.names;
  begin = 0;
  middle = c.check_definitions.new.progress.at;
  last = c.check_automata.new.progress.at;
  used = used_names c.new-used.result;
  grown = used_names c.check_automata.new.used;
  table = map automaton_tree c.in_ok-automata.automata.items;
  o = None;
  p = least_tree c.check_definitions.new.progress.least;
  q = least_tree c.check_automata.new.progress.least;
  r = least_tree c.check_composed.new.progress.least;
  at_start = refl;
  nothing = refl;
  no_names = c.new-names.ensures;
  none_used = c.new-used.ensures;
  at_automata = search rules;
  at_composed = search rules;
  with_types = search rules;
  with_others = search rules;
  uses = search rules;
  meant = search rules;
  types_kept = search rules;
  automata_kept = search rules;
  composed_kept = search rules;
})
