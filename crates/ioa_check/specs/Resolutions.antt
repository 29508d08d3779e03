-- What is resolved, in the words of the rules: no part is missing.
use Rattle.std.specs.Prelude.{Some, map, string_bytes}
use Rattle.ioa_check.specs.AutomatonViews.{place_lists}
use Rattle.ioa_entries.specs.EffectViews.{done_tree}
use Rattle.ioa_entries.specs.EntryViews.{slot_tree}
use Rattle.ioa_typing.specs.KindViews.{option_tree}
use Rattle.ioa_typing.specs.TermViews.{core_tree}
use Rattle.ioa_trees.specs.EntryRules as entry
use Rattle.ioa_trees.specs.AutomatonRules as automaton
use Rattle.ioa_trees.specs.SourceRules as source
use Rattle.ioa_check.specs.declared.resolved.Transition.{Transition}
use Rattle.ioa_check.specs.declared.resolved.Automaton.{Automaton}
use Rattle.ioa_check.specs.declared.resolved.Component.{Component}
use Rattle.ioa_check.specs.declared.resolved.Resolved.{Resolved}

abbrev pub transition_meaning : Transition → entry.Meant
transition_meaning t = record {
  kind = t.kind;
  name = string_bytes t.name;
  parameters = map (λ p. slot_tree (Some p)) t.parameters.items;
  pre = core_tree (Some t.pre);
  effect = done_tree (Some t.effect);
}

abbrev pub automaton_meaning : Automaton → automaton.MeantAutomaton
automaton_meaning a = record {
  name = string_bytes a.name;
  formals = map (λ k. option_tree (Some k)) a.formals.items;
  entries = map transition_meaning a.transitions.items;
  variables = map (λ v. option_tree (Some v.kind)) a.variables.items;
  start = map (λ v. core_tree (Some v.start)) a.variables.items;
  tasks = place_lists a.tasks.items;
}

abbrev pub component_meaning : Component → source.MeantComponent
component_meaning c = record {
  name = string_bytes c.name;
  automaton = c.automaton;
  arguments = map (λ t. core_tree (Some t)) c.arguments.items;
}

abbrev pub meaning : Resolved → source.MeantSource
meaning x = record {
  members = map string_bytes x.members.items;
  automata = map automaton_meaning x.automata.items;
  components = map component_meaning x.components.items;
  hidden = map string_bytes x.hidden.items;
}
