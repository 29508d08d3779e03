-- What components mean, without where it lies in memory.
use Rattle.std.specs.Prelude.{map, string_bytes}
use Rattle.ioa_trees.specs.SourceRules as rule
use Rattle.ioa_typing.specs.TermViews.{core_tree}
use Rattle.ioa_check.specs.declared.component.MeantComponent.{MeantComponent}

abbrev pub component_tree : MeantComponent → rule.MeantComponent
component_tree c = record { name = string_bytes c.name; automaton = c.automaton; arguments = map core_tree c.arguments.items }
