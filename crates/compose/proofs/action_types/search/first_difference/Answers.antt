use Rattle.std.proofs.Common.{List, ap, ap₂, map, ◌∙◌}
use Rattle.ioa_check.specs.Resolutions.{automaton_meaning, component_meaning, meaning}
use Rattle.ioa_check.specs.declared.resolved.Automaton.{Automaton}
use Rattle.ioa_check.specs.declared.resolved.Component.{Component}
use Rattle.compose.specs.Types.{IsFirst, TypesDiffer}
use Rattle.compose.specs.TypedStandings.{stands, stood}
use Rattle.compose.proofs.Steps.{outcome}
use Rattle.compose.proofs.action_types.search.first_difference.Goals as goal

pub returns : goal.returns
returns c =
    let m = meaning c.args.resolved.now in
    outcome c.first_different.result (IsFirst (TypesDiffer m)) (map stood c.as_slice-3.result.now) (stands m.automata 0 m.components)
    (ap (map stood) c.as_slice-3.ensures.value ∙ c.in_ok-standings.ensures ∙ ap₂ (λ (as' : List Automaton) (cs : List Component). stands (map automaton_meaning as') 0 (map component_meaning cs)) c.as_slice.ensures.value c.as_slice-2.ensures.value)
    (c.first_law.ensures m) c.first_different.ensures
