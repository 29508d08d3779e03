use Rattle.std.proofs.Common.{rules, ◌≡◌, length, map, sym, subst}
use Rattle.ioa_check.specs.Refusals.{IsMeant}
use Rattle.ioa_check.specs.Resolutions.{meaning}
use Rattle.io_automata.specs.Automata.{composed}
use Rattle.io_automata.specs.Compatible.{IsCompatible}
use Rattle.plans.specs.Plans.{text_of}
use Rattle.io_automata.specs.WellFormed.{IsWellFormed}
use Rattle.compose.specs.Faults.{IsRefused}
use Rattle.compose.proofs.Composed.{sound_of, members_of, refused, faultless, compatible, formed}
use Rattle.compose.proofs.composing.compose.Goals as goal

pub new-requires-clause-compatible : goal.new-requires-clause-compatible
new-requires-clause-compatible c =
    let parts = c.in_ok-parts.parts in
    let automata = c.as_slice-automata.result.now in
    let components = c.as_slice-components.result.now in
    let same_automata : automata ≡ parts.automata.items = search rules in
    let same_components : components ≡ parts.components.items = search rules in
    let found = compatible (composed automata components) c.first_unknown-unknown.result c.in_ok-own.own c.in_ok-internal.internal c.in_ok-output.output c.in_ok-types.types (length components) c.in_ok-hidden.hidden
    c.in_ok-own.ensures c.in_ok-internal.ensures c.in_ok-output.ensures (search rules) c.compatible_law.ensures.compatible in
    subst (λ xs. IsCompatible (composed xs parts.components.items)) same_automata (subst (λ ys. IsCompatible (composed automata ys)) same_components found)

pub new-requires-clause-formed : goal.new-requires-clause-formed
new-requires-clause-formed c =
    let r = c.into_resolved-resolved.result in
    let parts = c.in_ok-parts.parts in
    let automata = c.as_slice-automata.result.now in
    let components = c.as_slice-components.result.now in
    let same_automata : automata ≡ parts.automata.items = search rules in
    let same_components : components ≡ parts.components.items = search rules in
    let is : IsMeant (meaning r) = subst (λ x. IsMeant (meaning x)) (sym c.into_resolved-resolved.ensures.same) c.into_resolved-resolved.ensures.meant in
    let found = formed (composed automata components) c.first_unknown-unknown.result c.in_ok-own.own c.in_ok-internal.internal c.in_ok-output.output c.in_ok-types.types (length components) c.in_ok-hidden.hidden
    c.in_ok-own.ensures c.in_ok-internal.ensures c.in_ok-output.ensures (search rules) (meaning r) (map text_of parts.actions.items) (search rules) (search rules)
    c.formed_law.ensures (sound_of (meaning r) is c.sources_law.ensures.sound) (members_of (meaning r) is c.sizes_law.ensures.members) in
    subst (λ xs. IsWellFormed (composed xs parts.components.items)) same_automata (subst (λ ys. IsWellFormed (composed automata ys)) same_components found)

pub returns-in-Some-clause-refused : goal.returns-in-Some-clause-refused
returns-in-Some-clause-refused c =
    let r = c.into_resolved-resolved.result in
    let parts = c.in_ok-parts.parts in
    let automata = c.as_slice-automata.result.now in
    let components = c.as_slice-components.result.now in
    let found = refused r (map text_of parts.actions.items) automata components (search rules) (search rules)
    c.first_unknown-unknown.result c.in_ok-own.own c.in_ok-internal.internal c.in_ok-output.output c.in_ok-types.types c.in_ok-hidden.hidden in
    subst (λ x. IsRefused (meaning x) c.in-Some.error) c.into_resolved-resolved.ensures.same (found (search rules) (search rules) c.in_ok-own.ensures c.in_ok-internal.ensures c.in_ok-output.ensures (search rules) (search rules) c.in-Some.error (search rules))

pub returns-in_ok-plan-in-None-clause-faultless : goal.returns-in_ok-plan-in-None-clause-faultless
returns-in_ok-plan-in-None-clause-faultless c =
    let r = c.into_resolved-resolved.result in
    let parts = c.in_ok-parts.parts in
    let automata = c.as_slice-automata.result.now in
    let components = c.as_slice-components.result.now in
    let found = faultless r (map text_of parts.actions.items) automata components (search rules) (search rules)
    c.first_unknown-unknown.result c.in_ok-own.own c.in_ok-internal.internal c.in_ok-output.output c.in_ok-types.types c.in_ok-hidden.hidden in
    let none = found (search rules) (search rules) c.in_ok-own.ensures c.in_ok-internal.ensures c.in_ok-output.ensures (search rules) (search rules) (search rules) in search rules
