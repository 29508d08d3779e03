use Rattle.std.proofs.Common.{rules, ◌≡◌, true, false, Some, is_some, map, string_bytes}
use Rattle.std.specs.BTreeMap.{get_by_text}
use Rattle.ioa_typing.specs.KindViews.{option_tree}
use Rattle.ioa_check.specs.Resolutions.{transition_meaning}
use Rattle.compose.specs.Names.{signature_of}
use Rattle.compose.proofs.FirstTypes.{inserted, noted}
use Rattle.compose.proofs.instances.table.note.Goals as goal

pub returns-then-contains_key-clause-adds : goal.returns-then-contains_key-clause-adds
returns-then-contains_key-clause-adds c =
    let there : is_some (get_by_text c.args.names.now (string_bytes c.args.transition.now.name)) ≡ true = search rules in
    noted c.args.names.now (signature_of (map (λ k. option_tree (Some k)) c.args.formals.now) (transition_meaning c.args.transition.now)) there

pub returns-clause-adds : goal.returns-clause-adds
returns-clause-adds c =
    let free : is_some (get_by_text c.args.names.now (string_bytes c.args.transition.now.name)) ≡ false = search rules in
    let key : string_bytes c.in_ok-clone.field-0 ≡ string_bytes c.args.transition.now.name = search rules in
    inserted c.args.names.now c.insert.new.self c.in_ok-clone.field-0 c.in_ok-types.types (signature_of (map (λ k. option_tree (Some k)) c.args.formals.now) (transition_meaning c.args.transition.now)) key (search rules) free c.in_ok-insert.ensures.updates
