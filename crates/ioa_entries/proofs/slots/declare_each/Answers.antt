use Rattle.std.proofs.Common.{rules, arith, ◌≡◌, ◌+◌, ◌∷◌, ◌++◌, drop, map, ap, sym, ◌∙◌}
use Rattle.ioa_trees.specs.Views.{view_parameter}
use Rattle.ioa_typing.specs.NameViews.{names_tree}
use Rattle.ioa_trees.specs.EntryRules.{slots, with_parameters}
use Rattle.ioa_trees.specs.Sizes.{listed_size, parameter_size}
use Rattle.ioa_entries.specs.EntryParts.{after_parameter, between, rest_size, slot_of}
use Rattle.ioa_entries.specs.EntryViews.{slot_tree}
use Rattle.ioa_entries.proofs.ParameterParts.{names_next, rest_sized, slots_next}
use Rattle.ioa_typing.proofs.Items.{drop_at, push_step}
use Rattle.ioa_entries.proofs.slots.declare_each.Goals as goal

pub declare_parameter-requires : goal.declare_parameter-requires
declare_parameter-requires c =
    let l = c.loop-place in
    let p = view_parameter c.index-parameters-place.result in
    let left = map view_parameter (drop (l.place + 1) c.args.parameters.now) in
    let split : map view_parameter (drop l.place c.args.parameters.now) ≡ p ∷ left = ap (map view_parameter) (drop_at c.args.parameters.now l.place c.index-parameters-place.result c.index-parameters-place.is c.loop-place-test.true) in
    let at : l.progress.at + rest_size l.place (p ∷ left) ≡ c.args.progress.now.at + listed_size parameter_size (map view_parameter c.args.parameters.now) = ap (λ r. l.progress.at + rest_size l.place r) (sym split) ∙ l.invariant.at in
    let sized = rest_sized l.place l.progress.at p left in
    record { room = omega (arith, at, sized, c.between.ensures, c.requires.room) }

pub overflow_add-progress : goal.overflow_add-progress
overflow_add-progress c =
    let l = c.loop-place in
    let p = view_parameter c.index-parameters-place.result in
    let left = map view_parameter (drop (l.place + 1) c.args.parameters.now) in
    let split : map view_parameter (drop l.place c.args.parameters.now) ≡ p ∷ left = ap (map view_parameter) (drop_at c.args.parameters.now l.place c.index-parameters-place.result c.index-parameters-place.is c.loop-place-test.true) in
    let at : l.progress.at + rest_size l.place (p ∷ left) ≡ c.args.progress.now.at + listed_size parameter_size (map view_parameter c.args.parameters.now) = ap (λ r. l.progress.at + rest_size l.place r) (sym split) ∙ l.invariant.at in
    let sized = rest_sized l.place l.progress.at p left in
    omega (arith, at, sized, c.between.ensures, c.requires.room)

pub loop-place-preserved : goal.loop-place-preserved
loop-place-preserved c =
    let l = c.loop-place in
    let s = names_tree l.names in
    let t = names_tree c.declare_parameter.new.names in
    let p = view_parameter c.index-parameters-place.result in
    let left = map view_parameter (drop (l.place + 1) c.args.parameters.now) in
    let split : map view_parameter (drop l.place c.args.parameters.now) ≡ p ∷ left = ap (map view_parameter) (drop_at c.args.parameters.now l.place c.index-parameters-place.result c.index-parameters-place.is c.loop-place-test.true) in
    let at : l.progress.at + rest_size l.place (p ∷ left) ≡ c.args.progress.now.at + listed_size parameter_size (map view_parameter c.args.parameters.now) = ap (λ r. l.progress.at + rest_size l.place r) (sym split) ∙ l.invariant.at in
    let sized = rest_sized l.place l.progress.at p left in
    let after : c.declare_parameter.new.progress.at ≡ l.progress.at + between l.place + parameter_size p = search rules in
    let scope : t ≡ after_parameter s l.place p = c.in_ok-slot.ensures.names in
    let slot : slot_tree c.in_ok-slot.slot ≡ slot_of s p = c.in_ok-slot.ensures.slot in
    let before : map slot_tree l.slots.items ++ slot_of s p ∷ slots t (l.place + 1) left ≡ slots (names_tree c.args.names.now) 0 (map view_parameter c.args.parameters.now)
    = ap (λ r. map slot_tree l.slots.items ++ slot_of s p ∷ slots r (l.place + 1) left) scope
    ∙ ap (λ r. map slot_tree l.slots.items ++ r) (sym (slots_next s l.place p left))
    ∙ ap (λ r. map slot_tree l.slots.items ++ slots s l.place r) (sym split)
    ∙ l.invariant.taken in
    record {
      at = omega (arith, at, after, sized);
      names = ap (λ r. with_parameters r (l.place + 1) left) scope ∙ sym (names_next s l.place p left) ∙ ap (with_parameters s l.place) (sym split) ∙ l.invariant.names;
      taken = push_step slot_tree l.slots.items _ c.in_ok-slot.slot (slot_of s p) (slots t (l.place + 1) left) _ c.in_ok-push.ensures.items slot before;
    }
