use Rattle.std.proofs.Common.{rules, arith, ◌≡◌, ◌+◌, ◌∷◌, drop, map, option_map, refl, ap, sym, ◌∙◌}
use Rattle.ioa_trees.specs.Views.{view_parameter}
use Rattle.ioa_typing.specs.KindViews.{capped}
use Rattle.ioa_typing.specs.NameViews.{names_tree}
use Rattle.ioa_trees.specs.EntryRules.{parameters_faults, times, tuples, with_parameters}
use Rattle.ioa_trees.specs.Faults.{keep}
use Rattle.ioa_trees.specs.Sizes.{listed_size, parameter_size}
use Rattle.ioa_typing.specs.TermViews.{least_tree}
use Rattle.ioa_entries.specs.EntryParts.{after_parameter, between, parameter_faults, rest_size, values_of}
use Rattle.ioa_entries.proofs.ParameterParts.{add_zero, capped_again, kept_between, names_next, parameter_kept, rest_sized, tuples_kept, tuples_start}
use Rattle.ioa_typing.proofs.Items.{drop_at}
use Rattle.ioa_entries.proofs.parameters.check_parameters.Goals as goal

pub loop-place-init : goal.loop-place-init
loop-place-init c = record {
  at = refl;
  names = refl;
  faults = ap (λ k. keep (least_tree c.args.progress.now.least) (parameters_faults (names_tree c.args.names.now) c.args.controlled 0 k (map view_parameter c.args.parameters.now))) (add_zero c.args.progress.now.at);
  small = refl;
  many = tuples_start (tuples (names_tree c.args.names.now) 0 (map view_parameter c.args.parameters.now));
}

pub check_parameter-requires : goal.check_parameter-requires
check_parameter-requires c =
    let l = c.loop-place in
    let p = view_parameter c.index-parameters-place.result in
    let left = map view_parameter (drop (l.place + 1) c.args.parameters.now) in
    let split : map view_parameter (drop l.place c.args.parameters.now) ≡ p ∷ left = ap (map view_parameter) (drop_at c.args.parameters.now l.place c.index-parameters-place.result c.index-parameters-place.is c.loop-place-test.true) in
    let at : l.progress.at + rest_size l.place (p ∷ left) ≡ c.args.progress.now.at + listed_size parameter_size (map view_parameter c.args.parameters.now) = ap (λ r. l.progress.at + rest_size l.place r) (sym split) ∙ l.invariant.at in
    let sized = rest_sized l.place l.progress.at p left in
    record { room = omega (arith, at, sized, c.between.ensures, c.requires.room) }

pub overflow_add-progress : goal.overflow_add-progress
overflow_add-progress c =
    let l = c.loop-place in
    let p = view_parameter c.index-parameters-place.result in
    let left = map view_parameter (drop (l.place + 1) c.args.parameters.now) in
    let split : map view_parameter (drop l.place c.args.parameters.now) ≡ p ∷ left = ap (map view_parameter) (drop_at c.args.parameters.now l.place c.index-parameters-place.result c.index-parameters-place.is c.loop-place-test.true) in
    let at : l.progress.at + rest_size l.place (p ∷ left) ≡ c.args.progress.now.at + listed_size parameter_size (map view_parameter c.args.parameters.now) = ap (λ r. l.progress.at + rest_size l.place r) (sym split) ∙ l.invariant.at in
    let sized = rest_sized l.place l.progress.at p left in
    omega (arith, at, sized, c.between.ensures, c.requires.room)

pub loop-place-preserved : goal.loop-place-preserved
loop-place-preserved c =
    let l = c.loop-place in
    let s = names_tree l.names in
    let t = names_tree c.check_parameter.new.names in
    let place = l.progress.at + between l.place in
    let p = view_parameter c.index-parameters-place.result in
    let left = map view_parameter (drop (l.place + 1) c.args.parameters.now) in
    let split : map view_parameter (drop l.place c.args.parameters.now) ≡ p ∷ left = ap (map view_parameter) (drop_at c.args.parameters.now l.place c.index-parameters-place.result c.index-parameters-place.is c.loop-place-test.true) in
    let at : l.progress.at + rest_size l.place (p ∷ left) ≡ c.args.progress.now.at + listed_size parameter_size (map view_parameter c.args.parameters.now) = ap (λ r. l.progress.at + rest_size l.place r) (sym split) ∙ l.invariant.at in
    let sized = rest_sized l.place l.progress.at p left in
    let after : c.check_parameter.new.progress.at ≡ place + parameter_size p = search rules in
    let noted : least_tree c.check_parameter.new.progress.least ≡ keep (least_tree l.progress.least) (parameter_faults s c.args.controlled place p) = search rules in
    let scope : t ≡ after_parameter s l.place p = c.in_ok-values.ensures.names in
    let values : c.in_ok-values.values ≡ option_map capped (values_of s p) = c.in_ok-values.ensures.values in
    record {
      at = omega (arith, at, after, sized);
      names = ap (λ r. with_parameters r (l.place + 1) left) scope ∙ sym (names_next s l.place p left) ∙ ap (with_parameters s l.place) (sym split) ∙ l.invariant.names;
      faults = kept_between t c.args.controlled l.place c.check_parameter.new.progress.at left (least_tree c.check_parameter.new.progress.least)
          ∙ parameter_kept s t c.args.controlled l.place place c.check_parameter.new.progress.at p left (least_tree l.progress.least) (least_tree c.check_parameter.new.progress.least) scope noted after
          ∙ ap (λ r. keep (least_tree l.progress.least) (parameters_faults s c.args.controlled l.place place r)) (sym split) ∙ l.invariant.faults;
      small = capped_again (times l.tuples c.in_ok-values.values) c.times-tuples.result c.times-tuples.ensures;
      many = tuples_kept s t l.place p left l.tuples c.in_ok-values.values c.times-tuples.result scope values c.times-tuples.ensures ∙ ap (λ r. option_map capped (times l.tuples (tuples s l.place r))) (sym split) ∙ l.invariant.many;
    }
