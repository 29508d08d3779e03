use Rattle.std.proofs.Common.{rules, arith, ◌≡◌, ◌+◌, ◌∷◌, ◌++◌, drop, length, map, nat_lt, ap, sym, ◌∙◌}
use Rattle.std.proofs.lemmas.List.{drop_all, length-map}
use Rattle.ioa_trees.specs.Views.{view}
use Rattle.ioa_trees.specs.Faults.{keep}
use Rattle.ioa_trees.specs.Sizes.{listed_size, size}
use Rattle.ioa_trees.specs.SourceRules.{placed_argument, placed_arguments}
use Rattle.ioa_typing.specs.KindViews.{option_tree}
use Rattle.ioa_typing.specs.NameViews.{names_tree}
use Rattle.ioa_typing.specs.TermViews.{core_tree, least_tree}
use Rattle.ioa_check.specs.ComponentParts.{argument_faults, first_kind, fitted_faults, is_there, other_kinds, where_wanted}
use Rattle.ioa_entries.specs.EffectViews.{place_kind}
use Rattle.ioa_entries.specs.Between.{between}
use Rattle.ioa_check.specs.ListParts.{left_size}
use Rattle.ioa_check.proofs.Fitting.{argument_kept, first_at, others_at, there_at, value_kept, values_end}
use Rattle.ioa_check.proofs.Rows.{left_sized}
use Rattle.ioa_typing.proofs.Items.{drop_at}
use Rattle.ioa_check.proofs.arguments.check_arguments.Goals as goal

pub loop-number-preserved : goal.loop-number-preserved
loop-number-preserved c =
    let l = c.loop-number in
    let s = names_tree c.args.names.now in
    let formals = map option_tree c.args.formals.now in
    let ks = drop l.number formals in
    let later = drop (l.number + 1) formals in
    let progress = c.check_argument.new.progress in
    let t = view c.index-arguments-number.result in
    let left = map view (drop (l.number + 1) c.args.arguments.now) in
    let place = l.progress.at + between l.is_first in
    let split : map view (drop l.number c.args.arguments.now) ≡ t ∷ left = ap (map view) (drop_at c.args.arguments.now l.number c.index-arguments-number.result c.index-arguments-number.is c.loop-number-test.true) in
    let at : l.progress.at + left_size l.is_first size (t ∷ left) ≡ c.args.progress.now.at + listed_size size (map view c.args.arguments.now) = ap (λ r. l.progress.at + left_size l.is_first size r) (sym split) ∙ l.invariant.at in
    let next : progress.at ≡ place + size t = search rules in
    let k = place_kind c.place_of-kind.result in
    let kind : k ≡ first_kind ks = c.place_of-kind.ensures ∙ sym (first_at formals l.number) in
    let others : later ≡ other_kinds ks = others_at formals l.number in
    let noted : least_tree progress.least ≡ keep (least_tree l.progress.least) (argument_faults s k place t) = search rules in
    let value : core_tree c.in_ok-value.value ≡ placed_argument s (first_kind ks) t = c.in_ok-value.ensures.value ∙ ap (λ j. placed_argument s j t) kind in
    let wanted = nat_lt l.number (length c.args.formals.now) in
    let there : wanted ≡ is_there ks = ap (nat_lt l.number) (sym (length-map c.args.formals.now option_tree)) ∙ there_at formals l.number in
    let put : c.keep_value.new.values.items ≡ l.values.items ++ where_wanted wanted c.in_ok-value.value = search rules in
    record {
      at = omega (arith, at, next, left_sized size l.is_first t left);
      faults = argument_kept s ks later k place progress.at t left (least_tree l.progress.least) (least_tree progress.least) noted kind others next
          ∙ ap (λ r. keep (least_tree l.progress.least) (fitted_faults s ks place r)) (sym split) ∙ l.invariant.faults;
      values = value_kept s ks later wanted t left c.in_ok-value.value l.values.items c.keep_value.new.values.items _ others there value put
          (ap (λ r. map core_tree l.values.items ++ placed_arguments s ks r) (sym split) ∙ l.invariant.values);
    }

pub returns-clause-values : goal.returns-clause-values
returns-clause-values c =
    let l = c.loop-number in
    let formals = map option_tree c.args.formals.now in
    values_end (names_tree c.args.names.now) (drop l.number formals) (map view (drop l.number c.args.arguments.now)) (map core_tree l.values.items) _
    (ap (map view) (drop_all l.number c.args.arguments.now c.loop-number-test.false)) l.invariant.values
