use Rattle.std.proofs.Common.{rules, ◌≡◌, ◌+◌, ◌||◌, [], ◌∷◌, ◌++◌, bytes_eq, drop, map, ap, sym, ◌∙◌}
use Rattle.std.specs.List.{list_any}
use Rattle.ioa_trees.specs.Views.{view_parameter}
use Rattle.ioa_trees.specs.AutomatonRules.{typed_names}
use Rattle.ioa_check.specs.Sets.{Adds}
use Rattle.ioa_check.specs.AutomatonViews.{used_names}
use Rattle.ioa_typing.proofs.Items.{drop_at}
use Rattle.ioa_check.proofs.Lists.{some_added, typed_next}
use Rattle.ioa_check.proofs.locals.use_typed.Goals as goal

pub loop-parameter-preserved : goal.loop-parameter-preserved
loop-parameter-preserved c =
    let l = c.loop-parameter in
    let before = used_names l.used in
    let after = used_names c.use_parameter.new.used in
    let x = c.parameter-item.result in
    let others = drop (l.parameter-index + 1) c.args.parameters.now in
    let split : typed_names (map view_parameter (drop l.parameter-index c.args.parameters.now)) ≡ typed_names (view_parameter x ∷ []) ++ typed_names (map view_parameter others) = ap (λ xs. typed_names (map view_parameter xs)) (drop_at c.args.parameters.now l.parameter-index x c.parameter-item.is c.loop-parameter-test.true) ∙ typed_next (view_parameter x) (map view_parameter others) in
    let adds : Adds after (typed_names (view_parameter x ∷ [])) before = search rules in
    λ r. some_added (typed_names (view_parameter x ∷ [])) r (typed_names (map view_parameter others)) after before _ (adds r) (ap (λ xs. list_any (bytes_eq r) xs || list_any (bytes_eq r) before) (sym split) ∙ l.invariant r)
