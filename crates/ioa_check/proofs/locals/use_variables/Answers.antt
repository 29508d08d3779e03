use Rattle.std.proofs.Common.{rules, ◌≡◌, ◌+◌, ◌||◌, [], ◌∷◌, bytes_eq, drop, map, ap, sym, ◌∙◌}
use Rattle.std.specs.List.{list_any}
use Rattle.ioa_trees.specs.Views.{view_variable}
use Rattle.ioa_check.specs.Sets.{Adds}
use Rattle.ioa_check.specs.AutomatonParts.{variable_names}
use Rattle.ioa_check.specs.AutomatonViews.{used_names}
use Rattle.ioa_typing.proofs.Items.{drop_at}
use Rattle.ioa_check.proofs.Lists.{some_added}
use Rattle.ioa_check.proofs.locals.use_variables.Goals as goal

pub loop-variable-preserved : goal.loop-variable-preserved
loop-variable-preserved c =
    let l = c.loop-variable in
    let before = used_names l.used in
    let after = used_names c.use_name.new.used in
    let x = c.variable-item.result in
    let others = drop (l.variable-index + 1) c.args.variables.now in
    let split : variable_names (map view_variable (drop l.variable-index c.args.variables.now)) ≡ (view_variable x).declared.name ∷ variable_names (map view_variable others) = ap (λ xs. variable_names (map view_variable xs)) (drop_at c.args.variables.now l.variable-index x c.variable-item.is c.loop-variable-test.true) in
    let adds : Adds after ((view_variable x).declared.name ∷ []) before = search rules in
    λ r. some_added ((view_variable x).declared.name ∷ []) r (variable_names (map view_variable others)) after before _ (adds r) (ap (λ xs. list_any (bytes_eq r) xs || list_any (bytes_eq r) before) (sym split) ∙ l.invariant r)
