use Rattle.std.proofs.Common.{rules, ◌≡◌, ◌+◌, ◌||◌, [], ◌∷◌, bytes_eq, drop, map, ap, sym, ◌∙◌}
use Rattle.std.specs.List.{list_any}
use Rattle.ioa_trees.specs.Views.{view_declared}
use Rattle.ioa_check.specs.Sets.{Adds}
use Rattle.ioa_check.specs.AutomatonParts.{formal_names}
use Rattle.ioa_check.specs.AutomatonViews.{used_names}
use Rattle.ioa_typing.proofs.Items.{drop_at}
use Rattle.ioa_check.proofs.Lists.{some_added}
use Rattle.ioa_check.proofs.locals.use_formals.Goals as goal

pub loop-declared-preserved : goal.loop-declared-preserved
loop-declared-preserved c =
    let l = c.loop-declared in
    let before = used_names l.used in
    let after = used_names c.use_name.new.used in
    let x = c.declared-item.result in
    let others = drop (l.declared-index + 1) c.args.formals.now in
    let split : formal_names (map view_declared (drop l.declared-index c.args.formals.now)) ≡ (view_declared x).name ∷ formal_names (map view_declared others) = ap (λ xs. formal_names (map view_declared xs)) (drop_at c.args.formals.now l.declared-index x c.declared-item.is c.loop-declared-test.true) in
    let adds : Adds after ((view_declared x).name ∷ []) before = search rules in
    λ r. some_added ((view_declared x).name ∷ []) r (formal_names (map view_declared others)) after before _ (adds r) (ap (λ xs. list_any (bytes_eq r) xs || list_any (bytes_eq r) before) (sym split) ∙ l.invariant r)
