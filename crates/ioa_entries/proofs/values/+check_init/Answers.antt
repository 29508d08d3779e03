use Rattle.std.proofs.Common.{rules, ◌≡◌, ◌+◌}
use Rattle.ioa_trees.specs.declared.tree.Init.{the_lemmas}
use Rattle.ioa_trees.specs.Trees.{Empty, Fill}
use Rattle.ioa_trees.specs.Views.{view_init}
use Rattle.ioa_typing.specs.NameViews.{names_tree}
use Rattle.ioa_trees.specs.ValueRules.{misfits}
use Rattle.ioa_trees.specs.EffectRules.{item_of}
use Rattle.ioa_entries.specs.EffectViews.{place_kind, misfit_faults}
use Rattle.ioa_entries.proofs.values.+check_init.Goals as goal

pub returns-in-Empty-clause-misfit : goal.returns-in-Empty-clause-misfit
returns-in-Empty-clause-misfit t c =
    let is : view_init c.args.init.now ≡ Empty = search (rules, the_lemmas) in
    rw is (search (rules, the_lemmas))

pub returns-in_ok-put-in-Fill-clause-misfit : goal.returns-in_ok-put-in-Fill-clause-misfit
returns-in_ok-put-in-Fill-clause-misfit t c =
    let v = view_init c.in-Fill.item.value in
    let s = names_tree c.args.names.now in
    let is : view_init c.args.init.now ≡ Fill v = search (rules, the_lemmas) in
    let inner : misfit_faults c.in_ok-item-in-Fill.item.misfit ≡ misfits s (item_of (place_kind c.args.kind)) (c.args.progress.now.at + 2) v = search (rules, the_lemmas) in
    rw is (c.in_ok-put-in-Fill.ensures.misfit s v inner)
