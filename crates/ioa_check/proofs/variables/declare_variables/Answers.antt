use Rattle.std.proofs.Common.{◌≡◌, ◌+◌, ◌∷◌, None, drop, get_or, map, ap, sym, ◌∙◌}
use Rattle.ioa_trees.specs.Views.{view_variable}
use Rattle.ioa_trees.specs.AutomatonRules.{with_variables}
use Rattle.ioa_typing.specs.KindViews.{option_tree}
use Rattle.ioa_typing.specs.NameViews.{names_tree}
use Rattle.ioa_check.specs.AutomatonParts.{kind_in}
use Rattle.ioa_check.proofs.Cells.{declared_next, mapped_at}
use Rattle.ioa_typing.proofs.Items.{drop_at}
use Rattle.ioa_check.proofs.variables.declare_variables.Goals as goal

pub loop-place-preserved : goal.loop-place-preserved
loop-place-preserved c =
    let l = c.loop-place in
    let vs = c.args.variables.now in
    let x = c.index-variables-place.result in
    let v = view_variable x in
    let left = map view_variable (drop (l.place + 1) vs) in
    let split : map view_variable (drop l.place vs) ≡ v ∷ left = ap (map view_variable) (drop_at vs l.place x c.index-variables-place.is c.loop-place-test.true) in
    λ s same.
    let kind : option_tree c.in_ok-kind.kind ≡ kind_in s v = c.in_ok-kind.ensures ∙ ap (λ ks. get_or ks l.place None) same ∙ mapped_at (kind_in s) view_variable vs l.place x None c.index-variables-place.is c.loop-place-test.true in
    declared_next s (names_tree l.names) (names_tree c.declare.new.self) l.place (option_tree c.in_ok-kind.kind) v left c.in_ok-declare.ensures.names kind
    ∙ ap (with_variables s (names_tree l.names) l.place) (sym split) ∙ l.invariant s same
