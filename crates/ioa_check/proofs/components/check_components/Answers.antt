use Rattle.std.proofs.Common.{rules, arith, ◌≡◌, ℕ, ◌+◌, ◌||◌, ◌∷◌, ◌++◌, bytes_eq, List, drop, map, ap, sym, ◌∙◌}
use Rattle.std.specs.List.{list_any}
use Rattle.ioa_trees.specs.Views.{view_component}
use Rattle.ioa_trees.specs.Faults.{keep}
use Rattle.ioa_trees.specs.Sizes.{component_size, listed_size}
use Rattle.ioa_trees.specs.SourceRules.{component_faults, component_of, components_faults, components_of}
use Rattle.ioa_typing.specs.NameViews.{names_tree}
use Rattle.ioa_typing.specs.TermViews.{least_tree}
use Rattle.ioa_check.specs.Meant.{automaton_tree}
use Rattle.ioa_check.specs.AutomatonViews.{used_names}
use Rattle.ioa_entries.specs.Between.{between}
use Rattle.ioa_check.specs.ListParts.{left_size}
use Rattle.ioa_check.specs.ComponentViews.{component_tree}
use Rattle.ioa_check.proofs.Naming.{component_kept}
use Rattle.ioa_check.proofs.Rows.{left_sized}
use Rattle.ioa_typing.proofs.Items.{drop_at, push_step}
use Rattle.ioa_check.proofs.components.check_components.Goals as goal

pub loop-component-preserved : goal.loop-component-preserved
loop-component-preserved c =
    let l = c.loop-component in
    let s = names_tree c.args.names.now in
    let table = map automaton_tree c.args.table.now in
    let before = used_names l.used in
    let after = used_names c.check_component.new.used in
    let progress = c.check_component.new.progress in
    let x = view_component c.component-item.result in
    let left = map view_component (drop (l.component-index + 1) c.args.components.now) in
    let place = l.progress.at + between l.is_first in
    let split : map view_component (drop l.component-index c.args.components.now) ≡ x ∷ left = ap (map view_component) (drop_at c.args.components.now l.component-index c.component-item.result c.component-item.is c.loop-component-test.true) in
    let at : l.progress.at + left_size l.is_first component_size (x ∷ left) ≡ c.args.progress.now.at + listed_size component_size (map view_component c.args.components.now) = ap (λ r. l.progress.at + left_size l.is_first component_size r) (sym split) ∙ l.invariant.at in
    let next : progress.at ≡ place + component_size x = search rules in
    let noted : least_tree progress.least ≡ keep (least_tree l.progress.least) (component_faults s table before place x) = search rules in
    let names : (q : List ℕ) → list_any (bytes_eq q) after ≡ (bytes_eq q x.name || list_any (bytes_eq q) before) = c.in_ok-one.ensures.names in
    record {
      at = omega (arith, at, next, left_sized component_size l.is_first x left);
      faults = component_kept s table before after place progress.at x left (least_tree l.progress.least) (least_tree progress.least) noted names next
          ∙ ap (λ r. keep (least_tree l.progress.least) (components_faults s table before place r)) (sym split) ∙ l.invariant.faults;
      meant = push_step component_tree l.meant.items c.push.new.self.items c.in_ok-one.one (component_of s table x) (components_of s table left) _ c.in_ok-push.ensures.items c.in_ok-one.ensures.meant
          (ap (λ r. map component_tree l.meant.items ++ components_of s table r) (sym split) ∙ l.invariant.meant);
    }
