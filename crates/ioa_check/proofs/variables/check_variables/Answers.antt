use Rattle.std.proofs.Common.{rules, arith, ◌≡◌, ℕ, ◌+◌, ◌||◌, ◌∷◌, ◌++◌, [], bytes_eq, List, drop, map, refl, ap, sym, ◌∙◌}
use Rattle.std.proofs.lemmas.List.{drop_all}
use Rattle.std.specs.List.{list_any}
use Rattle.ioa_trees.specs.Views.{view_variable}
use Rattle.ioa_trees.specs.AutomatonRules.{variable_faults, variables_faults, weight_of}
use Rattle.ioa_trees.specs.Faults.{keep}
use Rattle.ioa_trees.specs.Sizes.{listed_size, variable_size}
use Rattle.ioa_typing.specs.KindViews.{capped}
use Rattle.ioa_typing.specs.NameViews.{names_tree}
use Rattle.ioa_typing.specs.TermViews.{least_tree}
use Rattle.ioa_check.specs.AutomatonParts.{kind_in, start_in, variable_names}
use Rattle.ioa_entries.specs.Between.{between}
use Rattle.ioa_check.specs.ListParts.{left_size}
use Rattle.ioa_check.specs.AutomatonViews.{cell_kind, cell_start, used_names}
use Rattle.ioa_check.proofs.Cells.{joined_is, variable_kept, variables_same}
use Rattle.ioa_check.proofs.Rows.{left_sized}
use Rattle.ioa_typing.proofs.Items.{drop_at, push_step}
use Rattle.ioa_check.proofs.Lists.{one_added}
use Rattle.ioa_check.proofs.variables.check_variables.Goals as goal

pub loop-variable-preserved : goal.loop-variable-preserved
loop-variable-preserved c =
    let l = c.loop-variable in
    let s = names_tree c.args.names.now in
    let before = used_names l.used in
    let after = used_names c.check_variable.new.used in
    let progress = c.check_variable.new.progress in
    let x = c.variable-item.result in
    let v = view_variable x in
    let others = drop (l.variable-index + 1) c.args.variables.now in
    let left = map view_variable others in
    let place = l.progress.at + between l.is_first in
    let split : map view_variable (drop l.variable-index c.args.variables.now) ≡ v ∷ left = ap (map view_variable) (drop_at c.args.variables.now l.variable-index x c.variable-item.is c.loop-variable-test.true) in
    let at : l.progress.at + left_size l.is_first variable_size (v ∷ left) ≡ c.args.progress.now.at + listed_size variable_size (map view_variable c.args.variables.now) = ap (λ r. l.progress.at + left_size l.is_first variable_size r) (sym split) ∙ l.invariant.at in
    let next : progress.at ≡ place + variable_size v = search rules in
    let noted : least_tree progress.least ≡ keep (least_tree l.progress.least) (variable_faults s before l.total place v) = search rules in
    let names : (r : List ℕ) → list_any (bytes_eq r) after ≡ (bytes_eq r v.declared.name || list_any (bytes_eq r) before) = c.in_ok-cell.ensures.names in
    let kind : cell_kind c.in_ok-cell.cell ≡ kind_in s v = c.in_ok-cell.ensures.kind in
    let weight : c.weight_of.result ≡ capped (weight_of (kind_in s v)) = c.weight_of.ensures ∙ ap (λ k. capped (weight_of k)) kind in
    let total : capped c.joined_weight-total.result ≡ capped (l.total + weight_of (kind_in s v)) = joined_is l.total (weight_of (kind_in s v)) c.weight_of.result c.joined_weight-total.result c.joined_weight-total.ensures weight in
    record {
      at = omega (arith, at, next, left_sized variable_size l.is_first v left);
      names = λ r. one_added v.declared.name r (variable_names left) after before _ (names r) (ap (λ xs. list_any (bytes_eq r) (variable_names xs) || list_any (bytes_eq r) before) (sym split) ∙ l.invariant.names r);
      faults = variable_kept s before after l.total c.joined_weight-total.result place progress.at v left (least_tree l.progress.least) (least_tree progress.least) noted names total next
          ∙ ap (λ r. keep (least_tree l.progress.least) (variables_faults s before l.total place r)) (sym split) ∙ l.invariant.faults;
      kinds = push_step cell_kind l.cells.items c.push.new.self.items c.in_ok-cell.cell (kind_in s v) (map (kind_in s) left) _ c.in_ok-push.ensures.items kind (ap (λ r. map cell_kind l.cells.items ++ map (kind_in s) r) (sym split) ∙ l.invariant.kinds);
      starts = push_step cell_start l.cells.items c.push.new.self.items c.in_ok-cell.cell (start_in s v) (map (start_in s) left) _ c.in_ok-push.ensures.items c.in_ok-cell.ensures.start (ap (λ r. map cell_start l.cells.items ++ map (start_in s) r) (sym split) ∙ l.invariant.starts);
    }

pub returns-clause-names : goal.returns-clause-names
returns-clause-names c =
    let l = c.loop-variable in
    let none : drop l.variable-index c.args.variables.now ≡ [] = drop_all l.variable-index c.args.variables.now c.loop-variable-test.false in
    λ q. ap (λ xs. list_any (bytes_eq q) (variable_names (map view_variable xs)) || list_any (bytes_eq q) (used_names l.used)) (sym none) ∙ l.invariant.names q

pub returns-clause-faults : goal.returns-clause-faults
returns-clause-faults c =
    let l = c.loop-variable in
    let s = names_tree c.args.names.now in
    let vs = map view_variable c.args.variables.now in
    let none : drop l.variable-index c.args.variables.now ≡ [] = drop_all l.variable-index c.args.variables.now c.loop-variable-test.false in
    let kept : least_tree l.progress.least ≡ keep (least_tree c.args.progress.now.least) (variables_faults s (used_names c.args.used.now) 0 c.args.progress.now.at vs)
    = ap (λ xs. keep (least_tree l.progress.least) (variables_faults s (used_names l.used) l.total (l.progress.at + between l.is_first) (map view_variable xs))) (sym none) ∙ l.invariant.faults in
    λ L same. kept ∙ ap (keep (least_tree c.args.progress.now.least)) (variables_same s (used_names c.args.used.now) L 0 0 c.args.progress.now.at vs refl same)
