use Rattle.std.proofs.Common.{rules, arith, ◌≡◌, ◌+◌, not, ap, ◌∙◌}
use Rattle.std.specs.Option.{is_some}
use Rattle.ioa_trees.specs.Views.{option_view, view_init}
use Rattle.ioa_trees.specs.Faults.{where_wrong}
use Rattle.ioa_trees.specs.Scopes.{named, is_variable}
use Rattle.ioa_trees.specs.Sizes.{at_size}
use Rattle.ioa_trees.specs.EffectRules as rule
use Rattle.ioa_trees.specs.ValueRules.{inner_faults, is_misfit}
use Rattle.ioa_typing.specs.NameViews.{names_tree}
use Rattle.ioa_typing.specs.TermViews.{least_tree}
use Rattle.ioa_entries.specs.EffectViews.{place_kind}
use Rattle.ioa_typing.proofs.Keeps.{keep_five}
use Rattle.ioa_entries.proofs.Misfits.{misfit_is}
use Rattle.ioa_entries.proofs.assignment.check_assignment.Goals as goal

pub returns-clause-faults : goal.returns-clause-faults
returns-clause-faults c =
    let s = names_tree c.args.names.now in
    let at = c.args.progress.now.at in
    let q = c.args.name.now in
    let i = option_view c.args.index.now in
    let v = view_init c.args.init.now in
    let k = rule.cell_kind (named q s) in
    let k_is : place_kind c.cell_kind-kind.result ≡ k = search rules in
    let left_is : place_kind c.left_kind.result ≡ rule.left_kind k i = c.left_kind.ensures s i (search rules) ∙ ap (λ x. rule.left_kind x i) k_is in
    let wrong : is_some c.in-Ok.put.misfit ≡ is_misfit s (rule.left_kind k i) v = misfit_is s (place_kind c.left_kind.result) (c.check_at.new.progress.at + 1) v c.in-Ok.put.misfit (search rules) ∙ ap (λ x. is_misfit s x v) left_is in
    keep_five (least_tree c.args.progress.now.least) (least_tree c.note_if.new.self.least) (least_tree c.check_at.new.progress.least) (least_tree c.check_init.new.progress.least) (least_tree c.note_left.new.progress.least) (least_tree c.note_if-2.new.self.least)
    (where_wrong (not (is_variable (named q s))) at 10)
    (rule.at_faults s (at + 1) i)
    (inner_faults s (at + at_size i + 2) v)
    (inner_faults s (c.check_at.new.progress.at + 1) v)
    (rule.left_faults s at k i)
    (where_wrong (is_misfit s (rule.left_kind k i) v) at 12)
    (search rules) (search rules) (search rules) (ap (λ n. inner_faults s n v) (search (rules, arith))) (search rules) (search rules)
