use Rattle.std.proofs.Common.{rules, arith, ◌≡◌, ◌+◌, ◌∷◌, ◌++◌, drop, length, map, ap, sym, ◌∙◌}
use Rattle.ioa_trees.specs.Views.{view_declared}
use Rattle.ioa_trees.specs.AutomatonRules.{formal_kinds, formals_faults, with_formals}
use Rattle.ioa_trees.specs.Faults.{keep}
use Rattle.ioa_trees.specs.Sizes.{declared_size, listed_size}
use Rattle.ioa_trees.specs.TypeRules.{kind_of}
use Rattle.ioa_typing.specs.KindViews.{option_tree}
use Rattle.ioa_typing.specs.NameViews.{names_tree}
use Rattle.ioa_typing.specs.TermViews.{least_tree}
use Rattle.ioa_check.specs.AutomatonParts.{formal_faults, with_formal}
use Rattle.ioa_entries.specs.Between.{between}
use Rattle.ioa_check.specs.ListParts.{left_size}
use Rattle.ioa_check.proofs.Declaring.{formals_kept, formals_named, kinds_left, one_longer}
use Rattle.ioa_check.proofs.Rows.{left_sized}
use Rattle.ioa_typing.proofs.Items.{drop_at, push_step}
use Rattle.ioa_check.proofs.formals.check_formals.Goals as goal

pub loop-declared-preserved : goal.loop-declared-preserved
loop-declared-preserved c =
    let l = c.loop-declared in
    let s = names_tree l.names in
    let t = names_tree c.check_formal.new.names in
    let n = length l.kinds.items in
    let m = length c.push.new.self.items in
    let d = view_declared c.declared-item.result in
    let left = map view_declared (drop (l.declared-index + 1) c.args.formals.now) in
    let place = l.progress.at + between l.is_first in
    let split : map view_declared (drop l.declared-index c.args.formals.now) ≡ d ∷ left = ap (map view_declared) (drop_at c.args.formals.now l.declared-index c.declared-item.result c.declared-item.is c.loop-declared-test.true) in
    let at : l.progress.at + left_size l.is_first declared_size (d ∷ left) ≡ c.args.progress.now.at + listed_size declared_size (map view_declared c.args.formals.now) = ap (λ r. l.progress.at + left_size l.is_first declared_size r) (sym split) ∙ l.invariant.at in
    let after : c.check_formal.new.progress.at ≡ place + declared_size d = search rules in
    let number : c.len-number.result ≡ n = search rules in
    let next : m ≡ n + 1 = one_longer l.kinds.items c.push.new.self.items c.in_ok-kind.kind c.in_ok-push.ensures.items in
    let scope : t ≡ with_formal s n d = c.in_ok-kind.ensures.names ∙ ap (λ k. with_formal s k d) number in
    let noted : least_tree c.check_formal.new.progress.least ≡ keep (least_tree l.progress.least) (formal_faults s place d) = search rules in
    record {
      at = omega (arith, at, after, left_sized declared_size l.is_first d left);
      names = formals_named s t n m d left scope next ∙ ap (with_formals s n) (sym split) ∙ l.invariant.names;
      faults = formals_kept s t n m place c.check_formal.new.progress.at d left (least_tree l.progress.least) (least_tree c.check_formal.new.progress.least) noted scope next after
          ∙ ap (λ r. keep (least_tree l.progress.least) (formals_faults s n place r)) (sym split) ∙ l.invariant.faults;
      kinds = ap (λ r. map option_tree c.push.new.self.items ++ r) (kinds_left s t n m d left scope next)
          ∙ push_step option_tree l.kinds.items c.push.new.self.items c.in_ok-kind.kind (kind_of s d.of) (formal_kinds (with_formal s n d) (n + 1) left) _ c.in_ok-push.ensures.items c.in_ok-kind.ensures.kind (ap (λ r. map option_tree l.kinds.items ++ formal_kinds s n r) (sym split) ∙ l.invariant.kinds);
    }
