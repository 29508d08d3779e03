use Rattle.std.proofs.Common.{rules, arith, ◌≡◌, ◌+◌, ◌∷◌, ◌++◌, not, drop, length, map, string_bytes, ap, sym, ◌∙◌}
use Rattle.ioa_trees.specs.Faults.{keep, where_wrong}
use Rattle.ioa_trees.specs.SourceRules.{hidden_faults}
use Rattle.ioa_typing.specs.TermViews.{least_tree}
use Rattle.ioa_check.specs.AutomatonViews.{used_names}
use Rattle.ioa_typing.proofs.Items.{drop_at, push_step}
use Rattle.ioa_check.proofs.Hiding.{hidden_kept, hidden_sized}
use Rattle.ioa_check.proofs.hidden.check_hidden.Goals as goal

pub loop-name-init : goal.loop-name-init
loop-name-init c =
    let sized = hidden_sized c.args.hidden.now in
    record {
      at = omega arith;
      room = omega (arith, sized, c.requires.room);
      faults = ap (λ us. keep (least_tree c.args.progress.now.least) (hidden_faults us (c.args.progress.now.at + 1) (map string_bytes c.args.hidden.now))) c.new-used.ensures;
      meant = ap (λ xs. map string_bytes xs ++ map string_bytes c.args.hidden.now) c.new-meant.ensures.items;
    }

pub returns-clause-at : goal.returns-clause-at
returns-clause-at c =
    let sized = hidden_sized c.args.hidden.now in
    let all : c.loop-name.name-index ≡ length c.args.hidden.now = search (rules, arith) in
    omega (arith, sized, all, c.loop-name.invariant.at)

pub loop-name-preserved : goal.loop-name-preserved
loop-name-preserved c =
    let l = c.loop-name in
    let before = used_names l.used in
    let after = used_names c.insert.new.self in
    let progress = c.note_if.new.self in
    let q = string_bytes c.name-item.result in
    let left = map string_bytes (drop (l.name-index + 1) c.args.hidden.now) in
    let split : map string_bytes (drop l.name-index c.args.hidden.now) ≡ q ∷ left = ap (map string_bytes) (drop_at c.args.hidden.now l.name-index c.name-item.result c.name-item.is c.loop-name-test.true) in
    let place : progress.at ≡ l.progress.at + 1 = c.note_if.ensures.at in
    let noted : least_tree progress.least ≡ keep (least_tree l.progress.least) (where_wrong (not c.in_ok-is_new.is_new) (l.progress.at + 1) 11) = c.note_if.ensures.least in
    record {
      at = omega (arith, place, l.invariant.at);
      room = l.invariant.room;
      faults = hidden_kept before after (l.progress.at + 1) (progress.at + 1 + 1) q left c.in_ok-is_new.is_new (least_tree l.progress.least) (least_tree progress.least) noted c.in_ok-is_new.ensures.fresh c.in_ok-is_new.ensures.names (omega (arith, place))
          ∙ ap (λ xs. keep (least_tree l.progress.least) (hidden_faults before (l.progress.at + 1) xs)) (sym split) ∙ l.invariant.faults;
      meant = push_step string_bytes l.meant.items c.push.new.self.items c.in_ok-clone.field-0 q left _ (search rules) (search rules) (ap (λ xs. map string_bytes l.meant.items ++ xs) (sym split) ∙ l.invariant.meant);
    }
