use Rattle.std.proofs.Common.{rules, arith, ◌≡◌, ◌+◌, ◌∷◌, ◌++◌, drop, map, take, ap, sym, ◌∙◌}
use Rattle.std.specs.Prelude.{reverse}
use Rattle.ioa_trees.specs.Views.{view_entry, view_transition}
use Rattle.ioa_trees.specs.EntryRules.{meant_by, transition_faults, transitions_faults, with_parameters}
use Rattle.ioa_trees.specs.Faults.{keep}
use Rattle.ioa_trees.specs.Sizes.{row_size, transition_size}
use Rattle.ioa_typing.specs.NameViews.{names_tree}
use Rattle.ioa_typing.specs.TermViews.{least_tree}
use Rattle.ioa_entries.specs.EntryViews.{meant_tree}
use Rattle.ioa_typing.proofs.Items.{drop_at, push_step}
use Rattle.ioa_entries.proofs.Rows.{reverse_next, transition_kept, turned}
use Rattle.ioa_entries.proofs.transitions.check_transitions.Goals as goal

pub loop-place-preserved : goal.loop-place-preserved
loop-place-preserved c =
    let s = names_tree c.args.names.now in
    let l = c.loop-place in
    let es = map view_entry c.args.entries.now in
    let t = view_transition c.index-transitions-place.result in
    let passed = map view_transition (reverse (take l.place c.args.transitions.now)) in
    let left = map view_transition (drop (l.place + 1) c.args.transitions.now) in
    let split : map view_transition (drop l.place c.args.transitions.now) ≡ t ∷ left = ap (map view_transition) (drop_at c.args.transitions.now l.place c.index-transitions-place.result c.index-transitions-place.is c.loop-place-test.true) in
    let at : l.progress.at + row_size transition_size (t ∷ left) ≡ c.args.progress.now.at + row_size transition_size (map view_transition c.args.transitions.now) = ap (λ r. l.progress.at + row_size transition_size r) (sym split) ∙ l.invariant.at in
    let after : c.check_transition.new.progress.at ≡ l.progress.at + transition_size t = c.in_ok-one.ensures.at in
    let next : map view_transition (reverse (take (l.place + 1) c.args.transitions.now)) ≡ t ∷ passed = ap (map view_transition) (reverse_next c.args.transitions.now l.place c.index-transitions-place.result c.index-transitions-place.is c.loop-place-test.true) in
    let inside = with_parameters s 0 t.entry.parameters in
    let told : least_tree c.check_transition.new.progress.least ≡ keep (least_tree l.progress.least) (transition_faults inside es (map view_transition (take l.place c.args.transitions.now)) l.progress.at t) = search rules in
    let noted = told ∙ ap (keep (least_tree l.progress.least)) (turned inside es view_transition (take l.place c.args.transitions.now) l.progress.at t) in
    let one : meant_tree c.in_ok-one.one ≡ meant_by s t = c.in_ok-one.ensures.meant ∙ ap (λ r. meant_by r t) l.invariant.names in
    record {
      at = omega (arith, at, after);
      names = c.in_ok-one.ensures.names ∙ l.invariant.names;
      faults = ap (λ b. keep (least_tree c.check_transition.new.progress.least) (transitions_faults s es b c.check_transition.new.progress.at left)) next
          ∙ transition_kept s es passed l.progress.at c.check_transition.new.progress.at t left (least_tree l.progress.least) (least_tree c.check_transition.new.progress.least) noted after
          ∙ ap (λ r. keep (least_tree l.progress.least) (transitions_faults s es passed l.progress.at r)) (sym split)
          ∙ l.invariant.faults;
      meant = push_step meant_tree l.meant.items _ c.in_ok-one.one (meant_by s t) (map (meant_by s) left) _ c.in_ok-push.ensures.items one (ap (λ r. map meant_tree l.meant.items ++ map (meant_by s) r) (sym split) ∙ l.invariant.meant);
    }
