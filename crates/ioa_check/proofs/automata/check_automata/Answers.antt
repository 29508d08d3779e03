use Rattle.std.proofs.Common.{rules, arith, ◌≡◌, ◌+◌, ◌||◌, ◌∷◌, ◌++◌, [], bytes_eq, drop, length, map, ap, sym, ◌∙◌}
use Rattle.std.proofs.lemmas.List.{drop_all}
use Rattle.std.specs.List.{list_any}
use Rattle.ioa_trees.specs.Views.{view_automaton}
use Rattle.ioa_trees.specs.AutomatonRules.{locals, meaning_of}
use Rattle.ioa_trees.specs.Faults.{keep}
use Rattle.ioa_trees.specs.Sizes.{automaton_size}
use Rattle.ioa_trees.specs.SourceRules.{all_locals, automata_faults, automata_size, meanings_of, with_automata, with_automaton}
use Rattle.ioa_typing.specs.NameViews.{names_tree}
use Rattle.ioa_typing.specs.TermViews.{least_tree}
use Rattle.ioa_check.specs.Bodies.{automaton_faults}
use Rattle.ioa_check.specs.Meant.{automaton_tree}
use Rattle.ioa_check.specs.Sets.{Adds}
use Rattle.ioa_check.specs.AutomatonViews.{used_names}
use Rattle.ioa_check.proofs.Declaring.{one_longer}
use Rattle.ioa_typing.proofs.Items.{drop_at, push_step}
use Rattle.ioa_check.proofs.Lists.{some_added}
use Rattle.ioa_check.proofs.AutomatonRows.{automata_named, automata_same, automaton_kept, meanings_left}
use Rattle.ioa_check.proofs.automata.check_automata.Goals as goal

pub loop-automaton-preserved : goal.loop-automaton-preserved
loop-automaton-preserved c =
    let l = c.loop-automaton in
    let s = names_tree l.names in
    let t = names_tree c.check_automaton.new.names in
    let before = used_names l.used in
    let after = used_names c.check_automaton.new.used in
    let progress = c.check_automaton.new.progress in
    let n = length l.meant.items in
    let m = length c.push.new.self.items in
    let x = c.automaton-item.result in
    let a = view_automaton x in
    let left = map view_automaton (drop (l.automaton-index + 1) c.args.automata.now) in
    let split : map view_automaton (drop l.automaton-index c.args.automata.now) ≡ a ∷ left = ap (map view_automaton) (drop_at c.args.automata.now l.automaton-index x c.automaton-item.is c.loop-automaton-test.true) in
    let at : l.progress.at + (automaton_size a + automata_size left) ≡ c.args.progress.now.at + automata_size (map view_automaton c.args.automata.now) = ap (λ r. l.progress.at + automata_size r) (sym split) ∙ l.invariant.at in
    let number : c.len-number.result ≡ n = search rules in
    let next : m ≡ n + 1 = one_longer l.meant.items c.push.new.self.items c.in_ok-one.one c.in_ok-push.ensures.items in
    let place : progress.at ≡ l.progress.at + automaton_size a = c.in_ok-one.ensures.at in
    let scope : t ≡ with_automaton s n a = c.in_ok-one.ensures.names ∙ ap (λ k. with_automaton s k a) number in
    let adds : Adds after (locals a) before = c.in_ok-one.ensures.used in
    let noted : least_tree progress.least ≡ keep (least_tree l.progress.least) (automaton_faults s before n l.progress.at a) = c.in_ok-one.ensures.faults ∙ ap (λ k. keep (least_tree l.progress.least) (automaton_faults s before k l.progress.at a)) number in
    let one : automaton_tree c.in_ok-one.one ≡ meaning_of (with_automaton s n a) a = c.in_ok-one.ensures.meant ∙ ap (λ k. meaning_of (with_automaton s k a) a) number in
    record {
      at = omega (arith, at, place);
      names = automata_named s t n m a left scope next ∙ ap (with_automata s n) (sym split) ∙ l.invariant.names;
      used = λ q. some_added (locals a) q (all_locals left) after before _ (adds q) (ap (λ xs. list_any (bytes_eq q) (all_locals xs) || list_any (bytes_eq q) before) (sym split) ∙ l.invariant.used q);
      faults = automaton_kept s t before after n m l.progress.at progress.at a left (least_tree l.progress.least) (least_tree progress.least) noted scope adds next place
          ∙ ap (λ r. keep (least_tree l.progress.least) (automata_faults s before n l.progress.at r)) (sym split) ∙ l.invariant.faults;
      meant = ap (λ r. map automaton_tree c.push.new.self.items ++ r) (meanings_left s t n m a left scope next)
          ∙ push_step automaton_tree l.meant.items c.push.new.self.items c.in_ok-one.one (meaning_of (with_automaton s n a) a) (meanings_of (with_automaton s n a) (n + 1) left) _ c.in_ok-push.ensures.items one (ap (λ r. map automaton_tree l.meant.items ++ meanings_of s n r) (sym split) ∙ l.invariant.meant);
    }

pub returns-clause-used : goal.returns-clause-used
returns-clause-used c =
    let l = c.loop-automaton in
    let none : drop l.automaton-index c.args.automata.now ≡ [] = drop_all l.automaton-index c.args.automata.now c.loop-automaton-test.false in
    λ q. ap (λ xs. list_any (bytes_eq q) (all_locals (map view_automaton xs)) || list_any (bytes_eq q) (used_names l.used)) (sym none) ∙ l.invariant.used q

pub returns-clause-faults : goal.returns-clause-faults
returns-clause-faults c =
    let l = c.loop-automaton in
    let s = names_tree c.args.names.now in
    let xs = map view_automaton c.args.automata.now in
    let none : drop l.automaton-index c.args.automata.now ≡ [] = drop_all l.automaton-index c.args.automata.now c.loop-automaton-test.false in
    let kept : least_tree l.progress.least ≡ keep (least_tree c.args.progress.now.least) (automata_faults s (used_names c.args.used.now) 0 c.args.progress.now.at xs)
    = ap (λ ys. keep (least_tree l.progress.least) (automata_faults (names_tree l.names) (used_names l.used) (length l.meant.items) l.progress.at (map view_automaton ys))) (sym none) ∙ l.invariant.faults in
    λ L same. kept ∙ ap (keep (least_tree c.args.progress.now.least)) (automata_same s (used_names c.args.used.now) L 0 c.args.progress.now.at xs same)
