use Rattle.std.proofs.Common.{rules, arith, ◌≡◌, ◌+◌, ◌≤◌, ◌∷◌, ◌++◌, drop, length, map, string_bytes, ap, sym, ◌∙◌}
use Rattle.ioa_trees.specs.Views.{view_type_definition}
use Rattle.ioa_trees.specs.Faults.{keep}
use Rattle.ioa_trees.specs.Sizes.{body_size, definition_size}
use Rattle.ioa_trees.specs.SourceRules.{all_members, definitions_faults, definitions_size, members_in, with_definitions}
use Rattle.ioa_typing.specs.NameViews.{names_tree}
use Rattle.ioa_typing.specs.TermViews.{least_tree}
use Rattle.ioa_check.proofs.Defined.{counted, definitions_kept, definitions_named, length_same, pushed_all}
use Rattle.ioa_typing.proofs.Items.{drop_at}
use Rattle.ioa_check.proofs.Enumerations.{few_members}
use Rattle.ioa_check.proofs.definitions.check_definitions.Goals as goal

pub check_definition-requires-clause-few : goal.check_definition-requires-clause-few
check_definition-requires-clause-few c =
    let l = c.loop-definition in
    let d = view_type_definition c.definition-item.result in
    let left = map view_type_definition (drop (l.definition-index + 1) c.args.definitions.now) in
    let split : map view_type_definition (drop l.definition-index c.args.definitions.now) ≡ d ∷ left = ap (map view_type_definition) (drop_at c.args.definitions.now l.definition-index c.definition-item.result c.definition-item.is c.loop-definition-test.true) in
    let at : l.progress.at + definitions_size (d ∷ left) ≡ c.args.progress.now.at + definitions_size (map view_type_definition c.args.definitions.now) = ap (λ r. l.progress.at + definitions_size r) (sym split) ∙ l.invariant.at in
    let few : length (members_in d.body) ≤ body_size d.body = few_members d.body in
    omega (arith, at, few, l.invariant.low, c.requires.room)

pub overflow_cast-first : goal.overflow_cast-first
overflow_cast-first c =
    let l = c.loop-definition in
    let d = view_type_definition c.definition-item.result in
    let left = map view_type_definition (drop (l.definition-index + 1) c.args.definitions.now) in
    let split : map view_type_definition (drop l.definition-index c.args.definitions.now) ≡ d ∷ left = ap (map view_type_definition) (drop_at c.args.definitions.now l.definition-index c.definition-item.result c.definition-item.is c.loop-definition-test.true) in
    let at : l.progress.at + definitions_size (d ∷ left) ≡ c.args.progress.now.at + definitions_size (map view_type_definition c.args.definitions.now) = ap (λ r. l.progress.at + definitions_size r) (sym split) ∙ l.invariant.at in
    let few : length (members_in d.body) ≤ body_size d.body = few_members d.body in
    let all : c.len-first.result ≡ length c.push_members.new.members.items = search rules in
    let number : c.len-first.result ≡ l.first + length (members_in d.body) = counted string_bytes l.members.items c.push_members.new.members.items (members_in d.body) l.first c.len-first.result c.in_ok-push_members.ensures l.invariant.number all in
    omega (arith, at, few, number, l.invariant.low, c.requires.room)

pub loop-definition-preserved : goal.loop-definition-preserved
loop-definition-preserved c =
    let l = c.loop-definition in
    let d = view_type_definition c.definition-item.result in
    let left = map view_type_definition (drop (l.definition-index + 1) c.args.definitions.now) in
    let split : map view_type_definition (drop l.definition-index c.args.definitions.now) ≡ d ∷ left = ap (map view_type_definition) (drop_at c.args.definitions.now l.definition-index c.definition-item.result c.definition-item.is c.loop-definition-test.true) in
    let at : l.progress.at + definitions_size (d ∷ left) ≡ c.args.progress.now.at + definitions_size (map view_type_definition c.args.definitions.now) = ap (λ r. l.progress.at + definitions_size r) (sym split) ∙ l.invariant.at in
    let after : c.check_definition.new.progress.at ≡ l.progress.at + definition_size d = c.in_ok-check_definition.ensures.at in
    let few : length (members_in d.body) ≤ body_size d.body = few_members d.body in
    let all : c.len-first.result ≡ length c.push_members.new.members.items = search rules in
    let number : c.len-first.result ≡ l.first + length (members_in d.body) = counted string_bytes l.members.items c.push_members.new.members.items (members_in d.body) l.first c.len-first.result c.in_ok-push_members.ensures l.invariant.number all in
    record {
      at = omega (arith, at, after);
      low = omega (arith, after, few, number, l.invariant.low);
      number = all ∙ sym (length_same string_bytes c.push_members.new.members.items);
      names = definitions_named (names_tree l.names) (names_tree c.check_definition.new.names) l.first c.len-first.result d left c.in_ok-check_definition.ensures.names number ∙ ap (with_definitions (names_tree l.names) l.first) (sym split) ∙ l.invariant.names;
      faults = definitions_kept (names_tree l.names) (names_tree c.check_definition.new.names) l.first c.len-first.result l.progress.at c.check_definition.new.progress.at d left (least_tree l.progress.least) (least_tree c.check_definition.new.progress.least) c.in_ok-check_definition.ensures.faults c.in_ok-check_definition.ensures.names number after
          ∙ ap (λ r. keep (least_tree l.progress.least) (definitions_faults (names_tree l.names) l.first l.progress.at r)) (sym split) ∙ l.invariant.faults;
      members = pushed_all (map string_bytes l.members.items) (map string_bytes c.push_members.new.members.items) (members_in d.body) (all_members left) _ c.in_ok-push_members.ensures (ap (λ r. map string_bytes l.members.items ++ all_members r) (sym split) ∙ l.invariant.members);
    }
