use Rattle.std.proofs.Common.{rules, ◌≡◌, ◌||◌, ◌∙◌, bytes_eq, string_bytes, List, ℕ}
use Rattle.std.specs.List.{list_any}
use Rattle.ioa_check.specs.AutomatonViews.{used_names}
use Rattle.compose.proofs.HiddenNames.{one_more_name}
use Rattle.compose.proofs.instances.actions.names_in.Goals as goal

pub loop-name-preserved : goal.loop-name-preserved
loop-name-preserved c =
    let l = c.loop-name in
    let before = used_names l.set in
    let x = c.name-item.result in
    let added : (q : List ℕ) → list_any (bytes_eq q) (used_names c.insert.new.self) ≡ (bytes_eq q (string_bytes x) || list_any (bytes_eq q) before) = search rules in
    λ q. added q ∙ one_more_name q c.args.names.now l.name-index x before c.name-item.is c.loop-name-test.true (l.invariant q)
