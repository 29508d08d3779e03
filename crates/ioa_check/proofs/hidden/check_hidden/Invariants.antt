use Rattle.std.proofs.Common.{◌≡◌, ◌+◌, ◌*◌, ◌<◌, ◌^◌, ◌++◌, [], drop, length, map, string_bytes}
use Rattle.ioa_trees.specs.Faults.{keep}
use Rattle.ioa_trees.specs.SourceRules.{hidden_faults}
use Rattle.ioa_typing.specs.TermViews.{least_tree}
use Rattle.ioa_check.specs.AutomatonViews.{used_names}
use Rattle.ioa_check.proofs.hidden.check_hidden.Given as goal

abbrev pub invariant-loop-name : goal.invariant-loop-name
invariant-loop-name l = record {
  at : l.progress.at ≡ l.initial.progress.at + 2 * l.name-index;
  room : l.initial.progress.at + 2 * length l.hidden < 2 ^ 32;
  faults : keep (least_tree l.progress.least) (hidden_faults (used_names l.used) (l.progress.at + 1) (map string_bytes (drop l.name-index l.hidden)))
      ≡ keep (least_tree l.initial.progress.least) (hidden_faults [] (l.initial.progress.at + 1) (map string_bytes l.hidden));
  meant : map string_bytes l.meant.items ++ map string_bytes (drop l.name-index l.hidden) ≡ map string_bytes l.hidden;
}
