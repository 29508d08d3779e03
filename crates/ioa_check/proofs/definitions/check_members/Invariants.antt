use Rattle.std.proofs.Common.{◌≡◌, ◌+◌, drop, length, map, string_bytes}
use Rattle.ioa_trees.specs.Faults.{keep}
use Rattle.ioa_trees.specs.Sizes.{listed_size, name_size}
use Rattle.ioa_trees.specs.SourceRules.{members_faults, with_members}
use Rattle.ioa_typing.specs.NameViews.{names_tree}
use Rattle.ioa_typing.specs.TermViews.{least_tree}
use Rattle.ioa_entries.specs.Between.{between}
use Rattle.ioa_check.specs.ListParts.{left_size}
use Rattle.ioa_check.proofs.definitions.check_members.Given as goal

abbrev pub invariant-loop-name : goal.invariant-loop-name
invariant-loop-name l = record {
  at : l.progress.at + left_size l.is_first name_size (map string_bytes (drop l.name-index l.members)) ≡ l.initial.progress.at + listed_size name_size (map string_bytes l.members);
  number : l.member + length (drop l.name-index l.members) ≡ l.first + length l.members;
  names : with_members (names_tree l.names) l.first l.count l.member (map string_bytes (drop l.name-index l.members)) ≡ with_members (names_tree l.initial.names) l.first l.count l.first (map string_bytes l.members);
  faults : keep (least_tree l.progress.least) (members_faults (names_tree l.names) l.first l.count l.member (l.progress.at + between l.is_first) (map string_bytes (drop l.name-index l.members)))
      ≡ keep (least_tree l.initial.progress.least) (members_faults (names_tree l.initial.names) l.first l.count l.first l.initial.progress.at (map string_bytes l.members));
}
