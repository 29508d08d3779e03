use Rattle.std.proofs.Common.{option_map, ap, ◌∙◌}
use Rattle.ioa_trees.specs.Views.{view_entry}
use Rattle.ioa_entries.proofs.Scans.{found_is}
use Rattle.ioa_entries.proofs.heads.entry_for.Goals as goal

pub returns : goal.returns
returns c = ap (option_map view_entry) c.first_with.ensures ∙ found_is (view_entry c.args.head.now) c.args.entries.now
