use Rattle.std.proofs.Common.{sym, ◌∙◌}
use Rattle.ioa_trees.specs.Views.{view_entry}
use Rattle.ioa_check.specs.AutomatonParts.{is_controlled}
use Rattle.ioa_typing.proofs.Items.{any_map}
use Rattle.ioa_check.proofs.tasks.is_controlled_name.Goals as goal

pub returns : goal.returns
returns c = c.some_named.ensures ∙ sym (any_map (λ e. is_controlled e c.args.name.now) view_entry c.args.entries.now)
