use Rattle.std.proofs.Common.{◌∙◌, ap, map}
use Rattle.ioa_typing.specs.NameViews.{entry_tree}
use Rattle.ioa_typing.proofs.Scopes.{first_names}
use Rattle.ioa_typing.proofs.names.Names.truncate.Goals as goal

pub returns : goal.returns
returns c = ap (λ z. map entry_tree z) c.truncate.ensures.entries ∙ first_names c.args.len c.args.self.now.table.entries
