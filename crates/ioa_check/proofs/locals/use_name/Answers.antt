use Rattle.std.proofs.Common.{◌||◌, bytes_eq, string_bytes, ap, sym, ◌∙◌}
use Rattle.std.specs.List.{list_any}
use Rattle.ioa_check.specs.AutomatonViews.{used_names}
use Rattle.ioa_check.proofs.Lists.{or_false}
use Rattle.ioa_check.proofs.locals.use_name.Goals as goal

pub returns : goal.returns
returns c = λ q. c.in_ok-insert.ensures.names q ∙ ap (λ b. b || list_any (bytes_eq q) (used_names c.args.used.now)) (sym (or_false (bytes_eq q (string_bytes c.args.name.now))))
