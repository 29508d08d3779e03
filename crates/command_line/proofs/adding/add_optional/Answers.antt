use Rattle.std.proofs.Common.{ap, ◌∙◌}
use Rattle.command_line.specs.Rules.{optional_rule}
use Rattle.command_line.proofs.Grown.{with_one}
use Rattle.command_line.proofs.adding.add_optional.Goals as goal

pub returns-in-Ok : goal.returns-in-Ok
returns-in-Ok c app before p is =
    with_one _ _ _ _ _ app _ c.in-Ok.is c.optional.ensures.local
    (c.optional.ensures.rule ∙ ap (optional_rule c.args.name.now) is) c.arg.ensures before
