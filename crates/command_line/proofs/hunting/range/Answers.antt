use Rattle.std.proofs.Common.{◌∙◌, ◌∷◌, [], ap, codes}
use Rattle.clap.specs.Words.{Rule, rule_of}
use Rattle.clap.specs.declared.builder.arg.Arg.{Arg}
use Rattle.command_line.proofs.hunting.range.Goals as goal

pub returns-clause-rule : goal.returns-clause-rule
returns-clause-rule c =
    ap rule_of c.default_value.ensures ∙ ap (λ (r : Rule). record r { defaults = codes "1..1000" ∷ [] })
    (ap rule_of c.value_name.ensures ∙ ap (λ (r : Rule). record r { value_names = 1 }) c.option.ensures.rule)

pub returns-clause-local : goal.returns-clause-local
returns-clause-local c =
    ap (λ (a : Arg). a.global) c.default_value.ensures ∙ (ap (λ (a : Arg). a.global) c.value_name.ensures ∙ c.option.ensures.local)
