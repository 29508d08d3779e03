-- A command that want of memory may have kept from being made, and what is added to it.
use Rattle.std.proofs.Common.{◌≡◌, ◌∙◌, true, false, Ok, ap, ap₂, subst}
use Rattle.std.specs.Prelude.{IfOk, Result}
use Rattle.std.proofs.lemmas.Result.{IfOk-weaker}
use Rattle.clap.specs.Words.{AddsArg, AddsSubcommand, App, Rule, app_of, rule_of, with_rule, with_subcommand}
use Rattle.clap.specs.declared.builder.arg.Arg.{Arg}
use Rattle.clap.specs.declared.builder.command.Command.{Command}
use Rattle.command_line.proofs.Locals.{third}

module _ (E : Type 0) where
  pub with_one : (start : Result Command E) (command : Command) (arg : Arg) (made : Result Command E) (app : App) (rule : Rule)
      → start ≡ Ok command → arg.global ≡ false → rule_of arg ≡ rule → IfOk made (AddsArg command arg)
      → IfOk start (λ c. app_of c ≡ app) → IfOk made (λ c. app_of c ≡ with_rule app rule)
  with_one start command arg made app rule is local rules adds before =
      let was : app_of command ≡ app = subst (λ (r : Result Command E). IfOk r (λ c. app_of c ≡ app)) is before in
      IfOk-weaker made _ _ (λ r h. h.shape local ∙ (λ i. with_rule (was i) (rules i))) adds

  pub with_part : (start part : Result Command E) (command subcommand : Command) (made : Result Command E) (app sub : App)
      → start ≡ Ok command → part ≡ Ok subcommand → IfOk made (AddsSubcommand command subcommand)
      → IfOk start (λ c. app_of c ≡ app) → IfOk part (λ c. app_of c ≡ sub) → sub.top.is_plain ≡ true
      → IfOk made (λ c. app_of c ≡ with_subcommand app sub.top)
  with_part start part command subcommand made app sub is part_is adds before inner plain =
      let was : app_of command ≡ app = subst (λ (r : Result Command E). IfOk r (λ c. app_of c ≡ app)) is before in
      let its : app_of subcommand ≡ sub = subst (λ (r : Result Command E). IfOk r (λ c. app_of c ≡ sub)) part_is inner in
      let whole : (app_of subcommand).top.is_plain ≡ true = ap (λ (a : App). a.top.is_plain) its ∙ plain in
      IfOk-weaker made _ _ (λ r h. h.shape (third _ _ _ _ whole) ∙ ap₂ with_subcommand was (ap (λ (a : App). a.top) its)) adds
