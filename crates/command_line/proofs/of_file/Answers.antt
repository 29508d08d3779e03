use Rattle.std.proofs.Common.{◌≡◌, ◌∙◌, ap}
use Rattle.std.proofs.lemmas.Result.{IfOk-weaker}
use Rattle.clap.specs.Simple.{app_of_fields}
use Rattle.clap.specs.Words.{app_of, new_app, with_rule}
use Rattle.command_line.proofs.of_file.Goals as goal

pub returns : goal.returns
returns c =
    let told : app_of c.after_help.result ≡ new_app c.args.name.now =
    ap app_of_fields c.after_help.ensures ∙ (ap app_of_fields c.about.ensures ∙ c.new.ensures.app) in
    IfOk-weaker c.arg.result _ _ (λ made h. h.shape c.file.ensures.local ∙ (λ i. with_rule (told i) (c.file.ensures.rule i))) c.arg.ensures
