use Rattle.std.proofs.Common.{rules, ◌≡◌, ◌++◌, ◌∷◌, [], map, ap, ◌∙◌}
use Rattle.std.specs.Prelude.{string_bytes}
use Rattle.ioa_tokens.specs.Tokens.{Name}
use Rattle.ioa_printer.proofs.Printed.{hidden_put}
use Rattle.ioa_printer.proofs.source.put_hidden.Goals as goal

pub returns : goal.returns
returns c =
    let found : c.args.names.now ≡ c.in-Some.first.now ∷ c.in-Some.others.now = search rules in
    let named = c.in_ok-put_name.ensures ∙ ap (λ z. c.put_word.new.self ++ Name z ∷ []) c.as_str.ensures.value in
    hidden_put _ _ _ _ _ _ _ (ap (map string_bytes) found) c.in_ok-put_word.ensures named c.in_ok-put_more_names.ensures
