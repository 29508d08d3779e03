use Rattle.std.proofs.Common.{◌∙◌, ap, take}
use Rattle.std.proofs.lemmas.Str.Ascii.{trim_ascii_end_is}
use Rattle.ioa_tokens.specs.Cutting.{Comment}
use Rattle.ioa_layout.specs.Ink.{trimmed}
use Rattle.ioa_layout.proofs.reading.comment.Goals as goal

pub returns-clause-part : goal.returns-clause-part
returns-clause-part c =
    let bytes = c.args.bytes.now in
    ap (λ t. record { piece = Comment; text = t })
    (trim_ascii_end_is c.split_at.result.0.now c.trim_ascii_end.result.now c.trim_ascii_end.ensures.value
    ∙ ap trimmed (c.split_at.ensures.front ∙ ap (λ n. take n bytes) c.line_len.ensures.value))
