use Rattle.std.proofs.Common.{◌++◌, ◌∷◌, [], sym, ◌∙◌, ap}
use Rattle.ioa_layout.specs.Lines.{flags_by, flags_of}
use Rattle.ioa_layout.proofs.Alone.{flags_more}
use Rattle.ioa_layout.proofs.reading.keep.Goals as goal

pub returns-in_ok-push-clause-lines : goal.returns-in_ok-push-clause-lines
returns-in_ok-push-clause-lines c =
    let before = c.args.items.now.items in
    ap flags_of c.in_ok-push.ensures.items ∙ flags_more before (c.in-Some.item ∷ []) ∙ ap (λ o. flags_of before ++ flags_by o) (sym c.in-Some.is)
