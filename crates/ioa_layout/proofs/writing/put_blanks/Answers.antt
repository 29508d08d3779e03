use Rattle.std.proofs.Common.{◌++◌, ◌∷◌, [], sym, ◌∙◌, ap, append_assoc}
use Rattle.ioa_layout.specs.Gaps.{blanks}
use Rattle.ioa_layout.proofs.Blanks.{blanks_more}
use Rattle.ioa_layout.proofs.writing.put_blanks.Goals as goal

pub loop-done-preserved : goal.loop-done-preserved
loop-done-preserved c =
    let before = c.args.text.now.items in
    let count = c.loop-done._done in
    c.in_ok-push.ensures.items ∙ ap (λ t. t ++ 32 ∷ []) c.loop-done.invariant ∙ append_assoc before (blanks count) (32 ∷ []) ∙ ap (λ t. before ++ t) (sym (blanks_more count))
