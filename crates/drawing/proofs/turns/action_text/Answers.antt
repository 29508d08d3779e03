use Rattle.std.proofs.Common.{◌∙◌, ◌++◌, ℕ, List, ap}
use Rattle.trace.specs.Lines.{action_text}
use Rattle.drawing.proofs.turns.action_text.Goals as goal

pub returns-in-Ok : goal.returns-in-Ok
returns-in-Ok c =
    let text : List ℕ = action_text c.args.plan.now c.args.action.now in
    let empty = ap (λ v. v.items) c.new-out.ensures.writer ∙ c.new.ensures.items in
    ap (λ v. v.items) c.into_inner.ensures ∙ (c.in-Ok.ensures.ok.bytes ∙ ap (λ (l : List ℕ). l ++ text) empty)
