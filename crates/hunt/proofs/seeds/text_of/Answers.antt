use Rattle.std.proofs.Common.{◌∙◌, ◌++◌, ℕ, List, ap}
use Rattle.std.specs.Prelude.{Ok, Some}
use Rattle.std.proofs.lemmas.Iterator.{YieldsList-from_slice}
use Rattle.trace.specs.Given.{all_put}
use Rattle.trace.specs.Lines.{text_of}
use Rattle.trace.specs.declared.lines.Lines.TheVariants.{All}
use Rattle.hunt.proofs.seeds.text_of.Goals as goal

pub returns-in-Ok : goal.returns-in-Ok
returns-in-Ok c =
    let always = YieldsList-from_slice {s = c.iter.result} c.args.turns.now cc in
    let puts = all_put (λ v. Some v.items) c.new-out.result c.append_turns.new.out c.args.plan.now All always 0 (Ok c.in-Ok.field-0) c.in-Ok.ensures.ok in
    let lines = text_of c.args.plan.now All c.args.turns.now in
    let head = ap (λ v. v.items) c.new-out.ensures.writer ∙ c.in_ok-text.ensures in
    ap (λ v. v.items) c.into_inner.ensures ∙ (puts.bytes ∙ ap (λ (l : List ℕ). l ++ lines) head)
