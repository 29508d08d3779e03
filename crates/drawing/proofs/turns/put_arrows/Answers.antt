use Rattle.std.proofs.Common.{rules, ◌≡◌, ℕ, List, ◌∷◌, ◌++◌, subst}
use Rattle.drawing.specs.Turns.{arrow_to, arrows_text}
use Rattle.drawing.proofs.Joined.{moved}
use Rattle.drawing.proofs.turns.put_arrows.Goals as goal

pub loop-receiver-preserved : goal.loop-receiver-preserved
loop-receiver-preserved c =
    let before : List ℕ = c.loop-receiver.text.items in
    let all : List ℕ = c.args.text.now.items ++ arrows_text c.args.y c.args.from c.args.receivers.now in
    let split : c.loop-receiver.rest.now ≡ c.in-Some.receiver.now ∷ c.in-Some.later.now = search rules in
    let left : before ++ arrows_text c.args.y c.args.from (c.in-Some.receiver.now ∷ c.in-Some.later.now) ≡ all = subst (λ (js : List ℕ). before ++ arrows_text c.args.y c.args.from js ≡ all) split c.loop-receiver.invariant in
    moved before c.put_arrow_to.new.text.items all (arrow_to c.args.y c.args.from c.in-Some.receiver.now) (arrows_text c.args.y c.args.from c.in-Some.later.now) c.in_ok-put_arrow_to.ensures left
