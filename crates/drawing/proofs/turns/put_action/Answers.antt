use Rattle.std.proofs.Common.{ℕ, List, ◌++◌, ◌-◌}
use Rattle.plans.specs.Plans.{composition}
use Rattle.io_automata.specs.Signatures.{receivers_of}
use Rattle.trace.specs.Lines.{action_text}
use Rattle.drawing.specs.Elements.{full_dot, label_text}
use Rattle.drawing.specs.Turns.{arrows_text}
use Rattle.drawing.proofs.Joined.{behind}
use Rattle.drawing.proofs.turns.put_action.Goals as goal

pub returns : goal.returns
returns c =
    let end : List ℕ = c.put_action_label.new.text.items in
    let arrows : List ℕ = arrows_text c.args.y c.args.x (receivers_of (composition c.args.plan.now) c.args.action.now c.args.component) in
    let dot : List ℕ = full_dot c.args.x c.args.y in
    let label : List ℕ = label_text c.args.x (c.args.y - 5) (action_text c.args.plan.now c.args.action.now) in
    behind c.put_action_label.result c.args.text.now.items c.put_receivers.new.text.items end arrows (dot ++ label) c.in_ok-put_receivers.ensures
    (behind c.put_action_label.result c.put_receivers.new.text.items c.put_full_dot.new.text.items end dot label c.in_ok-put_full_dot.ensures c.put_action_label.ensures)
