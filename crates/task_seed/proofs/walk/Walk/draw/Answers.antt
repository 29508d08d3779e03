use Rattle.std.proofs.Common.{◌≡◌, ◌+◌, ◌%◌, subst}
use Rattle.task_seed.specs.declared.turns.Turn.{Turn}
use Rattle.task_seed.specs.Walks.{WalkView, start_of, turn_after}
use Rattle.task_seed.proofs.Drawing.{turn_drawn}
use Rattle.task_seed.proofs.walk.Walk.draw.Goals as goal

pub invariant_of-self : goal.invariant_of-self
invariant_of-self c =
    let w = c.self.inside in
    (turn_drawn c.args.least c.args.gap w.number _ _ _ (start_of w.seed w.stream) w.words c.next_u32.new.self c.next_u32-task.new.self c.next_u32-choice.new.self c.self.invariant c.next_u32.ensures c.next_u32-task.ensures c.next_u32-choice.ensures).1

pub returns-clause-turn : goal.returns-clause-turn
returns-clause-turn c =
    let w = c.self.inside in
    let drawn : Turn = record { gap = c.args.least + c.next_u32.result % c.args.gap; task = c.next_u32-task.result; choice = c.next_u32-choice.result } in
    subst (λ (v : WalkView). drawn ≡ turn_after (start_of v.seed v.stream) c.args.least c.args.gap v.number) c.self.view_is
    (turn_drawn c.args.least c.args.gap w.number _ _ _ (start_of w.seed w.stream) w.words c.next_u32.new.self c.next_u32-task.new.self c.next_u32-choice.new.self c.self.invariant c.next_u32.ensures c.next_u32-task.ensures c.next_u32-choice.ensures).0
