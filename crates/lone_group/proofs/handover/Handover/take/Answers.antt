use Rattle.std.specs.Arc.{arc_value}
use Rattle.task_seed.specs.Setups.{system}
use Rattle.lone_group.specs.Lone.{IsBatch}
use Rattle.lone_group.proofs.Waiting.{all_later}
use Rattle.lone_group.proofs.handover.Handover.take.Goals as goal

pub invariant_of-self : goal.invariant_of-self
invariant_of-self g c =
    let i = c.self.invariant in
    let s = system g.T.Turns.turn_of (arc_value c.self.inside.setup) in
    (i.0, all_later (IsBatch s) c.self.inside.batches.items c.pop_front.new.self.items c.pop_front.result c.pop_front.ensures.items i.1, i.2)
