use Rattle.std.proofs.Common.{◌≡◌, ◌+◌, ◌++◌, drop, map}
use Rattle.world.specs.Steps.{answer_of}
use Rattle.commands.specs.Driven.{refused_from}
use Rattle.commands.proofs.driving.refused_steps.Given as goal

abbrev pub invariant-loop-place : goal.invariant-loop-place
invariant-loop-place l = l.refused.items ++ refused_from (l.place + 1) (map answer_of (drop l.place l.replies)) ≡ refused_from 1 (map answer_of l.replies)
