use Rattle.std.proofs.Common.{◌≡◌, ◌++◌, drop, map}
use Rattle.std.specs.Prelude.{string_bytes}
use Rattle.ioa_trees.specs.Nodes.{yields}
use Rattle.ioa_trees.specs.Spelling.{task_node}
use Rattle.ioa_printer.proofs.automata.put_each_task.Given as goal

abbrev pub invariant-loop-task : goal.invariant-loop-task
invariant-loop-task l =
    l.page ++ yields (map task_node (map (λ t. map string_bytes t.items) (drop l.task-index l.tasks))) ≡ l.initial.page ++ yields (map task_node (map (λ t. map string_bytes t.items) l.tasks))
