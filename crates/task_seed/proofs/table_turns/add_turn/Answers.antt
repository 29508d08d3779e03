use Rattle.std.proofs.Common.{arith}
use Rattle.task_seed.proofs.Judged.{added}
use Rattle.task_seed.proofs.table_turns.add_turn.Goals as goal

pub returns-clause-added : goal.returns-clause-added
returns-clause-added c i =
    added c.args.lists.now.items c.args.row.now c.index_mut.result.now c.push.new.self c.index_mut.result.now (omega (arith, c.requires)) c.index_mut.ensures.value c.in_ok-push.ensures.items i
