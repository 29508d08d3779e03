use Rattle.std.proofs.Common.{◌++◌}
use Rattle.trace.specs.Heads.{head_text}
use Rattle.trace.specs.Lines.{text_of}
use Rattle.trace.specs.WrittenTurns.{actions_done, shown_turns}
use Rattle.trace.proofs.HeadBack.{head_read_back}
use Rattle.trace.proofs.OneVersion.{no_fault_of_file}
use Rattle.trace.proofs.laws.head_law.Goals as goal

pub returns-clause-read_back : goal.returns-clause-read_back
returns-clause-read_back c = head_read_back

pub returns-clause-in_order : goal.returns-clause-in_order
returns-clause-in_order c =
    λ plan lines turns error order fault. no_fault_of_file plan (head_text ++ text_of plan lines turns) (actions_done (shown_turns plan lines turns)) error (head_read_back plan lines turns order) fault
