use Rattle.virtual_time.proofs.Replied.{reached_kept, answer_kept, runs_more}
use Rattle.virtual_time.proofs.worlds.committed_is_reference.Goals as goal

pub returns-clause-committed : goal.returns-clause-committed
returns-clause-committed g c machine count w law reached = (reached_kept machine law count w reached).reference

pub returns-clause-sound : goal.returns-clause-sound
returns-clause-sound g c machine count w law reached = reached_kept machine law count w reached

pub returns-clause-kept : goal.returns-clause-kept
returns-clause-kept g c machine count w v step reply law is ans = answer_kept machine law count w step reply v is ans

pub returns-clause-stays : goal.returns-clause-stays
returns-clause-stays g c machine count w v steps replies runs = runs_more machine count w steps replies v runs
