use Rattle.world.proofs.ThereAndBack.{there_and_back, by_meetings, reached_on}
use Rattle.world.proofs.SettingOut.{comes_back, meetings_set_out}
use Rattle.world.proofs.laws.there_and_back_law.Goals as goal

pub returns-clause-back : goal.returns-clause-back
returns-clause-back g c machine count i w v steps replies law reached h = there_and_back c.cited_theory.ensures machine law count i w steps replies v reached h

pub returns-clause-by_meetings : goal.returns-clause-by_meetings
returns-clause-by_meetings g c machine count i w e js law reached l at are = by_meetings c.cited_theory.ensures machine law count i w e js reached l at are

pub returns-clause-set_out : goal.returns-clause-set_out
returns-clause-set_out g c machine count i w v steps replies law counted reached out run = comes_back c.cited_theory.ensures machine law count counted i w steps replies v reached out run

pub returns-clause-meetings_set_out : goal.returns-clause-meetings_set_out
returns-clause-meetings_set_out g c machine i k w e js rest at are = meetings_set_out machine i k w e js rest at are

pub returns-clause-reached : goal.returns-clause-reached
returns-clause-reached g c machine count w v steps replies reached h = reached_on machine count w v steps replies reached h
