use Rattle.virtual_time.proofs.Timed.{reached_silent, total, refused_stays, reached_answered}
use Rattle.virtual_time.proofs.worlds.each_step_is_answered.Goals as goal

pub returns-clause-answered : goal.returns-clause-answered
returns-clause-answered t c machine count w step law counted reached = total machine count counted w step (reached_silent machine count counted w reached)

pub returns-clause-refused : goal.returns-clause-refused
returns-clause-refused t c machine count refusal w v step ans = refused_stays machine count refusal w step v ans

pub returns-clause-reached : goal.returns-clause-reached
returns-clause-reached t c machine count world steps law counted h = reached_answered machine law count counted steps world h
