use Rattle.virtual_time.proofs.Undone.{back, again, answered_back, all_answered}
use Rattle.virtual_time.proofs.rolling_back.inverse_law.Goals as goal

pub returns-clause-back : goal.returns-clause-back
returns-clause-back g c machine w i e js law is at are = back machine law i e js w is at are

pub returns-clause-again : goal.returns-clause-again
returns-clause-again g c machine w i e es js law is at are = again machine law i e es js w is at are

pub returns-clause-answered : goal.returns-clause-answered
returns-clause-answered g c machine count w v i k e js replies law is at are runs = answered_back machine law count i k e js replies w v is at are runs

pub returns-clause-met : goal.returns-clause-met
returns-clause-met g c machine count w i e js law is l at are = all_answered machine law count i e js w is l at are
