use Rattle.world.proofs.ThereAndBack.{leaves, message_second, antimessage_second, plain_message, plain_antimessage}
use Rattle.world.proofs.laws.leaving_law.Goals as goal

pub returns-clause-met : goal.returns-clause-met
returns-clause-met g c machine count j x w v steps replies law reached done h = leaves c.cited_theory.ensures machine law count j x w steps replies v reached done h

pub returns-clause-message_first : goal.returns-clause-message_first
returns-clause-message_first g c machine count j x w v h = plain_message machine count j x w v h

pub returns-clause-antimessage_first : goal.returns-clause-antimessage_first
returns-clause-antimessage_first g c machine count j x w v h = plain_antimessage machine count j x w v h

pub returns-clause-second_antimessage : goal.returns-clause-second_antimessage
returns-clause-second_antimessage g c machine count k l j x w v law reached h = message_second c.cited_theory.ensures machine law count j x w v k l reached h

pub returns-clause-second_message : goal.returns-clause-second_message
returns-clause-second_message g c machine count k l j x w v law reached h = antimessage_second c.cited_theory.ensures machine law count j x w v k l reached h
