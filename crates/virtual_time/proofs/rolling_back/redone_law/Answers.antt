use Rattle.virtual_time.proofs.Crossed.{message_redone, antimessage_redone, redone, redone_steps}
use Rattle.virtual_time.proofs.rolling_back.redone_law.Goals as goal

pub returns-clause-message_first : goal.returns-clause-message_first
returns-clause-message_first g c machine w v j x law is can h = message_redone machine law j x w v is can h

pub returns-clause-antimessage_first : goal.returns-clause-antimessage_first
returns-clause-antimessage_first g c machine w v j x law is can h = antimessage_redone machine law j x w v is can h

pub returns-clause-rolled_back : goal.returns-clause-rolled_back
returns-clause-rolled_back g c machine w v j es rest law is d h = redone machine law j es rest w v is d h

pub returns-clause-steps : goal.returns-clause-steps
returns-clause-steps g c machine count i sendings u v law all h = redone_steps machine law count i sendings u v all h
