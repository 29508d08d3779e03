use Rattle.world.proofs.ThereAndBack.{by_meeting}
use Rattle.world.proofs.EachWay.{message_way, antimessage_way}
use Rattle.world.proofs.laws.ways_law.Goals as goal

pub returns-clause-meet : goal.returns-clause-meet
returns-clause-meet g c machine count j x w can = by_meeting machine count j x w can

pub returns-clause-message_first : goal.returns-clause-message_first
returns-clause-message_first g c machine count j x pairs w law reached low can are = message_way c.cited_theory.ensures machine law count j x pairs w reached low can are

pub returns-clause-antimessage_first : goal.returns-clause-antimessage_first
returns-clause-antimessage_first g c machine count j x pairs w law reached low can are = antimessage_way c.cited_theory.ensures machine law count j x pairs w reached low can are
