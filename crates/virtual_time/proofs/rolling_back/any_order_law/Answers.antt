use Rattle.virtual_time.proofs.Ordered.{reached_ordered}
use Rattle.virtual_time.proofs.Repeated.{any_order, other_order, message_any, antimessage_any}
use Rattle.virtual_time.proofs.rolling_back.any_order_law.Goals as goal

pub returns-clause-ordered : goal.returns-clause-ordered
returns-clause-ordered g c machine count world law reached = reached_ordered machine law count world reached

pub returns-clause-rolled_back : goal.returns-clause-rolled_back
returns-clause-rolled_back g c machine i entries rest pairs world law is so d are = any_order machine law i entries rest pairs world is so d are

pub returns-clause-message_first : goal.returns-clause-message_first
returns-clause-message_first g c machine j message pairs world law is so can are = message_any machine law j message pairs world is so can are

pub returns-clause-antimessage_first : goal.returns-clause-antimessage_first
returns-clause-antimessage_first g c machine j message pairs world law is so can are = antimessage_any machine law j message pairs world is so can are

pub returns-clause-processed : goal.returns-clause-processed
returns-clause-processed g c machine i entries new_record pairs world law is so h are = other_order machine law i entries new_record pairs world is so h are
