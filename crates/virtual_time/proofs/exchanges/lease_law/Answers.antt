use Rattle.virtual_time.proofs.Exchange.Leased.{alone_after, process_leased, message_leased, antimessage_leased}
use Rattle.virtual_time.proofs.exchanges.lease_law.Goals as goal

pub returns-clause-process : goal.returns-clause-process
returns-clause-process g c machine i l entry h = process_leased machine i l entry h

pub returns-clause-message : goal.returns-clause-message
returns-clause-message g c machine i l x = message_leased machine i l x

pub returns-clause-antimessage : goal.returns-clause-antimessage
returns-clause-antimessage g c machine i l x = antimessage_leased machine i l x

pub returns-clause-alone : goal.returns-clause-alone
returns-clause-alone g c machine i l r plus minus = alone_after machine i l r plus minus
