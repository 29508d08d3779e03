use Rattle.virtual_time.proofs.Groups.Leased.{alone_after, antimessage_leased, does_antimessage, does_both, does_meet, does_message, does_process, lease_is, meet_leased, message_leased, process_leased}
use Rattle.virtual_time.proofs.grouped.group_lease_law.Goals as goal

pub returns-clause-alone : goal.returns-clause-alone
returns-clause-alone g c machine group n i l r plus minus own = alone_after machine group n i own l r plus minus

pub returns-clause-process : goal.returns-clause-process
returns-clause-process g c machine group n i l entry own h = process_leased machine group n i own l entry h

pub returns-clause-message : goal.returns-clause-message
returns-clause-message g c machine group n i l x own = message_leased machine group n i own l x

pub returns-clause-antimessage : goal.returns-clause-antimessage
returns-clause-antimessage g c machine group n i l x own = antimessage_leased machine group n i own l x

pub returns-clause-meet : goal.returns-clause-meet
returns-clause-meet g c machine group n i l x own = meet_leased machine group n i own l x

pub returns-clause-does_process : goal.returns-clause-does_process
returns-clause-does_process g c machine group n i l entry own h = does_process machine group n i own l entry h

pub returns-clause-does_message : goal.returns-clause-does_message
returns-clause-does_message g c machine group n i l x own h = does_message machine group n i own l x h

pub returns-clause-does_antimessage : goal.returns-clause-does_antimessage
returns-clause-does_antimessage g c machine group n i l x own h = does_antimessage machine group n i own l x h

pub returns-clause-does_meet : goal.returns-clause-does_meet
returns-clause-does_meet g c machine group n i l x own p m = does_meet machine group n i own l x p m

pub returns-clause-does_both : goal.returns-clause-does_both
returns-clause-does_both g c machine group n ss ts u w v p q = does_both machine group n ss ts u w v p q

pub returns-clause-is : goal.returns-clause-is
returns-clause-is g c machine group n l l' floor rest plus minus = lease_is machine group n l l' floor rest plus minus
