use Rattle.std.proofs.Common.{sym}
use Rattle.virtual_time.proofs.Cutting.{next_cut, after_cut, roll_back_cut, message_cut, antimessage_cut}
use Rattle.virtual_time.proofs.rolling_back.cut_law.Goals as goal

pub returns-clause-next : goal.returns-clause-next
returns-clause-next t c machine i b r law = next_cut machine law i b r

pub returns-clause-process : goal.returns-clause-process
returns-clause-process t c machine i b e r law l = sym (after_cut machine law i b e r l)

pub returns-clause-roll_back : goal.returns-clause-roll_back
returns-clause-roll_back t c machine i b e es r law d l = roll_back_cut machine law i b e es r d l

pub returns-clause-message : goal.returns-clause-message
returns-clause-message t c machine i b x r law l = message_cut machine law i b x r l

pub returns-clause-antimessage : goal.returns-clause-antimessage
returns-clause-antimessage t c machine i g b x r law d l = antimessage_cut machine law i b g x r d l
