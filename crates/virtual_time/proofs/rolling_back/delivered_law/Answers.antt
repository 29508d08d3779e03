use Rattle.std.proofs.Common.{List, ap, ◌∙◌, length}
use Rattle.virtual_time.specs.Entries.{Entry}
use Rattle.virtual_time.specs.Worlds.{meet}
use Rattle.virtual_time.specs.Inverses.{roll_backs}
use Rattle.virtual_time.proofs.Crossed.{message_back, antimessage_back, message_low, plus_of, message_steps, antimessage_steps}
use Rattle.virtual_time.proofs.rolling_back.delivered_law.Goals as goal

pub returns-clause-message_first : goal.returns-clause-message_first
returns-clause-message_first g c machine w j x law is can none =
    message_back machine law j x w is (message_low machine law j x w is (plus_of machine law j x w can))
    ∙ ap (λ (es : List (Entry g.row.A.Denot)). meet machine j x (roll_backs machine j (length es) w)) none

pub returns-clause-antimessage_first : goal.returns-clause-antimessage_first
returns-clause-antimessage_first g c machine w j x law is none =
    antimessage_back machine law j x w is ∙ ap (λ (es : List (Entry g.row.A.Denot)). meet machine j x (roll_backs machine j (length es) w)) none

pub returns-clause-message_back : goal.returns-clause-message_back
returns-clause-message_back g c machine count k l w v j x law is runs = message_steps machine law count k l j x w v is runs

pub returns-clause-antimessage_back : goal.returns-clause-antimessage_back
returns-clause-antimessage_back g c machine count k l w v j x law is runs = antimessage_steps machine law count k l j x w v is runs
