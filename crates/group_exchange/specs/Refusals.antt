-- The numbers of the refusals.
use Rattle.std.specs.Prelude.{ℕ}
use Rattle.group_exchange.specs.declared.judging.MeetRefused.{MeetRefused}
use Rattle.group_exchange.specs.declared.judging.MeetRefused.TheVariants.{NoMemory, OtherSetup, Stranger}

-- the number of a refused meeting
abbrev pub meet_number : MeetRefused → ℕ
meet_number NoMemory = 1
meet_number OtherSetup = 40
meet_number Stranger = 41
