-- The numbers of the refusals.
use Rattle.std.specs.Prelude.{ℕ}
use Rattle.exchange.specs.declared.judging.MeetRefused.{MeetRefused}
use Rattle.exchange.specs.declared.judging.MeetRefused.TheVariants.{OtherSetup, Stranger}

abbrev pub meet_number : MeetRefused → ℕ
meet_number OtherSetup = 40
meet_number Stranger = 41
