-- The files about which the words ask.
use Rattle.std.specs.Prelude.{ℕ, None, Some, List}
use Rattle.std.specs.Borrow.{Bor}
use Rattle.command_line.specs.declared.Asked.{Asked}
use Rattle.command_line.specs.declared.Asked.TheVariants as asked
use Rattle.command_line.specs.declared.Options.{Options}
use Rattle.commands.specs.declared.explaining.Subject.{Subject}

-- a source and no other file
abbrev pub alone : Bor (List ℕ) → Subject
alone source = record { source = source; table = None; steps = None; actions = None }

-- a source with the table of turns, if there is one
abbrev pub with_table : Bor (List ℕ) → Options → Subject
with_table source options = record (alone source) { table = options.table }

abbrev pub subject_of : Asked → Subject
subject_of (asked.Print source) = alone source
subject_of (asked.Format source check) = alone source
subject_of (asked.Reference source options) = with_table source options
subject_of (asked.Run source options crew) = with_table source options
subject_of (asked.Check source trace) = record (alone source) { actions = Some trace }
subject_of (asked.Drive source steps options) = record (with_table source options) { steps = Some steps }
subject_of (asked.Explain source table steps actions) = record { source = source; table = table; steps = steps; actions = actions }
subject_of (asked.Hunt source action hunting) = alone source
subject_of (asked.Draw source options ticks) = with_table source options
