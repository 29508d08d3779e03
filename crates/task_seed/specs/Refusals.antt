-- The numbers and places of the refusals.
use Rattle.std.specs.Prelude.{ℕ, Option, None, Some}
use Rattle.task_seed.specs.declared.table.ReadTableError.{ReadTableError}
use Rattle.task_seed.specs.declared.table.ReadTableError.TheVariants as read
use Rattle.task_seed.specs.declared.seed_turns.SeedTurnsError.{SeedTurnsError}
use Rattle.task_seed.specs.declared.seed_turns.SeedTurnsError.TheVariants as seeds
use Rattle.task_seed.specs.declared.setup.SetupError.{SetupError}
use Rattle.task_seed.specs.declared.setup.SetupError.TheVariants as setup
use Rattle.task_seed.specs.declared.table_turns.TableTurnsError.{TableTurnsError}
use Rattle.task_seed.specs.declared.table_turns.TableTurnsError.TheVariants as turns

-- the number of a refused table
abbrev pub read_table_number : ReadTableError → ℕ
read_table_number read.NoMemory = 1
read_table_number (read.BadTable line) = 29

-- the line of a refused table
abbrev pub read_table_place : ReadTableError → Option ℕ
read_table_place read.NoMemory = None
read_table_place (read.BadTable line) = Some line

-- the number of refused rows
abbrev pub table_turns_number : TableTurnsError → ℕ
table_turns_number turns.NoMemory = 1
table_turns_number (turns.GapOutOfRange line) = 27
table_turns_number (turns.TaskOutOfRange line) = 28
table_turns_number (turns.NoSuchComponent line) = 30

-- the line of refused rows
abbrev pub table_turns_place : TableTurnsError → Option ℕ
table_turns_place turns.NoMemory = None
table_turns_place (turns.GapOutOfRange line) = Some line
table_turns_place (turns.TaskOutOfRange line) = Some line
table_turns_place (turns.NoSuchComponent line) = Some line

-- the number of a refused setup
abbrev pub setup_number : SetupError → ℕ
setup_number setup.NoMemory = 1
setup_number setup.HorizonTooLarge = 26

-- the number of refused turns of a seed
abbrev pub seed_turns_number : SeedTurnsError → ℕ
seed_turns_number seeds.NoMemory = 1
seed_turns_number seeds.GapOutOfRange = 27
