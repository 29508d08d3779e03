-- What the words of the command line ask for, as `clap` reads them.
use Rattle.std.specs.Prelude.{◌≡◌, ◌≢◌, ◌⊎◌, ℕ, Bool as Truth, Option, None, Some, true, false, List, [], codes, option_map}
use Rattle.clap.specs.Words.{App, IsAmong, Row, Text, fault_of, first_of, new_app, subcommand_of, with_rule, with_subcommand}
use Rattle.clap.specs.declared.builder.value_parser.ValueParser.TheVariants.{Unsigned}
use Rattle.clap.specs.declared.error.ErrorKind.{ErrorKind}
use Rattle.clap.specs.declared.error.ErrorKind.TheVariants as error
use Rattle.command_line.specs.Drawing.{HasTicks, ticked}
use Rattle.command_line.specs.Hunting.{Hunts, hunt_app}
use Rattle.command_line.specs.Rules.{IsChosen, IsFlag, IsNumber, drawn, file_rule, flag_rule, number_rule, of_file, option_rule, optional_rule, whole}
use Rattle.command_line.specs.declared.Asked.{Asked}
use Rattle.command_line.specs.declared.Asked.TheVariants as asked
use Rattle.command_line.specs.declared.crew.Crew.{Crew}
use Rattle.command_line.specs.declared.ticks.Ticks.{Ticks}
use Rattle.command_line.specs.declared.Options.{Options}
use Rattle.command_line.specs.declared.Refused.{Refused}
use Rattle.command_line.specs.declared.Refused.TheVariants as refused

-- the program: one of its subcommands has to be named, or its version asked for, and the words begin after the program's name
abbrev pub bare : App
bare = record (new_app (codes "warp")) { top = record (new_app (codes "warp")).top { no_binary_name = true; subcommand_required = true; has_version = true } }

-- name, version and toolchain
abbrev pub version_text : List ℕ
version_text = codes "warp 0.1.0\nproved with Rattle, logic dac8208d650f15bf\n"

abbrev pub print_app : App
print_app = of_file (codes "print") (codes "F")

abbrev pub format_app : App
format_app = with_rule (of_file (codes "format") (codes "F")) (flag_rule (codes "check"))

-- a subcommand that takes turns of a seed or of a table
abbrev pub turned : App → App
turned app = with_rule (drawn (with_rule app (number_rule (codes "seed") (codes "1") whole))) (option_rule (codes "table"))

-- a subcommand that simulates or drives
abbrev pub simulating : App → App
simulating app =
    with_rule (with_rule (with_rule (turned app)
    (flag_rule (codes "trace")))
    (flag_rule (codes "head")))
    (flag_rule (codes "progress"))

abbrev pub reference_app : App
reference_app = simulating (of_file (codes "reference") (codes "F"))

-- a subcommand that workers carry out
abbrev pub manned : App → App
manned app =
    with_rule (with_rule (with_rule (with_rule (with_rule app
    (number_rule (codes "workers") (codes "2") (Unsigned 1 64)))
    (number_rule (codes "budget") (codes "64") (Unsigned 1 65535)))
    (optional_rule (codes "window") (Unsigned 1 65535)))
    (optional_rule (codes "groups") (Unsigned 1 64)))
    (flag_rule (codes "stats"))

abbrev pub run_app : App
run_app = manned (simulating (of_file (codes "run") (codes "F")))

abbrev pub check_app : App
check_app = with_rule (of_file (codes "check") (codes "F")) (file_rule (codes "TRACE"))

abbrev pub drive_app : App
drive_app = simulating (with_rule (of_file (codes "drive") (codes "F")) (file_rule (codes "STEPS")))

-- a subcommand that judges further files
abbrev pub judging : App → App
judging app =
    with_rule (with_rule (with_rule app (option_rule (codes "table"))) (option_rule (codes "steps")))
    (option_rule (codes "actions"))

abbrev pub explain_app : App
explain_app = judging (of_file (codes "explain") (codes "F"))

abbrev pub draw_app : App
draw_app = ticked (turned (of_file (codes "draw") (codes "F")))

abbrev pub warp : App
warp =
    with_subcommand (with_subcommand (with_subcommand (with_subcommand (with_subcommand (with_subcommand (with_subcommand (with_subcommand (with_subcommand bare print_app.top) format_app.top) reference_app.top) run_app.top) check_app.top)
    drive_app.top)
    explain_app.top)
    hunt_app.top)
    draw_app.top

-- the turns as they were entered, or else as they are where they aren't
pub record HasTurns (rows : List Row) (options : Options) : Type 0 where
  pub seed : IsNumber rows (codes "seed") 0 18446744073709551615 options.seed
  pub stream : IsNumber rows (codes "stream") 0 18446744073709551615 options.stream
  pub gap : IsNumber rows (codes "gap") 1 65535 options.gap
  pub from_zero : IsFlag (first_of (codes "from-zero") rows) options.from_zero
  pub ticks : IsNumber rows (codes "ticks") 0 4294967296 options.ticks
  pub table : option_map (λ s. s.now) options.table ≡ first_of (codes "table") rows

-- all turns are written, with no head, and nothing is told
abbrev pub IsPlain : Options → Type 0
IsPlain options = (options.trace ≡ false) × (options.head ≡ false) × (options.progress ≡ false)

-- the options as they were entered
pub record HasOptions (rows : List Row) (options : Options) : Type 0 where
  pub turns : HasTurns rows options
  pub trace : IsFlag (first_of (codes "trace") rows) options.trace
  pub head : IsFlag (first_of (codes "head") rows) options.head
  pub progress : IsFlag (first_of (codes "progress") rows) options.progress

-- the workers, how far each runs ahead, their window, their groups, and whether they tell what they did, as they were entered
pub record HasCrew (rows : List Row) (crew : Crew) : Type 0 where
  pub workers : IsNumber rows (codes "workers") 1 64 crew.workers
  pub budget : IsNumber rows (codes "budget") 1 65535 crew.budget
  pub window : IsChosen rows (codes "window") 1 65535 crew.window
  pub groups : IsChosen rows (codes "groups") 1 64 crew.groups
  pub stats : IsFlag (first_of (codes "stats") rows) crew.stats

-- what was entered is this subcommand, with this file and these options
pub record Simulates (entered : Option (Text × List Row)) (subcommand source : Text) (options : Options) : Type 0 where
  pub rows : List Row
  pub is : entered ≡ Some (subcommand, rows)
  pub given : first_of (codes "F") rows ≡ Some source
  pub chosen : HasOptions rows options

-- what was entered is this subcommand, with this file, these options and these workers
pub record SimulatesByWorkers (entered : Option (Text × List Row)) (subcommand source : Text) (options : Options) (workers : Crew) : Type 0 where
  pub rows : List Row
  pub is : entered ≡ Some (subcommand, rows)
  pub given : first_of (codes "F") rows ≡ Some source
  pub chosen : HasOptions rows options
  pub crew : HasCrew rows workers

-- what was entered is this subcommand, with these two files and these options
pub record Drives (entered : Option (Text × List Row)) (subcommand source steps : Text) (options : Options) : Type 0 where
  pub rows : List Row
  pub is : entered ≡ Some (subcommand, rows)
  pub source_given : first_of (codes "F") rows ≡ Some source
  pub steps_given : first_of (codes "STEPS") rows ≡ Some steps
  pub chosen : HasOptions rows options

-- what was entered is this subcommand, with these two files
pub record NamesBoth (entered : Option (Text × List Row)) (subcommand first second first_file second_file : Text) : Type 0 where
  pub rows : List Row
  pub is : entered ≡ Some (subcommand, rows)
  pub first_given : first_of first rows ≡ Some first_file
  pub second_given : first_of second rows ≡ Some second_file

-- what was entered is this subcommand, with this file, these turns and these ticks
pub record Draws (entered : Option (Text × List Row)) (source : Text) (options : Options) (between : Ticks) : Type 0 where
  pub rows : List Row
  pub is : entered ≡ Some (codes "draw", rows)
  pub given : first_of (codes "F") rows ≡ Some source
  pub chosen : HasTurns rows options
  pub plain : IsPlain options
  pub ticks : HasTicks rows between

-- what was entered is this subcommand, and this is its file
pub record Names (entered : Option (Text × List Row)) (subcommand argument file : Text) : Type 0 where
  pub rows : List Row
  pub is : entered ≡ Some (subcommand, rows)
  pub given : first_of argument rows ≡ Some file

-- what was entered is `format`, with this file, and whether it is only asked about
pub record Formats (entered : Option (Text × List Row)) (source : Text) (check : Truth) : Type 0 where
  pub rows : List Row
  pub is : entered ≡ Some (codes "format", rows)
  pub given : first_of (codes "F") rows ≡ Some source
  pub checks : IsFlag (first_of (codes "check") rows) check

-- what was entered is `explain`, with this file, and these further files where they are named
pub record Explains (entered : Option (Text × List Row)) (source : Text) (table steps actions : Option Text) : Type 0 where
  pub rows : List Row
  pub is : entered ≡ Some (codes "explain", rows)
  pub given : first_of (codes "F") rows ≡ Some source
  pub table_is : table ≡ first_of (codes "table") rows
  pub steps_is : steps ≡ first_of (codes "steps") rows
  pub actions_is : actions ≡ first_of (codes "actions") rows

abbrev pub IsNamed : Option (Text × List Row) → Asked → Type 0
IsNamed entered (asked.Print source) = Names entered (codes "print") (codes "F") source.now
IsNamed entered (asked.Format source check) = Formats entered source.now check
IsNamed entered (asked.Reference source options) = Simulates entered (codes "reference") source.now options
IsNamed entered (asked.Run source options crew) = SimulatesByWorkers entered (codes "run") source.now options crew
IsNamed entered (asked.Check source trace) = NamesBoth entered (codes "check") (codes "F") (codes "TRACE") source.now trace.now
IsNamed entered (asked.Drive source steps options) = Drives entered (codes "drive") source.now steps.now options
IsNamed entered (asked.Explain source table steps actions) =
    Explains entered source.now (option_map (λ s. s.now) table) (option_map (λ s. s.now) steps) (option_map (λ s. s.now) actions)
IsNamed entered (asked.Hunt source action hunting) = Hunts entered source.now action.now hunting
IsNamed entered (asked.Draw source options ticks) = Draws entered source.now options ticks

-- what was entered asks for this, or for nothing
abbrev pub IsAskedBy : Option (Text × List Row) → Option Asked → Type 0
IsAskedBy entered None = (a : Asked) → IsNamed entered a → ⊥
IsAskedBy entered (Some a) = IsNamed entered a

-- `clap` finds this fault in the words
abbrev pub HasFault : List Text → ErrorKind → Type 0
HasFault words kind = IsAmong kind (fault_of warp words)

-- the words are without fault, and name a subcommand with its files and options
abbrev pub IsAsked : List Text → Asked → Type 0
IsAsked words a = (fault_of warp words ≡ []) × IsNamed (subcommand_of warp words) a

-- a fault that is no call for help and no question for the version
pub record IsWrong (words : List Text) : Type 0 where
  pub kind : ErrorKind
  pub found : HasFault words kind
  pub no_help : kind ≢ error.DisplayHelp
  pub no_version : kind ≢ error.DisplayVersion

-- the words are without fault, and name no subcommand with its files and options
abbrev pub AskNothing : List Text → Type 0
AskNothing words = (fault_of warp words ≡ []) × ((a : Asked) → IsNamed (subcommand_of warp words) a → ⊥)

abbrev pub IsRefused : List Text → Refused → Type 0
IsRefused words refused.NoMemory = Unit {0}
IsRefused words (refused.Help e) = HasFault words error.DisplayHelp
IsRefused words refused.Version = HasFault words error.DisplayVersion
IsRefused words (refused.Words e) = IsWrong words ⊎ AskNothing words

-- how an error of this kind is told
abbrev pub IsTold : ErrorKind → Refused → Type 0
IsTold kind refused.NoMemory = kind ≡ error.OutOfMemory
IsTold kind (refused.Help e) = kind ≡ error.DisplayHelp
IsTold kind refused.Version = kind ≡ error.DisplayVersion
IsTold kind (refused.Words e) = (kind ≢ error.OutOfMemory) × ((kind ≢ error.DisplayHelp) × (kind ≢ error.DisplayVersion))
