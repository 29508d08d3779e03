-- What the words ask of a diagram.
use Rattle.std.specs.Prelude.{List, codes}
use Rattle.clap.specs.Words.{App, Row, with_rule}
use Rattle.clap.specs.declared.builder.value_parser.ValueParser.TheVariants.{Unsigned}
use Rattle.command_line.specs.declared.ticks.Ticks.{Ticks}
use Rattle.command_line.specs.Rules.{IsNumber, number_rule}

-- a subcommand that draws between two ticks
abbrev pub ticked : App → App
ticked app =
    with_rule (with_rule app
    (number_rule (codes "from") (codes "0") (Unsigned 0 4294967296)))
    (number_rule (codes "to") (codes "4294967296") (Unsigned 0 4294967296))

-- the ticks as they were entered
pub record HasTicks (rows : List Row) (ticks : Ticks) : Type 0 where
  pub from : IsNumber rows (codes "from") 0 4294967296 ticks.from
  pub to : IsNumber rows (codes "to") 0 4294967296 ticks.to
