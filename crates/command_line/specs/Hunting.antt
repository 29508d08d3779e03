-- What the words ask of a hunt.
use Rattle.std.specs.Prelude.{◌≡◌, ◌≤◌, ◌<◌, ◌++◌, ◌∷◌, [], Option, Some, List, codes}
use Rattle.std.specs.Fmt.{decimal}
use Rattle.clap.specs.Words.{App, Row, Rule, Text, first_of, new_rule, with_rule}
use Rattle.clap.specs.declared.builder.value_parser.ValueParser.TheVariants.{Unsigned}
use Rattle.command_line.specs.declared.hunting.Hunting.{Hunting}
use Rattle.command_line.specs.declared.seeds.Seeds.{Seeds}
use Rattle.command_line.specs.Rules.{IsFlag, IsNumber, drawn, file_rule, flag_rule, number_rule, of_file}

-- a range of seeds, with its default
abbrev pub seeds_rule : Rule
seeds_rule = record (new_rule (codes "seeds")) {
  long = Some (codes "seeds");
  defaults = codes "1..1000" ∷ [];
  value_names = 1;
}

-- a subcommand that draws turns from a range of seeds
abbrev pub sown : App → App
sown app = drawn (with_rule app seeds_rule)

-- a subcommand that hunts
abbrev pub hunting : App → App
hunting app =
    with_rule (with_rule (with_rule app
    (number_rule (codes "workers") (codes "2") (Unsigned 1 64)))
    (flag_rule (codes "count")))
    (flag_rule (codes "progress"))

abbrev pub hunt_app : App
hunt_app =
    hunting (sown (with_rule (of_file (codes "hunt") (codes "F")) (file_rule (codes "ACTION"))))

-- the text is that of the range: two numbers with two dots between them, the first not above the
-- last
pub record IsRange (text : Text) (seeds : Seeds) : Type 0 where
  pub is : text ≡ decimal seeds.first ++ (46 ∷ 46 ∷ decimal seeds.last)
  pub rises : seeds.first ≤ seeds.last
  pub below : seeds.last < 18446744073709551615

-- the range as it was entered
pub record HasSeeds (rows : List Row) (seeds : Seeds) : Type 0 where
  pub text : Text
  pub given : first_of (codes "seeds") rows ≡ Some text
  pub spelled : IsRange text seeds

-- what is asked of a hunt as it was entered
pub record HasHunting (rows : List Row) (h : Hunting) : Type 0 where
  pub seeds : HasSeeds rows h.seeds
  pub stream : IsNumber rows (codes "stream") 0 18446744073709551615 h.stream
  pub gap : IsNumber rows (codes "gap") 1 65535 h.gap
  pub from_zero : IsFlag (first_of (codes "from-zero") rows) h.from_zero
  pub ticks : IsNumber rows (codes "ticks") 0 4294967296 h.ticks
  pub workers : IsNumber rows (codes "workers") 1 64 h.workers
  pub count : IsFlag (first_of (codes "count") rows) h.count
  pub progress : IsFlag (first_of (codes "progress") rows) h.progress

-- what was entered is this subcommand, with this file, this action and this hunt
pub record Hunts (entered : Option (Text × List Row)) (source action : Text) (h : Hunting)
    : Type 0 where
  pub rows : List Row
  pub is : entered ≡ Some (codes "hunt", rows)
  pub source_given : first_of (codes "F") rows ≡ Some source
  pub action_given : first_of (codes "ACTION") rows ≡ Some action
  pub chosen : HasHunting rows h
