-- Rules of the command line's arguments and options, and what stands for them.
use Rattle.std.specs.Prelude.{◌≡◌, ◌≤◌, ◌↔◌, ℕ, Bool, Option, None, Some, true, List, [], ◌∷◌, codes}
use Rattle.std.specs.Str.Parse.{IsNumeral, digits_value, without_leading_plus}
use Rattle.clap.specs.Words.{App, Row, Rule, Text, first_of, new_app, new_rule, one_of, with_rule}
use Rattle.clap.specs.declared.builder.action.ArgAction.TheVariants.{SetTrue}
use Rattle.clap.specs.declared.builder.value_parser.ValueParser.{ValueParser}
use Rattle.clap.specs.declared.builder.value_parser.ValueParser.TheVariants.{Unsigned}

-- a file that has to be named
abbrev pub file_rule : Text → Rule
file_rule name = record (new_rule name) { required = true }

-- a subcommand of one file
abbrev pub of_file : Text → Text → App
of_file name file = with_rule (new_app name) (file_rule file)

-- what is entered by its name behind two dashes
abbrev pub long_rule : Text → Rule
long_rule name = record (new_rule name) { long = Some name }

-- a number with a default
abbrev pub number_rule : Text → Text → ValueParser → Rule
number_rule name default parser = record (long_rule name) { defaults = default ∷ []; parser = Some parser }

-- a number that may be left out
abbrev pub optional_rule : Text → ValueParser → Rule
optional_rule name parser = record (long_rule name) { parser = Some parser }

-- an option that names a file
abbrev pub option_rule : Text → Rule
option_rule name = record (long_rule name) { value_names = 1 }

-- what is asked for by its name alone
abbrev pub flag_rule : Text → Rule
flag_rule name = record (long_rule name) { action = Some SetTrue }

abbrev pub whole : ValueParser
whole = Unsigned 0 18446744073709551615

-- a subcommand that draws turns from seeds
abbrev pub drawn : App → App
drawn app =
    with_rule (with_rule (with_rule (with_rule app
    (number_rule (codes "stream") (codes "0") whole))
    (number_rule (codes "gap") (codes "8") (Unsigned 1 65535)))
    (flag_rule (codes "from-zero")))
    (number_rule (codes "ticks") (codes "1000") (Unsigned 0 4294967296))

-- the number that stands for an option, within a range
pub record IsNumber (rows : List Row) (option : Text) (least most n : ℕ) : Type 0 where
  pub text : Text
  pub given : one_of option rows ≡ Some text
  pub numeral : IsNumeral 10 (without_leading_plus text)
  pub value : n ≡ digits_value 10 (without_leading_plus text)
  pub above : least ≤ n
  pub below : n ≤ most

-- the number that was entered for an option, within a range, or none where none was
abbrev pub IsChosen : List Row → Text → ℕ → ℕ → Option ℕ → Type 0
IsChosen rows option least most None = first_of option rows ≡ None
IsChosen rows option least most (Some n) = IsNumber rows option least most n

-- whether a flag was set
abbrev pub IsFlag : Option Text → Bool → Type 0
IsFlag text set = (text ≡ Some (codes "true")) ↔ (set ≡ true)
