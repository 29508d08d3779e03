use Rattle.std.proofs.Common.{◌≡◌}
use Rattle.clap.specs.declared.builder.value_parser.ValueParser.TheVariants.{Unsigned}
use Rattle.command_line.proofs.drawing.add_ticks.Goals as goal

pub returns : goal.returns
returns c app before =
    let all : c.range-all.result ≡ Unsigned 0 4294967296 = rw c.value_parser.ensures at c.range-all.ensures in
    let one = c.add_number-command.ensures app before _ all in
    c.add_number.ensures _ one _ all
