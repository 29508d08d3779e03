use Rattle.std.proofs.Common.{◌≡◌}
use Rattle.clap.specs.declared.builder.value_parser.ValueParser.TheVariants.{Unsigned}
use Rattle.command_line.proofs.add_draws.Goals as goal

pub returns : goal.returns
returns c app before =
    let gaps : c.range-gaps.result ≡ Unsigned 1 65535 = rw c.value_parser.ensures at c.range-gaps.ensures in
    let ticks : c.range-ticks.result ≡ Unsigned 0 4294967296 = rw c.value_parser-2.ensures at c.range-ticks.ensures in
    let one = c.add_number-command.ensures app before _ c.value_parser-whole.ensures in
    let two = c.add_number-command-2.ensures _ one _ gaps in
    c.add_number.ensures _ (c.add_flag-command.ensures _ two) _ ticks
