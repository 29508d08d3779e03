use Rattle.std.proofs.Common.{◌≡◌}
use Rattle.clap.specs.declared.builder.value_parser.ValueParser.TheVariants.{Unsigned}
use Rattle.command_line.proofs.hunting.add_hunters.Goals as goal

pub returns : goal.returns
returns c app before =
    let workers : c.range-workers.result ≡ Unsigned 1 64 = rw c.value_parser.ensures at c.range-workers.ensures in
    let one = c.add_number-command.ensures app before _ workers in
    c.add_flag.ensures _ (c.add_flag-command.ensures _ one)
