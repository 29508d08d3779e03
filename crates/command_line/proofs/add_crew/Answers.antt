use Rattle.std.proofs.Common.{◌≡◌}
use Rattle.clap.specs.declared.builder.value_parser.ValueParser.TheVariants.{Unsigned}
use Rattle.command_line.proofs.add_crew.Goals as goal

pub returns : goal.returns
returns c app before =
    let workers : c.range-workers.result ≡ Unsigned 1 64 = rw c.value_parser.ensures at c.range-workers.ensures in
    let budgets : c.range-budgets.result ≡ Unsigned 1 65535 = rw c.value_parser-2.ensures at c.range-budgets.ensures in
    let windows : c.range-windows.result ≡ Unsigned 1 65535 = rw c.value_parser-3.ensures at c.range-windows.ensures in
    let groups : c.range-groups.result ≡ Unsigned 1 64 = rw c.value_parser-4.ensures at c.range-groups.ensures in
    let one = c.add_number-command.ensures app before _ workers in
    let two = c.add_number-command-2.ensures _ one _ budgets in
    let three = c.add_optional-command.ensures _ two _ windows in
    c.add_flag.ensures _ (c.add_optional-command-2.ensures _ three _ groups)
