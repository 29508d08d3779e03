use Rattle.std.proofs.Common.{refl}
use Rattle.command_line.specs.Words.{bare, print_app, format_app, reference_app, run_app, check_app, drive_app, explain_app, draw_app}
use Rattle.command_line.specs.Hunting.{hunt_app}
use Rattle.command_line.proofs.described.Goals as goal

pub returns : goal.returns
returns c =
    let one = c.add_subcommand-command.ensures bare print_app c.bare.ensures c.print.ensures refl in
    let two = c.add_subcommand-command-2.ensures _ format_app one c.format.ensures refl in
    let three = c.add_subcommand-command-3.ensures _ reference_app two c.reference.ensures refl in
    let four = c.add_subcommand-command-4.ensures _ run_app three c.run.ensures refl in
    let five = c.add_subcommand-command-5.ensures _ check_app four c.check.ensures refl in
    let six = c.add_subcommand-command-6.ensures _ drive_app five c.drive.ensures refl in
    let seven = c.add_subcommand-command-7.ensures _ explain_app six c.explain.ensures refl in
    let eight = c.add_subcommand-command-8.ensures _ hunt_app seven c.hunt.ensures refl in
    record { app = c.add_subcommand.ensures _ draw_app eight c.draw.ensures refl }
