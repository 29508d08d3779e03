use Rattle.std.proofs.Common.{codes, rules}
use Rattle.clap.specs.Words.{found_of, rows_of}
use Rattle.command_line.proofs.Lacking.{named_so, without_name}
use Rattle.command_line.proofs.asked_as.Goals as goal

pub returns-then-eq-2 : goal.returns-then-eq-2
returns-then-eq-2 c =
    named_so (codes "format") c.args.name.now (rows_of (found_of c.args.found.now)) c.asked_format.result (search rules) c.asked_format.ensures

pub returns-then-eq-3 : goal.returns-then-eq-3
returns-then-eq-3 c =
    named_so (codes "reference") c.args.name.now (rows_of (found_of c.args.found.now)) c.asked_reference.result (search rules) c.asked_reference.ensures

pub returns-then-eq-4 : goal.returns-then-eq-4
returns-then-eq-4 c =
    named_so (codes "run") c.args.name.now (rows_of (found_of c.args.found.now)) c.asked_run.result (search rules) c.asked_run.ensures

pub returns-then-eq-5 : goal.returns-then-eq-5
returns-then-eq-5 c =
    named_so (codes "check") c.args.name.now (rows_of (found_of c.args.found.now)) c.asked_check.result (search rules) c.asked_check.ensures

pub returns-then-eq-6 : goal.returns-then-eq-6
returns-then-eq-6 c =
    named_so (codes "drive") c.args.name.now (rows_of (found_of c.args.found.now)) c.asked_drive.result (search rules) c.asked_drive.ensures

pub returns-then-eq-7 : goal.returns-then-eq-7
returns-then-eq-7 c =
    named_so (codes "explain") c.args.name.now (rows_of (found_of c.args.found.now)) c.asked_explain.result (search rules) c.asked_explain.ensures

pub returns-then-eq-8 : goal.returns-then-eq-8
returns-then-eq-8 c =
    named_so (codes "hunt") c.args.name.now (rows_of (found_of c.args.found.now)) c.asked_hunt.result (search rules) c.asked_hunt.ensures

pub returns-then-eq-9 : goal.returns-then-eq-9
returns-then-eq-9 c =
    named_so (codes "draw") c.args.name.now (rows_of (found_of c.args.found.now)) c.asked_draw.result (search rules) c.asked_draw.ensures

pub returns : goal.returns
returns c =
    without_name c.args.name.now (rows_of (found_of c.args.found.now))
    (search rules) (search rules) (search rules) (search rules) (search rules) (search rules) (search rules) (search rules) (search rules)
