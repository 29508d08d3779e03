use Rattle.std.proofs.Common.{◌++◌, ◌∷◌, []}
use Rattle.commands.proofs.Pieces.{on_cut}
use Rattle.commands.proofs.reasons.write_reason.Goals as goal

pub returns-clause-err : goal.returns-clause-err
returns-clause-err g c =
    on_cut c.write_end.new.err (c.args.reason.now ++ 10 ∷ []) c.write_end.result c.in_ok-write_text.ensures.ok c.write_end.ensures.err
