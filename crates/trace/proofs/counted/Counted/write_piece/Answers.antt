use Rattle.trace.proofs.Pieces.{next_bytes, rest_is}
use Rattle.trace.proofs.counted.Counted.write_piece.Goals as goal

pub returns-in-Err-write_rest-clause-err : goal.returns-in-Err-write_rest-clause-err
returns-in-Err-write_rest-clause-err g c =
    next_bytes _ _ _ c.args.piece.now _ c.in-Ok.taken c.in-Err-write_rest.more (rest_is c.args.piece.now c.in-Ok.taken) c.in-Ok.ensures.bytes c.in-Err-write_rest.ensures.err
