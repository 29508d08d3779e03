use Rattle.std.proofs.Common.{◌≤◌, ◌-◌, ◌∙◌, length, take, drop, arith, length-drop, ap}
use Rattle.trace.proofs.Pieces.{next_bytes, rest_is, same_failures}
use Rattle.trace.proofs.counted.Counted.write_rest.Goals as goal

pub loop-written-preserved : goal.loop-written-preserved
loop-written-preserved g c =
    let rest = rest_is c.args.piece.now c.loop-written.written in
    let bound : c.in-Ok.taken ≤ length (take (length c.args.piece.now - c.loop-written.written) (drop c.loop-written.written c.args.piece.now)) = c.in-Ok.ensures.bound in
    record {
      bytes = next_bytes _ _ _ c.args.piece.now _ c.loop-written.written c.in-Ok.taken rest c.loop-written.invariant.bytes c.in-Ok.ensures.bytes;
      failures = same_failures _ _ c.in-Ok.taken _ c.in-Ok.taken-test.1 c.in-Ok.ensures.failures ∙ c.loop-written.invariant.failures;
      within = omega (arith, bound, ap length rest, length-drop c.loop-written.written c.args.piece.now);
    }
