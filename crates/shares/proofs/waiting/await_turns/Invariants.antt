use Rattle.std.proofs.Common.{All, take}
use Rattle.shares.specs.Waiting.{IsWaited}
use Rattle.shares.proofs.waiting.await_turns.Given as goal

abbrev pub invariant-loop-i : goal.invariant-loop-i
invariant-loop-i l = All (IsWaited l.groups l.last l.own l.waits.items) (take l.i-index l.among)
