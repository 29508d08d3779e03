use Rattle.std.proofs.Common.{◌≡◌, ◌⊎◌, ℕ, true, length, take, Some, slice_get}
use Rattle.io_automata.specs.Receivers.{IsIn}
use Rattle.plans.specs.Memos.{IsBlank}
use Rattle.plans.specs.declared.memo.Memo.{Memo}
use Rattle.reference.specs.Memos.{IsStill}
use Rattle.reference.proofs.memos.forget_touched.Given as goal

abbrev pub invariant-loop-j : goal.invariant-loop-j
invariant-loop-j l = record {
  many : length l.memos ≡ length l.fn.memos;
  each : (j : ℕ) (memo : Memo) → slice_get l.memos j ≡ Some memo
      → IsBlank memo ⊎ ((slice_get l.fn.memos j ≡ Some memo) × ((j ≡ l.i) ⊎ (IsIn j (take l.j-index l.among) ≡ true) → IsStill l.states j));
}
