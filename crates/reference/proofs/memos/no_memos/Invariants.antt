use Rattle.std.proofs.Common.{◌≡◌, ℕ, length, Some, slice_get}
use Rattle.plans.specs.Memos.{IsBlank}
use Rattle.plans.specs.declared.memo.Memo.{Memo}
use Rattle.reference.proofs.memos.no_memos.Given as goal

abbrev pub invariant-loop-i : goal.invariant-loop-i
invariant-loop-i l = record {
  many : length l.memos.items ≡ l._i;
  blank : (j : ℕ) (memo : Memo) → slice_get l.memos.items j ≡ Some memo → IsBlank memo;
}
