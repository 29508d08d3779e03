-- What is known where nothing is, and where the state is the same.
use Rattle.std.proofs.Common.{◌≡◌, ℕ, Some, List, ap, sym, ◌∙◌}
use Rattle.std.specs.Prelude.{slice_get}
use Rattle.terms.specs.Datum.{Datum}
use Rattle.io_automata.specs.Automata.{Instance}
use Rattle.plans.specs.Memos.{IsBlank, IsKept, IsMemo}
use Rattle.plans.specs.RestingLaws.{woken_resting}
use Rattle.plans.specs.declared.memo.Kept.{Kept}
use Rattle.plans.specs.declared.memo.Memo.{Memo}

-- where nothing is known, nothing is wrong
pub blank_memo : (c : List Instance) (i : ℕ) (state : List Datum) (memo : Memo) → IsBlank memo → IsMemo c i state memo
blank_memo c i state memo blank = record { resting = woken_resting c i state memo.resting blank.resting; kept = none } where
  none : (k : ℕ) (kept : Kept) → slice_get memo.kept.items k ≡ Some kept → IsKept c i state kept
  none k kept at = let gone = sym (ap (λ xs. slice_get xs k) blank.kept) ∙ at in cc
