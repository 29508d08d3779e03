use Rattle.std.proofs.Common.{◌≡◌, ◌⊎◌, inl, inr, ℕ, ◌+◌, ◌<◌, List, [], ◌∷◌, Bool, true, false, length, take, Some, refl, ◌∙◌, sym, slice_get}
use Rattle.std.specs.Prelude.{slice_index}
use Rattle.undo_records.specs.States.{States}
use Rattle.io_automata.specs.Receivers.{IsIn}
use Rattle.plans.specs.Memos.{IsBlank}
use Rattle.plans.specs.declared.memo.Memo.{Memo}
use Rattle.reference.specs.Memos.{IsStill}
use Rattle.reference.proofs.Woken.{in_next}
use Rattle.reference.proofs.memos.forget_touched.Goals as goal

-- of components that are one, or among some, what is known is true of their states, and so it is of one more
one_more : (i n k : ℕ) (among : List ℕ) (states : List States) (olds nows news : List Memo) → k < length among → n ≡ slice_index among k
    → ((j : ℕ) (memo : Memo) → slice_get nows j ≡ Some memo → IsBlank memo ⊎ ((slice_get olds j ≡ Some memo) × ((j ≡ i) ⊎ (IsIn j (take k among) ≡ true) → IsStill states j)))
    → ((j : ℕ) (memo : Memo) → slice_get news j ≡ Some memo → IsBlank memo ⊎ ((slice_get nows j ≡ Some memo) × (j ≡ n → IsStill states j)))
    → (j : ℕ) (memo : Memo) → slice_get news j ≡ Some memo → IsBlank memo ⊎ ((slice_get olds j ≡ Some memo) × ((j ≡ i) ⊎ (IsIn j (take (k + 1) among) ≡ true) → IsStill states j))
one_more i n k among states olds nows news within n_is before now j memo at = go (now j memo at) where
  go : IsBlank memo ⊎ ((slice_get nows j ≡ Some memo) × (j ≡ n → IsStill states j)) → IsBlank memo ⊎ ((slice_get olds j ≡ Some memo) × ((j ≡ i) ⊎ (IsIn j (take (k + 1) among) ≡ true) → IsStill states j))
  go (inl blank) = inl blank
  go (inr kept) = by (before j memo kept.0) where
    by : IsBlank memo ⊎ ((slice_get olds j ≡ Some memo) × ((j ≡ i) ⊎ (IsIn j (take k among) ≡ true) → IsStill states j)) → IsBlank memo ⊎ ((slice_get olds j ≡ Some memo) × ((j ≡ i) ⊎ (IsIn j (take (k + 1) among) ≡ true) → IsStill states j))
    by (inl blank) = inl blank
    by (inr was) = inr (was.0, takes) where
      last : (IsIn j (take k among) ≡ true) ⊎ (j ≡ slice_index among k) → IsStill states j
      last (inl earlier) = was.1 (inr earlier)
      last (inr same) = kept.1 (same ∙ sym n_is)

      takes : (j ≡ i) ⊎ (IsIn j (take (k + 1) among) ≡ true) → IsStill states j
      takes (inl own) = was.1 (inl own)
      takes (inr there) = last (in_next j among k within there)

pub loop-j-init : goal.loop-j-init
loop-j-init c = record { many = c.forget_if_touched.ensures.many; each = λ j memo at. go j memo (c.forget_if_touched.ensures.each j memo at) } where
  go : (j : ℕ) (memo : Memo) → IsBlank memo ⊎ ((slice_get c.args.memos.now j ≡ Some memo) × (j ≡ c.args.i → IsStill c.args.states.now j))
      → IsBlank memo ⊎ ((slice_get c.args.memos.now j ≡ Some memo) × ((j ≡ c.args.i) ⊎ (IsIn j (take 0 c.args.among.now) ≡ true) → IsStill c.args.states.now j))
  go j memo (inl blank) = inl blank
  go j memo (inr kept) = inr (kept.0, takes) where
    none : (among : List ℕ) → IsIn j (take 0 among) ≡ true → IsStill c.args.states.now j
    none [] there = let both : ◌≡◌ {A = Bool} false true = there in cc
    none (k ∷ among) there = let both : ◌≡◌ {A = Bool} false true = there in cc

    takes : (j ≡ c.args.i) ⊎ (IsIn j (take 0 c.args.among.now) ≡ true) → IsStill c.args.states.now j
    takes (inl own) = kept.1 own
    takes (inr there) = none c.args.among.now there

pub loop-j-preserved : goal.loop-j-preserved
loop-j-preserved c =
    record {
      many = c.forget_if_touched-in-loop-j.ensures.many ∙ c.loop-j.invariant.many;
      each = one_more c.args.i _ c.loop-j.j-index c.args.among.now c.args.states.now c.args.memos.now c.loop-j.memos c.forget_if_touched-in-loop-j.new.memos c.loop-j-test.true refl c.loop-j.invariant.each c.forget_if_touched-in-loop-j.ensures.each;
    }
