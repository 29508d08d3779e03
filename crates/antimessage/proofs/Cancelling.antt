-- Messages that leave for the antimessages of another bag.
use Rattle.std.proofs.Common.{◌≡◌, refl, sym, ◌∙◌, ap, ◌-◌, List, [], ◌∷◌, true, false, if◌then◌else◌, None, Some, arith}
use Rattle.event_keys.specs.declared.message.Message.{Message}
use Rattle.event_keys.specs.declared.message.Sign.TheVariants.{Minus}
use Rattle.event_keys.specs.declared.message.Signed.{Signed}
use Rattle.raw_events.specs.Around.{first_where}
use Rattle.antimessage.specs.Counts.{is_same, plus, minus, count}
use Rattle.antimessage.specs.Order.{IsInOrder}
use Rattle.antimessage.specs.Bags.{is_one, remove}
use Rattle.antimessage.specs.Meetings.{IsCancelled}
use Rattle.antimessage.proofs.Counting.{counted_left, counted_none, left_same, signed_decides}
use Rattle.antimessage.proofs.Meeting.{one_of, one_no, one_plus, one_each, unlike}
use Rattle.antimessage.proofs.Pairs.{taken_is}
use Rattle.antimessage.proofs.Sorted.{order_left}

-- one less of y, where it is there
count_removed : (x y : Signed) (bag : List Signed) → count x (remove y bag) ≡ count x bag - one_of y x
count_removed x y bag =
    (elim (first_where (is_one y) bag) as (λ o. first_where (is_one y) bag ≡ o → count x (remove y bag) ≡ count x bag - one_of y x) [
      | None ↦ λ e.
          let stays : count x (remove y bag) ≡ count x bag = ap (count x) (left_same is_same (is_one y) bag e) in
          (elim (is_same y x) as (λ b. is_same y x ≡ b → count x (remove y bag) ≡ count x bag - (if b then 1 else 0)) [
            | true ↦ λ s.
                let none : count x bag ≡ 0 = ap (λ w. count w bag) (sym ((signed_decides y x).0 s)) ∙ counted_none is_same y bag e in
                omega arith
            | false ↦ λ s. omega arith
          ]) refl
      | Some z ↦ λ e.
          let weight : one_of z x ≡ one_of y x = ap (λ w. one_of w x) (taken_is y z bag e) in
          omega (arith, weight, counted_left is_same (is_one y) x z bag e)
    ]) refl

-- where the walk over the others stands: what is left of them is still to leave
pub record IsCancelling (others left old now : List Signed) : Type 0 where
  pub order : IsInOrder now
  pub pluses : (m : Message) → count (plus m) now - count (minus m) left ≡ count (plus m) old - count (minus m) others
  pub minuses : (m : Message) → count (minus m) now ≡ count (minus m) old

pub cancelling_starts : (others old : List Signed) → IsInOrder old → IsCancelling others others old old
cancelling_starts others old o = record { order = o; pluses = λ m. refl; minuses = λ m. refl }

cancelled_one : (others left old now : List Signed) (k : Message) (x : Signed) → x ≡ minus k → IsCancelling others (x ∷ left) old now → IsCancelling others left old (remove (plus k) now)
cancelled_one others left old now k x e c = record {
  order = order_left (is_one (plus k)) now c.order;
  pluses = λ m.
      let weight : one_of x (minus m) ≡ one_of (plus k) (plus m) = ap (λ w. one_of w (minus m)) e ∙ sym (one_each k m) in
      omega (arith, weight, count_removed (plus m) (plus k) now, c.pluses m);
  minuses = λ m. omega (arith, one_plus k m, count_removed (minus m) (plus k) now, c.minuses m);
}

-- an antimessage takes one message
pub cancelling_takes : (others left old now : List Signed) (x : Signed) → x.sign ≡ Minus → IsCancelling others (x ∷ left) old now → IsCancelling others left old (remove (plus x.message) now)
cancelling_takes others left old now x e c = cancelled_one others left old now x.message x (λ i. record { message = x.message; sign = e i }) c

not_antimessage : (x : Signed) (m : Message) → (x.sign ≡ Minus → ⊥) → one_of x (minus m) ≡ 0
not_antimessage x m n = one_no x (minus m) (unlike x (minus m) (λ e. n (ap (λ (w : Signed). w.sign) e)))

-- a message takes none
pub cancelling_passes : (others left old now : List Signed) (x : Signed) → (x.sign ≡ Minus → ⊥) → IsCancelling others (x ∷ left) old now → IsCancelling others left old now
cancelling_passes others left old now x n c = record {
  order = c.order;
  pluses = λ m. omega (arith, not_antimessage x m n, c.pluses m);
  minuses = c.minuses;
}

pub cancelling_ends : (others old now : List Signed) → IsCancelling others [] old now → IsCancelled others old now
cancelling_ends others old now c = record { pluses = λ m. omega (arith, c.pluses m); minuses = c.minuses }
