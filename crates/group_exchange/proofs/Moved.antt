-- Messages that move into an empty bag, and those that stand below a bound.
use Rattle.std.proofs.Common.{◌≡◌, true, true≢false, not, List, [], ◌∷◌, refl, sym, arith}
use Rattle.std.specs.Ordering.{is_lt}
use Rattle.event_keys.specs.declared.key.Bound.{Bound}
use Rattle.event_keys.specs.declared.key.Bound.TheVariants.{At, End}
use Rattle.event_keys.specs.declared.message.Signed.{Signed}
use Rattle.event_keys.specs.Orders.{bound_order}
use Rattle.raw_events.specs.Around.{is_nonempty}
use Rattle.antimessage.specs.Bags.{first_is_below, insert_all, least_of}
use Rattle.antimessage.specs.Order.{IsInOrder}
use Rattle.antimessage.proofs.Counting.{same_counts}
use Rattle.antimessage.proofs.Placed.{count_all, sorted_all}

pub moved_in : (from into : List Signed) → IsInOrder from → not (is_nonempty into) ≡ true → from ≡ insert_all from into
moved_in from [] order it =
    sym (same_counts (insert_all from []) from (sorted_all from [] tt) order.sorted (λ x. let all = count_all x from [] in omega (arith, all)))
moved_in from (x ∷ into) order it = absurd (true≢false (sym it))

pub empty_out : (into : List Signed) → not (is_nonempty into) ≡ true → into ≡ []
empty_out [] it = refl
empty_out (x ∷ into) it = absurd (true≢false (sym it))

pub least_below : (bound : Bound) (bag : List Signed) → is_lt (bound_order (least_of bag) bound) ≡ first_is_below bound bag
least_below (At key) [] = refl
least_below End [] = refl
least_below bound (x ∷ bag) = refl
