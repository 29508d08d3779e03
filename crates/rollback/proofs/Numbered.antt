-- The own turns that are done, by the number of the next one.
use Rattle.std.proofs.Common.{◌≡◌, ℕ, ◌+◌, ◌-◌, true, Option, None, Some, List, [], ◌∷◌, refl, ap, sym, ◌∙◌, arith}
use Rattle.std.specs.Prelude.{nat_lt}
use Rattle.virtual_time.specs.Entries.{Entry, Input, Own, number}
use Rattle.virtual_time.specs.Exchange.Windows.{own_turns}
use Rattle.rollback.specs.ComponentView.{is_receiving}
use Rattle.rollback.specs.Room.{has_room}

-- the next turn's number is that of the first and one more for each own turn
pub counted : {A : Type 0} (n : ℕ) (es : List (Entry A)) → number n es ≡ n + own_turns es
counted n [] = omega arith
counted n (Own k o ∷ es) = let h = counted n es in omega arith
counted n (Input x ∷ es) = counted n es

-- an input has room
pub input_room : {A : Type 0} (window : ℕ) (done : List (Entry A)) (next : Option (Entry A)) → is_receiving next ≡ true → has_room window done next ≡ true
input_room window done None h = cc
input_room window done (Some (Own k o)) h = cc
input_room window done (Some (Input x)) h = refl

-- so has an own turn whose number is less than so many above the first one's
pub turn_room : {A : Type 0} (window first n k : ℕ) (o : Option A) (done : List (Entry A)) (next : Option (Entry A)) → n ≡ number first done → next ≡ Some (Own k o)
    → nat_lt (n - first) window ≡ has_room window done next
turn_room window first n k o done next is there =
    let c = counted first done in
    let less : n - first ≡ own_turns done = omega (arith, is, c) in
    ap (λ m. nat_lt m window) less ∙ sym (ap (has_room window done) there)
