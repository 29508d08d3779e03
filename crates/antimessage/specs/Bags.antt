-- What the calls of a bag give and leave.
use Rattle.std.specs.Prelude.{ℕ, ◌==◌, ◌&&◌, not, Bool, false, List, [], ◌∷◌, filter, if◌then◌else◌, nat_lt}
use Rattle.std.specs.Ordering.{is_lt}
use Rattle.raw_events.specs.Around.{insert_sorted, without_where}
use Rattle.event_keys.specs.declared.key.Bound.{Bound}
use Rattle.event_keys.specs.declared.key.Bound.TheVariants.{At, End}
use Rattle.event_keys.specs.Orders.{bound_order}
use Rattle.event_keys.specs.declared.message.Message.{Message}
use Rattle.event_keys.specs.declared.message.Signed.{Signed}
use Rattle.antimessage.specs.Counts.{signed_cmp, is_same, plus, minus, count}

-- one more of x, in its place
abbrev pub insert : Signed → List Signed → List Signed
insert = insert_sorted signed_cmp

-- one more of each of these, in its place
abbrev pub insert_all : List Signed → List Signed → List Signed
insert_all [] bag = bag
insert_all (s ∷ more) bag = insert_all more (insert s bag)

-- whether it is sent to that component
abbrev pub is_to : ℕ → Signed → Bool
is_to to s = s.message.to == to

-- whether it equals x
abbrev pub is_one : Signed → Signed → Bool
is_one x s = is_same s x

-- one less of x
abbrev pub remove : Signed → List Signed → List Signed
remove x = without_where (is_one x)

-- whether a message and its antimessage are both there
abbrev pub has_pair : Message → List Signed → Bool
has_pair m bag = nat_lt 0 (count (plus m) bag) && nat_lt 0 (count (minus m) bag)

-- the bag after one message met its antimessage, where both were there
abbrev pub met : Message → List Signed → List Signed
met m bag = if has_pair m bag then remove (plus m) (remove (minus m) bag) else bag

-- the key of the first, or the end where there is none
abbrev pub least_of : List Signed → Bound
least_of [] = End
least_of (s ∷ bag) = At s.message.key

-- whether its key is below the bound
abbrev pub is_below : Bound → Signed → Bool
is_below bound s = is_lt (bound_order (At s.message.key) bound)

-- whether there is a first message, and its key is below the bound
abbrev pub first_is_below : Bound → List Signed → Bool
first_is_below bound [] = false
first_is_below bound (s ∷ bag) = is_below bound s

-- the messages whose keys are not below the bound
abbrev pub without_below : Bound → List Signed → List Signed
without_below bound = filter (λ s. not (is_below bound s))
