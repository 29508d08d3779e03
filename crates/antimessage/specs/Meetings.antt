-- Where all messages have met their antimessages.
use Rattle.std.specs.Prelude.{◌≡◌, ℕ, ◌+◌, ◌-◌, ◌*◌, ◌^◌, min, Bool, true, false, ◌&&◌, List, [], ◌∷◌, length}
use Rattle.event_keys.specs.declared.message.Sign.{Sign}
use Rattle.event_keys.specs.declared.message.Sign.TheVariants.{Plus, Minus}
use Rattle.event_keys.specs.declared.message.Message.{Message}
use Rattle.event_keys.specs.declared.message.Signed.{Signed}
use Rattle.antimessage.specs.Counts.{is_same, plus, minus, count}

-- of each message, what is left is the difference, on the side that had more
pub record IsAllMet (old new : List Signed) : Type 0 where
  pub pluses : (m : Message) → count (plus m) new ≡ count (plus m) old - count (minus m) old
  pub minuses : (m : Message) → count (minus m) new ≡ count (minus m) old - count (plus m) old

-- of each message as many are gone as there are antimessages of it among the others, where there were so many; antimessages stay
pub record IsCancelled (others old new : List Signed) : Type 0 where
  pub pluses : (m : Message) → count (plus m) new ≡ count (plus m) old - count (minus m) others
  pub minuses : (m : Message) → count (minus m) new ≡ count (minus m) old

-- the number of the pairs that left, up to the greatest u64
pub record IsPairCount (old new : List Signed) (answer : ℕ) : Type 0 where
  pub pairs : ℕ
  pub left : length old ≡ length new + 2 * pairs
  pub is : answer ≡ min pairs (2 ^ 64 - 1)

-- whether it is the sign of an antimessage
abbrev pub is_minus : Sign → Bool
is_minus Plus = false
is_minus Minus = true

-- whether the last before the cursor and the first after it are a message and its antimessage
abbrev pub can_meet : List Signed → List Signed → Bool
can_meet [] after = false
can_meet (x ∷ before) [] = false
can_meet (x ∷ before) (y ∷ after) = is_same x (plus y.message) && is_minus y.sign
