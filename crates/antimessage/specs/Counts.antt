-- Sorted lists of signed messages, and how often each is there.
use Rattle.std.specs.Prelude.{◌≡◌, ℕ, ◌+◌, Bool, false, List, [], ◌∷◌, ⊤, if◌then◌else◌}
use Rattle.std.specs.declared.cmp.Ordering.{Ordering}
use Rattle.std.specs.Ordering.{is_gt}
use Rattle.event_keys.specs.declared.message.Message.{Message}
use Rattle.event_keys.specs.declared.message.Sign.TheVariants.{Plus, Minus}
use Rattle.event_keys.specs.declared.message.Signed.{Signed}
use Rattle.event_keys.specs.contracts.message.SignedOrd.TheImpl as signed_ord
use Rattle.event_keys.specs.contracts.message.SignedPartialEq.TheImpl as signed_eq

-- the order of signed messages
abbrev pub signed_cmp : Signed → Signed → Ordering
signed_cmp = signed_ord.ghosts.cmp

-- whether two signed messages are equal
abbrev pub is_same : Signed → Signed → Bool
is_same = signed_eq.ghosts.eq

-- a message as it was sent
abbrev pub plus : Message → Signed
plus m = record { message = m; sign = Plus }

-- the antimessage of a message
abbrev pub minus : Message → Signed
minus m = record { message = m; sign = Minus }

module _ {A : Type 0} where
  -- P holds of each item
  abbrev pub Each : (A → Type 0) → List A → Type 0
  Each P [] = ⊤
  Each P (x ∷ xs) = P x × Each P xs

  -- no item is greater than one after it
  abbrev pub IsRising : (A → A → Ordering) → List A → Type 0
  IsRising cmp [] = ⊤
  IsRising cmp (x ∷ xs) = Each (λ y. is_gt (cmp x y) ≡ false) xs × IsRising cmp xs

  -- how many items equal x
  abbrev pub count_equal : (A → A → Bool) → A → List A → ℕ
  count_equal eq x [] = 0
  count_equal eq x (y ∷ ys) = (if eq y x then 1 else 0) + count_equal eq x ys

-- no signed message stands after a greater one
abbrev pub IsSorted : List Signed → Type 0
IsSorted = IsRising signed_cmp

-- how often a signed message is there
abbrev pub count : Signed → List Signed → ℕ
count = count_equal is_same
