-- What posting adds to a bag.
use Rattle.std.specs.Prelude.{◌≡◌, ℕ, List, [], ◌∷◌}
use Rattle.terms.specs.Named.{Named}
use Rattle.event_keys.specs.declared.key.Key.{Key}
use Rattle.event_keys.specs.declared.message.Sign.{Sign}
use Rattle.event_keys.specs.declared.message.Sign.TheVariants.{Plus, Minus}
use Rattle.event_keys.specs.declared.message.Signed.{Signed}
use Rattle.antimessage.specs.Bags.{insert}
use Rattle.virtual_time.specs.Entries.{Item}
use Rattle.rollback.specs.Flight.{in_flight}

-- the message of an action at a key to a component, with a sign
abbrev pub signed_to : Sign → Key → Named → ℕ → Signed
signed_to sign key action j = record { message = record { key = key; action = action; to = j }; sign = sign }

-- all posted, one after the other
abbrev pub post_all : List Signed → List Signed → List Signed
post_all [] bag = bag
post_all (x ∷ xs) bag = post_all xs (insert x bag)

abbrev pub opposite : Sign → Sign
opposite Plus = Minus
opposite Minus = Plus

-- the same message with the opposite sign
abbrev pub opposed : Signed → Signed
opposed s = record { message = s.message; sign = opposite s.sign }

-- what a bag gained: of this sign, to each component what the theory says; of the other sign nothing
pub record IsPosted (sign : Sign) (change : ℕ → List (Item Named) → List (Item Named)) (old new : List Signed) : Type 0 where
  pub there : (j : ℕ) → in_flight sign j new ≡ change j (in_flight sign j old)
  pub other : (j : ℕ) → in_flight (opposite sign) j new ≡ in_flight (opposite sign) j old
