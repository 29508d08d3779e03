-- What holds of the list of a bag.
use Rattle.std.specs.Prelude.{◌<◌, ◌^◌, List}
use Rattle.event_keys.specs.declared.key.Key.{Key}
use Rattle.event_keys.specs.declared.message.Signed.{Signed}
use Rattle.antimessage.specs.Counts.{Each, IsSorted}

-- the numbers of a key fit their types
abbrev pub KeyFits : Key → Type 0
KeyFits key = (key.component < 2 ^ 16) × (key.number < 2 ^ 64) × (key.tick < 2 ^ 64)

abbrev pub Fits : Signed → Type 0
Fits s = KeyFits s.message.key

-- no message stands after a greater one, and the numbers of each key fit their types
pub record IsInOrder (bag : List Signed) : Type 0 where
  pub sorted : IsSorted bag
  pub fits : Each Fits bag
