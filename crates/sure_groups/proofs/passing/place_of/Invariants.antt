use Rattle.std.proofs.Common.{◌<◌, take}
use Rattle.event_keys.specs.Ranks.{rank}
use Rattle.sure_groups.specs.declared.input.Input.{Input as Seen}
use Rattle.sure_groups.specs.Inputs.{IsOneOf}
use Rattle.sure_groups.proofs.passing.place_of.Given as goal

abbrev pub invariant-loop-at : goal.invariant-loop-at
invariant-loop-at l = (y : Seen) → IsOneOf (take l.at l.pending) y → rank l.key < rank y.key
