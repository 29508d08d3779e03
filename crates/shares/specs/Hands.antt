-- What a dealer knows of the turns that were drawn, and what of them it has dealt.
use Rattle.std.specs.Prelude.{◌≡◌, ◌<◌, ◌≤◌, ℕ, Option, None, Some, List, [], All, length, slice_get}
use Rattle.std.specs.declared.vec.Vec.{Vec}
use Rattle.std.specs.Global.{Global}
use Rattle.terms.specs.Named.{Named}
use Rattle.event_keys.specs.declared.key.Key.{Key}
use Rattle.event_keys.specs.Ranks.{rank, owner_of}
use Rattle.task_seed.specs.Machines.{end_rank}
use Rattle.task_seed.specs.Turning.{System}
use Rattle.reference.specs.Queues.{rank_or_end}
use Rattle.lone_group.specs.Drawn.{AreNext, first_of}
use Rattle.shares.specs.declared.hand.Hand.{Hand}
use Rattle.shares.specs.declared.share.Own.{Own}
use Rattle.shares.specs.declared.share.Share.{Share}
use Rattle.shares.specs.Shares.{AreOwn}
use Rattle.shares.specs.Turns.{HasTurn}

-- of each component the key of its last turn below a rank, if it had one
abbrev pub AreLast : System → (bound : ℕ) → List (Option Key) → Type 0
AreLast s bound last = (r : ℕ) (outcome : Option Named) → r < bound → HasTurn s r outcome → (key : Key) × (slice_get last (owner_of r) ≡ Some (Some key)) × (r ≤ rank key)

-- each component has a group, one of so many, and this was its last turn before the one that comes next
pub record IsTable (s : System) (groups : List ℕ) (count : ℕ) (next : Option Key) (last : List (Option Key)) : Type 0 where
  pub low : rank_or_end next ≤ end_rank
  pub every : length groups ≡ length s.composition
  pub below : All (λ group. group < count) groups
  pub many : length last ≡ length s.composition
  pub lasts : AreLast s (rank_or_end next) last

-- the turns in a list, if there is one
abbrev pub owns_in : {A : Type 0} → Option (Vec Own A) → List Own
owns_in None = []
owns_in (Some own) = own.items

-- the turns of a group
abbrev pub owns_at : {A : Type 0} → List (Vec Own A) → ℕ → List Own
owns_at lists group = owns_in (slice_get lists group)

-- the turns that were drawn up to the next key, and of each group those that are its own
pub record IsHand (s : System) (senders : List (List ℕ)) (groups : List ℕ) (count : ℕ) (next : Option Key) (hand : Hand) : Type 0 where
  pub from : hand.from ≡ first_of hand.due.items next
  pub due : AreNext s hand.due.items next
  pub many : length hand.owns.items ≡ count
  pub owns : (group : ℕ) → AreOwn s senders groups group (rank_or_end hand.from) (owns_at hand.owns.items group) next

-- a list of turns as a share
abbrev pub share_of : (from until : Option Key) → Vec Own Global → Share
share_of from until own = record { own = own; from = from; until = until }
