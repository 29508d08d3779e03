-- A group whose turns are all sure.
use Rattle.std.specs.Prelude.{◌≡◌, ◌<◌, ◌≤◌, ◌+◌, ◌++◌, ◌∷◌, [], ℕ, Option, Some, List, Contains, drop, length, slice_get}
use Rattle.std.specs.Arc.{arc_value}
use Rattle.event_keys.specs.declared.key.Key.{Key}
use Rattle.event_keys.specs.Ranks.{rank}
use Rattle.task_seed.specs.Setups.{system}
use Rattle.task_seed.specs.Turning.{System}
use Rattle.task_seed.specs.declared.turns.Turn.{Turn}
use Rattle.reference.specs.Queues.{rank_or_end}
use Rattle.lone_group.specs.declared.batch.Slot.{Slot}
use Rattle.senders.specs.Senders.{AreSenders}
use Rattle.shares.specs.Shares.{AreOwn}
use Rattle.shares.specs.Turns.{HasTurn, group_at}
use Rattle.shares.specs.declared.share.Own.{Own}
use Rattle.shares.specs.declared.share.Wait.{Wait}
use Rattle.sure_groups.specs.declared.bags.Bag.{Bag}
use Rattle.sure_groups.specs.declared.group.Step.{Step}
use Rattle.sure_groups.specs.declared.group.Step.TheVariants.{Taken, Waiting, Undealt}
use Rattle.sure_groups.specs.declared.group.SureGroup.{SureGroup}
use Rattle.sure_groups.specs.declared.member.Member.{Member}
use Rattle.sure_groups.specs.Inputs.{heard_at}
use Rattle.sure_groups.specs.Members.{IsMember}
use Rattle.sure_groups.specs.Packets.{ArePassed}

-- the reference has this turn
abbrev pub IsTaken : System → Slot → Type 0
IsTaken s slot = HasTurn s (rank slot.key) slot.found

-- the key of the first of these turns, or the one behind them where there is none
abbrev pub next_of : List Own → Option Key → Option Key
next_of [] until = until
next_of (own ∷ later) until = Some own.due.key

-- the members of a group are where they are before its turn at a rank
abbrev pub AreMembers : System → (groups : List ℕ) → List (Option Key) → (me own : ℕ) → List Member → Type 0
AreMembers s groups heard me own members = (j : ℕ) (member : Member) → slice_get members j ≡ Some member → group_at groups j ≡ me → IsMember s groups heard own j member

-- what is gathered for each other group is all that comes to it of the turns of one group from somewhere on and below a rank
abbrev pub AreBags : System → (groups : List ℕ) → (me own : ℕ) → List Bag → Type 0
AreBags s groups me own bags = (group : ℕ) (bag : Bag) → slice_get bags group ≡ Some bag → (group ≡ me → ⊥) → (rank_or_end bag.since ≤ own) × ArePassed s groups me group (rank_or_end bag.since) own bag.inputs.items

-- What a group has: before its next turn its members are where they are in the reference, as far as was heard of the others; what was dealt to it are its
-- next turns, and what was taken are turns of the reference.
pub record AreSure (s : System) (groups : List ℕ) (heard : List (Option Key)) (me : ℕ) (members : List Member) (own : List Own) (until : Option Key) (bags : List Bag) (slots : List Slot) : Type 0 where
  pub senders : List (List ℕ)
  pub senders_are : AreSenders s.composition senders
  pub every : length groups ≡ length s.composition
  pub below : (i : ℕ) → i < length groups → group_at groups i < length heard
  pub many : length members ≡ length s.composition
  pub bagged : length bags ≡ length heard
  pub mine : slice_get heard me ≡ Some (next_of own until)
  pub own_are : AreOwn s senders groups me (rank_or_end (next_of own until)) own until
  pub members_are : AreMembers s groups heard me (rank_or_end (next_of own until)) members
  pub bags_are : AreBags s groups me (rank_or_end (next_of own until)) bags
  pub slots_are : (slot : Slot) → Contains slots slot → IsTaken s slot

module _ {T : Type 0} where
  -- of a setup, whose turns are read by turn_of
  abbrev pub IsSure : (turn_of : T → ℕ → ℕ → Option Turn) → SureGroup T → Type 0
  IsSure turn_of g = AreSure (system turn_of (arc_value g.setup)) g.hearing.groups.items g.hearing.heard.items g.hearing.me g.members.items (drop g.at g.own.items) g.until g.bags.items g.slots.items

  -- the key of its next turn, or the one up to which all was dealt to it
  abbrev pub next_in : SureGroup T → Option Key
  next_in g = next_of (drop g.at g.own.items) g.until

  -- its next turn awaits one of another group of which wasn't heard
  pub record IsWaiting (g : SureGroup T) : Type 0 where
    pub own : Own
    pub next : slice_get g.own.items g.at ≡ Some own
    pub wait : Wait
    pub among : Contains own.waits.items wait
    pub unheard : heard_at g.hearing.heard.items wait.group ≤ rank wait.last

  -- a turn was taken, the next one; or the group is as it was, and that one awaits others, or none is dealt
  abbrev pub HasStepped : SureGroup T → Step → SureGroup T → Type 0
  HasStepped old Taken new = (slot : Slot) × (Some slot.key ≡ next_in old) × (new.slots.items ≡ old.slots.items ++ slot ∷ []) × (new.at ≡ old.at + 1) × (new.own ≡ old.own)
  HasStepped old Waiting new = (new ≡ old) × IsWaiting old
  HasStepped old Undealt new = (new ≡ old) × (drop old.at old.own.items ≡ [])
