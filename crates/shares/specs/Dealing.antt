-- Turns that are dealt to groups as they are drawn.
use Rattle.std.specs.Prelude.{◌≡◌, ◌≤◌, ℕ, Option, Some, List, length, slice_get}
use Rattle.event_keys.specs.declared.key.Key.{Key}
use Rattle.task_seed.specs.Machines.{end_rank}
use Rattle.task_seed.specs.Turning.{System}
use Rattle.reference.specs.Queues.{rank_or_end}
use Rattle.lone_group.specs.Drawn.{IsDrawn}
use Rattle.shares.specs.declared.deal.Deal.{Deal}
use Rattle.shares.specs.declared.share.Share.{Share}
use Rattle.shares.specs.Shares.{IsShare}

-- a setup, of each component those that may send to it and its group, the number of groups, and the key of the turn that comes next, if one is left
pub record Dealing (P : Type 0) : Type 0 where
  pub setup : P
  pub senders : List (List ℕ)
  pub groups : List ℕ
  pub count : ℕ
  pub next : Option Key

-- turns that were drawn, and of each group its share of them
pub record IsDeal (s : System) (senders : List (List ℕ)) (groups : List ℕ) (count : ℕ) (deal : Deal) : Type 0 where
  pub drawn : IsDrawn s deal.drawn
  pub low : rank_or_end deal.drawn.next ≤ end_rank
  pub many : length deal.shares.items ≡ count
  pub from : (group : ℕ) (share : Share) → slice_get deal.shares.items group ≡ Some share → share.from ≡ deal.drawn.from
  pub until : (group : ℕ) (share : Share) → slice_get deal.shares.items group ≡ Some share → share.until ≡ deal.drawn.next
  pub shares : (group : ℕ) (share : Share) → slice_get deal.shares.items group ≡ Some share → IsShare s senders groups group share
