-- What becomes of a strand once a borrow of an element ends.
use Rattle.std.specs.Prelude.{ℕ, slice_set}
use mathlib.Core.Path.{◌∙◌}
use lib.ListN.{length-set}
use base.Fml.{Fml}
use denote.RattleType.{RattleType}
use denote.Ref.{MutBor}
use denote.Follow.{follows}
use Rattle.core.specs.declared.alloc.Allocator.{Ghosts}
use Rattle.raw_events.specs.declared.strand.Strand.{Strand}
use Rattle.raw_events.specs.contracts.strand.Strand.{the_row}

-- the same nodes with w as the i-th element
abbrev pub with_item : {X Z : Type 0} → Strand X Z → ℕ → X → Strand X Z
with_item n i w = record { head = n.head; tail = n.tail; items = slice_set n.items i w; blocks = n.blocks; ok = length-set n.items i w ∙ n.ok; chained = n.chained }

-- that element is the last value written through r
abbrev pub strand_follows : (R Z : RattleType) (g : Ghosts Z.Denot) → MutBor (Strand R.Denot Z.Denot) → ℕ → MutBor R.Denot → Fml
strand_follows R Z g n i r = follows (the_row R Z g) R n.ghost_name r.ghost_name (with_item n.now i)
