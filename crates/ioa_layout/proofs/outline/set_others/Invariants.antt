use Rattle.std.proofs.Common.{◌-◌, ◌++◌, List, length, drop}
use Rattle.ioa_layout.specs.declared.gap.Gap.{Gap}
use Rattle.ioa_layout.specs.Ink.{part_of, parts_of, piece_of}
use Rattle.ioa_layout.specs.Gaps.{AreGaps}
use Rattle.ioa_layout.specs.Lines.{Stand}
use Rattle.ioa_layout.proofs.outline.set_others.Given as goal

abbrev pub invariant-loop-item : goal.invariant-loop-item
invariant-loop-item l = record {
  gaps : (gs : List Gap) → AreGaps l.room (part_of l.before) (parts_of (drop l.item-index l.others)) gs
      → AreGaps (100 - length l.first.text.now) (part_of l.first) (parts_of l.others) (l.gaps.items ++ gs);
  lines : (gs : List Gap) → Stand (piece_of l.before.ink) (drop l.item-index l.others) gs → Stand (piece_of l.first.ink) l.others (l.gaps.items ++ gs);
}
