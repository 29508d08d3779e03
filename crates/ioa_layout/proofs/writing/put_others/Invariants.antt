use Rattle.std.proofs.Common.{◌≡◌, ◌++◌, drop}
use Rattle.ioa_layout.specs.Ink.{parts_of}
use Rattle.ioa_layout.specs.Gaps.{following}
use Rattle.ioa_layout.proofs.writing.put_others.Given as goal

abbrev pub invariant-loop-item : goal.invariant-loop-item
invariant-loop-item l =
    l.text.items ++ following (parts_of (drop l.item-index l.items)) l.left ≡ l.initial.text.items ++ following (parts_of l.items) l.initial.left
