use Rattle.std.proofs.Common.{rules, sym, subst}
use Rattle.patterns.specs.Patterns.{AreRising}
use Rattle.patterns.proofs.Noted.{rising_room}
use Rattle.patterns.proofs.index.notes.lists.Goals as goal

pub loop-preserved : goal.loop-preserved
loop-preserved c = record {
  some = search rules;
  rising = subst AreRising (sym c.in_ok-push-2.ensures.items) (rising_room c.loop.lists.items c.new-in-loop.result c.new-in-loop.ensures.items c.loop.invariant.rising);
}
