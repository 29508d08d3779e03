use Rattle.std.proofs.Common.{◌≡◌, ◌+◌, ℕ, length}
use Rattle.event_keys.specs.declared.message.Sign.TheVariants.{Plus}
use Rattle.terms.specs.Named.{Named}
use Rattle.virtual_time.specs.Machine.{Lawful}
use Rattle.rollback.specs.Laws.{RestGoesToOthers, SplitGoesToOne}
use Rattle.task_seed.specs.Turning.{System}
use Rattle.task_seed.specs.Machines.{machine}
use Rattle.group_exchange.specs.ExchangeView.{AreStubs, group_at}
use Rattle.group_exchange.specs.Moving.{among}
use Rattle.group_exchange.proofs.Spreading.{IsSpreading}
use Rattle.group_exchange.proofs.meeting.spread.Given as goal

abbrev pub invariant-loop-to : goal.invariant-loop-to
invariant-loop-to l =
    record {
      many : length l.stubs ≡ length l.initial.stubs;
      spread : (s : System) (law : Lawful (machine s)) (split : SplitGoesToOne) (rest_law : RestGoesToOthers) → AreStubs s (group_at l.groups) l.initial.stubs → ((j k : ℕ) (a : Named) → among s Plus j l.initial.copies k a ≡ among s Plus j l.initial.out k a)
          → IsSpreading s law (group_at l.groups) split rest_law l.initial.out l.initial.stubs l.out l.copies l.stubs;
    }

abbrev pub decreases-loop-to : goal.decreases-loop-to
decreases-loop-to l = length l.out + length l.copies
