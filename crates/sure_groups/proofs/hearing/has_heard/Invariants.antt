use Rattle.std.proofs.Common.{◌<◌, Contains, take}
use Rattle.event_keys.specs.Ranks.{rank}
use Rattle.shares.specs.declared.share.Wait.{Wait as Awaited}
use Rattle.sure_groups.specs.Inputs.{heard_at}
use Rattle.sure_groups.proofs.hearing.has_heard.Given as goal

abbrev pub invariant-loop-wait : goal.invariant-loop-wait
invariant-loop-wait l = (wait : Awaited) → Contains (take l.wait-index l.waits) wait → rank wait.last < heard_at l.heard wait.group
