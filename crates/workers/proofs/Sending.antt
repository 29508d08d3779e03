-- Which parts of setups and components may cross threads. The check's own search for this gives up at a limit on types of this size, so it is led here type by type.
use denote.RattleType.{RattleType}
use denote.Param.Send.{IsSend, IsSync, sendable}
use Rattle.std.specs.declared.cmp.PartialEq as equal
use Rattle.task_seed.specs.declared.turns.Turns as turns
use Rattle.conditions.specs.contracts.condition.Branch as Branch
use Rattle.conditions.specs.contracts.condition.Condition as Condition
use Rattle.conditions.specs.contracts.condition.Stage as Stage
use Rattle.conditions.specs.contracts.condition.Test as Test
use Rattle.outcomes.specs.contracts.task.Known as Known
use Rattle.task_seed.specs.contracts.setup.Setup as Setup
use Rattle.rollback.specs.contracts.component.Component as Component
use Rattle.event_keys.proofs.key.Bound.TheSendSync as bound
use Rattle.event_keys.proofs.key.Key.TheSendSync as key
use Rattle.event_keys.proofs.message.Signed.TheSendSync as signed
use Rattle.io_automata.proofs.automaton.Component.TheSendSync as component
use Rattle.io_automata.proofs.automaton.Kind.TheSendSync as kind
use Rattle.io_automata.proofs.automaton.Param.TheSendSync as param
use Rattle.patterns.proofs.index.Index.TheSendSync as index
use Rattle.raw_events.proofs.list.EventList.TheSendSync as event_list
use Rattle.rollback.proofs.spares.Spares.TheSendSync as spares
use Rattle.message_balance.proofs.done.Done.TheSendSync as done
use Rattle.std.proofs.Crossing as crossing
use Rattle.std.proofs.boxed.Box.TheSendSync as box
use Rattle.std.proofs.collections.VecDeque.TheSendSync as vec_deque
use Rattle.std.proofs.option.Option.TheSendSync as option
use Rattle.std.proofs.sync.Arc.TheSendSync as arc
use Rattle.std.proofs.vec.Vec.TheSendSync as vec
use Rattle.terms.proofs.effect.Last.TheLaws.TheKnot as effect
use Rattle.terms.proofs.scalar.Listed.TheSendSync as listed
use Rattle.terms.proofs.scalar.Scalar.TheSendSync as scalar
use Rattle.terms.proofs.scalar.Shape.TheLaws.TheKnot as shape
use Rattle.terms.proofs.term.Operator.TheSendSync as operator
use Rattle.terms.proofs.term.Link.TheLaws.TheKnot as term
use Rattle.terms.proofs.value.Value.TheLaws.TheKnot as value

Test-send : IsSend Test.the_row
Test-send = search (operator.the_field_send, scalar.the_field_send, listed.the_field_send, crossing.crosses, shape.crosses, term.crosses, sendable) depth 60 fits 20000

Test-sync : IsSync Test.the_row
Test-sync = search (operator.the_field_sync, scalar.the_field_sync, listed.the_field_sync, crossing.crosses, shape.crosses, term.crosses, sendable) depth 60 fits 20000

Branch-send : IsSend Branch.the_row
Branch-send = search (Test-send, option.the_send, option.the_field_send, vec.the_send, operator.the_field_send, scalar.the_field_send, listed.the_field_send, crossing.crosses, shape.crosses, term.crosses, sendable) depth 60 fits 20000

Branch-sync : IsSync Branch.the_row
Branch-sync = search (Test-sync, option.the_sync, option.the_field_sync, vec.the_sync, operator.the_field_sync, scalar.the_field_sync, listed.the_field_sync, crossing.crosses, shape.crosses, term.crosses, sendable) depth 60 fits 20000

Stage-send : IsSend Stage.the_row
Stage-send = search (Branch-send, vec.the_send, crossing.crosses, sendable) depth 60 fits 20000

Stage-sync : IsSync Stage.the_row
Stage-sync = search (Branch-sync, vec.the_sync, crossing.crosses, sendable) depth 60 fits 20000

Condition-send : IsSend Condition.the_row
Condition-send = search (Stage-send, vec.the_send, crossing.crosses, sendable) depth 60 fits 20000

Condition-sync : IsSync Condition.the_row
Condition-sync = search (Stage-sync, vec.the_sync, crossing.crosses, sendable) depth 60 fits 20000

Known-send : IsSend Known.the_row
Known-send = search (Condition-send, vec.the_send, crossing.crosses, sendable) depth 60 fits 20000

Known-sync : IsSync Known.the_row
Known-sync = search (Condition-sync, vec.the_sync, crossing.crosses, sendable) depth 60 fits 20000

module _ (T : RattleType) where
  pub Setup-send : IsSend T → IsSend (Setup.the_row T)
  Setup-send s = search (Known-send, component.the_send, kind.the_field_send, param.the_send, index.the_send, listed.the_field_send, scalar.the_field_send, operator.the_field_send, crossing.crosses, effect.crosses, shape.crosses, term.crosses, sendable) depth 60 fits 20000

  pub Setup-sync : IsSync T → IsSync (Setup.the_row T)
  Setup-sync y = search (Known-sync, component.the_sync, kind.the_field_sync, param.the_sync, index.the_sync, box.the_sync, vec.the_sync, listed.the_field_sync, scalar.the_field_sync, operator.the_field_sync, crossing.crosses, effect.crosses, shape.crosses, term.crosses, sendable) depth 60 fits 20000

module _ (T : RattleType) (g : turns.Ghosts T.Denot) (e : equal.Ghosts T.Denot) where
  pub Component-send : IsSend T → IsSync T → IsSend (Component.the_row T g e)
  Component-send s y = search (Setup-send, Setup-sync, crossing.Arc-send, spares.the_field_send, option.the_field_send, bound.the_field_send, key.the_send, signed.the_send, event_list.the_send, done.the_send, arc.the_send, vec.the_send, vec_deque.the_send, scalar.the_send, crossing.crosses, value.crosses, effect.crosses, shape.crosses, term.crosses, sendable) depth 60 fits 20000
