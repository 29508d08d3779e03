-- Which parts of a run may cross threads. The check's own search for this gives up at a limit on types of this size, so it is led here type by type.
use denote.RattleType.{RattleType}
use denote.Param.Send.{IsSend, IsSync, sendable}
use Rattle.std.specs.declared.cmp.PartialEq as equal
use Rattle.std.specs.declared.cmp.Eq as whole_equal
use Rattle.task_seed.specs.declared.turns.Turns as turns
use Rattle.groups.specs.contracts.group.Group as Group
use Rattle.groups.specs.contracts.members.Members as Members
use Rattle.group_exchange.specs.contracts.exchange.Exchange as Exchange
use Rattle.group_exchange.specs.contracts.lease.Lease as Lease
use Rattle.lone_group.specs.contracts.handover.Handover as Handover
use Rattle.lone_group.specs.contracts.lone.LoneGroup as LoneGroup
use Rattle.reference.specs.contracts.agenda.Agenda as Agenda
use Rattle.workers.specs.contracts.alone.Drawer as Drawer
use Rattle.workers.specs.contracts.alone.Passed as Passed
use Rattle.workers.specs.contracts.alone.Relay as Relay
use Rattle.workers.specs.contracts.alone.Taker as Taker
use Rattle.workers.specs.contracts.crew.Lent as Lent
use Rattle.workers.specs.contracts.crew.Worker as Worker
use Rattle.workers.specs.contracts.desk.Desk as Desk
use Rattle.workers.specs.contracts.shared.Shared as Shared
use Rattle.antimessage.proofs.bag.Bag.TheSendSync as bag
use Rattle.boards.proofs.parts.Board.TheSendSync as board
use Rattle.boards.proofs.parts.Pass.TheSendSync as pass
use Rattle.core.proofs.atomic.AtomicBool.TheSendSync as atomic_bool
use Rattle.core.proofs.sync.Mutex.TheSendSync as mutex
use Rattle.event_keys.proofs.key.Bound.TheSendSync as bound
use Rattle.event_keys.proofs.outcome.Turned.TheSendSync as turned
use Rattle.group_exchange.proofs.judging.MeetRefused.TheSendSync as meet_refused
use Rattle.group_exchange.proofs.notes.Notes.TheSendSync as notes
use Rattle.group_exchange.proofs.passage.Passage.TheSendSync as passage
use Rattle.group_exchange.proofs.queue.Queue.TheSendSync as queue
use Rattle.group_exchange.proofs.stub.Stub.TheSendSync as stub
use Rattle.group_exchange.proofs.tally.Effort.TheSendSync as effort
use Rattle.workers.proofs.activity.Activity.TheSendSync as activity
use Rattle.workers.proofs.shared.Ends.TheSendSync as ends
use Rattle.groups.proofs.losses.Losses.TheSendSync as losses
use Rattle.groups.proofs.seats.Seat.TheSendSync as group_seat
use Rattle.gvt.proofs.word.Published.TheSendSync as published
use Rattle.gvt.proofs.word.Seat.TheSendSync as seat
use Rattle.raw_events.proofs.list.EventList.TheSendSync as event_list
use Rattle.lone_group.proofs.batch.Batch.TheSendSync as batch
use Rattle.lone_group.proofs.batch.Slot.TheSendSync as slot
use Rattle.lone_group.proofs.drawn.Drawn.TheSendSync as drawn
use Rattle.reference.proofs.line.Line.TheSendSync as line
use Rattle.plans.proofs.memo.Memo.TheSendSync as memo
use Rattle.rollback.proofs.copied.Copies.TheSendSync as copies
use Rattle.std.proofs.Crossing as crossing
use Rattle.std.proofs.collections.VecDeque.TheSendSync as vec_deque
use Rattle.std.proofs.option.Option.TheSendSync as option
use Rattle.std.proofs.sync.Arc.TheSendSync as arc
use Rattle.std.proofs.vec.Vec.TheSendSync as vec
use Rattle.steering.proofs.raises.Raises.TheSendSync as raises
use Rattle.steering.proofs.ready.Ready.TheSendSync as ready
use Rattle.steering.proofs.signals.Signals.TheSendSync as signals
use Rattle.steering.proofs.pace.Pace.TheSendSync as pace
use Rattle.steering.proofs.vigil.Vigil.TheSendSync as vigil
use Rattle.task_seed.proofs.clock.Clock.TheSendSync as clock
use Rattle.terms.proofs.effect.Last.TheLaws.TheKnot as effect
use Rattle.terms.proofs.scalar.Scalar.TheSendSync as scalar
use Rattle.terms.proofs.scalar.Shape.TheLaws.TheKnot as shape
use Rattle.terms.proofs.term.Link.TheLaws.TheKnot as term
use Rattle.terms.proofs.value.Value.TheLaws.TheKnot as value
use Rattle.workers.proofs.Sending.{Component-send, Setup-send, Setup-sync}

module _ (T : RattleType) (g : turns.Ghosts T.Denot) (e : equal.Ghosts T.Denot) where
  pub Members-send : IsSend T → IsSync T → IsSend (Members.the_row T g e)
  Members-send s y = search (Component-send, Setup-send, Setup-sync, losses.the_field_send, group_seat.the_send, bound.the_field_send, turned.the_send, event_list.the_send, crossing.Arc-send, arc.the_send, vec.the_send, crossing.crosses, value.crosses, effect.crosses, shape.crosses, term.crosses, sendable) depth 60 fits 20000

  pub Group-send : IsSend T → IsSync T → IsSend (Group.the_row T g e)
  Group-send s y = search (Members-send, bag.the_send, bound.the_field_send, crossing.crosses, value.crosses, effect.crosses, shape.crosses, term.crosses, sendable) depth 60 fits 20000

  pub Lease-send : IsSend T → IsSync T → IsSend (Lease.the_row T g e)
  Lease-send s y = search (Group-send, copies.the_send, option.the_field_send, effort.the_field_send, crossing.crosses, value.crosses, effect.crosses, shape.crosses, term.crosses, sendable) depth 60 fits 20000

  pub Exchange-send : IsSend T → IsSync T → IsSend (Exchange.the_row T g e)
  Exchange-send s y = search (Setup-send, Setup-sync, notes.the_field_send, passage.the_send, queue.the_send, crossing.Arc-send, bound.the_field_send, turned.the_send, stub.the_send, event_list.the_send, arc.the_send, vec.the_send, crossing.crosses, effect.crosses, shape.crosses, term.crosses, sendable) depth 60 fits 20000

  pub Desk-send : IsSend T → IsSync T → IsSend (Desk.the_row T g e)
  Desk-send s y = search (Exchange-send, activity.the_field_send, raises.the_field_send, ready.the_field_send, turned.the_send, event_list.the_send, crossing.crosses, value.crosses, effect.crosses, shape.crosses, term.crosses, sendable) depth 60 fits 20000

  pub Lent-send : IsSend T → IsSync T → IsSend (Lent.the_row T g e)
  Lent-send s y = search (Desk-send, crossing.crosses, effect.crosses, shape.crosses, term.crosses, sendable) depth 60 fits 20000

  pub Worker-send : IsSend T → IsSync T → IsSend (Worker.the_row T g e)
  Worker-send s y = search (Lent-send, Lease-send, vigil.the_field_send, seat.the_field_send, pass.the_field_send, crossing.crosses, value.crosses, effect.crosses, shape.crosses, term.crosses, sendable) depth 60 fits 20000

  pub Shared-sync : (q : whole_equal.Ghosts T.Denot) → IsSend T → IsSync T → IsSync (Shared.the_row T g q e)
  Shared-sync q s y = search (Lent-send, signals.the_field_sync, atomic_bool.the_field_sync, option.the_field_send, option.the_send, mutex.the_sync, meet_refused.the_field_send, published.the_field_sync, board.the_field_sync, crossing.crosses, value.crosses, effect.crosses, shape.crosses, term.crosses, sendable) depth 60 fits 20000

  pub Agenda-send : IsSend T → IsSync T → IsSend (Agenda.the_row T g e)
  Agenda-send s y = search (Setup-send, Setup-sync, line.the_field_send, clock.the_send, crossing.Arc-send, arc.the_send, vec.the_send, crossing.crosses, value.crosses, effect.crosses, shape.crosses, term.crosses, sendable) depth 60 fits 20000

  pub LoneGroup-send : IsSend T → IsSync T → IsSend (LoneGroup.the_row T g e)
  LoneGroup-send s y = search (Setup-send, Setup-sync, slot.the_send, memo.the_send, option.the_field_send, crossing.Arc-send, arc.the_send, vec.the_send, vec_deque.the_send, scalar.the_send, crossing.crosses, value.crosses, effect.crosses, shape.crosses, term.crosses, sendable) depth 60 fits 20000

  pub Handover-send : IsSend T → IsSync T → IsSend (Handover.the_row T g e)
  Handover-send s y = search (Setup-send, Setup-sync, batch.the_send, slot.the_send, drawn.the_send, crossing.Arc-send, arc.the_send, vec.the_send, vec_deque.the_send, crossing.crosses, value.crosses, effect.crosses, shape.crosses, term.crosses, sendable) depth 60 fits 20000

  pub Passed-send : IsSend T → IsSync T → IsSend (Passed.the_row T g e)
  Passed-send s y = search (Handover-send, crossing.crosses, effect.crosses, shape.crosses, term.crosses, sendable) depth 60 fits 20000

  pub Drawer-send : IsSend T → IsSync T → IsSend (Drawer.the_row T g e)
  Drawer-send s y = search (Passed-send, Agenda-send, pace.the_field_send, pass.the_field_send, crossing.crosses, value.crosses, effect.crosses, shape.crosses, term.crosses, sendable) depth 60 fits 20000

  pub Taker-send : IsSend T → IsSync T → IsSend (Taker.the_row T g e)
  Taker-send s y = search (Passed-send, LoneGroup-send, pace.the_field_send, pass.the_field_send, crossing.crosses, value.crosses, effect.crosses, shape.crosses, term.crosses, sendable) depth 60 fits 20000

  pub Relay-sync : (q : whole_equal.Ghosts T.Denot) → IsSend T → IsSync T → IsSync (Relay.the_row T g q e)
  Relay-sync q s y = search (Passed-send, ends.the_field_sync, board.the_field_sync, crossing.crosses, value.crosses, effect.crosses, shape.crosses, term.crosses, sendable) depth 60 fits 20000
