use Rattle.std.proofs.Common.{◌≡◌, [], ◌∷◌, ◌+◌, sym, ap, subst}
use Rattle.std.specs.Arc.{arc_value}
use Rattle.event_keys.specs.declared.message.Sign.TheVariants.{Plus, Minus}
use Rattle.event_keys.specs.Entries.{action_of}
use Rattle.event_keys.specs.Ranks.{rank}
use Rattle.plans.specs.Plans.{composition}
use Rattle.plans.specs.RestingLaws.{woken_resting}
use Rattle.task_seed.specs.Machines.{machine}
use Rattle.task_seed.specs.Setups.{system, plan_of}
use Rattle.task_seed.specs.Turning.{key_of}
use Rattle.virtual_time.specs.Entries.{by_own}
use Rattle.virtual_time.specs.Records.{next_of, sent}
use Rattle.message_balance.specs.declared.done.Done.TheVariants.{Turn}
use Rattle.rollback.specs.ComponentView.{ComponentView, machine_of, processed}
use Rattle.rollback.specs.ComponentInvariant.{next_number, record_of, signed_of}
use Rattle.rollback.specs.Post.{IsPosted}
use Rattle.task_seed.specs.Clocks.{Reaching}
use Rattle.task_seed.specs.ClockLaws.{reached_same}
use Rattle.rollback.proofs.Clocks.{both_reached}
use Rattle.rollback.specs.Stepped.{IsComingTurn, IsNextTurn, IsNextSent, stepped}
use Rattle.rollback.proofs.Keeping.{kept_turn, number_is}
use Rattle.rollback.proofs.Stepping.{not_before, own_is, turn_record, turn_sent}
use Rattle.rollback.proofs.component.Component.do_turned.Goals as goal

pub returns-clause-record : goal.returns-clause-record
returns-clause-record g c =
    let f = c.self.inside in
    let s = system g.T.Turns.turn_of (arc_value f.setup) in
    let turned = c.args.turned in
    let old = record_of f.store f.first f.done f.pending f.owed in
    let comes : IsComingTurn s f.number old turned = subst (λ (h : ComponentView _). IsNextTurn g.T.Turns.turn_of h turned) (sym c.self.view_is) c.requires.next in
    let is : record_of c.take_turn.new.store f.first c.take_turn.new.done f.pending f.owed ≡ processed (next_of (machine s) f.number old) old
    = rw (c.in_ok-take_turn.ensures.state, c.in_ok-take_turn.ensures.done)
    (turn_record s f.number f.first f.store f.done f.pending f.owed f.coming c.self.invariant.0 turned (record { before = signed_of s Minus f.number turned.key turned.outcome; after = [] }) comes) in
    subst (λ (h : ComponentView _). ◌≡◌ {A = ComponentView _} (record { setup = arc_value f.setup; number = f.number; base = f.base; history = record_of c.take_turn.new.store f.first c.take_turn.new.done f.pending f.owed }) (stepped g.T.Turns.turn_of h)) c.self.view_is
    (ap (λ r. record { setup = arc_value f.setup; number = f.number; base = f.base; history = r }) is)

pub returns-clause-sent : goal.returns-clause-sent
returns-clause-sent g c =
    let f = c.self.inside in
    let s = system g.T.Turns.turn_of (arc_value f.setup) in
    let turned = c.args.turned in
    let old = record_of f.store f.first f.done f.pending f.owed in
    let comes : IsComingTurn s f.number old turned = subst (λ (h : ComponentView _). IsNextTurn g.T.Turns.turn_of h turned) (sym c.self.view_is) c.requires.next in
    subst (λ (h : ComponentView _). IsNextSent g.T.Turns.turn_of h c.args.out.now c.take_turn.new.out) c.self.view_is
    (turn_sent s f.number old turned c.args.out.now c.take_turn.new.out comes
    (subst (λ u. IsPosted Plus (sent (machine_of g.T.Turns.turn_of u) f.number (rank turned.key) (action_of turned.outcome)) c.args.out.now c.take_turn.new.out) c.deref-2.ensures c.in_ok-take_turn.ensures.sent))

pub invariant_of-self-2 : goal.invariant_of-self-2
invariant_of-self-2 g c =
    let t = g.T.Turns.turn_of in
    let f = c.self.inside in
    let s = system t (arc_value f.setup) in
    let turned = c.args.turned in
    let comes : IsComingTurn s f.number (record_of f.store f.first f.done f.pending f.owed) turned
    = subst (λ (h : ComponentView _). IsNextTurn t h turned) (sym c.self.view_is) c.requires.next in
    let own = own_is s f.number f.first f.store f.done f.pending f.owed f.coming c.self.invariant.0 turned comes in
    let number : turned.key.number ≡ next_number f.first f.done = number_is s f.number (next_number f.first f.done) turned.key comes.key in
    let component = c.self.invariant.1.reached.own.component in
    let next : c.in_ok-next.next ≡ key_of s f.number (turned.key.number + 1)
    = subst (λ u. c.in_ok-next.next ≡ key_of (system t u) f.number (turned.key.number + 1)) c.deref.ensures
    (subst (λ i. c.in_ok-next.next ≡ key_of (system t c.deref.result.now) i (turned.key.number + 1)) component c.in_ok-next.ensures.key) in
    let state : c.take_turn.new.store ≡ record { current = by_own (machine s) f.number (action_of turned.outcome) f.store.current; below = f.store.current ∷ f.store.below }
    = subst (λ u. c.take_turn.new.store ≡ record { current = by_own (machine_of t u) f.number (action_of turned.outcome) f.store.current; below = f.store.current ∷ f.store.below }) c.deref-2.ensures c.in_ok-take_turn.ensures.state in
    let done : c.take_turn.new.done ≡ record f.done { before = Turn turned (record { before = signed_of s Minus f.number turned.key turned.outcome; after = [] }) ∷ f.done.before }
    = subst (λ u. c.take_turn.new.done ≡ record f.done { before = Turn turned (record { before = signed_of (system t u) Minus f.number turned.key turned.outcome; after = [] }) ∷ f.done.before }) c.deref-2.ensures c.in_ok-take_turn.ensures.done in
    let reaching = subst (λ u. Reaching t u f.clock.component f.clock (turned.key.number + 1) c.reach_after.new.self) c.deref.ensures c.in_ok-next.ensures.ok in (
      rw (state, done)
          (kept_turn s f.number f.first f.store f.done f.pending f.owed f.coming c.in_ok-next.next turned c.self.invariant.0 own next c.in_ok-next.ensures.small
          (not_before s f.number f.first f.store f.done f.pending f.owed f.coming c.self.invariant.0 turned comes)),
      rw done (both_reached t (arc_value f.setup) f.number (next_number f.first f.done) turned.key.number f.clock c.reach_after.new.self number c.self.invariant.1 reaching).1,
      woken_resting (composition (plan_of (arc_value f.setup))) f.number c.take_turn.new.store.current c.wake.new.self c.wake.ensures,
    )

pub invariant_of-self : goal.invariant_of-self
invariant_of-self g c =
    let f = c.self.inside in
    (c.self.invariant.0, reached_same g.T.Turns.turn_of (arc_value f.setup) f.number f.clock c.reach_after.new.self (next_number f.first f.done) c.in_err-next.ensures.err c.in_err-next.ensures.err_ticks c.self.invariant.1, c.self.invariant.2)

pub invariant_of-self-in_err-take_turn : goal.invariant_of-self-in_err-take_turn
invariant_of-self-in_err-take_turn g c =
    let t = g.T.Turns.turn_of in
    let f = c.self.inside in
    let turned = c.args.turned in
    let comes : IsComingTurn (system t (arc_value f.setup)) f.number (record_of f.store f.first f.done f.pending f.owed) turned
    = subst (λ (h : ComponentView _). IsNextTurn t h turned) (sym c.self.view_is) c.requires.next in
    let number : turned.key.number ≡ next_number f.first f.done = number_is (system t (arc_value f.setup)) f.number (next_number f.first f.done) turned.key comes.key in
    let reaching = subst (λ u. Reaching t u f.clock.component f.clock (turned.key.number + 1) c.reach_after.new.self) c.deref.ensures c.in_ok-next.ensures.ok in (
      rw (c.in_err-take_turn.ensures.store_kept, c.in_err-take_turn.ensures.done_kept) c.self.invariant.0,
      rw c.in_err-take_turn.ensures.done_kept (both_reached t (arc_value f.setup) f.number (next_number f.first f.done) turned.key.number f.clock c.reach_after.new.self number c.self.invariant.1 reaching).0,
      rw c.in_err-take_turn.ensures.store_kept c.self.invariant.2,
    )
