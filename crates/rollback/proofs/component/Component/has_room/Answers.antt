use Rattle.std.proofs.Common.{◌≡◌, ◌-◌, None, Some, false, true, sym, ap, subst, ◌∙◌, arith}
use Rattle.std.specs.Prelude.{nat_lt}
use Rattle.std.specs.Arc.{arc_value}
use Rattle.task_seed.specs.Machines.{machine}
use Rattle.task_seed.specs.Setups.{system}
use Rattle.virtual_time.specs.Records.{next_of}
use Rattle.rollback.specs.ComponentView.{ComponentView, machine_of, is_receiving}
use Rattle.rollback.specs.ComponentInvariant.{next_number, record_of}
use Rattle.rollback.specs.Coming.{turning}
use Rattle.rollback.specs.Room.{has_room}
use Rattle.rollback.specs.Stepped.{next_entry}
use Rattle.rollback.proofs.Keeping.{number_is}
use Rattle.rollback.proofs.Numbered.{counted, input_room, turn_room}
use Rattle.rollback.proofs.Stepping.{turning_is}
use Rattle.rollback.proofs.component.Component.has_room.Goals as goal

pub returns-then-is_input_next : goal.returns-then-is_input_next
returns-then-is_input_next g c = sym (input_room c.args.window c.args.self.now.history.done (next_entry g.T.Turns.turn_of c.args.self.now) (sym c.is_input_next.ensures ∙ c.if-is_input_next.true))

pub returns-in-None : goal.returns-in-None
returns-in-None g c =
    let f = c.self.inside in
    let s = system g.T.Turns.turn_of (arc_value f.setup) in
    let r = record_of f.store f.first f.done f.pending f.owed in
    let no : is_receiving (next_of (machine s) f.number r) ≡ false
    = subst (λ (h : ComponentView _). is_receiving (next_of (machine_of g.T.Turns.turn_of h.setup) h.number h.history) ≡ false) (sym c.self.view_is) (sym c.is_input_next.ensures ∙ c.if-is_input_next.false) in
    let is : next_of (machine s) f.number r ≡ None
    = turning_is s f.number f.first f.store f.done f.pending f.owed f.coming c.self.invariant.0 no ∙ ap (turning (machine s) f.number r) c.in-None.is in
    subst (λ (h : ComponentView _). true ≡ has_room c.args.window h.history.done (next_of (machine_of g.T.Turns.turn_of h.setup) h.number h.history)) c.self.view_is
    (sym (ap (has_room c.args.window r.done) is))

pub overflow_sub-result : goal.overflow_sub-result
overflow_sub-result g c =
    let f = c.self.inside in
    let s = system g.T.Turns.turn_of (arc_value f.setup) in
    let is = number_is s f.number (next_number f.first f.done) c.in-Some.key (sym c.in-Some.is ∙ c.self.invariant.0.next) in
    let more = counted f.first (record_of f.store f.first f.done f.pending f.owed).done in
    omega (arith, is, more)

pub returns-in-Some : goal.returns-in-Some
returns-in-Some g c =
    let f = c.self.inside in
    let s = system g.T.Turns.turn_of (arc_value f.setup) in
    let r = record_of f.store f.first f.done f.pending f.owed in
    let key = c.in-Some.key in
    let no : is_receiving (next_of (machine s) f.number r) ≡ false
    = subst (λ (h : ComponentView _). is_receiving (next_of (machine_of g.T.Turns.turn_of h.setup) h.number h.history) ≡ false) (sym c.self.view_is) (sym c.is_input_next.ensures ∙ c.if-is_input_next.false) in
    let there : next_of (machine s) f.number r ≡ turning (machine s) f.number r (Some key)
    = turning_is s f.number f.first f.store f.done f.pending f.owed f.coming c.self.invariant.0 no ∙ ap (turning (machine s) f.number r) c.in-Some.is in
    let is = number_is s f.number (next_number f.first f.done) key (sym c.in-Some.is ∙ c.self.invariant.0.next) in
    ap (nat_lt (key.number - f.first)) c.from.ensures
    ∙ subst (λ (h : ComponentView _). nat_lt (key.number - f.first) c.args.window ≡ has_room c.args.window h.history.done (next_of (machine_of g.T.Turns.turn_of h.setup) h.number h.history)) c.self.view_is
    (turn_room c.args.window f.first key.number _ _ r.done (next_of (machine s) f.number r) is there)
