use Rattle.std.proofs.Common.{◌≡◌, ◌≤◌, subst, ◌-◌, length, sym, ap, ◌∙◌, arith}
use Rattle.event_keys.specs.Ranks.{rank}
use Rattle.event_keys.specs.declared.message.Signed.{Signed}
use Rattle.virtual_time.specs.Entries.{latest}
use Rattle.rollback.proofs.Falling.{not_later_low}
use Rattle.virtual_time.specs.Records.{later, not_later}
use Rattle.rollback.specs.Flight.{item_of}
use Rattle.rollback.specs.ComponentView.{ComponentView, machine_of}
use Rattle.rollback.proofs.Unwinding.{by_message, later_length}
use Rattle.rollback.proofs.component.Component.deliver_message.Goals as goal

pub overflow_sub-count : goal.overflow_sub-count
overflow_sub-count g c =
    let r = c.take_owed.new.self in
    let m = machine_of g.T.Turns.turn_of r.setup in
    let x = item_of c.value.result.now in
    let after : c.depth.result ≡ length (not_later m x r.history.done) = c.depth.ensures ∙ ap (λ (h : ComponentView _). length h.history.done) c.unwind_later.ensures.record in
    let all = later_length m 0 x r.history.done in
    omega (arith, c.depth-before.ensures, after, all)

pub returns-clause-count : goal.returns-clause-count
returns-clause-count g c =
    let r = c.take_owed.new.self in
    let m = machine_of g.T.Turns.turn_of r.setup in
    let x = item_of c.value.result.now in
    let after : c.depth.result ≡ length (not_later m x r.history.done) = c.depth.ensures ∙ ap (λ (h : ComponentView _). length h.history.done) c.unwind_later.ensures.record in
    let all = later_length m 0 x r.history.done in
    let count : c.depth-before.result - c.depth.result ≡ length (later m x r.history.done) = omega (arith, c.depth-before.ensures, after, all) in
    let same = c.take_owed.ensures.kept c.if-take_owed.false in
    let message = c.value.ensures ∙ c.take_owed.ensures.cell in
    count
    ∙ (λ v. length (later (machine_of g.T.Turns.turn_of (same v).setup) (item_of (message v)) (same v).history.done))
    ∙ ap (λ l. length l) (by_message (machine_of g.T.Turns.turn_of c.args.self.now.setup) 0 (item_of c.args.cell) c.args.self.now.history (sym c.take_owed.ensures.answer ∙ c.if-take_owed.false))

pub wait-requires-clause-late : goal.wait-requires-clause-late
wait-requires-clause-late g c κs within =
    let r = c.take_owed.new.self in
    let m = machine_of g.T.Turns.turn_of r.setup in
    let x = item_of c.value.result.now in
    let left : c.unwind_later.new.self.history.done ≡ not_later m x r.history.done = ap (λ (h : ComponentView _). h.history.done) c.unwind_later.ensures.record in
    let low : latest 0 (not_later m x r.history.done) ≤ x.key = not_later_low m x r.history.done in
    subst (λ (w : Signed). latest 0 c.unwind_later.new.self.history.done ≤ rank w.message.key) c.value.ensures
    (subst (λ es. latest 0 es ≤ x.key) (sym left) low)
