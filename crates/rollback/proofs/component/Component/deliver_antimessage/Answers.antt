use Rattle.std.proofs.Common.{◌≡◌, ◌-◌, true, length, sym, ap, ◌∙◌, arith}
use Rattle.std.specs.Prelude.{nat_lt}
use Rattle.virtual_time.specs.Bags.{inputs}
use Rattle.virtual_time.specs.Records.{back_until, before_last}
use Rattle.rollback.specs.Flight.{item_of}
use Rattle.rollback.specs.ComponentView.{ComponentView, machine_of}
use Rattle.rollback.proofs.Unwinding.{by_antimessage, until_length}
use Rattle.rollback.proofs.component.Component.deliver_antimessage.Goals as goal

pub overflow_sub-count : goal.overflow_sub-count
overflow_sub-count g c =
    let r = c.has_done.new.self in
    let m = machine_of g.T.Turns.turn_of r.setup in
    let x = item_of c.value-2.result.now in
    let after : c.depth.result ≡ length (before_last m x r.history.done) = c.depth.ensures ∙ ap (λ (h : ComponentView _). length h.history.done) c.unwind_until.ensures.record in
    let all = until_length m 0 x r.history.done in
    omega (arith, c.depth-before.ensures, after, all)

pub returns-clause-count : goal.returns-clause-count
returns-clause-count g c =
    let r = c.has_done.new.self in
    let m = machine_of g.T.Turns.turn_of r.setup in
    let x = item_of c.value-2.result.now in
    let after : c.depth.result ≡ length (before_last m x r.history.done) = c.depth.ensures ∙ ap (λ (h : ComponentView _). length h.history.done) c.unwind_until.ensures.record in
    let all = until_length m 0 x r.history.done in
    let count : c.depth-before.result - c.depth.result ≡ length (back_until m x r.history.done) = omega (arith, c.depth-before.ensures, after, all) in
    let first = c.take_pending.ensures.kept c.if-take_pending.false in
    let same = c.has_done.ensures.kept ∙ first in
    let message = c.value-2.ensures ∙ c.take_pending.ensures.cell in
    let asked = c.value.ensures ∙ c.take_pending.ensures.cell in
    let done : c.has_done.result ≡ true = c.if-not-has_done.false in
    let there : nat_lt 0 (inputs (machine_of g.T.Turns.turn_of c.take_pending.new.self.setup) c.take_pending.new.self.history.done (item_of c.value.result.now).key (item_of c.value.result.now).action) ≡ nat_lt 0 (inputs (machine_of g.T.Turns.turn_of c.args.self.now.setup) c.args.self.now.history.done (item_of c.args.cell).key (item_of c.args.cell).action)
    = (λ v. nat_lt 0 (inputs (machine_of g.T.Turns.turn_of (first v).setup) (first v).history.done (item_of (asked v)).key (item_of (asked v)).action)) in
    let own = machine_of g.T.Turns.turn_of c.args.self.now.setup in
    count
    ∙ (λ v. length (back_until (machine_of g.T.Turns.turn_of (same v).setup) (item_of (message v)) (same v).history.done))
    ∙ ap (λ l. length l) (by_antimessage own 0 (item_of c.args.cell) c.args.self.now.history (sym c.take_pending.ensures.answer ∙ c.if-take_pending.false) (sym there ∙ sym c.has_done.ensures.answer ∙ done))
