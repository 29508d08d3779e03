use Rattle.std.proofs.Common.{◌≡◌, ◌^◌, None, false, sym, ap, subst, ◌∙◌}
use Rattle.task_seed.specs.Setups.{system}
use Rattle.task_seed.specs.Machines.{machine}
use Rattle.std.specs.Arc.{arc_value}
use Rattle.virtual_time.specs.Records.{next_of}
use Rattle.rollback.specs.ComponentView.{ComponentView, machine_of, next_key, is_receiving}
use Rattle.rollback.specs.ComponentInvariant.{record_of}
use Rattle.rollback.specs.Coming.{turning}
use Rattle.rollback.proofs.Sending.{end_is}
use Rattle.rollback.proofs.Stepping.{turning_is}
use Rattle.rollback.proofs.component.Component.next.Goals as goal

pub returns-in-None-coming : goal.returns-in-None-coming
returns-in-None-coming g c =
    let f = c.self.inside in
    let s = system g.T.Turns.turn_of (arc_value f.setup) in
    let r = record_of f.store f.first f.done f.pending f.owed in
    let no : is_receiving (next_of (machine s) f.number r) ≡ false
    = subst (λ (h : ComponentView _). is_receiving (next_of (machine_of g.T.Turns.turn_of h.setup) h.number h.history) ≡ false) (sym c.self.view_is) (sym c.is_input_next.ensures ∙ c.if-is_input_next.false) in
    let is : next_of (machine s) f.number r ≡ None
    = turning_is s f.number f.first f.store f.done f.pending f.owed f.coming c.self.invariant.0 no ∙ ap (turning (machine s) f.number r) c.in-None-coming.is in
    subst (λ (h : ComponentView _). 2 ^ 144 ≡ next_key (machine_of g.T.Turns.turn_of h.setup) (next_of (machine_of g.T.Turns.turn_of h.setup) h.number h.history)) c.self.view_is
    (sym end_is ∙ sym (ap (next_key (machine s)) is))
