use Rattle.std.proofs.Common.{◌≡◌, true, sym, subst, ◌∙◌}
use Rattle.std.specs.Prelude.{nat_lt}
use Rattle.std.specs.Arc.{arc_value}
use Rattle.event_keys.specs.declared.message.Sign.TheVariants.{Minus}
use Rattle.event_keys.specs.Ranks.{rank}
use Rattle.virtual_time.specs.Bags.{inputs}
use Rattle.task_seed.specs.Setups.{system}
use Rattle.rollback.specs.Flight.{goes}
use Rattle.rollback.specs.ComponentView.{ComponentView, machine_of}
use Rattle.rollback.proofs.Keeping.{any_input_is}
use Rattle.rollback.proofs.component.Component.has_done.Goals as goal

pub returns-clause-answer : goal.returns-clause-answer
returns-clause-answer g c =
    let f = c.self.inside in
    let x = c.args.antimessage.now in
    let goes_there : goes Minus f.number x ≡ true = subst (λ (h : ComponentView _). goes Minus h.number x ≡ true) (sym c.self.view_is) c.requires in
    subst (λ (h : ComponentView _). c.has_input.result ≡ nat_lt 0 (inputs (machine_of g.T.Turns.turn_of h.setup) h.history.done (rank x.message.key) x.message.action)) c.self.view_is
    (c.has_input.ensures.answer ∙ any_input_is (system g.T.Turns.turn_of (arc_value f.setup)) f.number f.first x f.done.before c.self.invariant.0.ready c.is_timed.ensures.fits goes_there)
