use Rattle.std.proofs.Common.{◌≡◌, subst}
use Rattle.rollback.specs.ComponentView.{ComponentView, machine_of}
use Rattle.event_keys.specs.declared.message.Sign.TheVariants.{Minus}
use Rattle.virtual_time.specs.Records.{unsent}
use Rattle.std.specs.Prelude.{take}
use Rattle.rollback.specs.Post.{IsPosted}
use Rattle.rollback.proofs.Returning.{run_back}
use Rattle.rollback.proofs.component.Component.there_and_back.Goals as goal

pub returns-clause-trip : goal.returns-clause-trip
returns-clause-trip g c =
    let t = g.T.Turns.turn_of in
    let own = c.args.self.now in
    let m = machine_of t own.setup in
    let came = c.process_some-trip in
    let h = came.new.self in
    let same : h ≡ record own { history = h.history } = came.ensures.rest in
    run_back m own.number (c.record_law.ensures.done m own.number) own.history h.history c.args.out.now came.new.out c.roll_back_some.new.out came.result.entries c.args.most came.result.stopped
    came.ensures.run came.ensures.end
    (subst (λ (x : ComponentView _). IsPosted Minus (unsent (machine_of t x.setup) x.number (take came.result.entries h.history.done)) came.new.out c.roll_back_some.new.out) same c.roll_back_some.ensures.sent)
