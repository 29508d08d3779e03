use Rattle.std.proofs.Common.{ℕ, List}
use Rattle.trace.specs.Headed.{Behind, headed}
use Rattle.trace.specs.Puts.{Stops}
use Rattle.trace.specs.Went.{IsWritten}
use Rattle.rollback.specs.ComponentView.{machine_of}
use Rattle.world.specs.Simulation.{world_of}
use Rattle.commands.proofs.Driven.{driven}
use Rattle.commands.proofs.driving.drive_world.Goals as goal

pub returns-in-Ok-clause-driven : goal.returns-in-Ok-clause-driven
returns-in-Ok-clause-driven g c =
    let setup = c.args.world.now.setup in
    let Became : List ℕ → Type 0 = Behind c.args.form.head (IsWritten g.W.Write.contents c.args.out.now c.write_committed.new.out) in
    let puts = c.in-Ok.ensures.ok in
    driven g.T.Turns.turn_of setup c.args.form.lines c.args.steps.now c.run.new.self c.run.ensures.setup
    (world_of (machine_of g.T.Turns.turn_of setup) c.args.world.now) c.requires.start c.in_ok-replies.replies.items c.in_ok-replies.ensures.ran
    c.as_slice.result.now c.as_slice.ensures.value c.in_ok-refused.refused.items c.in_ok-refused.ensures c.committed_begins.ensures Became (record { bytes = puts.bytes; failures = puts.failures })

pub returns-clause-undriven : goal.returns-clause-undriven
returns-clause-undriven g c =
    let setup = c.args.world.now.setup in
    let Became : List ℕ → Type 0 = λ text. Stops g.W.Write.contents c.args.out.now c.write_committed.new.out 0 (headed c.args.form.head text) c.in-Err.fault in
    record {
      refused = c.in_ok-refused.refused.items;
      driven =
          driven g.T.Turns.turn_of setup c.args.form.lines c.args.steps.now c.run.new.self c.run.ensures.setup
          (world_of (machine_of g.T.Turns.turn_of setup) c.args.world.now) c.requires.start c.in_ok-replies.replies.items c.in_ok-replies.ensures.ran
          c.as_slice.result.now c.as_slice.ensures.value c.in_ok-refused.refused.items c.in_ok-refused.ensures c.committed_begins.ensures Became c.in-Err.ensures.err;
    }
