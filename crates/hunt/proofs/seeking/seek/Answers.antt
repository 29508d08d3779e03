use Rattle.std.proofs.Common.{[], ◌∷◌, ◌∙◌, subst, sym}
use Rattle.task_seed.specs.declared.setup.Setup.{Setup}
use Rattle.task_seed.specs.Machines.{machine}
use Rattle.task_seed.specs.Setups.{plan_of, system}
use Rattle.task_seed.specs.Taken.{turn_of}
use Rattle.schedules.proofs.Told.{fit_joined}
use Rattle.reference.specs.Views.{IsComplete, IsNextTurn}
use Rattle.hunt.proofs.Turning.{fewer_left, one_taken, seen_last, unseen_more}
use Rattle.hunt.proofs.seeking.seek.Goals as goal

pub loop-turns-smaller : goal.loop-turns-smaller
loop-turns-smaller g c =
    let setup = c.args.reference.now.setup in
    let s = system g.T.Turns.turn_of setup in
    let here = c.loop-turns in
    let now = c.step.new.self.taken in
    let next = (subst (λ o. IsNextTurn (machine (system g.T.Turns.turn_of here.reference.setup)) here.reference.taken o now) c.in-Some.is c.in_ok-turned.ensures.ok).1 in
    let complete : IsComplete (machine s) now = subst (λ (p : Setup g.row.T.Denot). IsComplete (machine (system g.T.Turns.turn_of p)) now) here.invariant.same c.step.ensures.whole in
    fewer_left (plan_of setup) s c.requires.known here.reference.taken now (turn_of c.in-Some.turned) next complete

pub loop-turns-preserved : goal.loop-turns-preserved
loop-turns-preserved g c =
    let setup = c.args.reference.now.setup in
    let s = system g.T.Turns.turn_of setup in
    let here = c.loop-turns in
    let now = c.step.new.self.taken in
    let turned = c.in-Some.turned in
    let next = (subst (λ o. IsNextTurn (machine (system g.T.Turns.turn_of here.reference.setup)) here.reference.taken o now) c.in-Some.is c.in_ok-turned.ensures.ok).1 in
    let complete : IsComplete (machine s) now = subst (λ (p : Setup g.row.T.Denot). IsComplete (machine (system g.T.Turns.turn_of p)) now) here.invariant.same c.step.ensures.whole in
    record {
      same = c.step.ensures.setup ∙ here.invariant.same;
      complete = complete;
      are = rw c.in_ok-push.ensures.items (one_taken here.turns.items turned next here.invariant.are);
      keys = rw c.in_ok-push.ensures.items (fit_joined here.turns.items (turned ∷ []) here.invariant.keys (c.fits.ensures, tt));
      unseen = rw c.in_ok-push.ensures.items (unseen_more c.args.wanted.now here.turns.items turned here.invariant.unseen (sym c.saw-seen.ensures ∙ c.if-seen.false));
    }

pub returns-then-seen-clause-found : goal.returns-then-seen-clause-found
returns-then-seen-clause-found g c =
    let setup = c.args.reference.now.setup in
    let s = system g.T.Turns.turn_of setup in
    let here = c.loop-turns in
    let now = c.step.new.self.taken in
    let turned = c.in-Some.turned in
    let next = (subst (λ o. IsNextTurn (machine (system g.T.Turns.turn_of here.reference.setup)) here.reference.taken o now) c.in-Some.is c.in_ok-turned.ensures.ok).1 in
    let complete : IsComplete (machine s) now = subst (λ (p : Setup g.row.T.Denot). IsComplete (machine (system g.T.Turns.turn_of p)) now) here.invariant.same c.step.ensures.whole in
    let items = c.in_ok-push.ensures.items in
    seen_last (plan_of setup) s c.requires.known c.args.wanted.now here.turns.items c.push.new.self.items turned items (rw items (one_taken here.turns.items turned next here.invariant.are)) complete
    (rw items (fit_joined here.turns.items (turned ∷ []) here.invariant.keys (c.fits.ensures, tt))) here.invariant.unseen (sym c.saw-seen.ensures ∙ c.if-seen.true)
