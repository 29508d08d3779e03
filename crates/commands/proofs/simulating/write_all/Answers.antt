use Rattle.std.proofs.Common.{◌≡◌, ◌∙◌, ap, subst}
use Rattle.std.specs.Prelude.{Option, option_copied, option_map}
use Rattle.terms.specs.Named.{Named}
use Rattle.plans.specs.declared.plan.Plan.{Plan}
use Rattle.task_seed.specs.declared.setup.Setup.{Setup}
use Rattle.task_seed.specs.Machines.{machine}
use Rattle.task_seed.specs.Setups.{plan_of, system}
use Rattle.task_seed.specs.Taken.{turn_of, turned_of}
use Rattle.reference.specs.Views.{IsComplete, IsNextTurn}
use Rattle.trace.specs.Lines.{shown_text}
use Rattle.trace.specs.Puts.{Puts, Stops}
use Rattle.commands.proofs.Streaming.{cut, fewer_left, for_want, in_part, one_more}
use Rattle.commands.proofs.simulating.write_all.Goals as goal

pub returns-in_err-key-clause-unsimulated : goal.returns-in_err-key-clause-unsimulated
returns-in_err-key-clause-unsimulated g c =
    let setup = c.args.reference.now.setup in
    let begun = in_part (plan_of setup) (system g.T.Turns.turn_of setup) c.requires.known c.loop-found.invariant.complete c.loop-found.invariant.sofar in
    for_want _ c.from_residual.result c.from_residual.ensures.1 begun

pub loop-found-smaller : goal.loop-found-smaller
loop-found-smaller g c =
    let setup = c.args.reference.now.setup in
    let s = system g.T.Turns.turn_of setup in
    let here = c.loop-found in
    let now = c.step_into.new.self.taken in
    let found = c.step_into.new.found in
    let next = (subst (λ o. IsNextTurn (machine (system g.T.Turns.turn_of here.reference.setup)) here.reference.taken (option_map (turned_of found) o) now) c.in-Some.is c.in_ok-key.ensures.ok).1 in
    let complete : IsComplete (machine s) now = subst (λ (p : Setup g.row.T.Denot). IsComplete (machine (system g.T.Turns.turn_of p)) now) here.invariant.same c.step_into.ensures.whole in
    fewer_left (plan_of setup) s c.requires.known here.reference.taken now (turn_of (turned_of found c.in-Some.key)) next complete

pub loop-found-preserved : goal.loop-found-preserved
loop-found-preserved g c =
    let known = g.W.Write.contents in
    let setup = c.args.reference.now.setup in
    let s = system g.T.Turns.turn_of setup in
    let here = c.loop-found in
    let now = c.step_into.new.self.taken in
    let found = c.step_into.new.found in
    let key = c.in-Some.key in
    let next = (subst (λ o. IsNextTurn (machine (system g.T.Turns.turn_of here.reference.setup)) here.reference.taken (option_map (turned_of found) o) now) c.in-Some.is c.in_ok-key.ensures.ok).1 in
    let complete : IsComplete (machine s) now = subst (λ (p : Setup g.row.T.Denot). IsComplete (machine (system g.T.Turns.turn_of p)) now) here.invariant.same c.step_into.ensures.whole in
    let plan : c.plan-plan.result.now ≡ plan_of setup = c.plan-plan.ensures ∙ ap plan_of (c.setup.ensures ∙ c.step_into.ensures.setup ∙ here.invariant.same) in
    let at_plan = subst (λ (p : Plan). Puts known here.out c.put_turn.new.out here.written c.in-Ok.after (shown_text p c.args.lines (turned_of (option_copied c.as_ref.result) key))) plan c.in-Ok.ensures.ok in
    let puts = subst (λ (o : Option Named). Puts known here.out c.put_turn.new.out here.written c.in-Ok.after (shown_text (plan_of setup) c.args.lines (turned_of o key))) c.as_ref.ensures.value at_plan in
    record { same = c.step_into.ensures.setup ∙ here.invariant.same; complete = complete; sofar = one_more (turned_of found key) c.put_turn.ensures.key next here.invariant.sofar puts }

pub returns-in-Err-clause-unsimulated : goal.returns-in-Err-clause-unsimulated
returns-in-Err-clause-unsimulated g c =
    let known = g.W.Write.contents in
    let setup = c.args.reference.now.setup in
    let s = system g.T.Turns.turn_of setup in
    let here = c.loop-found in
    let now = c.step_into.new.self.taken in
    let found = c.step_into.new.found in
    let key = c.in-Some.key in
    let next = (subst (λ o. IsNextTurn (machine (system g.T.Turns.turn_of here.reference.setup)) here.reference.taken (option_map (turned_of found) o) now) c.in-Some.is c.in_ok-key.ensures.ok).1 in
    let complete : IsComplete (machine s) now = subst (λ (p : Setup g.row.T.Denot). IsComplete (machine (system g.T.Turns.turn_of p)) now) here.invariant.same c.step_into.ensures.whole in
    let plan : c.plan-plan.result.now ≡ plan_of setup = c.plan-plan.ensures ∙ ap plan_of (c.setup.ensures ∙ c.step_into.ensures.setup ∙ here.invariant.same) in
    let at_plan = subst (λ (p : Plan). Stops known here.out c.put_turn.new.out here.written (shown_text p c.args.lines (turned_of (option_copied c.as_ref.result) key)) c.in-Err.fault) plan c.in-Err.ensures.err in
    let stopped = subst (λ (o : Option Named). Stops known here.out c.put_turn.new.out here.written (shown_text (plan_of setup) c.args.lines (turned_of o key)) c.in-Err.fault) c.as_ref.ensures.value at_plan in
    cut (plan_of setup) s c.requires.known (turned_of found key) c.put_turn.ensures.key next complete here.invariant.sofar stopped
