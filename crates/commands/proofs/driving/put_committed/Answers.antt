use Rattle.std.proofs.Common.{◌≡◌, ap, ◌∙◌, subst}
use Rattle.std.specs.Prelude.{◌++◌, reverse, IfOk, IfErr}
use Rattle.std.proofs.lemmas.Iterator.Consumers.{YieldsList-from_first}
use Rattle.std.proofs.lemmas.List.{append-nil}
use Rattle.plans.specs.declared.plan.Plan.{Plan}
use Rattle.task_seed.specs.Setups.{plan_of}
use Rattle.trace.specs.Given.{all_put, all_stopped}
use Rattle.trace.specs.Lines.{text_of}
use Rattle.trace.specs.Puts.{Puts, Stops}
use Rattle.commands.proofs.driving.put_committed.Goals as goal

pub returns-clause-ok : goal.returns-clause-ok
returns-clause-ok g c =
    let turns = reverse c.args.world.now.committed in
    let items = c.iter.ensures ∙ ap (λ a. reverse a.before ++ a.after) c.committed.ensures.turns ∙ append-nil turns in
    let always = YieldsList-from_first (λ turn. turn.now) (λ s. s) {s = c.iter.result} turns items in
    let plan : c.plan.result.now ≡ plan_of c.args.world.now.setup = c.plan.ensures ∙ ap plan_of c.setup.ensures in
    subst (λ (p : Plan). IfOk c.append_turns.result (λ after. Puts g.W.Write.contents c.args.out.now c.append_turns.new.out c.args.before after (text_of p c.args.lines turns))) plan
    (all_put g.W.Write.contents c.args.out.now c.append_turns.new.out c.plan.result.now c.args.lines always c.args.before c.append_turns.result c.append_turns.ensures.ok)

pub returns-clause-err : goal.returns-clause-err
returns-clause-err g c =
    let turns = reverse c.args.world.now.committed in
    let items = c.iter.ensures ∙ ap (λ a. reverse a.before ++ a.after) c.committed.ensures.turns ∙ append-nil turns in
    let always = YieldsList-from_first (λ turn. turn.now) (λ s. s) {s = c.iter.result} turns items in
    let plan : c.plan.result.now ≡ plan_of c.args.world.now.setup = c.plan.ensures ∙ ap plan_of c.setup.ensures in
    subst (λ (p : Plan). IfErr c.append_turns.result (Stops g.W.Write.contents c.args.out.now c.append_turns.new.out c.args.before (text_of p c.args.lines turns))) plan
    (all_stopped g.W.Write.contents c.args.out.now c.append_turns.new.out c.plan.result.now c.args.lines always c.args.before c.append_turns.result c.append_turns.ensures.err)
