use Rattle.std.proofs.Common.{◌≡◌, ◌∙◌, ap, rules, sym, subst, true, false, Bool, Some}
use Rattle.std.specs.Prelude.{OnOk, cond}
use Rattle.io_automata.specs.Automata.{transition_of}
use Rattle.plans.specs.Plans.{composition}
use Rattle.io_automata.specs.Signatures.{inputs}
use Rattle.io_automata.specs.Steps.{applied}
use Rattle.plans.proofs.Passing.{takes_by_entry}
use Rattle.plans.proofs.plan.Plan.receive.Goals as goal

pub returns-then-not-takes-clause-ok : goal.returns-then-not-takes-clause-ok
returns-then-not-takes-clause-ok g c =
    let all = composition c.args.self.now in
    let old = g.C.Cells.values c.args.cells.now in
    let takes : c.takes_input-takes.result ≡ false = search rules in
    let by_entry = takes_by_entry all c.args.self.now.compatible c.args.j c.args.action.now (Some (transition_of c.in-Some.entry.now)) c.in-Some.ensures in
    let is : inputs all c.args.j c.args.action.now ≡ false = sym by_entry ∙ sym c.takes_input-takes.ensures ∙ takes in
    sym (ap (λ b. cond b (applied all c.args.j c.args.action.now old) old) is)

pub returns-else-not-takes-clause-ok : goal.returns-else-not-takes-clause-ok
returns-else-not-takes-clause-ok g c =
    let all = composition c.args.self.now in
    let old = g.C.Cells.values c.args.cells.now in
    let new = g.C.Cells.values c.run.new.cells in
    let takes : c.takes_input-takes.result ≡ true = search rules in
    let by_entry = takes_by_entry all c.args.self.now.compatible c.args.j c.args.action.now (Some (transition_of c.in-Some.entry.now)) c.in-Some.ensures in
    let is : inputs all c.args.j c.args.action.now ≡ true = sym by_entry ∙ sym c.takes_input-takes.ensures ∙ takes in
    let done : OnOk c.run.result (new ≡ applied all c.args.j c.args.action.now old) = search rules in
    subst (λ (b : Bool). OnOk c.run.result (new ≡ cond b (applied all c.args.j c.args.action.now old) old)) (sym is) done
