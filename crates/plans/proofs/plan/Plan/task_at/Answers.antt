use Rattle.std.proofs.Common.{◌∙◌, ap, slice_get}
use Rattle.plans.proofs.Tasks.{found_there, none_there, no_task, task_is}
use Rattle.plans.proofs.plan.Plan.task_at.Goals as goal

pub returns-in_default-get-3-clause-none : goal.returns-in_default-get-3-clause-none
returns-in_default-get-3-clause-none c =
    let plan = c.args.self.now in
    let i = c.args.i in
    let component = c.in-Some.component.now in
    let automaton = c.in-Some-get.automaton.now in
    let one = c.in-Some.ensures.lookup in
    let two = c.in-Some-get.ensures.lookup in
    let here = found_there c.deref.result.now i component one.3.0 one.1 ∙ ap (λ list. slice_get list i) c.deref.ensures.value in
    let there = found_there c.deref-2.result.now component.automaton automaton two.3.0 two.1 ∙ ap (λ list. slice_get list component.automaton) c.deref-2.ensures.value in
    no_task plan.automata.items plan.components.items i c.args.number component here automaton there (none_there c.deref-4.result.now c.args.number c.in_default-get-3.ensures.lookup.3 ∙ ap (λ list. slice_get list c.args.number) c.deref-4.ensures.value)

pub returns-clause-some : goal.returns-clause-some
returns-clause-some c =
    let plan = c.args.self.now in
    let i = c.args.i in
    let component = c.in-Some.component.now in
    let automaton = c.in-Some-get.automaton.now in
    let known = c.in-Some-get-2.known.now in
    let places = c.in-Some-get-3.places.now in
    let one = c.in-Some.ensures.lookup in
    let two = c.in-Some-get.ensures.lookup in
    let three = c.in-Some-get-2.ensures.lookup in
    let four = c.in-Some-get-3.ensures.lookup in
    let here = found_there c.deref.result.now i component one.3.0 one.1 ∙ ap (λ list. slice_get list i) c.deref.ensures.value in
    let there = found_there c.deref-2.result.now component.automaton automaton two.3.0 two.1 ∙ ap (λ list. slice_get list component.automaton) c.deref-2.ensures.value in
    let is_known = found_there c.deref-3.result.now component.automaton known three.3.0 three.1 ∙ ap (λ list. slice_get list component.automaton) c.deref-3.ensures.value in
    let is_task = found_there c.deref-4.result.now c.args.number places four.3.0 four.1 ∙ ap (λ list. slice_get list c.args.number) c.deref-4.ensures.value in
    task_is plan.automata.items plan.components.items i c.args.number component here automaton there plan.known.items plan.known_all plan.formed
    (record { entries = c.as_slice.result; known = c.in-Some-get-2.known; formals = c.as_slice-2.result; places = c.as_slice-3.result })
    is_known places is_task c.as_slice.ensures.value c.as_slice-2.ensures.value c.as_slice-3.ensures.value
