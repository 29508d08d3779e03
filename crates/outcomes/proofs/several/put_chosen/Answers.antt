use Rattle.std.proofs.Common.{◌≡◌, ◌<◌, ◌≤◌, ◌∙◌, ap, arith, refl, subst, length, get_or, OnOk, Option, Some, slice_get}
use Rattle.terms.specs.Named.{Named}
use Rattle.io_automata.specs.Automata.{transition_of}
use Rattle.io_automata.specs.Outcomes.{enabled_by}
use Rattle.io_automata.specs.Tuples.{enabled_in}
use Rattle.outcomes.proofs.AllOrNone.{alike_found, counted, unasked}
use Rattle.outcomes.proofs.Chosen.{count_there, stands_here, stands_later}
use Rattle.outcomes.proofs.OneEntry.{told_there, some_there}
use Rattle.outcomes.proofs.several.put_chosen.Goals as goal

pub put_action_at-requires-clause-below : goal.put_action_at-requires-clause-below
put_action_at-requires-clause-below g c =
    let task = c.args.task.now in
    let formals = task.formals.now in
    let state = g.C.Cells.values c.args.cells.now in
    let enabled = enabled_in task.entries.now formals state in
    let places = task.places.now in
    let at = c.loop-at.at in
    let entry = transition_of c.in-Some.entry.now in
    let number = c.number_at-number.result in
    let within : at < length places = omega (arith, c.loop-at-test.true) in
    let count = count_there enabled places c.args.counts.now at 0 c.requires.counts within in
    let less : c.loop-at.left < length (enabled (get_or places at 0)) = omega (arith, count, c.if-left-count.true) in
    let told = told_there task (get_or places at 0) number c.as_slice.result.now entry c.requires.task c.as_slice.ensures.value c.number_at-number.ensures c.in-Some.ensures in
    let some : 0 < number = some_there task at number c.as_slice.result.now c.requires.alike within c.as_slice.ensures.value c.number_at-number.ensures in
    let here = ap (λ entry. length (enabled_by formals state entry)) c.in-Some.ensures in
    let below : c.loop-at.left < length (enabled_by formals state (Some entry)) = omega (arith, less, here) in
    let found = alike_found entry formals state (length (enabled_by formals state (Some entry))) c.loop-at.left (unasked entry number told some) refl below in
    let all = counted entry number told some in
    omega (arith, found.0, all)

pub returns-then-left-count-clause-ok : goal.returns-then-left-count-clause-ok
returns-then-left-count-clause-ok g c =
    let task = c.args.task.now in
    let formals = task.formals.now in
    let state = g.C.Cells.values c.args.cells.now in
    let enabled = enabled_in task.entries.now formals state in
    let places = task.places.now in
    let at = c.loop-at.at in
    let entry = transition_of c.in-Some.entry.now in
    let number = c.number_at-number.result in
    let within : at < length places = omega (arith, c.loop-at-test.true) in
    let count = count_there enabled places c.args.counts.now at 0 c.requires.counts within in
    let less : c.loop-at.left < length (enabled (get_or places at 0)) = omega (arith, count, c.if-left-count.true) in
    let stands = ap (λ entry. slice_get (enabled_by formals state entry) c.loop-at.left) c.in-Some.ensures ∙ stands_here enabled places at 0 c.loop-at.left within less ∙ c.loop-at.invariant.stands in
    let told = told_there task (get_or places at 0) number c.as_slice.result.now entry c.requires.task c.as_slice.ensures.value c.number_at-number.ensures c.in-Some.ensures in
    let some : 0 < number = some_there task at number c.as_slice.result.now c.requires.alike within c.as_slice.ensures.value c.number_at-number.ensures in
    let here = ap (λ entry. length (enabled_by formals state entry)) c.in-Some.ensures in
    let below : c.loop-at.left < length (enabled_by formals state (Some entry)) = omega (arith, less, here) in
    let found = alike_found entry formals state (length (enabled_by formals state (Some entry))) c.loop-at.left (unasked entry number told some) refl below in
    subst (λ (one : Option Named). OnOk c.put_action_at.result (c.put_action_at.new.found ≡ one)) (found.1 ∙ stands) c.put_action_at.ensures.ok

pub loop-at-preserved : goal.loop-at-preserved
loop-at-preserved g c =
    let task = c.args.task.now in
    let enabled = enabled_in task.entries.now task.formals.now (g.C.Cells.values c.args.cells.now) in
    let places = task.places.now in
    let below : c.loop-at.at < length places = omega (arith, c.loop-at-test.true) in
    let count = count_there enabled places c.args.counts.now c.loop-at.at 0 c.requires.counts below in
    let past : get_or c.args.counts.now c.loop-at.at 0 ≤ c.loop-at.left = omega (arith, c.if-left-count.false) in
    record { none = c.loop-at.invariant.none; stands = stands_later enabled places c.loop-at.at 0 c.loop-at.left _ below count past ∙ c.loop-at.invariant.stands }
