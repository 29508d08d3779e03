use Rattle.std.proofs.Common.{◌≡◌, ◌<◌, ◌++◌, ◌∷◌, [], ◌∙◌, arith, ap, sym, true, false, map, rules}
use Rattle.std.specs.List.{flat_map}
use Rattle.io_automata.specs.Automata.{transition_of}
use Rattle.io_automata.specs.Tuples.{enabled_in}
use Rattle.outcomes.specs.Tasks.{AreFound, made_of, placed}
use Rattle.outcomes.specs.declared.spans.Found.{Found}
use Rattle.outcomes.proofs.Finding.{all_added, none_added, solved_known, unsolved_known, spans_added, spans_found}
use Rattle.outcomes.proofs.OneEntry.{told_there}
use Rattle.outcomes.proofs.Solved.{on_ok}
use Rattle.outcomes.proofs.found.find_at.Goals as goal

pub returns-in_ok-push-clause-made : goal.returns-in_ok-push-clause-made
returns-in_ok-push-clause-made g c =
    let entry = transition_of c.in-Some.entry.now in
    let task = c.args.task.now in
    let number = c.number_at-number.result in
    let one : Found = record { place = c.args.place; from = 0; count = number } in
    let some : 0 < number = omega (arith, c.if-number-gt0.true) in
    let told = told_there task c.args.place number c.as_slice.result.now entry c.requires.task c.as_slice.ensures.value c.number_at-number.ensures c.in-Some.ensures in
    let holding : c.in_ok-holds.field-0 ≡ true = search rules in
    let pushed : c.push.new.self.items ≡ c.args.founds.now.items ++ one ∷ [] = search rules in
    all_added task c.args.place entry (sym c.in-Some.ensures) (g.C.Cells.values c.args.cells.now) number c.args.founds.now.items c.push.new.self.items told some (sym holding ∙ c.in_ok-holds.ensures) pushed

pub returns-else-branch-clause-made : goal.returns-else-branch-clause-made
returns-else-branch-clause-made g c =
    let entry = transition_of c.in-Some.entry.now in
    let task = c.args.task.now in
    let number = c.number_at-number.result in
    let some : 0 < number = omega (arith, c.if-number-gt0.true) in
    let told = told_there task c.args.place number c.as_slice.result.now entry c.requires.task c.as_slice.ensures.value c.number_at-number.ensures c.in-Some.ensures in
    let holding : c.in_ok-holds.field-0 ≡ false = search rules in
    none_added task c.args.place entry (sym c.in-Some.ensures) (g.C.Cells.values c.args.cells.now) number c.args.founds.now.items told some (sym holding ∙ c.in_ok-holds.ensures)

pub returns-in_default-condition_among-clause-made : goal.returns-in_default-condition_among-clause-made
returns-in_default-condition_among-clause-made g c = absurd (unsolved_known c.args.task.now c.args.place c.as_slice-conditions.result.now (transition_of c.in-Some.entry.now) c.requires.task c.as_slice-conditions.ensures.value c.in-Some.ensures c.in_default-condition_among.ensures)

pub solve-requires-clause-solved : goal.solve-requires-clause-solved
solve-requires-clause-solved g c = solved_known c.args.task.now c.args.place c.as_slice-conditions.result.now (transition_of c.in-Some.entry.now) c.in-Some-condition_among.condition.now c.requires.task c.as_slice-conditions.ensures.value c.in-Some.ensures c.in-Some-condition_among.ensures

pub solve-requires-clause-complete : goal.solve-requires-clause-complete
solve-requires-clause-complete g c = c.requires.task.complete c.args.place (transition_of c.in-Some.entry.now) (sym c.in-Some.ensures)

pub returns-clause-there : goal.returns-clause-there
returns-clause-there g c =
    let task = c.args.task.now in
    let old = c.args.founds.now.items in
    let new = c.add_all.new.founds.items in
    let spans = c.in_ok-spans.spans.items in
    on_ok c.add_all.result (new ≡ old ++ map (placed c.args.place) c.as_slice-all.result.now) (AreFound task old → AreFound task new)
    (λ is are. spans_found task c.args.place (transition_of c.in-Some.entry.now) (g.C.Cells.values c.args.cells.now) spans old new (sym c.in-Some.ensures) c.in_ok-spans.ensures (is ∙ ap (λ xs. old ++ map (placed c.args.place) xs) c.as_slice-all.ensures) are)
    c.add_all.ensures

pub returns-clause-made : goal.returns-clause-made
returns-clause-made g c =
    let task = c.args.task.now in
    let old = c.args.founds.now.items in
    let new = c.add_all.new.founds.items in
    let spans = c.in_ok-spans.spans.items in
    let state = g.C.Cells.values c.args.cells.now in
    on_ok c.add_all.result (new ≡ old ++ map (placed c.args.place) c.as_slice-all.result.now) (flat_map (made_of task) new ≡ flat_map (made_of task) old ++ enabled_in task.entries.now task.formals.now state c.args.place)
    (λ is. spans_added task c.args.place (transition_of c.in-Some.entry.now) (sym c.in-Some.ensures) state spans old new c.in_ok-spans.ensures (is ∙ ap (λ xs. old ++ map (placed c.args.place) xs) c.as_slice-all.ensures))
    c.add_all.ensures
