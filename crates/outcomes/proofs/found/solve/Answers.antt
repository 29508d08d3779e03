use Rattle.std.proofs.Common.{◌≡◌, ◌∙◌, filter, true}
use Rattle.std.specs.List.{range_with_len}
use Rattle.std.proofs.lemmas.List.{take-replicate}
use Rattle.io_automata.specs.Automata.{transition_of}
use Rattle.io_automata.specs.Steps.{holds}
use Rattle.io_automata.specs.Tuples.{many, tuple_at}
use Rattle.outcomes.specs.Solving.{places_in, passes}
use Rattle.outcomes.proofs.Solved.{if_ok, solved}
use Rattle.outcomes.proofs.found.solve.Goals as goal

pub returns : goal.returns
returns g c =
    let entry = transition_of c.args.entry.now in
    let condition = c.args.condition.now in
    let formals = c.args.formals.now in
    let state = g.C.Cells.values c.args.cells.now in
    let all = c.as_slice-all.result.now in
    let stages = c.in_ok-stages.stages.now in
    let left = c.ask_first.new.left in
    if_ok c.walk_from.result
    (λ spans. places_in spans.items ≡ filter (λ at. passes formals state stages left (tuple_at formals all at)) (range_with_len 0 c.in_ok-count.count))
    (λ spans. places_in spans.items ≡ filter (λ at. holds entry formals state (tuple_at formals entry.params at)) (range_with_len 0 (many entry.params)))
    (λ spans found. solved entry condition formals state all stages left c.in_ok-count.count spans.items c.requires.solved c.in_ok-count.ensures c.as_slice-all.ensures.value (λ args. c.in_ok-stages.ensures.passes args ∙ (λ i. passes formals state (c.as_slice.ensures.value i) (take-replicate condition.branches 16 true c.requires.solved.few i) args)) found)
    c.walk_from.ensures
