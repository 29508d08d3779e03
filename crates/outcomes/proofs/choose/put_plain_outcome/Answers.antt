use Rattle.std.proofs.Common.{◌≡◌, ◌<◌, ◌∙◌, arith, rules, sym, length, true, false}
use Rattle.io_automata.specs.Automata.{transition_of}
use Rattle.outcomes.proofs.OneEntry.{one_idle, one_counted, one_acts}
use Rattle.outcomes.proofs.choose.put_plain_outcome.Goals as goal

pub returns-then-not-holding-clause-plain : goal.returns-then-not-holding-clause-plain
returns-then-not-holding-clause-plain g c plain =
    let task = c.args.task.now in
    let long : length task.places.now ≡ 1 = omega (arith, c.if-task-eq1.true) in
    let some : 0 < c.number_at-number.result = omega (arith, c.if-number-gt0.true) in
    let holding : c.in_ok-holding.holding ≡ false = search rules in
    c.requires.none ∙ one_idle task c.args.choice (g.C.Cells.values c.args.cells.now) c.as_slice.result.now (transition_of c.in-Some.entry.now) c.number_at-number.result c.requires.task long c.as_slice.ensures.value c.number_at-number.ensures some c.in-Some.ensures (sym holding ∙ c.in_ok-holding.ensures)

pub put_action_at-requires-clause-count : goal.put_action_at-requires-clause-count
put_action_at-requires-clause-count g c =
    let task = c.args.task.now in
    let long : length task.places.now ≡ 1 = omega (arith, c.if-task-eq1.true) in
    let some : 0 < c.number_at-number.result = omega (arith, c.if-number-gt0.true) in
    one_counted task c.args.choice (g.C.Cells.values c.args.cells.now) c.as_slice.result.now (transition_of c.in-Some.entry.now) c.number_at-number.result c.requires.task long c.as_slice.ensures.value c.number_at-number.ensures some c.in-Some.ensures

pub returns-then-number-gt0-clause-plain : goal.returns-then-number-gt0-clause-plain
returns-then-number-gt0-clause-plain g c plain =
    let task = c.args.task.now in
    let long : length task.places.now ≡ 1 = omega (arith, c.if-task-eq1.true) in
    let some : 0 < c.number_at-number.result = omega (arith, c.if-number-gt0.true) in
    let holding : c.in_ok-holding.holding ≡ true = search rules in
    c.in_ok-put_action_at.ensures.ok ∙ one_acts task c.args.choice (g.C.Cells.values c.args.cells.now) c.as_slice.result.now (transition_of c.in-Some.entry.now) c.number_at-number.result c.requires.task long c.as_slice.ensures.value c.number_at-number.ensures some c.in-Some.ensures (sym holding ∙ c.in_ok-holding.ensures)
