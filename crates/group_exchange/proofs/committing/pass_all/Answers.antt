use Rattle.std.proofs.Common.{None, ◌<◌, ℕ, length, ap, ◌∙◌, arith}
use Rattle.event_keys.specs.Ranks.{rank_of_bound}
use Rattle.plans.specs.Plans.{composition}
use Rattle.task_seed.specs.Setups.{system}
use Rattle.task_seed.specs.Machines.{machine}
use Rattle.group_exchange.specs.ExchangeView.{passing, IsPassing}
use Rattle.group_exchange.proofs.Passing.{passing_here, done_more, rest_more, count_more, passed_more, all_done, all_before}
use Rattle.group_exchange.proofs.Placing.{slice_set-length}
use Rattle.group_exchange.proofs.committing.pass_all.Goals as goal

pub pass_turns-requires-clause-small : goal.pass_turns-requires-clause-small
pass_turns-requires-clause-small g c = λ _ _.
    let s = system g.T.Turns.turn_of c.args.setup.now in
    let b = rank_of_bound c.args.bound in
    let l = c.loop-i in
    let law = c.machine_is_lawful.ensures.lawful in
    let before = λ (i m : ℕ). c.reference_is_counted.ensures.before (machine s) b i m law in
    let from = λ (i m : ℕ). c.reference_is_counted.ensures.from (machine s) b i m law c.requires.end in
    let count = c.components-i-end.ensures ∙ ap (λ p. length (composition p)) c.plan.ensures in
    let short : l.i < length l.passages = omega (arith, l.invariant.many, c.requires.many, c.loop-i-test.true, count) in
    (passing_here s b law c.requires.end before from c.args.passages.now l.passages l.i c.from.result _ c.from.ensures l.invariant.rest short c.requires.passing).small

pub pass_turns-requires-clause-few : goal.pass_turns-requires-clause-few
pass_turns-requires-clause-few g c = λ _ _.
    let s = system g.T.Turns.turn_of c.args.setup.now in
    let b = rank_of_bound c.args.bound in
    let l = c.loop-i in
    let law = c.machine_is_lawful.ensures.lawful in
    let before = λ (i m : ℕ). c.reference_is_counted.ensures.before (machine s) b i m law in
    let from = λ (i m : ℕ). c.reference_is_counted.ensures.from (machine s) b i m law c.requires.end in
    let count = c.components-i-end.ensures ∙ ap (λ p. length (composition p)) c.plan.ensures in
    let short : l.i < length l.passages = omega (arith, l.invariant.many, c.requires.many, c.loop-i-test.true, count) in
    (passing_here s b law c.requires.end before from c.args.passages.now l.passages l.i c.from.result _ c.from.ensures l.invariant.rest short c.requires.passing).few

pub pass_turns-requires-clause-before : goal.pass_turns-requires-clause-before
pass_turns-requires-clause-before g c = λ _ _.
    let s = system g.T.Turns.turn_of c.args.setup.now in
    let b = rank_of_bound c.args.bound in
    let l = c.loop-i in
    let law = c.machine_is_lawful.ensures.lawful in
    let before = λ (i m : ℕ). c.reference_is_counted.ensures.before (machine s) b i m law in
    let from = λ (i m : ℕ). c.reference_is_counted.ensures.from (machine s) b i m law c.requires.end in
    let count = c.components-i-end.ensures ∙ ap (λ p. length (composition p)) c.plan.ensures in
    let short : l.i < length l.passages = omega (arith, l.invariant.many, c.requires.many, c.loop-i-test.true, count) in
    (passing_here s b law c.requires.end before from c.args.passages.now l.passages l.i c.from.result _ c.from.ensures l.invariant.rest short c.requires.passing).before

pub loop-i-preserved : goal.loop-i-preserved
loop-i-preserved g c =
    let s = system g.T.Turns.turn_of c.args.setup.now in
    let b = rank_of_bound c.args.bound in
    let l = c.loop-i in
    let law = c.machine_is_lawful.ensures.lawful in
    let before = λ (i m : ℕ). c.reference_is_counted.ensures.before (machine s) b i m law in
    let from = λ (i m : ℕ). c.reference_is_counted.ensures.from (machine s) b i m law c.requires.end in
    let count = c.components-i-end.ensures ∙ ap (λ p. length (composition p)) c.plan.ensures in
    let short : l.i < length l.passages = omega (arith, l.invariant.many, c.requires.many, c.loop-i-test.true, count) in
    let new = c.pass_turns.new.self in
    let e = c.pass_turns.ensures in
    record {
      items = slice_set-length l.walks c.from-in-loop-i.result c.pass_turns.new.walk ∙ l.invariant.items;
      many = slice_set-length l.passages c.from.result new ∙ l.invariant.many;
      done = done_more s b law c.requires.end before from c.args.passages.now l.passages l.i c.from.result (record { passed = 0; ahead = None }) c.from.ensures l.invariant.rest short new e.ahead e.before (e.from c.requires.end) l.invariant.done;
      rest = rest_more s b law c.requires.end before from c.args.passages.now l.passages l.i c.from.result (record { passed = 0; ahead = None }) c.from.ensures l.invariant.rest short new e.ahead e.before (e.from c.requires.end);
      passed = passed_more s b law c.requires.end before from c.args.passages.now l.passages l.i c.from.result (record { passed = 0; ahead = None }) c.from.ensures l.invariant.rest short new e.ahead e.before (e.from c.requires.end) e.small e.few l.invariant.passed;
      count = count_more s b law c.requires.end before from c.args.passages.now l.passages l.i c.from.result (record { passed = 0; ahead = None }) c.from.ensures l.invariant.rest short new e.ahead e.before (e.from c.requires.end) l.count l.invariant.count;
      few = let few = e.few in let so_far = l.invariant.few in omega (arith, few, so_far);
    }

pub returns-clause-passages : goal.returns-clause-passages
returns-clause-passages g c = λ j.
    let s = system g.T.Turns.turn_of c.args.setup.now in
    let b = rank_of_bound c.args.bound in
    let l = c.loop-i in
    let count = c.components-i-end.ensures ∙ ap (λ p. length (composition p)) c.plan.ensures in
    all_done (passing s b) c.args.passages.now l.passages l.i (omega (arith, l.invariant.many, c.requires.many, c.loop-i-test.false, count)) l.invariant.many l.invariant.done j

pub returns-clause-passed : goal.returns-clause-passed
returns-clause-passed g c =
    let s = system g.T.Turns.turn_of c.args.setup.now in
    let b = rank_of_bound c.args.bound in
    let l = c.loop-i in
    let count = c.components-i-end.ensures ∙ ap (λ p. length (composition p)) c.plan.ensures in
    all_before (IsPassing s b) l.passages l.i (omega (arith, l.invariant.many, c.requires.many, c.loop-i-test.false, count)) l.invariant.passed
