use Rattle.std.proofs.Common.{arith, ◌≡◌, ◌<◌, ◌∙◌, [], sym, length, get_or, length-set}
use Rattle.std.proofs.lemmas.List.{get_or_default}
use Rattle.plans.specs.Plans.{composition}
use Rattle.io_automata.specs.Steps.{applied}
use Rattle.reference.proofs.Taken.{taker_below, one_more, all_taken}
use Rattle.reference.proofs.checking.take_action.Goals as goal

pub bounds-states-from : goal.bounds-states-from
bounds-states-from c = omega (arith, c.from.ensures, c.requires.many, c.loop-i.invariant.many, taker_below (composition c.args.plan.now) c.args.action.now c.args.takers.now c.requires.takers c.loop-i.i-index 0 c.loop-i-test.true)

pub loop-i-preserved : goal.loop-i-preserved
loop-i-preserved c =
    let all = composition c.args.plan.now in
    let action = c.args.action.now in
    let takers = c.args.takers.now in
    let states = c.loop-i.states in
    let k = c.loop-i.i-index in
    let i = c.from.result in
    let within : i < length states = omega (arith, c.from.ensures, c.requires.many, c.loop-i.invariant.many, taker_below all action takers c.requires.takers k 0 c.loop-i-test.true) in
    let at : get_or takers k i ≡ i = get_or_default takers k i 0 c.loop-i-test.true ∙ sym c.from.ensures in
    let state = get_or_default states i c.index-states-from.result [] within in
    let made = c.in_ok-apply.ensures.ok ∙ (λ t. applied all (sym c.from.ensures t) action (state t)) in
    record {
      many = length-set states i c.apply.new.cells ∙ c.loop-i.invariant.many;
      taken = one_more all action takers c.requires.takers c.args.states.now states k i c.apply.new.cells c.loop-i-test.true at within made c.loop-i.invariant.taken;
    }

pub returns-clause-taken : goal.returns-clause-taken
returns-clause-taken c = all_taken (composition c.args.plan.now) c.args.action.now c.args.takers.now c.requires.takers c.args.states.now c.loop-i.states c.loop-i.i-index c.loop-i-test.false c.loop-i.invariant.taken
