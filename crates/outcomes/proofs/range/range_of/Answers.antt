use Rattle.std.proofs.Common.{◌≡◌, ◌<◌, ◌≤◌, ◌∙◌, sym, subst, arith, rules, length, get_or, refl, suc}
use Rattle.conditions.specs.Conditions.{Binds}
use Rattle.conditions.specs.declared.condition.Branch.{Branch}
use Rattle.outcomes.specs.Solving.{IsOutside}
use Rattle.terms.specs.Scopes.{scope}
use Rattle.outcomes.proofs.Asked.{branch_at, range_next, range_kept, one_last}
use Rattle.outcomes.proofs.range.range_of.Goals.{then-left-b+in_ok-range, else-left-b}
use Rattle.outcomes.proofs.range.range_of.Goals as goal

pub loop-b-init : goal.loop-b-init
loop-b-init g c =
    let total = c.from-total.ensures ∙ c.choices.ensures in
    record {
      low = omega (arith, total);
      high = omega arith;
      outside = λ p others below out front is. refl;
    }

pub branch_range-requires-clause-bound : goal.branch_range-requires-clause-bound
branch_range-requires-clause-bound g c =
    let branches = c.args.stage.now.branches.items in
    let below : c.loop-b.b < length branches = omega (arith, c.requires.many, c.loop-b-test.true) in
    let there : get_or branches c.loop-b.b c.index.result.now ≡ c.index.result.now = search rules in
    subst (λ (x : Branch). Binds (suc c.args.known) x.tests.items x.bound) there (branch_at (suc c.args.known) branches c.loop-b.b c.index.result.now c.requires.branches below)

pub loop-b-preserved : goal.loop-b-preserved
loop-b-preserved g c =
    let state = g.C.Cells.values c.args.cells.now in
    let env = scope c.args.env.now in
    let branches = c.args.stage.now.branches.items in
    let left = c.args.left.now in
    let b = c.loop-b.b in
    let below : b < length left = c.loop-b-test.true in
    let low = c.loop-b.invariant.low in
    let high = c.loop-b.invariant.high in
    elim c.if-left-b.branch [
      | then-left-b+in_ok-range w ↦ (
          let there : get_or branches b w.index.result.now ≡ w.index.result.now = search rules in
          let own = subst (λ (x : Branch). IsOutside env state c.args.known c.args.param x.tests.items w.in_ok-range.range.low w.in_ok-range.range.high) (sym there) w.in_ok-range.ensures.range in
          let own_low = w.in_ok-range.ensures.low in
          let own_high = w.in_ok-range.ensures.high in
          let low_is = w.low-is ∙ w.min-low.ensures in
          let high_is = w.high-is ∙ w.larger-high.ensures in
          record {
            low = omega (arith, low_is, low, own_low);
            high = omega (arith, high_is, high, own_high);
            outside = range_next env state c.args.known c.args.param branches left b c.loop-b.low c.loop-b.high w.in_ok-range.range.low w.in_ok-range.range.high c.if-left-b.low c.if-left-b.high w.index.result.now below c.requires.many own low_is high_is c.loop-b.invariant.outside;
          })
      | else-left-b w ↦ record {
        low = omega (arith, w.low-is, low);
        high = omega (arith, w.high-is, high);
        outside = range_kept env state c.args.known c.args.param branches left b c.loop-b.low c.loop-b.high c.if-left-b.low c.if-left-b.high below c.requires.many w.if-left-b.false w.low-is w.high-is c.loop-b.invariant.outside;
      }
    ]

pub returns-clause-low : goal.returns-clause-low
returns-clause-low g c = c.loop-b.invariant.low

pub returns-clause-high : goal.returns-clause-high
returns-clause-high g c = c.loop-b.invariant.high

pub returns-clause-range : goal.returns-clause-range
returns-clause-range g c = λ p others below out front is.
    let past : length c.args.left.now ≤ c.loop-b.b = omega (arith, c.loop-b-test.false) in
    c.loop-b.invariant.outside p others below out front is ∙ one_last (record (scope c.args.env.now) { parameters = others }) (g.C.Cells.values c.args.cells.now) c.args.stage.now.branches.items c.args.left.now c.loop-b.b past c.requires.many
