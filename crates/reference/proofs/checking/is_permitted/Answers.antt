use Rattle.std.proofs.Common.{arith, ℕ, ◌≡◌, ◌<◌, ◌∙◌, Bool, true, subst, length, get_or, List, []}
use Rattle.std.proofs.lemmas.List.{get_or_read}
use borrow.Author.Count.{below_more}
use Rattle.terms.specs.Datum.{Datum}
use Rattle.plans.specs.Plans.{composition}
use Rattle.io_automata.specs.Signatures.{inputs, outputs, internals, controls}
use Rattle.io_automata.specs.Steps.{is_enabled}
use Rattle.reference.specs.Verdicts.{IsPermittedBy, state_at}
use Rattle.reference.proofs.Runs.{wider}
use Rattle.reference.proofs.Taken.{taker_below, each_taker}
use Rattle.reference.proofs.checking.is_permitted.Goals as goal

pub bounds-states-from : goal.bounds-states-from
bounds-states-from c = omega (arith, c.from.ensures, c.requires.many, taker_below (composition c.args.plan.now) c.args.action.now c.args.takers.now c.requires.takers c.loop-i.i-index 0 c.loop-i-test.true)

pub loop-i-preserved : goal.loop-i-preserved
loop-i-preserved c =
    let all = composition c.args.plan.now in
    let action = c.args.action.now in
    let takers = c.args.takers.now in
    let states = c.args.states.now in
    let P : ℕ → Type 0 = λ k. IsPermittedBy all action (get_or takers k 0) (state_at states (get_or takers k 0)) true in
    let k = c.loop-i.i-index in
    let within : c.from.result < length states = omega (arith, c.from.ensures, c.requires.many, taker_below all action takers c.requires.takers k 0 c.loop-i-test.true) in
    let passes : c.in_ok-permits.field-0 ≡ true = c.if-not-branch.false in
    let state = get_or_read states c.from.result c.index-states-from.result within c.index-states-from.is [] ∙ (λ t. state_at states (c.from.ensures t)) in
    let here : P k = subst (λ (d : List Datum). IsPermittedBy all action (get_or takers k 0) d true) state (subst (λ (b : Bool). IsPermittedBy all action (get_or takers k 0) c.index-states-from.result b) passes c.in_ok-permits.ensures) in
    below_more P k c.loop-i.invariant here

pub returns : goal.returns
returns c j controlled =
    let all = composition c.args.plan.now in
    let action = c.args.action.now in
    let states = c.args.states.now in
    let P : ℕ → Type 0 = λ i. controls all i action ≡ true → is_enabled all i action (state_at states i) ≡ true in
    each_taker all action c.args.takers.now c.requires.takers P (λ k below. c.loop-i.invariant k (omega (arith, below, c.loop-i-test.false))) j (wider (inputs all j action) (outputs all j action) (internals all j action) controlled) controlled
