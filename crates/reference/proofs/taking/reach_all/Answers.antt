use Rattle.std.proofs.Common.{◌∙◌, ap, sym, take, length, slice_set}
use Rattle.std.specs.Prelude.{slice_index_or}
use Rattle.plans.specs.Plans.{composition}
use Rattle.reference.specs.Taking.{reaching}
use Rattle.reference.proofs.Takers.{distinct_take, first_within, short, slice_set-length, one_more, gone_back}
use Rattle.reference.proofs.taking.reach_all.Goals as goal

pub bounds-states-place : goal.bounds-states-place
bounds-states-place c =
    short (reaching (composition c.args.plan.now) c.args.i c.args.action.now) c.args.among.now c.requires.once c.args.states.now c.loop-count.states c.loop-count.count c.from-place.result c.from-place.ensures c.loop-count-test.true c.requires.within c.loop-count.invariant

pub returns-in-Err-clause-err : goal.returns-in-Err-clause-err
returns-in-Err-clause-err c =
    let short_here = short (reaching (composition c.args.plan.now) c.args.i c.args.action.now) c.args.among.now c.requires.once c.args.states.now c.loop-count.states c.loop-count.count c.from-place.result c.from-place.ensures c.loop-count-test.true c.requires.within c.loop-count.invariant in
    gone_back (composition c.args.plan.now) c.args.i c.args.action.now (take c.loop-count.count c.args.among.now) c.args.states.now c.loop-count.states c.take_back.new.states c.from-place.result c.index-states-place.result c.reach.new.state short_here
    c.in-Err.ensures.err c.loop-count.invariant c.take_back.ensures

pub loop-count-preserved : goal.loop-count-preserved
loop-count-preserved c =
    let was = slice_index_or c.loop-count.states c.from-place.result c.index-states-place.result in
    one_more (reaching (composition c.args.plan.now) c.args.i c.args.action.now) c.args.among.now c.requires.once c.args.states.now c.loop-count.states c.loop-count.count c.from-place.result c.from-place.ensures c.loop-count-test.true c.requires.within c.loop-count.invariant
    c.index-states-place.result c.reach.new.state (c.in_default.ensures.ok ∙ ap (λ j. reaching (composition c.args.plan.now) c.args.i c.args.action.now j was) (sym c.from-place.ensures))

pub take_back-requires-clause-once : goal.take_back-requires-clause-once
take_back-requires-clause-once c = distinct_take c.args.among.now c.loop-count.count c.requires.once

pub take_back-requires-clause-within : goal.take_back-requires-clause-within
take_back-requires-clause-within c =
    first_within c.args.among.now c.loop-count.count (length c.args.states.now) (length (slice_set c.loop-count.states c.from-place.result c.reach.new.state)) c.requires.within
    (slice_set-length c.loop-count.states c.from-place.result c.reach.new.state ∙ c.loop-count.invariant.many)
