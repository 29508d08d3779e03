use Rattle.std.proofs.Common.{ap, ◌∙◌, arith, slice_get}
use Rattle.std.proofs.lemmas.Result.{on_ok_weaker}
use Rattle.plans.specs.Plans.{composition}
use Rattle.task_seed.specs.Setups.{system}
use Rattle.reference.proofs.Woken.{found_there, is_outcome, memo_put, memo_there}
use Rattle.reference.proofs.taking.take_turn.Goals as goal

pub returns-clause-found : goal.returns-clause-found
returns-clause-found g c =
    let s = system g.T.Turns.turn_of c.args.setup.now in
    let i = c.args.key.component in
    let turn = c.args.turn in
    let found = c.outcome_known.new.found in
    let is = found_there s.composition (composition c.plan.result.now) (ap composition c.plan.ensures) i turn.task turn.choice c.args.states.now c.from-place.result c.from-place.ensures c.index-states-place.result found c.in_ok-outcome_known.ensures.ok in
    on_ok_weaker c.act.result (λ same. is_outcome s i c.args.key.number turn c.requires.turn c.act.new.found (slice_get c.args.states.now i) (λ state at. same ∙ is state at)) c.act.ensures.found

pub bounds-memos-place : goal.bounds-memos-place
bounds-memos-place g c =
    let many = c.requires.memos.many in
    let within = c.requires.within in
    let is = c.from-place.ensures in
    omega (arith, many, within, is)

pub outcome_known-requires : goal.outcome_known-requires
outcome_known-requires g c =
    let s = system g.T.Turns.turn_of c.args.setup.now in
    let within = c.requires.within in
    let is = c.from-place.ensures in
    let many = c.requires.many in
    record {
      memo = memo_there s.composition (composition c.plan.result.now) (ap composition c.plan.ensures) c.args.key.component c.from-place.result c.from-place.ensures c.args.states.now c.args.memos.now c.requires.memos c.index-states-place.result c.index-memos-place.result
          (omega (arith, within, is, many)) c.requires.many;
    }

pub act-requires-clause-memos : goal.act-requires-clause-memos
act-requires-clause-memos g c _ _ =
    let s = system g.T.Turns.turn_of c.args.setup.now in
    let within = c.requires.within in
    let is = c.from-place.ensures in
    let many = c.requires.many in
    memo_put s.composition (composition c.plan.result.now) (ap composition c.plan.ensures) c.args.key.component c.from-place.result c.from-place.ensures c.args.states.now c.args.memos.now c.requires.memos c.index-states-place.result c.index-memos-place.result
    (omega (arith, within, is, many)) c.requires.many c.outcome_known.new.memo c.outcome_known.ensures.memo

pub returns-in_err-outcome_known-clause-memos : goal.returns-in_err-outcome_known-clause-memos
returns-in_err-outcome_known-clause-memos g c =
    let s = system g.T.Turns.turn_of c.args.setup.now in
    let within = c.requires.within in
    let is = c.from-place.ensures in
    let many = c.requires.many in
    memo_put s.composition (composition c.plan.result.now) (ap composition c.plan.ensures) c.args.key.component c.from-place.result c.from-place.ensures c.args.states.now c.args.memos.now c.requires.memos c.index-states-place.result c.index-memos-place.result
    (omega (arith, within, is, many)) c.requires.many c.outcome_known.new.memo c.outcome_known.ensures.memo
