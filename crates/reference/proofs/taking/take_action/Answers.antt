use Rattle.std.proofs.Common.{ℕ, ◌<◌, length, subst, sym}
use Rattle.plans.specs.Plans.{composition}
use Rattle.reference.proofs.Owning.{own_back, all_hold}
use Rattle.reference.proofs.taking.take_action.Goals as goal

pub returns-in-Err-clause-err : goal.returns-in-Err-clause-err
returns-in-Err-clause-err c =
    let within = subst (λ (n : ℕ). n < length c.args.states.now) (sym c.from-own.ensures) c.requires.own in
    own_back (composition c.args.plan.now) c.args.i c.args.action.now c.args.states.now c.from-own.result c.from-own.ensures within c.index-states-own.result c.advance.new.state c.in_ok-advance.ensures.ok
    c.reach_all.new.states c.in-Err.ensures.err c.index-states-own-in-Err.result c.undo.new.self c.undo.ensures.state

pub returns-clause-ok : goal.returns-clause-ok
returns-clause-ok c =
    let within = subst (λ (n : ℕ). n < length c.args.states.now) (sym c.from-own.ensures) c.requires.own in
    all_hold (composition c.args.plan.now) c.args.i c.args.action.now c.args.states.now c.from-own.result c.from-own.ensures within c.index-states-own.result c.advance.new.state c.in_ok-advance.ensures.ok
    c.args.among.now c.reach_all.new.states c.in_default.ensures.ok
