use Rattle.std.proofs.Common.{rules}
use Rattle.plans.specs.Plans.{composition}
use Rattle.reference.proofs.Checked.{started, started_length, foreign_found, disabled_found, one_taken, all_lead, written}
use Rattle.reference.proofs.Runs.{one_verdict}
use Rattle.reference.specs.declared.checking.Verdict.TheVariants.{Schedule, NotEnabled, NotAnAction}
use Rattle.reference.proofs.checking.check_run.Goals as goal

pub loop-at-init : goal.loop-at-init
loop-at-init c = record {
  many = started_length (composition c.args.plan.now) c.in_ok-states.states.items (search rules);
  reached = started (composition c.args.plan.now) c.in_ok-states.states.items (search rules);
}

pub returns-in-Some-Foreign-clause-sound : goal.returns-in-Some-Foreign-clause-sound
returns-in-Some-Foreign-clause-sound c =
    foreign_found (composition c.args.plan.now) c.args.actions.now c.loop-at.at c.index-actions-at.result c.loop-at.states.items c.loop-at-test.true c.index-actions-at.is c.loop-at.invariant.reached (search rules)

pub returns-in-Some-Foreign-clause-exact : goal.returns-in-Some-Foreign-clause-exact
returns-in-Some-Foreign-clause-exact c verdict of_verdict =
    one_verdict (composition c.args.plan.now) c.args.actions.now (NotAnAction c.loop-at.at) verdict (returns-in-Some-Foreign-clause-sound c) of_verdict

pub returns-in-Some-Barred-clause-sound : goal.returns-in-Some-Barred-clause-sound
returns-in-Some-Barred-clause-sound c =
    disabled_found (composition c.args.plan.now) c.args.actions.now c.loop-at.at c.index-actions-at.result c.loop-at.states.items c.loop-at-test.true c.index-actions-at.is c.loop-at.invariant.reached (search rules)

pub returns-in-Some-Barred-clause-exact : goal.returns-in-Some-Barred-clause-exact
returns-in-Some-Barred-clause-exact c verdict of_verdict =
    one_verdict (composition c.args.plan.now) c.args.actions.now (NotEnabled c.loop-at.at) verdict (returns-in-Some-Barred-clause-sound c) of_verdict

pub loop-at-preserved : goal.loop-at-preserved
loop-at-preserved c =
    let whole = written c.loop-at.states.items c.step.new.states c.loop-at.states.len (search rules) (search rules) in
    rw whole (record {
      many = search rules;
      reached = one_taken (composition c.args.plan.now) c.args.actions.now c.loop-at.at c.index-actions-at.result c.loop-at.states.items c.step.new.states c.loop-at-test.true c.index-actions-at.is c.loop-at.invariant.reached (search rules);
    })

pub returns-clause-exact : goal.returns-clause-exact
returns-clause-exact c verdict of_verdict =
    let schedule = all_lead (composition c.args.plan.now) c.args.actions.now c.loop-at.at c.loop-at.states.items c.loop-at-test.false c.loop-at.invariant.reached in
    one_verdict (composition c.args.plan.now) c.args.actions.now Schedule verdict schedule of_verdict
