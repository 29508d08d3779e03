use Rattle.std.proofs.Common.{◌≡◌, subst}
use Rattle.io_automata.specs.Outcomes.{outcome_of}
use Rattle.plans.specs.Plans.{composition}
use Rattle.task_seed.specs.Setups.{system}
use Rattle.sure_groups.proofs.Coming.{found_is}
use Rattle.sure_groups.proofs.member.find.Goals as goal

pub returns-clause-found : goal.returns-clause-found
returns-clause-found g c =
    let s = system g.T.Turns.turn_of c.args.setup.now in
    let h = c.args.hearing.now in
    let m = c.args.member.now in
    let due = c.args.due in
    found_is s due c.requires.coming h.groups.items h.heard.items m.state.current m.pending.items c.requires.member.stands c.requires.known c.requires.none c.outcome_known.new.found
    (subst (λ p. c.outcome_known.new.found ≡ outcome_of (composition p) due.key.component due.turn.task due.turn.choice m.state.current) c.plan.ensures c.in_ok-outcome_known.ensures.ok)
