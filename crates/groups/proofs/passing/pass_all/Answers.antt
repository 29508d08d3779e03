use Rattle.groups.proofs.Passed.{passed_both}
use Rattle.groups.proofs.passing.pass_all.Goals as goal

pub loop-preserved : goal.loop-preserved
loop-preserved g c =
    let l = c.loop in
    passed_both g.T.Turns.turn_of c.args.members.now l.members c.pass_some.new.members c.args.sent.now l.sent c.pass_some.new.sent c.args.out.now l.out c.pass_some.new.out l.invariant c.pass_some.ensures.passed

pub returns-clause-passed : goal.returns-clause-passed
returns-clause-passed g c =
    let l = c.loop in
    passed_both g.T.Turns.turn_of c.args.members.now l.members c.pass_some.new.members c.args.sent.now l.sent c.pass_some.new.sent c.args.out.now l.out c.pass_some.new.out l.invariant c.pass_some.ensures.passed
