use Rattle.std.proofs.Common.{rules}
use Rattle.conditions.proofs.Staging.{within_added, held_added}
use Rattle.conditions.proofs.stages.add_at.Goals as goal

pub returns-in_ok-push-clause-within : goal.returns-in_ok-push-clause-within
returns-in_ok-push-clause-within c =
    within_added c.args.k c.args.at.now.items c.push.new.self.items c.args.test.now c.in_ok-test_copy.field-0 (search rules) c.in_ok-test_copy.ensures (search rules)

pub returns-in_ok-push-clause-held : goal.returns-in_ok-push-clause-held
returns-in_ok-push-clause-held c =
    held_added c.args.k c.args.at.now.items c.push.new.self.items c.args.test.now c.in_ok-test_copy.field-0 (search rules) c.in_ok-test_copy.ensures (search rules)
