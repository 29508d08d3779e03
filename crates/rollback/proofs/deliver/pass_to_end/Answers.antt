use Rattle.std.proofs.Common.{[], ap, ◌∙◌}
use Rattle.raw_events.specs.Around.{Around}
use Rattle.raw_events.specs.Onto.{reversed_onto}
use Rattle.message_balance.specs.declared.done.Done.{Done}
use Rattle.rollback.proofs.deliver.pass_to_end.Goals as goal

pub returns : goal.returns
returns c = c.pass_all.ensures ∙ ap (λ b. let a : Around Done = record { before = b; after = [] } in a) (reversed_onto c.args.done.now.after c.args.done.now.before)
