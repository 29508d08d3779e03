use Rattle.std.proofs.Common.{[], ap, ◌∙◌}
use Rattle.raw_events.specs.Around.{Around}
use Rattle.raw_events.specs.Onto.{reversed_onto}
use Rattle.event_keys.specs.declared.outcome.Turned.{Turned}
use Rattle.turn_lists.proofs.merging.pass_to_end.Goals as goal

pub returns : goal.returns
returns c = c.pass_all.ensures ∙ ap (λ b. let a : Around Turned = record { before = b; after = [] } in a) (reversed_onto c.args.turns.now.after c.args.turns.now.before)
