use Rattle.std.proofs.Common.{[], ◌++◌, reverse, ap, ◌∙◌}
use Rattle.raw_events.specs.Around.{Around}
use Rattle.raw_events.specs.Onto.{reversed_onto}
use Rattle.event_keys.specs.declared.outcome.Turned.{Turned}
use Rattle.turn_lists.proofs.merging.rewind.Goals as goal

pub returns : goal.returns
returns c =
    let turns = c.args.turns.now in
    c.append_all.ensures.rest
    ∙ ap (λ (a : Around Turned). record a { after = a.after ++ reverse turns.before ++ turns.after }) c.new-front.ensures
    ∙ ap (λ l. let a : Around Turned = record { before = []; after = l } in a) (reversed_onto turns.before turns.after)
