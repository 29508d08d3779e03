use Rattle.std.proofs.Common.{[], sym, ap, ◌∙◌}
use Rattle.raw_events.specs.Around.{Around}
use Rattle.raw_events.specs.Onto.{onto}
use Rattle.event_keys.specs.declared.outcome.Turned.{Turned}
use Rattle.turn_lists.proofs.TakenIn.{onto_back}
use Rattle.turn_lists.proofs.merging.ends_below.Goals as goal

pub returns-clause-same : goal.returns-clause-same
returns-clause-same c =
    let turns = c.args.turns.now in
    c.rewind.ensures
    ∙ ap (λ (a : Around Turned). let x : Around Turned = record { before = []; after = onto a.before a.after } in x) c.pass_to_end.ensures
    ∙ ap (λ l. let x : Around Turned = record { before = []; after = onto (onto turns.after l) [] } in x) c.requires.front
    ∙ ap (λ l. let x : Around Turned = record { before = []; after = l } in x) (onto_back turns.after [])
    ∙ ap (λ l. let x : Around Turned = record { before = l; after = turns.after } in x) (sym c.requires.front)
