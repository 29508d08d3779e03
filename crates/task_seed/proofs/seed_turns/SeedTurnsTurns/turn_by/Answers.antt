use Rattle.std.proofs.Common.{rules, ◌<◌, Some, ap, ◌∙◌}
use Rattle.std.proofs.lemmas.Bool.{lt-ltb}
use Rattle.task_seed.specs.Drawn.{stream_of_component}
use Rattle.task_seed.specs.Turning.{most_turns}
use Rattle.task_seed.specs.Walks.{WalkView, start_of, turn_after}
use Rattle.task_seed.proofs.seed_turns.SeedTurnsTurns.turn_by.Goals as goal

pub returns : goal.returns
returns c =
    let t = c.args.self.now in
    let below : c.args.n < most_turns = search rules in
    rw (lt-ltb c.args.n most_turns below)
    (ap Some (c.draw.ensures.turn ∙ ap (λ (w : WalkView). turn_after (start_of w.seed w.stream) t.least t.gap w.number) c.stand.ensures
    ∙ ap (λ i. turn_after (start_of t.seed (stream_of_component t.stream i)) t.least t.gap c.args.n) c.from.ensures))
