use Rattle.std.proofs.Common.{◌≡◌, ◌++◌, append-nil, Some, [], true, reverse, sym, ap, ◌∙◌}
use Rattle.std.specs.Prelude.{not}
use Rattle.event_keys.specs.declared.outcome.Turned.{Turned}
use Rattle.event_keys.specs.Ranks.{rank}
use Rattle.raw_events.specs.Around.{Around, head}
use Rattle.raw_events.specs.Onto.{onto}
use Rattle.task_seed.specs.Taken.{turns_of}
use Rattle.turn_lists.specs.Turns.{is_last_from}
use Rattle.turn_lists.proofs.TakenIn.{later_stand}
use Rattle.turn_lists.proofs.merging.merge.Goals as goal

pub returns-then-ends_below-clause-all : goal.returns-then-ends_below-clause-all
returns-then-ends_below-clause-all c =
    let held = c.args.held.now in
    let turns = c.args.turns in
    let first = c.in-Some.first.now in
    let there : head turns.after ≡ Some first = sym c.in-Some.ensures in
    let last : not (is_last_from (rank first.key) (onto held.after [])) ≡ true = sym c.ends_below.ensures.answer ∙ c.if-ends_below.true in
    ap (λ (a : Around Turned). turns_of a.after) c.append_all.ensures.rest
    ∙ ap (λ (a : Around Turned). turns_of (a.after ++ reverse turns.before ++ turns.after)) c.ends_below.ensures.same
    ∙ ap (λ b. turns_of (held.after ++ reverse b ++ turns.after)) c.requires.turns_front
    ∙ ap (λ l. turns_of (l ++ turns.after)) (append-nil held.after)
    ∙ later_stand first turns.after held.after there last c.requires.falls
