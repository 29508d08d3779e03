use Rattle.std.proofs.Common.{◌≡◌, [], sym, ap, subst, subst₂, ◌∙◌}
use Rattle.raw_events.specs.Around.{Around}
use Rattle.raw_events.specs.Onto.{onto}
use Rattle.event_keys.specs.declared.outcome.Turned.{Turned}
use Rattle.task_seed.specs.Taken.{turns_of}
use Rattle.turn_lists.proofs.TakenIn.{IsMerging, merging_starts, merging_next, merging_stops}
use Rattle.turn_lists.proofs.merging.merge_among.Goals as goal

pub loop-cell-init : goal.loop-cell-init
loop-cell-init c =
    let t = c.args.turns.after in
    let h = c.args.held.now.after in
    let turns : c.pass_to_end-2.new.turns ≡ record { before = onto t []; after = [] } = c.pass_to_end-2.ensures ∙ ap (λ b. let a : Around Turned = record { before = onto t b; after = [] } in a) c.requires.turns_front in
    let held : c.pass_to_end.new.turns ≡ record { before = onto h []; after = [] } = c.pass_to_end.ensures ∙ ap (λ b. let a : Around Turned = record { before = onto h b; after = [] } in a) c.requires.front in
    subst₂ (λ (x y : Around Turned). IsMerging (turns_of t) (turns_of h) x.before y.before y.after) (sym turns) (sym held) (merging_starts t h c.requires.falls)

pub loop-cell-preserved : goal.loop-cell-preserved
loop-cell-preserved c =
    let t = turns_of c.args.turns.after in
    let h = turns_of c.args.held.now.after in
    subst (λ (x : Around Turned). IsMerging t h x.before c.put.new.held.before c.put.new.held.after) (sym c.in-Some.ensures.rest)
    (merging_next t h c.in-Some.cell c.loop-cell.turns.before c.loop-cell.held.before c.loop-cell.held.after c.put.new.held.before c.put.new.held.after (sym c.in-Some.ensures.taken) c.loop-cell.invariant c.put.ensures.placed c.put.ensures.passed)

pub returns-clause-all : goal.returns-clause-all
returns-clause-all c =
    let t = turns_of c.args.turns.after in
    let h = turns_of c.args.held.now.after in
    ap (λ (x : Around Turned). turns_of x.after) c.rewind.ensures
    ∙ merging_stops t h c.loop-cell.turns.before c.loop-cell.held.before c.loop-cell.held.after (sym c.take_last.ensures.taken ∙ c.in_default.is) c.loop-cell.invariant
