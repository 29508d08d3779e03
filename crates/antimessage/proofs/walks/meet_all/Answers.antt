use Rattle.std.proofs.Common.{◌≡◌, ◌∙◌, sym, ap, subst, ◌+◌, ◌-◌, ◌^◌, min}
use Rattle.raw_events.specs.Around.{Around, tail}
use Rattle.event_keys.specs.declared.message.Signed.{Signed}
use Rattle.antimessage.specs.Meetings.{IsAllMet}
use Rattle.antimessage.proofs.Meeting.{IsMeeting, turn_meets, turn_passes, walk_ends}
use Rattle.antimessage.proofs.walks.meet_all.Goals as goal

pub loop-events-preserved-then-next_meets_last : goal.loop-events-preserved-then-next_meets_last
loop-events-preserved-then-next_meets_last c =
    let lists : c.take_last.new.self ≡ record { before = tail c.loop-events.events.before; after = tail c.loop-events.events.after } =
    c.take_last.ensures.rest ∙ ap (λ (a : Around Signed). let b : Around Signed = record { before = tail a.before; after = a.after } in b) c.take_next.ensures.rest in
    subst (λ n. IsMeeting c.args.events.now.after c.take_last.new.self.before c.take_last.new.self.after n) (sym c.saturating_add-pairs.ensures)
    (subst (λ (a : Around Signed). IsMeeting c.args.events.now.after a.before a.after (min (c.loop-events.pairs + 1) (2 ^ 64 - 1))) (sym lists)
    (turn_meets c.args.events.now.after c.loop-events.events.before c.loop-events.events.after c.loop-events.pairs (sym c.next_meets_last.ensures ∙ c.if-next_meets_last.true) c.loop-events.invariant))

pub loop-events-preserved : goal.loop-events-preserved
loop-events-preserved c =
    subst (λ (a : Around Signed). IsMeeting c.args.events.now.after a.before a.after c.loop-events.pairs) (sym c.pass_next.ensures.passed)
    (turn_passes c.args.events.now.after c.loop-events.events.before c.loop-events.events.after c.loop-events.pairs (sym c.has_next.ensures ∙ c.loop-events-test.true) (sym c.next_meets_last.ensures ∙ c.if-next_meets_last.false) c.loop-events.invariant)

pub returns-clause-met : goal.returns-clause-met
returns-clause-met c =
    subst (λ (a : Around Signed). IsAllMet c.args.events.now.after a.after) (sym c.rewind.ensures)
    (walk_ends c.args.events.now.after c.loop-events.events.before c.loop-events.events.after c.loop-events.pairs (sym c.has_next.ensures ∙ c.loop-events-test.false) c.loop-events.invariant)
