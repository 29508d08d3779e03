use Rattle.std.proofs.Common.{◌∙◌, sym, ap, subst, List, []}
use Rattle.raw_events.specs.Around.{Around}
use Rattle.event_keys.specs.declared.message.Signed.{Signed}
use Rattle.antimessage.proofs.Placed.{IsJoining, joining_puts, joining_ends}
use Rattle.antimessage.proofs.merge.append.Goals as goal

pub loop-cell-preserved : goal.loop-cell-preserved
loop-cell-preserved c = (
  ap (λ (a : Around Signed). a.before) c.take_next.ensures.rest ∙ c.loop-cell.invariant.0,
  subst (λ (a : Around Signed). IsJoining c.args.events.now.after c.args.other.now.after c.put.new.events.before c.put.new.events.after a.after) (sym c.take_next.ensures.rest)
      (joining_puts c.args.events.now.after c.args.other.now.after c.loop-cell.events.before c.loop-cell.events.after c.loop-cell.other.after c.put.new.events.before c.put.new.events.after c.in-Some.cell
      (sym c.in-Some.ensures.taken) c.put.ensures.placed c.put.ensures.passed c.loop-cell.invariant.1),
)

pub returns-clause-all : goal.returns-clause-all
returns-clause-all c =
    c.rewind.ensures ∙ ap (λ (xs : List Signed). let a : Around Signed = record { before = []; after = xs } in a)
    (joining_ends c.args.events.now.after c.args.other.now.after c.loop-cell.events.before c.loop-cell.events.after c.loop-cell.other.after (sym c.take_next.ensures.taken ∙ c.in_default.is) c.loop-cell.invariant.1)
