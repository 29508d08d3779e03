use Rattle.std.proofs.Common.{◌≡◌, ℕ, List, map, sym, subst, arith}
use Rattle.lone_group.specs.declared.batch.Slot.{Slot}
use Rattle.lone_group.specs.Lone.{turned}
use Rattle.schedules.specs.Schedules.{KeysFit}
use Rattle.task_seed.specs.Setups.{plan_of, system}
use Rattle.trace.specs.Puts.{Puts, Stops}
use Rattle.trace.specs.Went.{IsWritten}
use Rattle.trace.specs.Lines.{text_of}
use Rattle.plans.specs.declared.plan.Plan.{Plan}
use Rattle.workers.specs.declared.fault.RunFault.{RunFault}
use Rattle.workers.specs.Portions.{IsStoppedIn}
use Rattle.workers.specs.Runs.{IsUnfinished, IsWhole}
use Rattle.workers.proofs.Written.{begun, cut, is_piece_in, last, more, piece_in, starts, unfinished}
use Rattle.workers.proofs.batches.write_batches.Goals as goal

pub returns-in-Some-noted-clause-unfinished : goal.returns-in-Some-noted-clause-unfinished
returns-in-Some-noted-clause-unfinished g c =
    let own = c.args.own.now in
    subst (λ (f : RunFault). IsUnfinished (plan_of own) (system g.T.Turns.turn_of own) c.args.page.lines (IsWritten g.W.Write.contents c.args.out.now c.loop.out) (Stops g.W.Write.contents c.args.out.now c.loop.out c.args.page.before) f) (sym c.run_fault.ensures)
    (unfinished c.turns_are_schedule.ensures.below c.in-Some-noted.fault c.loop.invariant.sofar)

pub returns-then-batch-written-clause-unfinished : goal.returns-then-batch-written-clause-unfinished
returns-then-batch-written-clause-unfinished g c = begun c.turns_are_schedule.ensures.below c.loop.invariant.sofar

pub returns-in-Err-put_slots-clause-unfinished : goal.returns-in-Err-put_slots-clause-unfinished
returns-in-Err-put_slots-clause-unfinished g c =
    let known = g.W.Write.contents in
    let batch = c.in-Ok.batch in
    let first : batch.first ≡ c.loop.written = omega arith in
    let at_plan = subst (λ (p : Plan). IsStoppedIn known p c.args.page.lines c.loop.out c.put_slots.new.out c.loop.bytes (map turned c.used_of.result.now) c.in-Err-put_slots.fault) c.plan.ensures c.in-Err-put_slots.ensures.err in
    let stopped = subst (λ (l : List Slot). IsStoppedIn known (plan_of c.args.own.now) c.args.page.lines c.loop.out c.put_slots.new.out c.loop.bytes (map turned l) c.in-Err-put_slots.fault) c.used_of.ensures at_plan in
    cut c.turns_are_schedule.ensures.below (piece_in batch) c.loop.invariant.sofar (is_piece_in c.in-Ok.ensures.batch) first stopped

pub returns-then-batch-clause-whole : goal.returns-then-batch-clause-whole
returns-then-batch-clause-whole g c =
    let known = g.W.Write.contents in
    let batch = c.in-Ok.batch in
    let is = c.in-Ok.ensures.batch in
    let first : batch.first ≡ c.loop.written = omega arith in
    let at_plan = subst (λ (p : Plan). Puts known c.loop.out c.put_slots.new.out c.loop.bytes c.in-Ok-put_slots.after (text_of p c.args.page.lines (map turned c.used_of.result.now))) c.plan.ensures c.in-Ok-put_slots.ensures.ok in
    let puts = subst (λ (l : List Slot). Puts known c.loop.out c.put_slots.new.out c.loop.bytes c.in-Ok-put_slots.after (text_of (plan_of c.args.own.now) c.args.page.lines (map turned l))) c.used_of.ensures at_plan in
    let keys = subst (λ (l : List Slot). KeysFit (map turned l)) c.used_of.ensures c.in-Ok-put_slots.ensures.keys in
    let own = c.args.own.now in
    let whole = last c.turns_are_schedule.ensures.below (piece_in batch) c.loop.invariant.sofar (is_piece_in is) first keys puts (is.last c.if-batch.true) in
    subst (λ (n : ℕ). IsWhole (plan_of own) (system g.T.Turns.turn_of own) c.args.page.lines (IsWritten known c.args.out.now c.put_slots.new.out) n) (sym c.alone_stats.ensures) whole

pub loop-preserved : goal.loop-preserved
loop-preserved g c =
    let known = g.W.Write.contents in
    let batch = c.in-Ok.batch in
    let first : batch.first ≡ c.loop.written = omega arith in
    let at_plan = subst (λ (p : Plan). Puts known c.loop.out c.put_slots.new.out c.loop.bytes c.in-Ok-put_slots.after (text_of p c.args.page.lines (map turned c.used_of.result.now))) c.plan.ensures c.in-Ok-put_slots.ensures.ok in
    let puts = subst (λ (l : List Slot). Puts known c.loop.out c.put_slots.new.out c.loop.bytes c.in-Ok-put_slots.after (text_of (plan_of c.args.own.now) c.args.page.lines (map turned l))) c.used_of.ensures at_plan in
    let keys = subst (λ (l : List Slot). KeysFit (map turned l)) c.used_of.ensures c.in-Ok-put_slots.ensures.keys in
    record {
      writer = c.in-Ok.ensures.writer;
      sofar = more (piece_in batch) c.loop.invariant.sofar (is_piece_in c.in-Ok.ensures.batch) first keys puts;
    }

pub loop-init : goal.loop-init
loop-init g c = record { writer = c.requires; sofar = starts c.args.out.now c.args.page.before (omega arith) }
