use Rattle.std.proofs.Common.{◌≡◌, ℕ, sym, subst, arith}
use Rattle.std.specs.Prelude.{Option, Some}
use Rattle.task_seed.specs.Turning.{System}
use Rattle.task_seed.specs.Setups.{plan_of, system}
use Rattle.trace.specs.Puts.{Puts, Stops}
use Rattle.trace.specs.Went.{IsWritten}
use Rattle.trace.specs.Lines.{text_of}
use Rattle.plans.specs.declared.plan.Plan.{Plan}
use Rattle.workers.specs.declared.fault.RunFault.{RunFault}
use Rattle.workers.specs.Runs.{IsUnfinished, IsWhole}
use Rattle.workers.proofs.Written.{begun, cut, is_piece, last, more, piece_of, starts, unfinished}
use Rattle.workers.specs.declared.portions.Portion.{Portion}
use Rattle.workers.specs.Portions.{IsPortion, IsDuePortion, IsStoppedIn}
use Rattle.workers.proofs.writing.write_all.Goals as goal

due : {s : System} (p : Portion) (o : Option Portion) → o ≡ Some p → IsDuePortion s o → IsPortion s p
due {s} p o is h = subst (IsDuePortion s) is h

pub loop-init : goal.loop-init
loop-init g c = record { caller = c.requires; sofar = starts c.args.out.now c.args.page.before (omega arith) }

pub returns-in-Err-clause-unfinished : goal.returns-in-Err-clause-unfinished
returns-in-Err-clause-unfinished g c =
    let own = c.args.own.now in
    subst (λ (f : RunFault). IsUnfinished (plan_of own) (system g.T.Turns.turn_of own) c.args.page.lines (IsWritten g.W.Write.contents c.args.out.now c.loop.out) (Stops g.W.Write.contents c.args.out.now c.loop.out c.args.page.before) f) (sym c.run_fault.ensures)
    (unfinished c.turns_are_schedule.ensures.below c.in-Err.fault c.loop.invariant.sofar)

pub returns-then-portion-written-clause-unfinished : goal.returns-then-portion-written-clause-unfinished
returns-then-portion-written-clause-unfinished g c = begun c.turns_are_schedule.ensures.below c.loop.invariant.sofar

pub returns-in-Err-put_portion-clause-unfinished : goal.returns-in-Err-put_portion-clause-unfinished
returns-in-Err-put_portion-clause-unfinished g c =
    let known = g.W.Write.contents in
    let portion = c.in-Ok-Some.portion in
    let first : portion.first ≡ c.loop.written = omega arith in
    let stopped = subst (λ (p : Plan). IsStoppedIn known p c.args.page.lines c.loop.out c.put_portion.new.out c.loop.bytes portion.turns.after c.in-Err-put_portion.fault) c.plan.ensures c.in-Err-put_portion.ensures.err in
    cut c.turns_are_schedule.ensures.below (piece_of portion) c.loop.invariant.sofar (is_piece (due c.in-Ok-Some.portion c.in-Ok-Some.field-0 c.in-Ok-Some.field-0-is c.in-Ok-Some.ensures.portion)) first stopped

pub returns-then-portion-clause-whole : goal.returns-then-portion-clause-whole
returns-then-portion-clause-whole g c =
    let known = g.W.Write.contents in
    let portion = c.in-Ok-Some.portion in
    let is = (due c.in-Ok-Some.portion c.in-Ok-Some.field-0 c.in-Ok-Some.field-0-is c.in-Ok-Some.ensures.portion) in
    let first : portion.first ≡ c.loop.written = omega arith in
    let puts = subst (λ (p : Plan). Puts known c.loop.out c.put_portion.new.out c.loop.bytes c.in-Ok.after (text_of p c.args.page.lines portion.turns.after)) c.plan.ensures c.in-Ok.ensures.ok in
    let own = c.args.own.now in
    let whole = last c.turns_are_schedule.ensures.below (piece_of portion) c.loop.invariant.sofar (is_piece is) first c.in-Ok.ensures.keys puts (is.last c.if-portion.true) in
    subst (λ (n : ℕ). IsWhole (plan_of own) (system g.T.Turns.turn_of own) c.args.page.lines (IsWritten known c.args.out.now c.put_portion.new.out) n) (sym c.stats.ensures) whole

pub loop-preserved : goal.loop-preserved
loop-preserved g c =
    let known = g.W.Write.contents in
    let portion = c.in-Ok-Some.portion in
    let first : portion.first ≡ c.loop.written = omega arith in
    let puts = subst (λ (p : Plan). Puts known c.loop.out c.put_portion.new.out c.loop.bytes c.in-Ok.after (text_of p c.args.page.lines portion.turns.after)) c.plan.ensures c.in-Ok.ensures.ok in
    record { caller = c.next_portion.ensures.caller; sofar = more (piece_of portion) c.loop.invariant.sofar (is_piece (due c.in-Ok-Some.portion c.in-Ok-Some.field-0 c.in-Ok-Some.field-0-is c.in-Ok-Some.ensures.portion)) first c.in-Ok.ensures.keys puts }
