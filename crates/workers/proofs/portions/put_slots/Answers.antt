use Rattle.std.proofs.Common.{rules, ◌≡◌, ◌∙◌, ap, map, subst, sym, ◌∷◌, ◌+◌}
use Rattle.std.specs.Prelude.{drop, Err, IfErr, Result}
use Rattle.std.proofs.lemmas.List.{drop_more}
use Rattle.task_seed.specs.Taken.{turned_of}
use Rattle.trace.specs.Lines.{shown_text}
use Rattle.trace.specs.Puts.{Puts, Stops}
use Rattle.lone_group.specs.Lone.{turned}
use Rattle.workers.proofs.Putting.{next_put, next_stopped}
use Rattle.workers.proofs.portions.put_slots.Goals as goal

failed_with : {A E : Type 0} (P : E → Type 0) (r : Result A E) (e : E) → r ≡ Err e → P e → IfErr r P
failed_with P r e is p = subst (λ x. IfErr x P) (sym is) p

pub returns-in_err-written-clause-err : goal.returns-in_err-written-clause-err
returns-in_err-written-clause-err g c =
    let slots = c.args.slots.now in
    let i = c.loop-slot.slot-index in
    let item = c.slot-item.result in
    let next : drop i slots ≡ item ∷ drop (i + 1) slots = drop_more slots i item c.loop-slot-test.true ∙ ap (λ x. x ∷ drop (i + 1) slots) (sym c.slot-item.is) in
    let stops = subst (λ found. Stops g.W.Write.contents c.loop-slot.out c.append_taken.new.out c.loop-slot.written (shown_text c.args.plan.now c.args.lines (turned_of found item.key)) c.in_err-written.field-0.0) c.as_ref.ensures.value c.in_err-written.ensures.err in
    failed_with _ c.from_residual.result c.in_err-written.field-0.0 (search rules) (next_stopped (turned item) c.loop-slot.invariant (ap (map turned) next) c.fits.ensures stops)

pub loop-slot-preserved : goal.loop-slot-preserved
loop-slot-preserved g c =
    let slots = c.args.slots.now in
    let i = c.loop-slot.slot-index in
    let item = c.slot-item.result in
    let next : drop i slots ≡ item ∷ drop (i + 1) slots = drop_more slots i item c.loop-slot-test.true ∙ ap (λ x. x ∷ drop (i + 1) slots) (sym c.slot-item.is) in
    let puts = subst (λ found. Puts g.W.Write.contents c.loop-slot.out c.append_taken.new.out c.loop-slot.written c.in_ok-written.written (shown_text c.args.plan.now c.args.lines (turned_of found item.key))) c.as_ref.ensures.value c.in_ok-written.ensures.ok in
    next_put (turned item) c.loop-slot.invariant (ap (map turned) next) c.fits.ensures puts
