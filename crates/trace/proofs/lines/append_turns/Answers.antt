use Rattle.std.proofs.Common.{rules, ◌≡◌, [], ◌∷◌, ◌++◌, sym, subst}
use Rattle.std.specs.Prelude.{Result, Err, IfErr}
use Rattle.std.specs.Iterator.{Yields}
use Rattle.std.proofs.iter.Next.{Yields-more}
use Rattle.trace.proofs.Putting.{stops_at_next}
use Rattle.trace.proofs.lines.append_turns.Goals as goal

failed_with : {A E : Type 0} (P : E → Type 0) (r : Result A E) (e : E) → r ≡ Err e → P e → IfErr r P
failed_with P r e is p = subst (λ x. IfErr x P) (sym is) p

pub returns-in_err-written-clause-err : goal.returns-in_err-written-clause-err
returns-in_err-written-clause-err g c =
    let steps = g.I.Iterator.next_gives in
    let more = Yields-more steps c.into_iter-turned-iterator.result c.loop-turned.yielded c.loop-turned.turned-iterator c.in-Some.turned c.next.new.self c.loop-turned.yielded_by c.in-Some.ensures.steps in
    let from : c.into_iter-turned-iterator.result ≡ c.args.turns = cc in
    let given = c.loop-turned.yielded ++ c.in-Some.turned ∷ [] in
    let failed = stops_at_next c.args.plan.now c.args.lines c.loop-turned.yielded c.in-Some.turned c.loop-turned.invariant c.in_err-written.ensures.err in
    failed_with _ c.from_residual.result c.in_err-written.field-0.0 (search rules) (given, c.next.new.self, subst (λ s. Yields steps s given c.next.new.self) from more, failed)
