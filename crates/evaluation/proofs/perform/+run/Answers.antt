use Rattle.std.proofs.Common.{◌≡◌, ◌+◌, ◌<◌, refl, sym, ap, subst, ◌∙◌, slice_set, arith, rules}
use Rattle.evaluation.proofs.Effects.{Steps, onward, part_first, only_last, past_first, past_branch, part_of_first, before_branch, done_by_branch, part_of_branch, on_err, on_err_by, on_ok_by}
use Rattle.terms.specs.EffectTree.{Before, Branch, effect_tree}
use Rattle.terms.specs.Scopes.{scope}
use Rattle.terms.specs.TermTree.{term_tree}
use Rattle.terms.specs.declared.effect.Last.TheFolds.{the_lemmas}
use Rattle.evaluation.proofs.Turned.{turned, parts_turned, part_of_turn}
use Rattle.terms.specs.Linked.{effect_opened}
use Rattle.terms.specs.Meaning.{Scope, after, with_loop, IsPart}
use Rattle.terms.specs.Shapes.{count, member}
use Rattle.terms.specs.Turns.{set_twice}
use Rattle.evaluation.proofs.perform.+run.Goals.{run-in-Before+in_ok-run-in-Before, run-in-Branch+in_ok-is_true-in-Branch+else-branch}
use Rattle.evaluation.proofs.perform.+run.Goals as goal

pub run-loop-part-preserved : goal.run-loop-part-preserved
run-loop-part-preserved g t c =
    let values = g.C.Cells.values in
    let effect = c.args.effect.now in
    let at = c.loop-part.part-index in
    let split = part_first effect c.deref-part-items.result.now at c.part-item.result in
    let step : Steps (onward effect at) (onward effect (at + 1)) (scope c.args.env.now) (values c.loop-part.cells) (values c.match-part.cells) × (g.C.Cells.marked c.match-part.cells ≡ g.C.Cells.marked c.loop-part.cells) =
    elim c.match-part.branch [
      | run-in-Before+in_ok-run-in-Before w ↦ (
        past_first (onward effect at) (effect_tree w.in-Before.first) (onward effect (at + 1)) (scope c.args.env.now) (values c.loop-part.cells) (values c.match-part.cells)
            (split (Before (effect_tree w.in-Before.first)) c.deref-part-items.ensures.value c.part-item.is c.loop-part-test.true (search (rules, the_lemmas)))
            (ap values w.cells-is ∙ w.in_ok-run-in-Before.ensures.ok),
        ap g.C.Cells.marked w.cells-is ∙ w.run.ensures.marked,
      )
      | run-in-Branch+in_ok-is_true-in-Branch+else-branch w ↦ (
        past_branch (onward effect at) (term_tree w.in-Branch.test) (effect_tree w.in-Branch.body) (onward effect (at + 1)) (scope c.args.env.now) (values c.loop-part.cells) (values c.match-part.cells)
            (split (Branch (term_tree w.in-Branch.test) (effect_tree w.in-Branch.body)) c.deref-part-items.ensures.value c.part-item.is c.loop-part-test.true (search (rules, the_lemmas)))
            (sym w.if-branch.false ∙ w.in_ok-is_true-in-Branch.ensures)
            (ap values w.cells-is),
        ap g.C.Cells.marked w.cells-is,
      )
    ] in
    record {
      done = sym step.0.done ∙ c.loop-part.invariant.done;
      parts = λ d h. c.loop-part.invariant.parts d (step.0.parts d h);
      marked = step.1 ∙ c.loop-part.invariant.marked;
    }

pub run-returns-then-branch-clause-err : goal.run-returns-then-branch-clause-err
run-returns-then-branch-clause-err g t c =
    let values = g.C.Cells.values in
    let effect = c.args.effect.now in
    let at = c.loop-part.part-index in
    let all = onward effect at in
    let split = part_first effect c.deref-part-items.result.now at c.part-item.result (Branch (term_tree c.in-Branch.test) (effect_tree c.in-Branch.body)) c.deref-part-items.ensures.value c.part-item.is c.loop-part-test.true (search (rules, the_lemmas)) in
    on_err_by c.run-then-branch.result
    (λ h. c.loop-part.invariant.parts (values c.run-then-branch.new.cells) (part_of_branch all (term_tree c.in-Branch.test) (effect_tree c.in-Branch.body) (onward effect (at + 1)) (scope c.args.env.now) (values c.loop-part.cells) (values c.run-then-branch.new.cells) split (sym c.if-branch.true ∙ c.in_ok-is_true-in-Branch.ensures) h))
    c.run-then-branch.ensures.err

pub run-returns-in_err-run-in-Before-clause-err : goal.run-returns-in_err-run-in-Before-clause-err
run-returns-in_err-run-in-Before-clause-err g t c =
    let values = g.C.Cells.values in
    let effect = c.args.effect.now in
    let at = c.loop-part.part-index in
    let split = part_first effect c.deref-part-items.result.now at c.part-item.result (Before (effect_tree c.in-Before.first)) c.deref-part-items.ensures.value c.part-item.is c.loop-part-test.true (search (rules, the_lemmas)) in
    on_err c.from_residual.result
    (c.loop-part.invariant.parts (values c.run.new.cells) (part_of_first (onward effect at) (effect_tree c.in-Before.first) (onward effect (at + 1)) (scope c.args.env.now) (values c.loop-part.cells) (values c.run.new.cells) split c.in_err-run-in-Before.ensures.err))

pub run-returns-in_err-is_true-in-Branch-clause-err : goal.run-returns-in_err-is_true-in-Branch-clause-err
run-returns-in_err-is_true-in-Branch-clause-err g t c =
    let values = g.C.Cells.values in
    let effect = c.args.effect.now in
    let at = c.loop-part.part-index in
    let split = part_first effect c.deref-part-items.result.now at c.part-item.result (Branch (term_tree c.in-Branch.test) (effect_tree c.in-Branch.body)) c.deref-part-items.ensures.value c.part-item.is c.loop-part-test.true (search (rules, the_lemmas)) in
    on_err c.from_residual-in_err-is_true-in-Branch.result
    (c.loop-part.invariant.parts (values c.loop-part.cells) (before_branch (onward effect at) (term_tree c.in-Branch.test) (effect_tree c.in-Branch.body) (onward effect (at + 1)) (scope c.args.env.now) (values c.loop-part.cells) split))

pub run-loop-part-init : goal.run-loop-part-init
run-loop-part-init g t c =
    let opened = sym (effect_opened c.args.effect.now) in
    record {
      done = ap (λ e. after e (scope c.args.env.now) (g.C.Cells.values c.args.cells.now)) opened;
      parts = λ d h. subst (λ e. IsPart e (scope c.args.env.now) (g.C.Cells.values c.args.cells.now) d) opened h;
      marked = refl;
    }

pub run-returns-then-branch-clause-ok : goal.run-returns-then-branch-clause-ok
run-returns-then-branch-clause-ok g t c =
    let effect = c.args.effect.now in
    let at = c.loop-part.part-index in
    let split = part_first effect c.deref-part-items.result.now at c.part-item.result (Branch (term_tree c.in-Branch.test) (effect_tree c.in-Branch.body)) c.deref-part-items.ensures.value c.part-item.is c.loop-part-test.true (search (rules, the_lemmas)) in
    on_ok_by c.run-then-branch.result
    (λ h. h ∙ done_by_branch (onward effect at) (term_tree c.in-Branch.test) (effect_tree c.in-Branch.body) (onward effect (at + 1)) (scope c.args.env.now) (g.C.Cells.values c.loop-part.cells) split (sym c.if-branch.true ∙ c.in_ok-is_true-in-Branch.ensures) ∙ c.loop-part.invariant.done)
    c.run-then-branch.ensures.ok

pub run-returns-clause-ok : goal.run-returns-clause-ok
run-returns-clause-ok g t c =
    let last = sym (only_last c.args.effect.now c.deref-part-items.result.now c.loop-part.part-index c.deref-part-items.ensures.value c.loop-part-test.false) in
    on_ok_by c.run_last.result
    (λ h. h ∙ ap (λ e. after e (scope c.args.env.now) (g.C.Cells.values c.loop-part.cells)) last ∙ c.loop-part.invariant.done)
    c.run_last.ensures.ok

pub run-returns-clause-err : goal.run-returns-clause-err
run-returns-clause-err g t c =
    let values = g.C.Cells.values in
    let last = sym (only_last c.args.effect.now c.deref-part-items.result.now c.loop-part.part-index c.deref-part-items.ensures.value c.loop-part-test.false) in
    on_err_by c.run_last.result
    (λ h. c.loop-part.invariant.parts (values c.run_last.new.cells) (subst (λ e. IsPart e (scope c.args.env.now) (values c.loop-part.cells) (values c.run_last.new.cells)) last h))
    c.run_last.ensures.err

pub run_each-loop-k-preserved : goal.run_each-loop-k-preserved
run_each-loop-k-preserved g t c =
    let slot = c.args.slot in
    let listed = c.args.listed in
    let k = c.loop-k.k in
    let values = g.C.Cells.values in
    let old = c.loop-k.invariant in
    let low : k < count listed = omega arith in
    let put : c.put_member.new.loops ≡ slice_set c.loop-k.inner.loops slot (member listed k) = c.put_member.ensures ∙ ap (slice_set c.loop-k.inner.loops slot) c.member_at.ensures in
    let inner : Scope = record { formals = c.loop-k.inner.formals.now; parameters = c.loop-k.inner.parameters.now; loops = c.put_member.new.loops } in
    let there : inner ≡ with_loop slot (member listed k) (scope c.args.env.now) = λ i. record { formals = (old.formals i).now; parameters = (old.parameters i).now; loops = (put ∙ old.loops (member listed k)) i } in
    record {
      done = turned slot k listed (effect_tree c.args.body.now) (scope c.args.env.now) inner (values c.loop-k.cells) (values c.run.new.cells) _ low there c.in_ok-run.ensures.ok old.done;
      parts = λ d h. old.parts d (parts_turned slot k listed (effect_tree c.args.body.now) (scope c.args.env.now) inner (values c.loop-k.cells) (values c.run.new.cells) d low there c.in_ok-run.ensures.ok h);
      marked = c.run.ensures.marked ∙ old.marked;
      formals = old.formals;
      parameters = old.parameters;
      loops = λ m. ap (λ ls. slice_set ls slot m) put ∙ set_twice c.loop-k.inner.loops slot (member listed k) m ∙ old.loops m;
    }

pub run_each-returns-in_err-run-clause-err : goal.run_each-returns-in_err-run-clause-err
run_each-returns-in_err-run-clause-err g t c =
    let slot = c.args.slot in
    let listed = c.args.listed in
    let k = c.loop-k.k in
    let values = g.C.Cells.values in
    let old = c.loop-k.invariant in
    let low : k < count listed = omega arith in
    let put : c.put_member.new.loops ≡ slice_set c.loop-k.inner.loops slot (member listed k) = c.put_member.ensures ∙ ap (slice_set c.loop-k.inner.loops slot) c.member_at.ensures in
    let inner : Scope = record { formals = c.loop-k.inner.formals.now; parameters = c.loop-k.inner.parameters.now; loops = c.put_member.new.loops } in
    let there : inner ≡ with_loop slot (member listed k) (scope c.args.env.now) = λ i. record { formals = (old.formals i).now; parameters = (old.parameters i).now; loops = (put ∙ old.loops (member listed k)) i } in
    on_err c.from_residual.result
    (old.parts (values c.run.new.cells) (part_of_turn slot k listed (effect_tree c.args.body.now) (scope c.args.env.now) inner (values c.loop-k.cells) (values c.run.new.cells) low there c.in_err-run.ensures.err))
