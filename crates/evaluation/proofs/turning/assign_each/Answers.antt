use Rattle.std.proofs.Common.{◌≡◌, ◌<◌, ap, ◌∙◌, slice_set, arith}
use Rattle.evaluation.proofs.Effects.{on_err}
use Rattle.evaluation.proofs.Turned.{turned, parts_turned, part_of_turn}
use Rattle.terms.specs.EffectTree.{Assign}
use Rattle.terms.specs.Meaning.{Scope, with_loop}
use Rattle.terms.specs.Scopes.{scope}
use Rattle.terms.specs.Shapes.{count, member}
use Rattle.terms.specs.TermTree.{term_tree}
use Rattle.terms.specs.Turns.{set_twice}
use Rattle.evaluation.proofs.turning.assign_each.Goals as goal

pub loop-k-preserved : goal.loop-k-preserved
loop-k-preserved g c =
    let slot = c.args.slot in
    let listed = c.args.listed in
    let k = c.loop-k.k in
    let values = g.C.Cells.values in
    let old = c.loop-k.invariant in
    let low : k < count listed = omega arith in
    let put : c.put_member.new.loops ≡ slice_set c.loop-k.inner.loops slot (member listed k) = c.put_member.ensures ∙ ap (slice_set c.loop-k.inner.loops slot) c.member_at.ensures in
    let inner : Scope = record { formals = c.loop-k.inner.formals.now; parameters = c.loop-k.inner.parameters.now; loops = c.put_member.new.loops } in
    let there : inner ≡ with_loop slot (member listed k) (scope c.args.env.now) = λ i. record { formals = (old.formals i).now; parameters = (old.parameters i).now; loops = (put ∙ old.loops (member listed k)) i } in
    record {
      done = turned slot k listed (Assign c.args.cell (term_tree c.args.term.now)) (scope c.args.env.now) inner (values c.loop-k.cells) (values c.assign.new.cells) _ low there c.in_ok-assign.ensures.ok old.done;
      parts = λ d h. old.parts d (parts_turned slot k listed (Assign c.args.cell (term_tree c.args.term.now)) (scope c.args.env.now) inner (values c.loop-k.cells) (values c.assign.new.cells) d low there c.in_ok-assign.ensures.ok h);
      marked = c.assign.ensures.marked ∙ old.marked;
      formals = old.formals;
      parameters = old.parameters;
      loops = λ m. ap (λ ls. slice_set ls slot m) put ∙ set_twice c.loop-k.inner.loops slot (member listed k) m ∙ old.loops m;
    }

pub returns-in_err-assign-clause-err : goal.returns-in_err-assign-clause-err
returns-in_err-assign-clause-err g c =
    let slot = c.args.slot in
    let listed = c.args.listed in
    let k = c.loop-k.k in
    let values = g.C.Cells.values in
    let old = c.loop-k.invariant in
    let low : k < count listed = omega arith in
    let put : c.put_member.new.loops ≡ slice_set c.loop-k.inner.loops slot (member listed k) = c.put_member.ensures ∙ ap (slice_set c.loop-k.inner.loops slot) c.member_at.ensures in
    let inner : Scope = record { formals = c.loop-k.inner.formals.now; parameters = c.loop-k.inner.parameters.now; loops = c.put_member.new.loops } in
    let there : inner ≡ with_loop slot (member listed k) (scope c.args.env.now) = λ i. record { formals = (old.formals i).now; parameters = (old.parameters i).now; loops = (put ∙ old.loops (member listed k)) i } in
    on_err c.from_residual.result
    (old.parts (values c.assign.new.cells) (part_of_turn slot k listed (Assign c.args.cell (term_tree c.args.term.now)) (scope c.args.env.now) inner (values c.loop-k.cells) (values c.assign.new.cells) low there c.in_err-assign.ensures.err))
