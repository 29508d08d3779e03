use Rattle.std.proofs.Common.{◌+◌, [], ◌∷◌, ap, length, length-append, sym, subst, ◌∙◌, arith}
use Rattle.std.specs.Prelude.{slice_get}
use Rattle.plans.specs.Plans.{composition}
use Rattle.task_seed.specs.ClockLaws.{first_reached}
use Rattle.task_seed.specs.Clocks.{HasReached}
use Rattle.reference.proofs.Reached.{all_zero, put_last}
use Rattle.reference.proofs.clocks.Clocks.new.Goals as goal

pub loop-i-preserved : goal.loop-i-preserved
loop-i-preserved g c =
    let t = g.T.Turns.turn_of in let setup = c.args.setup.now in
    let l = c.loop-i in
    let clock = c.reach.new.self in
    let here : HasReached t setup l.i clock 0
    = first_reached t setup l.i c.new-clock.result clock c.new-clock.ensures.component c.new-clock.ensures.ticks c.new-clock.ensures.read c.in_ok-reach.ensures.ok in
    let each = put_last (λ j x. HasReached t setup j x 0) l.clocks.items clock l.invariant.each (subst (λ j. HasReached t setup j clock 0) (sym l.invariant.many) here) in
    record {
      many = ap length c.in_ok-push.ensures.items ∙ length-append l.clocks.items (clock ∷ []) ∙ ap (λ n. n + 1) l.invariant.many;
      each = λ j x at. each j x (sym (ap (λ xs. slice_get xs j) c.in_ok-push.ensures.items) ∙ at);
    }

pub returns : goal.returns
returns g c n =
    let l = c.loop-i in
    let count = c.components-i-end.ensures ∙ ap (λ p. length (composition p)) c.plan.ensures in
    record {
      many = omega (arith, l.invariant.many, c.loop-i-test.false, count, l.auto.i-end);
      each = λ j x at. subst (HasReached g.T.Turns.turn_of c.args.setup.now j x) (sym (all_zero n j)) (l.invariant.each j x at);
    }
