use Rattle.rollback.specs.ComponentView.{lowest_bound}
use Rattle.std.proofs.Common.{◌≡◌, [], ◌∷◌, ◌++◌, ◌+◌, map, length, length-append, refl, sym, ap, subst, ◌∙◌, arith}
use Rattle.std.proofs.lemmas.List.FromFn.{map-range_with_len_more}
use Rattle.std.specs.Prelude.{replicate}
use Rattle.std.specs.Arc.{arc_value}
use Rattle.std.specs.List.{range_with_len}
use Rattle.plans.specs.Plans.{composition}
use Rattle.task_seed.specs.Setups.{system, plan_of}
use Rattle.task_seed.specs.Machines.{machine}
use Rattle.virtual_time.specs.Machine.{Lawful}
use Rattle.exchange.specs.ExchangeView.{ExchangeView}
use Rattle.exchange.specs.Start.{start_stub, start_within}
use Rattle.exchange.proofs.Starting.{seen, shared_kept}
use Rattle.exchange.proofs.Windowed.{shared_within}
use Rattle.exchange.proofs.Repeated.{same_more}
use Rattle.exchange.proofs.exchange.Exchange.begin.Goals as goal

pub invariant_of-exchange : goal.invariant_of-exchange
invariant_of-exchange g c =
    let t = g.T.Turns.turn_of in
    let p = arc_value c.args.setup in
    let s = system t p in
    let law : Lawful (machine s) = subst (λ x. Lawful (machine (system t x))) c.deref.ensures c.machine_is_lawful.ensures.lawful in
    let start = c.exchange_is_sound.ensures.start (machine s) (length s.composition) law in
    let count = c.components-i-end.ensures ∙ ap (λ plan. length (composition plan)) c.plan.ensures ∙ ap (λ x. length (composition (plan_of x))) c.deref-2.ensures in
    let all : c.loop-i.i ≡ length s.composition = omega (arith, c.loop-i-test.false, count, c.loop-i.auto.i-end) in
    let stubs = c.loop-i.invariant.stubs ∙ ap (λ n. map (start_stub s) (range_with_len 0 n)) all in
    let e : ExchangeView _ = record { setup = p; stubs = c.loop-i.stubs.items; bound = lowest_bound; held = c.loop-i.held.items; given = 0; window = c.args.window } in
    let walks = c.loop-i.invariant.walks ∙ all in
    let held = c.loop-i.invariant.held ∙ ap (λ n. replicate n []) all in
    (walks, shared_kept s e stubs refl held refl start.0, shared_within (machine s) law (c.window_law.ensures.start (machine s)) (length s.composition) e (seen s e stubs refl held refl))

pub loop-i-preserved : goal.loop-i-preserved
loop-i-preserved g c =
    let t = g.T.Turns.turn_of in
    let p = arc_value c.args.setup in
    let s = system t p in
    let i = c.loop-i.i in
    let stub : c.start_stub.result ≡ start_stub s i = c.start_stub.ensures ∙ ap (λ x. start_stub (system t x) i) c.deref-in-loop-i.ensures in
    let lease : c.in_ok-start_lease.field-0 ≡ start_within t p c.args.window i = c.in_ok-start_lease.ensures ∙ ap (λ x. start_within t x c.args.window i) c.in_ok-try_clone.ensures in
    record {
      stubs = c.in_ok-push.ensures.items ∙ ap (λ l. l ++ c.start_stub.result ∷ []) c.loop-i.invariant.stubs ∙ ap (λ x. map (start_stub s) (range_with_len 0 i) ++ x ∷ []) stub ∙ sym (map-range_with_len_more (start_stub s) 0 i i (omega arith));
      walks = ap length c.in_ok-push-2.ensures.items ∙ length-append c.loop-i.walks.items _ ∙ ap (λ n. n + 1) c.loop-i.invariant.walks;
      held = c.in_ok-push-3.ensures.items ∙ ap (λ l. l ++ c.empty.result ∷ []) c.loop-i.invariant.held ∙ ap (λ x. replicate i [] ++ x ∷ []) c.empty.ensures ∙ same_more [] i;
      leases = c.in_ok-push-4.ensures.items ∙ ap (λ l. l ++ c.in_ok-start_lease.field-0 ∷ []) c.loop-i.invariant.leases ∙ ap (λ x. map (start_within t p c.args.window) (range_with_len 0 i) ++ x ∷ []) lease ∙ sym (map-range_with_len_more (start_within t p c.args.window) 0 i i (omega arith));
    }
