use Rattle.std.proofs.Common.{◌≡◌, [], map, length, refl, sym, ap, subst, ◌∙◌}
use Rattle.std.specs.Prelude.{replicate}
use Rattle.std.specs.Arc.{arc_value}
use Rattle.std.specs.List.{range_with_len}
use Rattle.plans.specs.Plans.{composition}
use Rattle.task_seed.specs.Setups.{plan_of, system}
use Rattle.virtual_time.specs.Machine.{HasCount, Lawful}
use Rattle.rollback.specs.ComponentView.{lowest_bound, machine_of}
use Rattle.group_exchange.specs.ExchangeView.{IsValidExchange, group_at}
use Rattle.group_exchange.specs.Start.{start_passage, start_shared_within}
use Rattle.group_exchange.specs.Windows.{HasWindow}
use Rattle.group_exchange.proofs.Starting.{seen, shared_kept}
use Rattle.group_exchange.proofs.Windowed.{shared_within}
use Rattle.group_exchange.proofs.start.begin.Goals as goal

pub invariant_of-result : goal.invariant_of-result
invariant_of-result g c =
    let t = g.T.Turns.turn_of in
    let setup = arc_value c.args.setup in
    let groups = c.args.groups.now in
    let leases = c.args.leases.now in
    let window = c.args.window in
    let n = length (composition (plan_of setup)) in
    let m = machine_of t setup in
    let law : Lawful m = subst (λ p. Lawful (machine_of t p)) c.deref.ensures c.machine_is_lawful.ensures.lawful in
    let counted : HasCount m n = subst (λ p. HasCount (machine_of t p) (length (composition (plan_of p)))) c.deref.ensures c.machine_is_lawful.ensures.counted in
    let counts = c.in_ok-counted in
    let passages : counts.counted.passages.items ≡ map (start_passage (system t setup)) (range_with_len 0 n) = counts.ensures.passages ∙ ap (λ p. map (start_passage (system t p)) (range_with_len 0 (length (composition (plan_of p))))) c.deref-2.ensures in
    let held : counts.counted.held.items ≡ replicate n [] = counts.ensures.held ∙ ap (λ p. replicate (length (composition (plan_of p))) []) c.deref-2.ensures in
    let made : start_shared_within t setup groups window leases ≡ record { setup = setup; groups = c.in_ok-groups.groups.items; stubs = c.in_ok-stubs.stubs.items; passages = counts.counted.passages.items; bound = lowest_bound; held = counts.counted.held.items; given = 0; window = window }
    = λ v. record { setup = setup; groups = sym c.in_ok-groups.ensures v; stubs = sym c.in_ok-stubs.ensures v; passages = sym passages v; bound = lowest_bound; held = sym held v; given = 0; window = window } in
    let valid = shared_kept t setup groups leases c.requires.partition c.requires.leases c.requires.few (c.group_exchange_is_sound.ensures.start m (group_at groups) n law counted).0 window in
    let within = shared_within m law groups n (c.group_window_law.ensures.start m (group_at groups)) (start_shared_within t setup groups window leases) refl (seen t setup groups leases c.requires.partition c.requires.leases) in
    (counts.ensures.walks ∙ ap (λ p. length (composition (plan_of p))) c.deref-2.ensures, subst (IsValidExchange (system t setup)) made valid, subst (HasWindow m n) made within)

pub returns : goal.returns
returns g c =
    let t = g.T.Turns.turn_of in
    let setup = arc_value c.args.setup in
    let n = length (composition (plan_of setup)) in
    let counts = c.in_ok-counted in
    let passages : counts.counted.passages.items ≡ map (start_passage (system t setup)) (range_with_len 0 n) = counts.ensures.passages ∙ ap (λ p. map (start_passage (system t p)) (range_with_len 0 (length (composition (plan_of p))))) c.deref-2.ensures in
    let held : counts.counted.held.items ≡ replicate n [] = counts.ensures.held ∙ ap (λ p. replicate (length (composition (plan_of p))) []) c.deref-2.ensures in
    λ v. record { setup = setup; groups = c.in_ok-groups.ensures v; stubs = c.in_ok-stubs.ensures v; passages = passages v; bound = lowest_bound; held = held v; given = 0; window = c.args.window }
