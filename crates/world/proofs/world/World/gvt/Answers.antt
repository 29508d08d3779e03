use Rattle.std.proofs.Common.{◌≡◌, ◌≤◌, ap, length, min, subst, ◌∙◌, ◌⊎◌, inl, inr, arith}
use Rattle.std.specs.Arc.{arc_value}
use Rattle.event_keys.specs.Ranks.{rank_of_bound}
use Rattle.antimessage.specs.Bags.{least_of}
use Rattle.virtual_time.specs.Replies.{IsVirtualTime}
use Rattle.task_seed.specs.Setups.{system}
use Rattle.rollback.specs.ComponentView.{machine_of}
use Rattle.world.specs.MachineLaws.{Laws}
use Rattle.world.specs.Simulation.{Simulation, world_of}
use Rattle.world.specs.Times.{least_next}
use Rattle.std.proofs.Common.{ℕ}
use Rattle.event_keys.specs.declared.key.Bound.{Bound}
use Rattle.world.proofs.Timing.{gvt_bound, gvt_time}
use Rattle.world.proofs.world.World.gvt.Goals as goal

lesser_is : (a b r : Bound) (n l : ℕ) → (r ≡ a) ⊎ (r ≡ b) → rank_of_bound r ≤ rank_of_bound a → rank_of_bound r ≤ rank_of_bound b → rank_of_bound a ≡ n → rank_of_bound b ≡ l → rank_of_bound r ≡ min n l
lesser_is a b r n l (inl e) f s p q = let is = ap rank_of_bound e in omega (arith, is, s, p, q)
lesser_is a b r n l (inr e) f s p q = let is = ap rank_of_bound e in omega (arith, is, f, p, q)

pub returns-clause-time : goal.returns-clause-time
returns-clause-time g c =
    let t = g.T.Turns.turn_of in
    let f = c.self.inside in
    let w : Simulation _ = record { setup = arc_value f.setup; components = f.components.items; flight = f.flight; bound = f.bound; committed = f.committed.before } in
    let laws : Laws (machine_of t w.setup) (length (system t w.setup).composition) = subst (λ p. Laws (machine_of t p) (length (system t p).composition)) c.deref.ensures c.laws.ensures in
    let first : rank_of_bound c.least_next.result ≡ least_next t f.components.items = c.least_next.ensures ∙ ap (least_next t) c.deref-2.ensures.value in
    let second : rank_of_bound c.least.result ≡ rank_of_bound (least_of f.flight) = ap rank_of_bound c.least.ensures in
    let g_is = lesser_is c.least_next.result c.least.result c.lesser.result (least_next t f.components.items) (rank_of_bound (least_of f.flight)) c.lesser.ensures.either c.lesser.ensures.first c.lesser.ensures.second first second in
    subst (λ (v : Simulation _). IsVirtualTime (machine_of t v.setup) (world_of (machine_of t v.setup) v) (rank_of_bound c.lesser.result)) c.self.view_is (gvt_time t w laws c.self.invariant.1 c.order_law.ensures (rank_of_bound c.lesser.result) g_is)

pub returns-clause-bound : goal.returns-clause-bound
returns-clause-bound g c =
    let t = g.T.Turns.turn_of in
    let f = c.self.inside in
    let w : Simulation _ = record { setup = arc_value f.setup; components = f.components.items; flight = f.flight; bound = f.bound; committed = f.committed.before } in
    let laws : Laws (machine_of t w.setup) (length (system t w.setup).composition) = subst (λ p. Laws (machine_of t p) (length (system t p).composition)) c.deref.ensures c.laws.ensures in
    let first : rank_of_bound c.least_next.result ≡ least_next t f.components.items = c.least_next.ensures ∙ ap (least_next t) c.deref-2.ensures.value in
    let second : rank_of_bound c.least.result ≡ rank_of_bound (least_of f.flight) = ap rank_of_bound c.least.ensures in
    let g_is = lesser_is c.least_next.result c.least.result c.lesser.result (least_next t f.components.items) (rank_of_bound (least_of f.flight)) c.lesser.ensures.either c.lesser.ensures.first c.lesser.ensures.second first second in
    subst (λ (v : Simulation _). rank_of_bound v.bound ≤ rank_of_bound c.lesser.result) c.self.view_is (gvt_bound t w laws c.self.invariant.1 c.order_law.ensures (rank_of_bound c.lesser.result) g_is)
