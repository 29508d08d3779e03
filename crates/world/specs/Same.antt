-- When two worlds are equal.
use Rattle.std.specs.Prelude.{◌≡◌, ◌&&◌, Bool, true}
use Rattle.std.specs.Cmp.Lexicographic.{pointwise}
use Rattle.event_keys.specs.contracts.key.BoundPartialEq.TheImpl as bound_eq
use Rattle.event_keys.specs.contracts.outcome.TurnedPartialEq.TheImpl as turned_eq
use Rattle.antimessage.specs.Counts.{is_same}
use Rattle.rollback.specs.ComponentView.{ComponentView}
use Rattle.rollback.specs.Same.{same_held}
use Rattle.world.specs.Simulation.{Simulation}

-- the same bound, the same signed messages in flight, each as often, and the same committed turns
abbrev pub same_progress : {P : Type 0} → Simulation P → Simulation P → Bool
same_progress a b = bound_eq.ghosts.eq a.bound b.bound && (pointwise is_same a.flight b.flight && pointwise turned_eq.ghosts.eq a.committed b.committed)

-- worlds are equal with equal setups where these are so, with components that are equal one by one
abbrev pub same_world : {P : Type 0} → (P → P → Bool) → Simulation P → Simulation P → Bool
same_world eq a b = eq a.setup b.setup && (same_progress a b && pointwise (same_held eq) a.components b.components)

-- what equality tells: equal setups, components that are equal one by one, and the same in flight, bound and committed turns
abbrev pub HaveEqualParts : {P : Type 0} → (P → P → Bool) → (ComponentView P → ComponentView P → Bool) → Simulation P → Simulation P → Type 0
HaveEqualParts eq eq_component a b = (eq a.setup b.setup ≡ true) × (pointwise eq_component a.components b.components ≡ true) × (a.flight ≡ b.flight) × (a.bound ≡ b.bound) × (a.committed ≡ b.committed)
