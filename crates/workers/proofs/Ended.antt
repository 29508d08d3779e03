-- Where all stubs have ended, the base of each component's group is the end.
use Rattle.std.proofs.Common.{◌≡◌, ℕ, zero, suc, ◌<◌, ◌≤◌, true, true≢false, Some, List, [], ◌∷◌, All, length, refl, ap, sym, subst, arith}
use Rattle.std.specs.Prelude.{slice_get}
use Rattle.std.specs.List.{list_all}
use Rattle.std.proofs.lemmas.Bool.{and_parts}
use Rattle.std.proofs.lemmas.List.Elements.{All-head, All-tail}
use Rattle.event_keys.specs.declared.key.Bound.{Bound}
use Rattle.event_keys.specs.declared.key.Bound.TheVariants.{At, End}
use Rattle.event_keys.specs.Ranks.{rank_of_bound}
use Rattle.task_seed.specs.Machines.{machine, end_rank}
use Rattle.task_seed.specs.Turning.{System}
use Rattle.virtual_time.specs.Groups.Stubs.{Stub as StubSeen}
use Rattle.terms.specs.Named.{Named}
use Rattle.partitions.specs.Partitions.{IsPartition}
use Rattle.group_exchange.specs.declared.stub.Stub.{Stub}
use Rattle.group_exchange.specs.ExchangeView.{group_at, is_end, is_ended, stub_or_none}

end_is : rank_of_bound End ≡ end_rank
unfolding end_rank
end_is = refl

ended_base : (bound : Bound) → is_end bound ≡ true → rank_of_bound bound ≡ end_rank
ended_base (At key) e = absurd (true≢false (sym e))
ended_base End e = end_is

ended_stub : (stubs : List Stub) → list_all is_ended stubs ≡ true → (g : ℕ) → g < length stubs → (stub : Stub) × (slice_get stubs g ≡ Some stub) × (is_end stub.base ≡ true)
ended_stub [] e g low = absurd (omega (arith, low))
ended_stub (stub ∷ stubs) e zero low = (stub, refl, (and_parts (is_ended stub) (list_all is_ended stubs) e).0)
ended_stub (stub ∷ stubs) e (suc g) low = ended_stub stubs (and_parts (is_ended stub) (list_all is_ended stubs) e).1 g (omega (arith, low))

below_at : (groups : List ℕ) (many : ℕ) → All (λ g. g < many) groups → (j : ℕ) → j < length groups → group_at groups j < many
below_at [] many all j low = absurd (omega (arith, low))
below_at (g ∷ gs) many all zero low = All-head (λ g. g < many) g gs all
below_at (g ∷ gs) many all (suc j) low = below_at gs many (All-tail (λ g. g < many) g gs all) j (omega (arith, low))

pub all_ended : (s : System) (stubs : List Stub) (groups : List ℕ) (count : ℕ) → IsPartition count (length stubs) groups → list_all is_ended stubs ≡ true
    → (j : ℕ) → j < count → end_rank ≤ (stub_or_none (machine s) (slice_get stubs (group_at groups j))).base
all_ended s stubs groups count partition e j low =
    let every = partition.every in
    let there = below_at groups (length stubs) partition.below j (omega (arith, every, low)) in
    let found = ended_stub stubs e (group_at groups j) there in
    let base = ended_base found.0.base found.2 in
    subst (λ (x : StubSeen Named). end_rank ≤ x.base) (ap (stub_or_none (machine s)) (sym found.1)) (omega (arith, base))
