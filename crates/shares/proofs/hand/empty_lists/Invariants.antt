use Rattle.std.proofs.Common.{◌≡◌, ℕ, [], length}
use Rattle.shares.specs.Hands.{owns_at}
use Rattle.shares.proofs.hand.empty_lists.Given as goal

abbrev pub invariant-loop : goal.invariant-loop
invariant-loop l = record {
  many : length l.lists.items ≡ l.counter;
  empty : (group : ℕ) → owns_at l.lists.items group ≡ [];
}
