use Rattle.std.proofs.Common.{◌≡◌, ℕ, ◌+◌, ◌++◌, true, [], All, vec_len, length, map}
use Rattle.crossbeam_queue.specs.Passes.{view, IsPassOf}
use Rattle.pools.specs.Places.{common, times}
use Rattle.pools.specs.Passes.{holding, IsEmptyOf}
use Rattle.pools.proofs.places.Pool.new.Given as goal

abbrev pub invariant-loop-item : goal.invariant-loop-item
invariant-loop-item g l = record {
  can : (goal.iterator-loop-item g).can_next l.item-iterator;
  ends : (goal.iterator-loop-item g).is_finite l.item-iterator;
  left : l.yielded ++ l.item-iterator.rest.items ≡ l.fn.items.items;
  pass : IsPassOf l.queue l.founder;
  alone : (view l.founder).alone ≡ true;
  held : (view l.founder).held ≡ [];
  kind : (view l.founder).kind ≡ common g.L.Numbered.kind_of l.yielded;
  numbers : (x : ℕ) → times x (view l.founder).all ≡ times x (map g.L.Numbered.number_of l.yielded);
  count : length (view l.founder).all ≡ length l.yielded;
}

abbrev pub invariant-loop : goal.invariant-loop
invariant-loop g l = record {
  count : vec_len l.places + 1 ≡ l.counter;
  room : l.places.cap ≡ l.initial.places.cap;
  all : All (IsEmptyOf (record { queue = l.queue }) (map g.L.Numbered.number_of l.fn.items.items)) l.places.items;
  same : l.queue ≡ l.initial.queue;
  pass : IsPassOf l.queue l.founder;
  held : (view l.founder).held ≡ [];
  kind : (view l.founder).kind ≡ common g.L.Numbered.kind_of l.fn.items.items;
  kinds : All (λ p. (holding p).kind ≡ common g.L.Numbered.kind_of l.fn.items.items) l.places.items;
  sole : l.fn.passes ≡ 1 → (view l.founder).alone ≡ true;
  numbers : (x : ℕ) → times x (view l.founder).all ≡ times x (map g.L.Numbered.number_of l.fn.items.items);
  length : length (view l.founder).all ≡ length (map g.L.Numbered.number_of l.fn.items.items);
}
