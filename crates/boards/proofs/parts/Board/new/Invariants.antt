use Rattle.std.proofs.Common.{◌≡◌, false, drop, vec_len}
use Rattle.std.specs.Prelude.{Some, None}
use Rattle.crossbeam_queue.specs.Passes.{view, IsPassOf}
use Rattle.boards.specs.Sections.{numbered, seeing}
use Rattle.boards.specs.Passes.{AreOwners}
use Rattle.boards.proofs.parts.Board.new.Given as goal

abbrev pub invariant-loop : goal.invariant-loop
invariant-loop g l = record {
  count : vec_len l.passes ≡ l.counter;
  room : l.passes.cap ≡ l.initial.passes.cap;
  same : l.queue ≡ l.initial.queue;
  pass : IsPassOf l.queue l.founder;
  sees : view l.founder ≡ seeing false (Some (g.L.Sectioned.kind_of l.fn.item)) (numbered l.counter (drop l.counter (g.L.Sectioned.sections_of l.fn.item))) None;
  owners : AreOwners (record { queue = l.queue }) (g.L.Sectioned.kind_of l.fn.item) (g.L.Sectioned.sections_of l.fn.item) l.passes.items;
}
