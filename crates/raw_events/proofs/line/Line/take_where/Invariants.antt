use Rattle.std.proofs.Common.{◌≡◌, ◌++◌, Bool, length}
use Rattle.std.specs.Fn.{FnReturnsAt}
use Rattle.raw_events.specs.Around.{Tells, first_where, without_where}
use Rattle.raw_events.proofs.line.Line.take_where.Given as goal

abbrev pub invariant-loop-self : goal.invariant-loop-self
invariant-loop-self g l = record {
  told : (p : _ → Bool) → Tells (FnReturnsAt g.F.Fn l.test) p → (l.passed ++ without_where p l.self ≡ without_where p l.fn.self) × (first_where p l.self ≡ first_where p l.fn.self);
  all : l.passed ++ l.self ≡ l.fn.self;
}

abbrev pub decreases-loop-self : goal.decreases-loop-self
decreases-loop-self g l = length l.self
