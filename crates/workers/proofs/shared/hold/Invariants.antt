use Rattle.std.proofs.Common.{◌≡◌}
use Rattle.boards.specs.Passes.{IsOf, sight}
use Rattle.workers.proofs.shared.hold.Given as goal

abbrev pub invariant-loop : goal.invariant-loop
invariant-loop g l = record { own : IsOf l.shared.board l.pass; sees : sight l.pass ≡ sight l.initial.pass }
