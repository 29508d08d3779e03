-- Turns of both kinds, case by case.
use Rattle.std.specs.Prelude.{◌≡◌, refl}
use Rattle.task_seed.specs.declared.any_turns.AnyTurns.{AnyTurns}
use Rattle.task_seed.specs.declared.any_turns.AnyTurns.TheVariants.{Seed, Table}
use Rattle.task_seed.specs.contracts.any_turns.AnyTurnsPartialEq.TheImpl as any_eq
use Rattle.task_seed.specs.AnyLaws.{same_any}

pub equal_by_kind : (a b : AnyTurns) → any_eq.ghosts.eq a b ≡ same_any a b
equal_by_kind (Seed a) (Seed b) = refl
equal_by_kind (Seed a) (Table b) = refl
equal_by_kind (Table a) (Seed b) = refl
equal_by_kind (Table a) (Table b) = refl
