-- What the threads know that hand each other turns.
use Rattle.std.proofs.Common.{◌≡◌, ℕ, [], ◌∷◌, ap}
use Rattle.std.specs.Prelude.{Some}
use Rattle.task_seed.specs.declared.setup.Setup.{Setup}
use Rattle.boards.specs.declared.parts.Pass.{Pass}
use Rattle.boards.specs.Passes.{sight}
use Rattle.boards.specs.Sections.{seeing, KeepsOthers}
use Rattle.boards.proofs.Owning.{keeps_all}
use Rattle.workers.specs.declared.alone.Passed.{Passed}

-- what is out may be given back: its sections never change
pub may_give : {T : Type 0} (old mid : Pass (Passed T) (Setup T) ℕ) → sight mid ≡ seeing (sight old).is_new (sight old).kind (sight old).own (Some (0 ∷ 0 ∷ [])) → KeepsOthers (sight mid) (0 ∷ 0 ∷ [])
may_give old mid sees = keeps_all (sight mid) (0 ∷ 0 ∷ []) (ap (λ v. v.taken) sees)
