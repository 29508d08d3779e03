-- The first line at fault in a file that is read line by line.
use Rattle.std.specs.Prelude.{◌≡◌, ℕ, ◌+◌, List, ◌∷◌, ◌++◌, length}
use Rattle.task_seed.specs.Table.{lines_of}
use Rattle.trace.specs.declared.fault.TraceError.{TraceError}
use Rattle.trace.specs.declared.fault.TraceError.TheVariants as trace

-- line n, counted from 1, has the fault after the items that the lines before it give
pub record IsFirstAtFault {X : Type 0} (gives : List (List ℕ) → List X → Type 0) (has_fault : List X → List ℕ → Type 0) (bytes : List ℕ) (n : ℕ) : Type 0 where
  pub before : List (List ℕ)
  pub line : List ℕ
  pub later : List (List ℕ)
  pub split : lines_of bytes ≡ before ++ line ∷ later
  pub items : List X
  pub sound : gives before items
  pub counted : length before + 1 ≡ n
  pub fault : has_fault items line

-- why a file isn't read whose lines are judged one by one: a line has another form, or its action is unknown
abbrev pub IsFileFault : {X : Type 0} → (List (List ℕ) → List X → Type 0) → (List ℕ → Type 0) → (List ℕ → Type 0) → List ℕ → TraceError → Type 0
IsFileFault gives is_bad is_unknown bytes trace.NoMemory = Unit {0}
IsFileFault gives is_bad is_unknown bytes (trace.BadLine n) = IsFirstAtFault gives (λ items. is_bad) bytes n
IsFileFault gives is_bad is_unknown bytes (trace.UnknownAction n) = IsFirstAtFault gives (λ items. is_unknown) bytes n
IsFileFault gives is_bad is_unknown bytes (trace.NotInOrder n) = ⊥
