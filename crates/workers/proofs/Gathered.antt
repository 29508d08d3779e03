-- The last pass goes with the last lease.
use Rattle.std.proofs.Common.{◌≡◌, ℕ, zero, suc, List, [], ◌∷◌, ◌++◌, length, refl, ap, sym, ◌∙◌, arith, length-append}
use Rattle.std.specs.Prelude.{Option, Some, slice_get}
use Rattle.std.proofs.lemmas.Option.{none-some}
use Rattle.task_seed.specs.declared.setup.Setup.{Setup}
use Rattle.task_seed.specs.declared.turns.Turn.{Turn}
use Rattle.groups.specs.GroupView.{GroupView}
use Rattle.boards.specs.declared.parts.Board.{Board}
use Rattle.boards.specs.declared.parts.Pass.{Pass}
use Rattle.group_exchange.specs.declared.stub.Stub.{Stub}
use Rattle.workers.specs.declared.crew.Division.{Division}
use Rattle.workers.specs.declared.crew.Lent.{Lent}
use Rattle.workers.specs.Crews.{AreHeld, IsHeld}

module _ {A : Type 0} where
  pub in_front : (xs : List A) (x : A) (n : ℕ) (y : A) → slice_get xs n ≡ Some y → slice_get (xs ++ x ∷ []) n ≡ Some y
  in_front [] x n y is = absurd (none-some y is)
  in_front (z ∷ xs) x zero y is = is
  in_front (z ∷ xs) x (suc n) y is = in_front xs x n y is

  pub at_end : (xs : List A) (x : A) → slice_get (xs ++ x ∷ []) (length xs) ≡ Some x
  at_end [] x = refl
  at_end (z ∷ xs) x = at_end xs x

module _ {T : Type 0} (turn_of : T → ℕ → ℕ → Option Turn) (board : Board (Lent T) (Division T) Stub) where
  pub last_held : (passes front : List (Pass (Lent T) (Division T) Stub)) (pass : Pass (Lent T) (Division T) Stub) (leases rest : List (GroupView (Setup T))) (lease : GroupView (Setup T))
      → passes ≡ front ++ pass ∷ [] → leases ≡ rest ++ lease ∷ [] → length leases ≡ length passes → AreHeld turn_of board passes leases → AreHeld turn_of board front rest × IsHeld turn_of board pass lease × (length rest ≡ length front)
  last_held passes front pass leases rest lease ps ls many held =
      let p = ap length ps in
      let l = ap length ls in
      let same : length rest ≡ length front = omega (arith, p, l, many, length-append front (pass ∷ []), length-append rest (lease ∷ [])) in
      let pass_there : slice_get passes (length front) ≡ Some pass = ap (λ xs. slice_get xs (length front)) ps ∙ at_end front pass in
      let lease_there : slice_get leases (length front) ≡ Some lease = ap (λ n. slice_get leases n) (sym same) ∙ ap (λ xs. slice_get xs (length rest)) ls ∙ at_end rest lease in
      (λ n q k at_q at_k. held n q k (ap (λ xs. slice_get xs n) ps ∙ in_front front pass n q at_q) (ap (λ xs. slice_get xs n) ls ∙ in_front rest lease n k at_k), held (length front) pass lease pass_there lease_there, same)
