-- The least of the next keys.
use Rattle.std.proofs.Common.{◌≡◌, ℕ, zero, suc, ◌≤◌, Option, Some, List, [], ◌∷◌, refl, ap, arith}
use Rattle.std.specs.Prelude.{slice_get}
use Rattle.task_seed.specs.declared.setup.Setup.{Setup}
use Rattle.task_seed.specs.declared.turns.Turn.{Turn}
use Rattle.task_seed.specs.Machines.{end_rank}
use Rattle.rollback.specs.ComponentView.{ComponentView}
use Rattle.rollback.proofs.Sending.{end_is}
use Rattle.groups.specs.GroupView.{key_of_next, least_next}
use Rattle.groups.specs.Windows.{IsFirst, NothingIsNext}
use Rattle.groups.proofs.Placed.{none_some, one_some}

module _ {T : Type 0} (turn_of : T → ℕ → ℕ → Option Turn) (setup : Setup T) where
  pub least_low : (cs : List (ComponentView (Setup T))) (q : ℕ) (c : ComponentView (Setup T)) → slice_get cs q ≡ Some c → least_next turn_of setup cs ≤ key_of_next turn_of c
  least_low [] q c e = absurd (none_some c e)
  least_low (d ∷ ds) zero c e = let here = one_some d c e in let same : key_of_next turn_of d ≡ key_of_next turn_of c = ap (key_of_next turn_of) here in omega (arith, same)
  least_low (d ∷ ds) (suc q) c e = let rest = least_low ds q c e in omega (arith, rest)

  pub least_end : (cs : List (ComponentView (Setup T))) → least_next turn_of setup cs ≤ end_rank
  least_end [] = omega arith
  least_end (d ∷ ds) = let rest = least_end ds in omega (arith, rest)

  pub least_most : (b : ℕ) (cs : List (ComponentView (Setup T))) → b ≤ end_rank → ((q : ℕ) (c : ComponentView (Setup T)) → slice_get cs q ≡ Some c → b ≤ key_of_next turn_of c) → b ≤ least_next turn_of setup cs
  least_most b [] end all = end
  least_most b (d ∷ ds) end all =
      let first = all 0 d refl in
      let rest = least_most b ds end (λ q c e. all (suc q) c e) in
      omega (arith, first, rest)

  -- it is that of the first
  pub least_first : (cs : List (ComponentView (Setup T))) (place : ℕ) (f : IsFirst turn_of cs place) → least_next turn_of setup cs ≡ key_of_next turn_of f.c
  least_first cs place f =
      let low = least_low cs place f.c f.there in
      let small = f.key in
      let end = end_is in
      let most = least_most (key_of_next turn_of f.c) cs (omega (arith, small, end)) f.least in
      omega (arith, low, most)

  pub least_there : (cs : List (ComponentView (Setup T))) (place : ℕ) → IsFirst turn_of cs place → least_next turn_of setup cs ≡ end_rank → ⊥
  least_there cs place f e =
      let same = least_first cs place f in
      let small = f.key in
      let end = end_is in
      omega (arith, same, small, end, e)

  -- or the end
  pub least_none : (cs : List (ComponentView (Setup T))) → NothingIsNext turn_of cs → least_next turn_of setup cs ≡ end_rank
  least_none cs none =
      let end = end_is in
      let low = least_end cs in
      let most = least_most end_rank cs (omega arith) (λ q c e. let high = none q c e in omega (arith, high, end)) in
      omega (arith, low, most)
