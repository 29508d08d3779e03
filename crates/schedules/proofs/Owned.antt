-- The turns of the simulator are turns of its components.
use Rattle.std.proofs.Common.{◌≡◌, ℕ, ◌+◌, ◌<◌, ◌&&◌, Bool, true, false, Option, None, Some, List, [], ◌∷◌, map, reverse, length, refl, ap, sym, subst, ◌∙◌, arith}
use Rattle.std.specs.Prelude.{nat_lt, if◌then◌else◌}
use Rattle.std.specs.List.{AllByRecursion}
use Rattle.std.proofs.lemmas.Bool.Decides.{nat_tests}
use Rattle.std.proofs.lemmas.List.{reverse-reverse}
use Rattle.terms.specs.Datum.{Datum}
use Rattle.terms.specs.Named.{Named}
use Rattle.event_keys.specs.declared.outcome.Turned.{Turned}
use Rattle.event_keys.specs.Ranked.{rank_owner}
use Rattle.event_keys.specs.Ranks.{owner_of, rank}
use Rattle.virtual_time.specs.Reference.{IsNext, IsRun, Point, Turn, after}
use Rattle.task_seed.specs.declared.turns.Turn.{Turn as Row}
use Rattle.task_seed.specs.Machines.{end_rank, machine, outcome_by, turn_outcome, turn_rank}
use Rattle.task_seed.specs.Taken.{turn_of, turns_of}
use Rattle.task_seed.specs.Turning.{System, has_turns, key_at, ticks, turn_in}
use Rattle.schedules.specs.Schedules.{KeyFits, KeysFit}
use Rattle.schedules.specs.Turns.{IsTaken, IsOwnTurn}
use Rattle.schedules.proofs.Told.{all_reversed}

all_of : {X Y : Type 0} (P : Y → Type 0) (f : X → Y) (xs : List X) → AllByRecursion P (map f xs) → AllByRecursion (λ x. P (f x)) xs
all_of P f [] all = tt
all_of P f (x ∷ xs) all = (all.0, all_of P f xs all.1)

module _ (s : System) where
  -- the turn is the next one somewhere
  abbrev HasPoint : Turn Named → Type 0
  HasPoint t = (p : Point (List Datum)) × IsNext (machine s) p t

  have_points : (turns : List (Turn Named)) → IsRun (machine s) turns → AllByRecursion HasPoint turns
  have_points [] run = tt
  have_points (t ∷ ts) run = ((after (machine s) ts, run.0), have_points ts run.1)

  -- a component that has a turn before the end exists
  component_exists : (i n : ℕ) → turn_rank s i n < end_rank → i < length s.composition
  component_exists i n low = go (nat_lt i (length s.composition)) refl where
    go : (b : Bool) → nat_lt i (length s.composition) ≡ b → i < length s.composition
    go true e = grind (arith, nat_tests)
    go false e =
        let end : turn_rank s i n ≡ end_rank = ap (λ b. if b && has_turns s i (n + 1) then rank (key_at i n (ticks s i (n + 1))) else end_rank) e in
        absurd (omega (arith, low, end))

  is_taken : (i n : ℕ) (state : List Datum) (action : Named) → turn_outcome s i n state ≡ Some action → IsTaken s.composition i action
  is_taken i n state action e = go (turn_in s i n) e where
    go : (row : Option Row) → outcome_by s i row state ≡ Some action → IsTaken s.composition i action
    go None f = cc
    go (Some row) f = record { task = row.task; choice = row.choice; state = state; is = f }

  is_own : (turned : Turned) → KeyFits turned.key → HasPoint (turn_of turned) → IsOwnTurn s.composition turned
  is_own turned fits h =
      let i = owner_of (rank turned.key) in
      let p = h.0 in
      let next = h.1 in
      let owner : i ≡ turned.key.component = rank_owner turned.key fits.component fits.number in
      record {
        fits = fits;
        exists = subst (λ (k : ℕ). k < length s.composition) owner (component_exists i (p.next i) (subst (λ (r : ℕ). r < end_rank) next.its_key next.exists));
        taken = λ action is. subst (λ (k : ℕ). IsTaken s.composition k action) owner (is_taken i (p.next i) (p.state i) action (sym next.its_outcome ∙ is));
      }

  are_own : (turns : List Turned) → KeysFit turns → AllByRecursion (λ turned. HasPoint (turn_of turned)) turns → AllByRecursion (IsOwnTurn s.composition) turns
  are_own [] fit all = tt
  are_own (turned ∷ turns) fit all = (is_own turned fit.0 all.0, are_own turns fit.1 all.1)

  pub owned : (turns : List Turned) → KeysFit turns → IsRun (machine s) (turns_of turns) → AllByRecursion (IsOwnTurn s.composition) turns
  owned turns fit run =
      let turned_round : AllByRecursion HasPoint (reverse (turns_of turns)) = all_reversed HasPoint (turns_of turns) (have_points (turns_of turns) run) in
      let front : AllByRecursion HasPoint (map turn_of turns) = subst (AllByRecursion HasPoint) (reverse-reverse (map turn_of turns)) turned_round in
      are_own turns fit (all_of HasPoint turn_of turns front)
