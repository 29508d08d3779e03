-- The simulator's turns are in the order of their keys.
use Rattle.std.proofs.Common.{◌≡◌, ℕ, ◌^◌, ◌<◌, List, [], ◌∷◌, ◌++◌, map, reverse, length, refl, sym, subst, ◌∙◌, arith}
use Rattle.std.specs.Prelude.{None, Some}
use Rattle.std.specs.Cmp.{nat_cmp_is}
use Rattle.std.specs.List.{AllByRecursion}
use Rattle.std.specs.declared.cmp.Ordering.TheVariants.{Less}
use Rattle.std.proofs.lemmas.List.{reverse-append}
use Rattle.terms.specs.Named.{Named}
use Rattle.event_keys.specs.declared.key.Key.{Key}
use Rattle.event_keys.specs.declared.outcome.Outcome.{Outcome}
use Rattle.event_keys.specs.declared.outcome.Outcome.TheVariants.{Idle, Did}
use Rattle.event_keys.specs.declared.outcome.Turned.{Turned}
use Rattle.event_keys.specs.Entries.{action_of}
use Rattle.event_keys.specs.Orders.{key_order}
use Rattle.event_keys.specs.Ranked.{key_rank}
use Rattle.event_keys.specs.Ranks.{rank}
use Rattle.virtual_time.specs.Reference.{Turn, AllBelow, Falls}
use Rattle.plans.specs.declared.plan.Plan.{Plan}
use Rattle.plans.specs.Plans.{composition}
use Rattle.task_seed.specs.Taken.{turn_of, turns_of}
use Rattle.schedules.specs.Turns.{IsOwnTurn, IsTaken}
use Rattle.trace.specs.OrderedFile.{AreInOrder, IsKeyOf, IsTurnOf}
use Rattle.trace.specs.WrittenTurns.{IsOutcome}
use Rattle.reading_back.specs.Said.{IsSaid, SaysAll}

-- of falling turns the first ones fall, and those at the end are below each of them
below_front : (k : ℕ) (xs ys : List (Turn Named)) → AllBelow k (xs ++ ys) → AllBelow k xs
below_front k [] ys h = tt
below_front k (x ∷ xs) ys h = (h.0, below_front k xs ys h.1)

falls_front : (xs ys : List (Turn Named)) → Falls (xs ++ ys) → Falls xs
falls_front [] ys h = tt
falls_front (x ∷ xs) ys h = (below_front x.key xs ys h.0, falls_front xs ys h.1)

falls_back : (xs ys : List (Turn Named)) → Falls (xs ++ ys) → Falls ys
falls_back [] ys h = h
falls_back (x ∷ xs) ys h = falls_back xs ys h.1

module _ (plan : Plan) (few : length (composition plan) < 2 ^ 16) where
  above : (a b : Key) → IsKeyOf plan a → IsKeyOf plan b → rank a < rank b → key_order a b ≡ Less
  above a b p q low =
      let a_component : a.component < 2 ^ 16 = omega (arith, few, p.exists) in
      let b_component : b.component < 2 ^ 16 = omega (arith, few, q.exists) in
      key_rank a b a_component p.numbers.number b_component q.numbers.number ∙ sym (nat_cmp_is (rank a) (rank b) Less low)

  next_above : (a b : Turned) (turns : List Turned) → IsTurnOf plan a → IsTurnOf plan b → Falls (turns_of (a ∷ b ∷ turns)) → key_order a.key b.key ≡ Less
  next_above a b turns p q falls =
      let last = falls_back (reverse (map turn_of turns)) (turn_of b ∷ turn_of a ∷ []) (subst Falls (reverse-append (turn_of a ∷ turn_of b ∷ []) (map turn_of turns)) falls) in
      above a.key b.key p.key q.key last.0.0

  later_fall : (a : Turned) (turns : List Turned) → Falls (turns_of (a ∷ turns)) → Falls (turns_of turns)
  later_fall a turns falls = falls_front (turns_of turns) (turn_of a ∷ []) (subst Falls (reverse-append (turn_of a ∷ []) (map turn_of turns)) falls)

  rising_on : (a : Turned) (turns : List Turned) → IsTurnOf plan a → AllByRecursion (IsTurnOf plan) turns → Falls (turns_of (a ∷ turns)) → AreInOrder plan (Some a.key) turns
  rising_on a [] p all falls = tt
  rising_on a (b ∷ turns) p all falls = (all.0, next_above a b turns p all.0 falls, rising_on b turns all.0 all.1 (later_fall a (b ∷ turns) falls))

  pub rising : (turns : List Turned) → AllByRecursion (IsTurnOf plan) turns → Falls (turns_of turns) → AreInOrder plan None turns
  rising [] all falls = tt
  rising (a ∷ turns) all falls = (all.0, tt, rising_on a turns all.0 all.1 falls)

-- turns of the components, whose actions lines say, are turns of the plan
is_turn : (plan : Plan) (turned : Turned) → IsOwnTurn (composition plan) turned → IsSaid plan turned → IsTurnOf plan turned
is_turn plan turned own said =
    let fits = own.fits in
    let component : turned.key.component < 2 ^ 64 = omega (arith, fits.component) in
    record { key = record { numbers = record { tick = fits.tick; component = component; number = fits.number }; exists = own.exists }; outcome = said }

pub are_turns : (plan : Plan) (turns : List Turned) → AllByRecursion (IsOwnTurn (composition plan)) turns → AllByRecursion (IsSaid plan) turns → AllByRecursion (IsTurnOf plan) turns
are_turns plan [] own said = tt
are_turns plan (turned ∷ turns) own said = (is_turn plan turned own.0 said.0, are_turns plan turns own.1 said.1)

is_said : (plan : Plan) → SaysAll plan → (i : ℕ) (outcome : Outcome) → ((action : Named) → action_of outcome ≡ Some action → IsTaken (composition plan) i action) → IsOutcome plan outcome
is_said plan says i Idle taken = tt
is_said plan says i (Did action) taken = says i action (taken action refl)

-- where lines say what turns of components take, they say what those turns did
pub all_said : (plan : Plan) → SaysAll plan → (turns : List Turned) → AllByRecursion (IsOwnTurn (composition plan)) turns → AllByRecursion (IsSaid plan) turns
all_said plan says [] own = tt
all_said plan says (turned ∷ turns) own = (is_said plan says turned.key.component turned.outcome own.0.taken, all_said plan says turns own.1)
