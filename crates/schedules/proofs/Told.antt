-- Turns of the code that a list of the theory's turns tells: there are some, and one list of them alone.
use Rattle.std.proofs.Common.{◌≡◌, ℕ, zero, suc, ◌/◌, ◌%◌, ◌^◌, ◌<◌, ◌≤◌, Option, None, Some, List, [], ◌∷◌, ◌++◌, map, reverse, refl, ap, sym, subst, ◌∙◌, arith}
use Rattle.std.specs.List.{AllByRecursion}
use Rattle.std.proofs.lemmas.List.{map-append, reverse-append, reverse-reverse}
use Rattle.terms.specs.Named.{Named}
use Rattle.event_keys.specs.declared.key.Key.{Key}
use Rattle.event_keys.specs.declared.outcome.Outcome.{Outcome}
use Rattle.event_keys.specs.declared.outcome.Outcome.TheVariants.{Idle, Did}
use Rattle.event_keys.specs.declared.outcome.Turned.{Turned}
use Rattle.event_keys.specs.Entries.{action_of}
use Rattle.event_keys.specs.Ranks.{rank}
use Rattle.virtual_time.specs.Machine.{Machine}
use Rattle.virtual_time.specs.Reference.{Turn, AllBelow, add_turn, after, next_turn, reference_below}
use Rattle.task_seed.specs.Machines.{end_rank}
use Rattle.task_seed.specs.Taken.{outcome_of, turn_of, turns_of}
use Rattle.schedules.specs.Schedules.{KeyFits, KeysFit}

end_is : end_rank ≡ 2 ^ 144
unfolding end_rank
end_is = refl

-- what holds of each item of lists that are put together, or turned round
all_joined : {X : Type 0} (P : X → Type 0) (xs ys : List X) → AllByRecursion P xs → AllByRecursion P ys → AllByRecursion P (xs ++ ys)
all_joined P [] ys first last = last
all_joined P (x ∷ xs) ys first last = (first.0, all_joined P xs ys first.1 last)

pub all_reversed : {X : Type 0} (P : X → Type 0) (xs : List X) → AllByRecursion P xs → AllByRecursion P (reverse xs)
all_reversed P [] all = tt
all_reversed P (x ∷ xs) all = subst (AllByRecursion P) (sym (reverse-append (x ∷ []) xs)) (all_joined P (reverse xs) (x ∷ []) (all_reversed P xs all.1) (all.0, tt))

pub fit_joined : (turns later : List Turned) → KeysFit turns → KeysFit later → KeysFit (turns ++ later)
fit_joined = all_joined (λ turned. KeyFits turned.key)

-- the key of a rank
abbrev key_of_rank : ℕ → Key
key_of_rank r = record { tick = r / 2 ^ 64 / 2 ^ 16; component = (r / 2 ^ 64) % 2 ^ 16; number = r % 2 ^ 64 }

rank_again : (r : ℕ) → rank (key_of_rank r) ≡ r
rank_again r = omega arith

rank_fits : (r : ℕ) → r < end_rank → KeyFits (key_of_rank r)
rank_fits r low = record { tick = omega (arith, low, end_is); component = omega arith; number = omega arith }

action_again : (o : Option Named) → action_of (outcome_of o) ≡ o
action_again None = refl
action_again (Some action) = refl

-- the turn of the code that a turn of the theory is
abbrev turned_of : Turn Named → Turned
turned_of turn = record { key = key_of_rank turn.key; outcome = outcome_of turn.outcome }

turns_again : (turns : List (Turn Named)) → map turn_of (map turned_of turns) ≡ turns
turns_again [] = refl
turns_again (turn ∷ turns) = λ i. record { key = rank_again turn.key i; outcome = action_again turn.outcome i } ∷ turns_again turns i

turns_fit : (turns : List (Turn Named)) → AllBelow end_rank turns → KeysFit (map turned_of turns)
turns_fit [] low = tt
turns_fit (turn ∷ turns) low = (rank_fits turn.key low.0, turns_fit turns low.1)

map_reverse : {A B : Type 0} (f : A → B) (xs : List A) → map f (reverse xs) ≡ reverse (map f xs)
map_reverse f [] = refl
map_reverse f (x ∷ xs) = ap (map f) (reverse-append (x ∷ []) xs) ∙ map-append f (reverse xs) (x ∷ []) ∙ ap (λ l. l ++ f x ∷ []) (map_reverse f xs) ∙ sym (reverse-append (f x ∷ []) (map f xs))

-- turns of the newest first, turned round
pub newest_first : (newest : List Turned) → turns_of (reverse newest) ≡ map turn_of newest
newest_first newest = ap reverse (map_reverse turn_of newest) ∙ reverse-reverse (map turn_of newest)

-- turns one after the other
pub turns_joined : (turns later : List Turned) → turns_of (turns ++ later) ≡ turns_of later ++ turns_of turns
turns_joined turns later = ap reverse (map-append turn_of turns later) ∙ reverse-append (map turn_of turns) (map turn_of later)

below_added : {A : Type 0} (e c : ℕ) (o : Option (Option A)) (ts : List (Turn A)) → c < e → AllBelow e ts → AllBelow e (add_turn c o ts)
below_added e c None ts low all = all
below_added e c (Some o) ts low all = (low, all)

below_end : {S A : Type 0} (m : Machine S A) (e b : ℕ) → b ≤ e → AllBelow e (reference_below m b)
below_end m e zero low = tt
below_end m e (suc c) low =
    below_added e c (next_turn m c (after m (reference_below m c))) (reference_below m c) (omega (arith, low)) (below_end m e c (omega (arith, low)))

below_front : {A : Type 0} (e : ℕ) (xs ys : List (Turn A)) → AllBelow e (xs ++ ys) → AllBelow e xs
below_front e [] ys all = tt
below_front e (x ∷ xs) ys all = (all.0, below_front e xs ys all.1)

-- after these turns others come, and together they are those of the list
pub record AreFollowed (turns : List Turned) (all : List (Turn Named)) : Type 0 where
  pub later : List Turned
  pub are : turns_of (turns ++ later) ≡ all
  pub keys : KeysFit (turns ++ later)

-- turns with which all turns of a simulator begin are followed by others
pub followed : {S : Type 0} (m : Machine S Named) (turns : List Turned) (extra : List (Turn Named)) → reference_below m end_rank ≡ extra ++ turns_of turns → KeysFit turns
    → AreFollowed turns (reference_below m end_rank)
followed m turns extra are fit =
    let newest : List Turned = map turned_of extra in
    let low : AllBelow end_rank extra = below_front end_rank extra (turns_of turns) (subst (AllBelow end_rank) are (below_end m end_rank end_rank (omega arith))) in
    record {
      later = reverse newest;
      are = turns_joined turns (reverse newest) ∙ ap (λ l. l ++ turns_of turns) (newest_first newest ∙ turns_again extra) ∙ sym are;
      keys = fit_joined turns (reverse newest) fit (all_reversed (λ turned. KeyFits turned.key) newest (turns_fit extra low));
    }

-- keys of one rank are one key, where they fit
key_told : (a b : Key) → KeyFits a → KeyFits b → rank a ≡ rank b → a ≡ b
key_told a b p q same =
    let tick : a.tick ≡ b.tick = omega (arith, same, p.tick, p.component, p.number, q.tick, q.component, q.number) in
    let component : a.component ≡ b.component = omega (arith, same, tick, p.component, p.number, q.component, q.number) in
    let number : a.number ≡ b.number = omega (arith, same, tick, component) in
    λ i. record { tick = tick i; component = component i; number = number i }

outcome_told : (a b : Outcome) → action_of a ≡ action_of b → a ≡ b
outcome_told a b same = again a ∙ ap outcome_of same ∙ sym (again b) where
  again : (o : Outcome) → o ≡ outcome_of (action_of o)
  again Idle = refl
  again (Did action) = refl

newest_told : (turns others : List Turned) → KeysFit turns → KeysFit others → map turn_of turns ≡ map turn_of others → turns ≡ others
newest_told [] [] p q same = refl
newest_told [] (other ∷ others) p q same = cc
newest_told (turned ∷ turns) [] p q same = cc
newest_told (turned ∷ turns) (other ∷ others) p q same =
    let one : turn_of turned ≡ turn_of other = cc in
    let rest : map turn_of turns ≡ map turn_of others = cc in
    let key = key_told turned.key other.key p.0 q.0 (ap (λ t. t.key) one) in
    let outcome = outcome_told turned.outcome other.outcome (ap (λ t. t.outcome) one) in
    λ i. record { key = key i; outcome = outcome i } ∷ newest_told turns others p.1 q.1 rest i

-- turns with one list of the theory are one list, where their keys fit
pub told : (turns others : List Turned) → KeysFit turns → KeysFit others → turns_of turns ≡ turns_of others → turns ≡ others
told turns others p q same =
    newest_told turns others p q (sym (reverse-reverse (map turn_of turns)) ∙ ap reverse same ∙ reverse-reverse (map turn_of others))
