-- How many turns there are.
use Rattle.std.proofs.Common.{◌≡◌, ℕ, zero, suc, ◌+◌, ◌*◌, ◌<◌, ◌≤◌, ◌^◌, ◌⊎◌, inl, inr, Bool, true, false, ◌&&◌, List, [], ◌∷◌, map, length, refl, ◌∙◌, arith}
use Rattle.std.specs.Prelude.{if◌then◌else◌, nat_lt}
use Rattle.std.proofs.lemmas.Bool.{cases_lt}
use Rattle.std.proofs.lemmas.List.{length-map}
use Rattle.raw_events.specs.Onto.{onto}
use Rattle.event_keys.specs.declared.outcome.Turned.{Turned}
use Rattle.event_keys.specs.Ranks.{rank}
use Rattle.virtual_time.specs.Reference.{Point, point, reference_below, turns_of as turns_in}
use Rattle.task_seed.specs.Machines.{machine, end_rank, turn_rank}
use Rattle.task_seed.specs.Taken.{turn_of, turns_of}
use Rattle.task_seed.specs.Ticks.{has_parts}
use Rattle.task_seed.specs.Turning.{System, has_turns, key_at, ticks}

length_onto : {X : Type 0} (xs ys : List X) → length (onto xs ys) ≡ length xs + length ys
length_onto [] ys = omega arith
length_onto (x ∷ xs) ys = length_onto xs (x ∷ ys) ∙ omega arith

pub length_turns : (turns : List Turned) → length (turns_of turns) ≡ length turns
length_turns turns = length_onto (map turn_of turns) [] ∙ (let e = length-map turns turn_of in omega (arith, e))

-- no turn has so great a number
no_rank : (s : System) (i : ℕ) → turn_rank s i 4294967296 ≡ end_rank
no_rank s i = go (nat_lt i (length s.composition)) (has_turns s i (4294967296 + 1)) refl
  where
    go : (a b : Bool) → has_turns s i (4294967296 + 1) ≡ b → (if a && b then rank (key_at i 4294967296 (ticks s i (4294967296 + 1))) else end_rank) ≡ end_rank
    go a true h = let few = (has_parts s i (4294967296 + 1) h).few in absurd (omega (arith, few))
    go true false h = refl
    go false false h = refl

low_next : (s : System) (b i : ℕ) → b ≤ end_rank → ((n : ℕ) → n < (point (machine s) b).next i → turn_rank s i n < b) → (point (machine s) b).next i ≤ 4294967296
low_next s b i end before = go (cases_lt 4294967296 ((point (machine s) b).next i))
  where
    go : (4294967296 < (point (machine s) b).next i) ⊎ ((point (machine s) b).next i ≤ 4294967296) → (point (machine s) b).next i ≤ 4294967296
    go (inl more) = let low = before 4294967296 more in let last = no_rank s i in absurd (omega (arith, low, end, last))
    go (inr few) = few

few_in : {S : Type 0} (p : Point S) (n : ℕ) → ((j : ℕ) → p.next j ≤ 4294967296) → turns_in p n ≤ n * 4294967296
few_in p zero h = omega arith
few_in p (suc n) h = let one = h n in let rest = few_in p n h in omega (arith, one, rest)

-- all turns below a bound have a number that fits
pub few : (s : System) (b : ℕ) → b ≤ end_rank → length s.composition < 65536 → ((i n : ℕ) → n < (point (machine s) b).next i → turn_rank s i n < b)
    → length (reference_below (machine s) b) ≡ turns_in (point (machine s) b) (length s.composition) → length (reference_below (machine s) b) < 2 ^ 64
few s b end short before sum = let most = few_in (point (machine s) b) (length s.composition) (λ j. low_next s b j end (before j)) in omega (arith, sum, most, short)
