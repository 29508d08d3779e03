-- The laws of the turns that are drawn from a generator.
use Rattle.std.specs.Prelude.{◌≡◌, ℕ, ◌+◌, ◌%◌, ◌≤◌, nat_lt, if◌then◌else◌, Bool, true, false, None, Some}
use Rattle.std.proofs.Common.{subst, arith}
use Rattle.std.proofs.Math.Nat.{mod-lt}
use Rattle.std.proofs.lemmas.Bool.Decides.{nat_tests}
use Rattle.task_seed.specs.declared.turns.Turn.{Turn}
use Rattle.task_seed.specs.declared.seed_turns.SeedTurns.{SeedTurns}
use Rattle.task_seed.specs.contracts.seed_turns.SeedTurnsPartialEq.TheImpl as seed_eq
use Rattle.task_seed.specs.Drawn.{seed_turn, turn_of_words, stream_of_component}
use Rattle.task_seed.specs.Turning.{most_turns}

-- what is there is what was put there
kept : (b : Bool) (x y : Turn) → (if b then Some x else None) ≡ Some y → x ≡ y
kept true x y e = cc
kept false x y e = cc

-- a remainder, or one more, is no greater than what it was divided by
gap_of_word : (word least gap : ℕ) → (1 ≤ gap) × (gap ≤ 65535) → least ≤ 1 → least + word % gap ≤ 65535
gap_of_word word least gap range few =
    let positive = range.0 in
    let greatest = range.1 in
    let below = mod-lt word positive in
    omega (arith, positive, greatest, below, few)

pub seed_gap_range : (t : SeedTurns) (i n : ℕ) (turn : Turn) → seed_turn t i n ≡ Some turn → turn.gap ≤ 65535
seed_gap_range t i n turn e =
    let same = kept (nat_lt n most_turns) (turn_of_words t.seed (stream_of_component t.stream i) t.least t.gap n) turn e in
    subst (λ (drawn : Turn). drawn.gap ≤ 65535) same (gap_of_word _ t.least t.gap t.in_range t.from)

pub seed_alike : (s t : SeedTurns) → seed_eq.ghosts.eq s t ≡ true → (i n : ℕ) → seed_turn s i n ≡ seed_turn t i n
seed_alike s t h i n =
    let seed : s.seed ≡ t.seed = grind (arith, nat_tests) in
    let stream : s.stream ≡ t.stream = grind (arith, nat_tests) in
    let least : s.least ≡ t.least = grind (arith, nat_tests) in
    let gap : s.gap ≡ t.gap = grind (arith, nat_tests) in
    cc

-- no number below the bound follows one that isn't
no_more : (n : ℕ) (x y : Turn) → (if nat_lt n most_turns then Some x else None) ≡ None → (if nat_lt (n + 1) most_turns then Some y else None) ≡ None
no_more n x y h = grind (arith, nat_tests)

pub seed_ended : (t : SeedTurns) (i n : ℕ) → seed_turn t i n ≡ None → seed_turn t i (n + 1) ≡ None
seed_ended t i n h =
    let stream = stream_of_component t.stream i in
    no_more n (turn_of_words t.seed stream t.least t.gap n) (turn_of_words t.seed stream t.least t.gap (n + 1)) h
