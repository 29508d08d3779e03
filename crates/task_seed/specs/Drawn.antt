-- The turns that are drawn from a generator.
use Rattle.std.specs.Prelude.{ℕ, ◌+◌, ◌*◌, ◌%◌, ◌^◌, nat_lt, Option, None, Some, if◌then◌else◌}
use Rattle.rand_pcg.specs.Lcg.{advance, started, increment_of}
use Rattle.rand_pcg.specs.Pcg.{multiplier_64, output_xsh_rr}
use Rattle.task_seed.specs.declared.turns.Turn.{Turn}
use Rattle.task_seed.specs.declared.seed_turns.SeedTurns.{SeedTurns}
use Rattle.task_seed.specs.Turning.{most_turns}

-- word k, counted from 0, of a stream of the generator with this seed
abbrev pub word : ℕ → ℕ → ℕ → ℕ
word seed stream k =
    output_xsh_rr (advance 64 multiplier_64 k (started 64 multiplier_64 seed (increment_of 64 stream))).state

-- the stream of component i, where this is the first one
abbrev pub stream_of_component : ℕ → ℕ → ℕ
stream_of_component first i = (first + i) % 2 ^ 64

-- turn n of a stream, by three words; its gap is one of so many, from the least one on
abbrev pub turn_of_words : ℕ → ℕ → ℕ → ℕ → ℕ → Turn
turn_of_words seed stream least gap n = record {
  gap = least + word seed stream (3 * n) % gap;
  task = word seed stream (3 * n + 1);
  choice = word seed stream (3 * n + 2);
}

-- turn n of component i: each component has as many turns as it may, drawn from a stream of its own
abbrev pub drawn_turn : ℕ → ℕ → ℕ → ℕ → ℕ → ℕ → Option Turn
drawn_turn seed first least gap i n =
    if nat_lt n most_turns then Some (turn_of_words seed (stream_of_component first i) least gap n) else None

-- turn n of component i
abbrev pub seed_turn : SeedTurns → ℕ → ℕ → Option Turn
seed_turn t i n = drawn_turn t.seed t.stream t.least t.gap i n
