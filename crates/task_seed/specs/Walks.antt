-- Walks, off which drawn turns are read one after another.
use Rattle.std.specs.Prelude.{◌≡◌, ℕ, ◌+◌, ◌*◌, ◌%◌}
use Rattle.rand_core.specs.Steps.{stream_of, steps_u32}
use Rattle.rand_pcg.specs.Lcg.{Lcg, advance, started, increment_of}
use Rattle.rand_pcg.specs.Pcg.{multiplier_64, pcg32, output_xsh_rr}
use Rattle.task_seed.specs.declared.turns.Turn.{Turn}

-- the generator with this seed and this stream, before its first word
abbrev pub start_of : ℕ → ℕ → Lcg
start_of seed stream = started 64 multiplier_64 seed (increment_of 64 stream)

-- the generator gives what this one gives after so many words
abbrev pub IsAfter : Lcg → ℕ → Lcg → Type 0
IsAfter start k words = stream_of (steps_u32 pcg32) words ≡ stream_of (steps_u32 pcg32) (advance 64 multiplier_64 k start)

-- the generator stands before the first word of turn n, each of which has three
abbrev pub StandsBefore : ℕ → ℕ → ℕ → Lcg → Type 0
StandsBefore seed stream n words = IsAfter (start_of seed stream) (3 * n) words

-- the word that a generator gives after so many
abbrev pub word_after : Lcg → ℕ → ℕ
word_after start k = output_xsh_rr (advance 64 multiplier_64 k start).state

-- turn n of a generator's words, with a gap of so many from the least one on
abbrev pub turn_after : Lcg → ℕ → ℕ → ℕ → Turn
turn_after start least gap n = record {
  gap = least + word_after start (3 * n) % gap;
  task = word_after start (3 * n + 1);
  choice = word_after start (3 * n + 2);
}

-- a walk: the seed and the stream of a generator, and the number of the turn before which it stands
pub record WalkView : Type 0 where
  pub seed : ℕ
  pub stream : ℕ
  pub number : ℕ
