-- The definition of words, at the first words that PCG's reference code prints for seed 42 and stream 54.
use Rattle.std.specs.Prelude.{◌≡◌, None, Some, option_map, refl}
use Rattle.task_seed.specs.declared.turns.Turn.{Turn}
use Rattle.rand_pcg.specs.Lcg.{state_after}
use Rattle.task_seed.specs.Drawn.{word, drawn_turn}

first_word : word 42 54 0 ≡ 0xa15c02b7
unfolding state_after
first_word = refl

second_word : word 42 54 1 ≡ 0x7b47f409
unfolding state_after
second_word = refl

third_word : word 42 54 2 ≡ 0xba1d3330
unfolding state_after
third_word = refl

fourth_word : word 42 54 3 ≡ 0x83d2f293
unfolding state_after
fourth_word = refl

-- gaps of 1 to 4 ticks: 0xa15c02b7 is 3 modulo 4
first_turn : drawn_turn 42 54 1 4 0 0 ≡ Some (record { gap = 4; task = 0x7b47f409; choice = 0xba1d3330 })
unfolding state_after
first_turn = refl

-- component 1 of the first stream 53 has the stream 54
first_turn_of_next : drawn_turn 42 53 1 4 1 0 ≡ Some (record { gap = 4; task = 0x7b47f409; choice = 0xba1d3330 })
unfolding state_after
first_turn_of_next = refl

-- the next turn begins with the fourth word, which is 3 modulo 4
second_gap : option_map (λ (turn : Turn). turn.gap) (drawn_turn 42 54 1 4 0 1) ≡ Some 4
unfolding state_after
second_gap = refl

-- 2,707,161,783 is 783 modulo 1,000
longer_gap : option_map (λ (turn : Turn). turn.gap) (drawn_turn 42 54 1 1000 0 0) ≡ Some 784
unfolding state_after
longer_gap = refl

-- the same from 0 on
longer_gap_from_zero : option_map (λ (turn : Turn). turn.gap) (drawn_turn 42 54 0 1000 0 0) ≡ Some 783
unfolding state_after
longer_gap_from_zero = refl

-- the stream after the last one is the first one
streams_wrap : drawn_turn 42 18446744073709551615 1 4 55 0 ≡ drawn_turn 42 54 1 4 0 0
unfolding state_after
streams_wrap = refl

-- a component has 2^32 turns
no_turn_left : drawn_turn 42 54 1 4 0 4294967296 ≡ None
no_turn_left = refl
