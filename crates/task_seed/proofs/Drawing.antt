-- Three words drawn one after the other.
use Rattle.std.proofs.Common.{◌≡◌, ℕ, zero, suc, ◌+◌, ◌*◌, ◌%◌, refl, ap, ◌∙◌, arith}
use Rattle.rand_core.specs.Stream.{Stream, next_u32}
use Rattle.rand_core.specs.Steps.{stream_of, steps_u32}
use Rattle.rand_core.proofs.StepsLemmas.{next_u32-stream_of}
use Rattle.rand_pcg.specs.Lcg.{Lcg, advance, next, next_state, state_after}
use Rattle.rand_pcg.specs.Pcg.{multiplier_64, pcg32, output_xsh_rr}
use Rattle.task_seed.specs.Walks.{IsAfter, turn_after, word_after}

-- one step after n is n + 1 of them
state_after_more : (w m increment n state : ℕ) → next_state w m increment (state_after w m increment n state) ≡ state_after w m increment (suc n) state
unfolding state_after
state_after_more w m increment zero state = refl
state_after_more w m increment (suc n) state = state_after_more w m increment n (next_state w m increment state)

-- a generator's step after a jump
step_after : (n : ℕ) (g : Lcg) → next 64 multiplier_64 (advance 64 multiplier_64 n g) ≡ advance 64 multiplier_64 (n + 1) g
step_after n g =
    let one : n + 1 ≡ suc n = omega arith in
    rw one (ap (λ (state : ℕ). record g { state = state }) (state_after_more 64 multiplier_64 g.increment n g.state))

-- what one draw gives, and the stream that it leaves
pub drawn : (n : ℕ) (g : Lcg) (word : ℕ) (left : Stream)
    → (word, left) ≡ next_u32 (stream_of (steps_u32 pcg32) (advance 64 multiplier_64 n g))
    → (word ≡ output_xsh_rr (advance 64 multiplier_64 n g).state)
    × (left ≡ stream_of (steps_u32 pcg32) (advance 64 multiplier_64 (n + 1) g))
drawn n g word left e =
    let pair = e ∙ next_u32-stream_of (steps_u32 pcg32) (advance 64 multiplier_64 n g) in (
      ap (λ (p : ℕ × Stream). p.0) pair,
      ap (λ (p : ℕ × Stream). p.1) pair ∙ ap (stream_of (steps_u32 pcg32)) (step_after n g),
    )

-- a turn by three draws, and what is left after them
pub turn_drawn : (least gap n x y z : ℕ) (start there after_one after_two after_three : Lcg)
    → IsAfter start (3 * n) there
    → (x, stream_of (steps_u32 pcg32) after_one) ≡ next_u32 (stream_of (steps_u32 pcg32) there)
    → (y, stream_of (steps_u32 pcg32) after_two) ≡ next_u32 (stream_of (steps_u32 pcg32) after_one)
    → (z, stream_of (steps_u32 pcg32) after_three) ≡ next_u32 (stream_of (steps_u32 pcg32) after_two)
    → (record { gap = least + x % gap; task = y; choice = z } ≡ turn_after start least gap n)
    × IsAfter start (3 * (n + 1)) after_three
turn_drawn least gap n x y z start there after_one after_two after_three stands first_draw second_draw third_draw =
    let draws = steps_u32 pcg32 in
    let one = drawn (3 * n) start x (stream_of draws after_one) (first_draw ∙ ap next_u32 stands) in
    let two = drawn (3 * n + 1) start y (stream_of draws after_two) (second_draw ∙ ap next_u32 one.1) in
    let three = drawn (3 * n + 1 + 1) start z (stream_of draws after_three) (third_draw ∙ ap next_u32 two.1) in
    let third_place : 3 * n + 1 + 1 ≡ 3 * n + 2 = omega arith in
    let last_place : 3 * n + 1 + 1 + 1 ≡ 3 * (n + 1) = omega arith in
    let third : z ≡ word_after start (3 * n + 2) = three.0 ∙ ap (word_after start) third_place in
    (rw (one.0, two.0, third) refl, three.1 ∙ ap (λ (k : ℕ). stream_of draws (advance 64 multiplier_64 k start)) last_place)
