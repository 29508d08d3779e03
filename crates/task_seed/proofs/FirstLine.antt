-- The first line of a text.
use Rattle.std.proofs.Common.{◌≡◌, ◌≢◌, ℕ, zero, suc, ◌<◌, get_or, length, take, drop, List, [], ◌∷◌, refl, ap, arith}
use Rattle.std.specs.List.{onto_first}
use Rattle.std.proofs.lemmas.Grind.{common_steps}
use Rattle.task_seed.specs.Table.{lines_of}

-- a byte that is no line feed is put before what follows
lines-cons : (b : ℕ) (bs : List ℕ) → b ≢ 10 → lines_of (b ∷ bs) ≡ onto_first b (lines_of bs)
lines-cons b bs h = grind (arith, common_steps)

pub lines-at : (bs : List ℕ) (n : ℕ) → n < length bs → get_or bs n 0 ≡ 10 → ((k : ℕ) → k < n → get_or bs k 0 ≢ 10) → lines_of bs ≡ take n bs ∷ lines_of (drop (suc n) bs)
lines-at [] n inside here before = absurd (omega arith)
lines-at (b ∷ bs) zero inside here before = rw here refl
lines-at (b ∷ bs) (suc n) inside here before =
    rw (lines-cons b bs (before 0 (omega arith))) (ap (onto_first b) (lines-at bs n (omega arith) here (λ k h. before (suc k) (omega arith))))

pub lines-last : (b : ℕ) (bs : List ℕ) → ((k : ℕ) → k < length (b ∷ bs) → get_or (b ∷ bs) k 0 ≢ 10) → lines_of (b ∷ bs) ≡ (b ∷ bs) ∷ []
lines-last b [] h = lines-cons b [] (h 0 (omega arith))
lines-last b (c ∷ bs) h =
    rw (lines-cons b (c ∷ bs) (h 0 (omega arith))) (ap (onto_first b) (lines-last c bs (λ k i. h (suc k) (omega arith))))

pub lines-whole : (bs : List ℕ) → 0 < length bs → ((k : ℕ) → k < length bs → get_or bs k 0 ≢ 10) → lines_of bs ≡ bs ∷ []
lines-whole [] h all = absurd (omega arith)
lines-whole (b ∷ bs) h all = lines-last b bs all
