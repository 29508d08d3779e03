-- Texts that are put in front of a place, one after another.
use Rattle.std.proofs.Common.{ℕ, List, [], ◌∷◌, ◌++◌, drop, append_assoc, length-append, sym, ap, ◌∙◌, arith}
use Rattle.trace.specs.Fronts.{IsBefore}

-- one text, and another before it
pub then_before : {a b c : List ℕ} {e m n : ℕ} {s t : List ℕ} → IsBefore a b e t m → IsBefore b c m s n → IsBefore a c e (s ++ t) n
then_before {a} {b} {c} {e} {m} {n} {s} {t} p q =
    let long = length-append s t in
    let first = p.place in
    let then = q.place in
    record { place = omega (arith, long, first, then); written = q.written ∙ ap (λ l. s ++ l) p.written ∙ sym (append_assoc s t (drop e a)) }

-- the same with one byte, which the text shows in front
pub then_byte_before : {a b c : List ℕ} {e m n x : ℕ} {t : List ℕ} → IsBefore a b e t m → IsBefore b c m (x ∷ []) n → IsBefore a c e (x ∷ t) n
then_byte_before p q = then_before p q

pub ruleset before = (then_before, then_byte_before)
