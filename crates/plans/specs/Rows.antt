-- What a test keeps of a list, one item more at a time.
use Rattle.std.specs.Prelude.{◌≡◌, ℕ, ◌+◌, ◌<◌, Bool, cond, List, [], ◌∷◌, ◌++◌, filter, get_or, length, take}
use Rattle.std.proofs.lemmas.List.Elements.{filter_more}

pub filter_next : (test : ℕ → Bool) (numbers : List ℕ) (i d : ℕ) → i < length numbers → filter test (take (i + 1) numbers) ≡ filter test (take i numbers) ++ cond (test (get_or numbers i d)) (get_or numbers i d ∷ []) []
filter_next test numbers i d below = filter_more test numbers i d below
