-- Numbers that stand for options.
use Rattle.std.proofs.Common.{◌≡◌, ◌∙◌, ℕ, ◌≤◌, ◌<◌, ◌^◌, List, Option, Some, None, Ok, Err, arith, sym, subst, refl}
use Rattle.std.specs.Prelude.{Result}
use Rattle.std.specs.Str.Parse.{ParsesUnsigned}
use Rattle.clap.specs.Matches.{ReadsOne}
use Rattle.clap.specs.Words.{Row, Text, first_of, one_of}
use Rattle.command_line.specs.Rules.{IsChosen, IsNumber}

module _ (E : Type 0) (gives : List ℕ → Result ℕ E → Type 0) (parses : (t : List ℕ) (r : Result ℕ E) → gives t r → ParsesUnsigned 64 10 t r)
    (rows : List Row) (option : Text) (least most : ℕ) (read : Option ℕ)
    (none : one_of option rows ≡ None → read ≡ None) (value : (t : List ℕ) → one_of option rows ≡ Some t → ReadsOne gives t read) where
  pub some_number : (n : ℕ) → read ≡ Some n → least ≤ n → n ≤ most → IsNumber rows option least most n
  some_number n is above below = go (one_of option rows) refl where
    go : (found : Option Text) → one_of option rows ≡ found → IsNumber rows option least most n
    go None h =
        let bad : ◌≡◌ {A = Option ℕ} None (Some n) = sym (none h) ∙ is in
        cc
    go (Some t) h =
        let parsed = parses t (Ok n) (subst (ReadsOne gives t) is (value t h)) in
        record { text = t; given = h; numeral = parsed.0.0; value = parsed.1; above = above; below = below }

  pub no_number : read ≡ None → most < 2 ^ 64 → (n : ℕ) → IsNumber rows option least most n → ⊥
  no_number is small n number =
      let found = subst (ReadsOne gives number.text) is (value number.text number.given) in
      let value_is = number.value in
      let below = number.below in
      parses number.text (Err found.0) found.1 (number.numeral, omega (arith, value_is, below, small))

  pub other_number : (m : ℕ) → read ≡ Some m → ((least ≤ m) × (m ≤ most) → ⊥) → (n : ℕ) → IsNumber rows option least most n → ⊥
  other_number m is out n number =
      let parsed = parses number.text (Ok m) (subst (ReadsOne gives number.text) is (value number.text number.given)) in
      let same : n ≡ m = number.value ∙ sym parsed.1 in
      out (subst (λ (k : ℕ). least ≤ k) same number.above, subst (λ (k : ℕ). k ≤ most) same number.below)

-- nothing was chosen where a text was entered that is no number in the range
pub not_chosen : (rows : List Row) (option : Text) (least most : ℕ) (text : Text) → first_of option rows ≡ Some text → ((n : ℕ) → IsNumber rows option least most n → ⊥) → (chosen : Option ℕ) → IsChosen rows option least most chosen → ⊥
not_chosen rows option least most text entered none None absent =
    let bad : ◌≡◌ {A = Option Text} None (Some text) = sym absent ∙ entered in
    cc
not_chosen rows option least most text entered none (Some n) is = none n is
