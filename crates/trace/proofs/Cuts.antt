-- Texts that are cut at their first byte of a kind.
use Rattle.std.proofs.Common.{◌≡◌, ◌≢◌, ℕ, suc, ◌<◌, List, [], ◌∷◌, ◌++◌, length, get_or, refl, ap, sym, arith}

-- no byte of the text is this one
abbrev pub Lacks : ℕ → List ℕ → Type 0
Lacks c text = (k : ℕ) → k < length text → get_or text k 0 ≢ c

lacks_later : (c b : ℕ) (bs : List ℕ) → Lacks c (b ∷ bs) → Lacks c bs
lacks_later c b bs free k low = free (suc k) (omega arith)

abbrev pub first_of : List ℕ → ℕ
first_of [] = 0
first_of (b ∷ bs) = b

abbrev pub rest_of : List ℕ → List ℕ
rest_of [] = []
rest_of (b ∷ bs) = bs

-- a text that lacks the byte isn't cut at it
pub no_cut : (c : ℕ) (text before after : List ℕ) → Lacks c text → text ≡ before ++ (c ∷ after) → ⊥
no_cut c [] [] after free e = absurd (omega (arith, ap length e))
no_cut c [] (x ∷ before) after free e = absurd (omega (arith, ap length e))
no_cut c (b ∷ bs) [] after free e = free 0 (omega arith) (ap first_of e)
no_cut c (b ∷ bs) (x ∷ before) after free e = no_cut c bs before after (lacks_later c b bs free) (ap rest_of e)

-- a text is cut in one way
pub same_cut : (c : ℕ) (first other rest later : List ℕ) → Lacks c first → Lacks c other → first ++ (c ∷ rest) ≡ other ++ (c ∷ later) → (first ≡ other) × (rest ≡ later)
same_cut c [] [] rest later free lacks e = (refl, ap rest_of e)
same_cut c [] (y ∷ other) rest later free lacks e = absurd (lacks 0 (omega arith) (sym (ap first_of e)))
same_cut c (x ∷ first) [] rest later free lacks e = absurd (free 0 (omega arith) (ap first_of e))
same_cut c (x ∷ first) (y ∷ other) rest later free lacks e =
    let more = same_cut c first other rest later (lacks_later c x first free) (lacks_later c y other lacks) (ap rest_of e) in
    ((λ i. ap first_of e i ∷ more.0 i), more.1)
