-- The tuples of arguments that an entry stands for: how many there are, and which stands where.
use Rattle.std.specs.Prelude.{◌≡◌, ℕ, zero, suc, ◌+◌, ◌-◌, ◌*◌, ◌/◌, ◌%◌, ◌<◌, ◌≤◌, nat_lt, Bool as Truth, true, false, List, [], ◌∷◌, ◌++◌, map, length, get_or, refl}
use Rattle.std.specs.List.{flat_map}
use Rattle.std.proofs.Common.{arith, ap, sym, ◌∙◌, suc-mul, zero-mul, mul-zero, zero-add, subst, append_assoc, take, set}
use Rattle.std.proofs.Math.Nat.{mul_comm, mul-div_cancel_left, mod-eq_of_lt, div-eq_of_lt, add-mod_right, add-div_right}
use Rattle.std.proofs.lemmas.Bool.{ltb-true, ltb-false}
use Rattle.std.proofs.lemmas.List.{length-append, length-map, get_or_append_left, get_or-append_right, get_or-map, take_more_set}
use Rattle.std.proofs.lemmas.Nat.{div_below, mod_below}
use Rattle.terms.specs.Meaning.{slot}
use Rattle.terms.specs.Shapes.{count, member, members, members_from}
use Rattle.terms.specs.declared.scalar.Listed.{Listed}
use Rattle.terms.specs.declared.scalar.Scalar.{Scalar}
use Rattle.io_automata.specs.declared.automaton.Param.{Param}
use Rattle.io_automata.specs.declared.automaton.Param.TheVariants.{Const, Member, Between, Whole}
use Rattle.io_automata.specs.Outcomes.{tuples}
use Rattle.io_automata.specs.Tuples.{many, tuple_at}

rows_length : (rests : List (List Scalar)) (firsts : List Scalar) → length (flat_map (λ first. map (λ rest. first ∷ rest) rests) firsts) ≡ length firsts * length rests
rows_length rests [] = sym (zero-mul (length rests))
rows_length rests (first ∷ firsts) =
    let here = length-map rests (λ rest. first ∷ rest) in
    let later = rows_length rests firsts in
    let whole = length-append (map (λ rest. first ∷ rest) rests) (flat_map (λ first. map (λ rest. first ∷ rest) rests) firsts) in
    omega (arith, here, later, whole, suc-mul (length firsts) (length rests))

members_length : (listed : Listed) (from more : ℕ) → length (members_from listed from more) ≡ more
members_length listed from zero = refl
members_length listed from (suc more) = ap suc (members_length listed (suc from) more)

member_there : (listed : Listed) (from more k : ℕ) (d : Scalar) → k < more → get_or (members_from listed from more) k d ≡ member listed (from + k)
member_there listed from zero k d below = absurd (omega (arith, below))
member_there listed from (suc more) zero d below = let same : from ≡ from + 0 = omega arith in ap (member listed) same
member_there listed from (suc more) (suc k) d below =
    let same : suc from + k ≡ from + suc k = omega arith in
    member_there listed (suc from) more k d (omega (arith, below)) ∙ ap (member listed) same

-- the number of tuples
pub tuples_length : (formals : List Scalar) (params : List Param) → length (tuples formals params) ≡ many params
tuples_length formals [] = refl
tuples_length formals (Const n ∷ params) = length-map (tuples formals params) (λ rest. slot formals n ∷ rest) ∙ tuples_length formals params
tuples_length formals (Member listed ∷ params) =
    rows_length (tuples formals params) (members listed)
    ∙ (λ i. members_length listed 0 (count listed) i * tuples_length formals params i)
tuples_length formals (Between low high ∷ params) = refl
tuples_length formals (Whole ∷ params) = refl

pub positive : (n a k : ℕ) → k < a * n → 0 < n
positive zero a k below = let none = mul-zero a in absurd (omega (arith, below, none))
positive (suc n) a k below = omega arith

-- a place among rows of one length is a row and a place in it
row_there : (rests : List (List Scalar)) (n : ℕ) → length rests ≡ n → (firsts : List Scalar) (k : ℕ) (d e : List Scalar) (f : Scalar) → k < length firsts * n → get_or (flat_map (λ first. map (λ rest. first ∷ rest) rests) firsts) k d ≡ get_or firsts (k / n) f ∷ get_or rests (k % n) e
row_there rests n long [] k d e f below = let none = zero-mul n in absurd (omega (arith, below, none))
row_there rests n long (first ∷ firsts) k d e f below = go (λ j. row_there rests n long firsts j d e f) (nat_lt k n) refl where
  rows : List (List Scalar)
  rows = flat_map (λ first. map (λ rest. first ∷ rest) rests) firsts

  long_row : length (map (λ rest. first ∷ rest) rests) ≡ n
  long_row = length-map rests (λ rest. first ∷ rest) ∙ long

  here : k < n → get_or (map (λ rest. first ∷ rest) rests ++ rows) k d ≡ get_or (first ∷ firsts) (k / n) f ∷ get_or rests (k % n) e
  here less =
      let within : k < length rests = omega (arith, less, long) in
      let in_row : k < length (map (λ rest. first ∷ rest) rests) = omega (arith, less, long_row) in
      let quotient : k / n ≡ 0 = div-eq_of_lt less in
      let remainder : k % n ≡ k = mod-eq_of_lt less in
      get_or_append_left (map (λ rest. first ∷ rest) rests) rows d k in_row
      ∙ get_or-map (λ rest. first ∷ rest) rests k e d within
      ∙ (λ i. get_or (first ∷ firsts) (sym quotient i) f ∷ get_or rests (sym remainder i) e)

  later : ((j : ℕ) → j < length firsts * n → get_or rows j d ≡ get_or firsts (j / n) f ∷ get_or rests (j % n) e) → n ≤ k → get_or (map (λ rest. first ∷ rest) rests ++ rows) k d ≡ get_or (first ∷ firsts) (k / n) f ∷ get_or rests (k % n) e
  later next past =
      let more = suc-mul (length firsts) n in
      let rest : k - n < length firsts * n = omega (arith, below, more, past) in
      let some : 0 < n = positive n (length firsts) (k - n) rest in
      let back : k - n + n ≡ k = omega (arith, past) in
      let quotient : k / n ≡ suc ((k - n) / n) = ap (λ (m : ℕ). m / n) (sym back) ∙ add-div_right (k - n) some ∙ (omega arith) in
      let remainder : k % n ≡ (k - n) % n = ap (λ (m : ℕ). m % n) (sym back) ∙ add-mod_right (k - n) n in
      get_or-append_right (map (λ rest. first ∷ rest) rests) rows n k d long_row past
      ∙ next (k - n) rest
      ∙ (λ i. get_or (first ∷ firsts) (sym quotient i) f ∷ get_or rests (sym remainder i) e)

  go : ((j : ℕ) → j < length firsts * n → get_or rows j d ≡ get_or firsts (j / n) f ∷ get_or rests (j % n) e) → (b : Truth) → nat_lt k n ≡ b → get_or (map (λ rest. first ∷ rest) rests ++ rows) k d ≡ get_or (first ∷ firsts) (k / n) f ∷ get_or rests (k % n) e
  go next true is = here (ltb-true k n is)
  go next false is = later next (ltb-false k n is)

-- the tuple at a place
pub tuple_there : (formals : List Scalar) (params : List Param) (k : ℕ) (d : List Scalar) → k < many params → get_or (tuples formals params) k d ≡ tuple_at formals params k
tuple_there formals [] zero d below = refl
tuple_there formals [] (suc k) d below = absurd (omega (arith, below))
tuple_there formals (Const n ∷ params) k d below =
    let within : k < length (tuples formals params) = omega (arith, below, tuples_length formals params) in
    get_or-map (λ rest. slot formals n ∷ rest) (tuples formals params) k d d within
    ∙ ap (λ rest. slot formals n ∷ rest) (tuple_there formals params k d below)
tuple_there formals (Member listed ∷ params) k d below =
    let long = tuples_length formals params in
    let all = members_length listed 0 (count listed) in
    let within : k < length (members listed) * many params = subst (λ (n : ℕ). k < n * many params) (sym all) below in
    let some : 0 < many params = positive (many params) (count listed) k below in
    let first : k / many params < count listed = div_below k (many params) (count listed) some below in
    let rest : k % many params < many params = mod_below k (many params) some in
    row_there (tuples formals params) (many params) long (members listed) k d d (member listed 0) within
    ∙ (λ i. member_there listed 0 (count listed) (k / many params) (member listed 0) first i ∷ tuple_there formals params (k % many params) d rest i)
    ∙ ap (λ (j : ℕ). member listed j ∷ tuple_at formals params (k % many params)) (zero-add (k / many params))
tuple_there formals (Between low high ∷ params) k d below = absurd (omega (arith, below))
tuple_there formals (Whole ∷ params) k d below = absurd (omega (arith, below))

-- one argument more, of a listed parameter
pub put_member : (formals : List Scalar) (listed : Listed) (params all : List Param) (args new : List Scalar) (first total at rest : ℕ) (value : Scalar) → all ≡ Member listed ∷ params → total ≡ many all → at < total → first < length args → rest ≡ total / count listed → value ≡ member listed (at / rest) → new ≡ take (first + 1) (set args first value) ++ tuple_at formals params (at % rest) → new ≡ take first args ++ tuple_at formals all at
put_member formals listed params all args new first total at rest value all_is total_is below within rest_is value_is new_is =
    let whole : total ≡ count listed * many params = total_is ∙ ap many all_is in
    let turned : at < many params * count listed = subst (λ (n : ℕ). at < n) (whole ∙ mul_comm (count listed) (many params)) below in
    let some : 0 < count listed = positive (count listed) (many params) at turned in
    let many_is : rest ≡ many params = rest_is ∙ ap (λ (n : ℕ). n / count listed) whole ∙ mul-div_cancel_left (many params) some in
    new_is
    ∙ ap (λ xs. xs ++ tuple_at formals params (at % rest)) (take_more_set args first value within)
    ∙ append_assoc (take first args) (value ∷ []) (tuple_at formals params (at % rest))
    ∙ ap (λ v. take first args ++ v ∷ tuple_at formals params (at % rest)) value_is
    ∙ ap (λ (n : ℕ). take first args ++ member listed (at / n) ∷ tuple_at formals params (at % n)) many_is
    ∙ ap (λ ps. take first args ++ tuple_at formals ps at) (sym all_is)
