-- One parameter more: the tuples of a node, by the value of the next parameter.
use Rattle.std.specs.Prelude.{◌≡◌, ℕ, cond, map, zero, suc, ◌+◌, ◌-◌, ◌*◌, ◌/◌, ◌%◌, ◌<◌, ◌≤◌, ◌^◌, Bool as Truth, true, false, List, [], ◌∷◌, ◌++◌, filter, length, take, drop, get_or, slice_get, Some, refl}
use Rattle.std.specs.List.{range_with_len}
use Rattle.std.proofs.Common.{arith, ap, sym, ◌∙◌, subst, append_assoc, set, suc-mul, zero-mul, true≢false}
use Rattle.std.proofs.Math.Nat.{add-mul, mul_comm, one-mul, mul-div_cancel_left, mod-eq_of_lt, div-eq_of_lt, add-mod_right, add-div_right}
use Rattle.std.proofs.lemmas.Nat.{div_below, mul-le}
use Rattle.std.proofs.lemmas.Grind.{flat_map-append}
use Rattle.std.proofs.Math.Seq.{take-append_seam}
use Rattle.std.proofs.lemmas.List.{drop_more, map-append, take_more, take_more_set, take-take, append-nil}
use Rattle.conditions.specs.Conditions.{left_after, left_after_all, is_one_left, AreApart, AreBranches, AreStages, AreWithout}
use Rattle.conditions.specs.Stages.{left_length, same_later, same_left, none_left}
use Rattle.conditions.specs.declared.condition.Stage.{Stage}
use Rattle.io_automata.specs.Steps.{scope_in}
use Rattle.io_automata.specs.Tuples.{many, choices, picked, tuple_at}
use Rattle.io_automata.specs.declared.automaton.Param.{Param}
use Rattle.io_automata.specs.declared.automaton.Param.TheVariants.{Const, Member, Between, Whole}
use Rattle.outcomes.specs.Solving.{places_in, passes, AreAsMany, IsNode}
use Rattle.outcomes.specs.declared.node.Node.{Node}
use Rattle.outcomes.specs.declared.spans.Span.{Span}
use Rattle.outcomes.proofs.Counted.{many_first}
use Rattle.outcomes.proofs.Placed.{positive}
use Rattle.outcomes.proofs.Ranges.{kept_in_parts, kept_all, kept_none, kept_same}
use Rattle.terms.specs.Datum.{Datum}
use Rattle.terms.specs.Meaning.{slot}
use Rattle.terms.specs.declared.scalar.Scalar.{Scalar}

-- only the first arguments of a node count
pub node_same : (formals args others : List Scalar) (node : Node) → IsNode formals args node → length others ≡ length args → take node.known others ≡ take node.known args → IsNode formals others node
node_same formals args others node is long same = record {
  room = long ∙ is.room;
  known = is.known;
  count = is.count;
  some = is.some;
  within = is.within;
  reached = λ j less. is.reached j less ∙ ap (λ xs. xs ++ tuple_at formals (drop node.known node.all.now) j) (sym same);
  stages = is.stages;
  apart = is.apart;
  few = is.few;
  complete = is.complete;
}

take_front : (xs ys : List Scalar) (n : ℕ) → length xs ≡ n → take n (xs ++ ys) ≡ xs
take_front xs ys n long = ap (λ (k : ℕ). take k (xs ++ ys)) (sym long) ∙ take-append_seam xs ys

take_next : (xs : List Scalar) (y : Scalar) (ys : List Scalar) (n : ℕ) → length xs ≡ n → take (suc n) (xs ++ y ∷ ys) ≡ xs ++ y ∷ []
take_next [] y ys zero long = refl
take_next [] y ys (suc n) long = absurd (omega (arith, long))
take_next (x ∷ xs) y ys zero long = absurd (omega (arith, long))
take_next (x ∷ xs) y ys (suc n) long = ap (λ zs. x ∷ zs) (take_next xs y ys n (omega (arith, long)))

slot_next : (xs : List Scalar) (y : Scalar) (ys : List Scalar) (n : ℕ) → length xs ≡ n → slot (xs ++ y ∷ ys) n ≡ y
slot_next [] y ys zero long = refl
slot_next [] y ys (suc n) long = absurd (omega (arith, long))
slot_next (x ∷ xs) y ys zero long = absurd (omega (arith, long))
slot_next (x ∷ xs) y ys (suc n) long = slot_next xs y ys n (omega (arith, long))

take_length : (xs : List Scalar) (n : ℕ) → n ≤ length xs → length (take n xs) ≡ n
take_length xs zero few = refl
take_length [] (suc n) few = absurd (omega (arith, few))
take_length (x ∷ xs) (suc n) few = ap suc (take_length xs n (omega (arith, few)))

first_row : (j n : ℕ) → 0 * n + j ≡ j
first_row j n = let none = zero-mul n in omega (arith, none)

next_row : (p j n : ℕ) → suc p * n + j ≡ p * n + j + n
next_row p j n = let more = suc-mul p n in omega (arith, more)

-- a place in a chunk is in it
quotient_in : (p j n : ℕ) → j < n → (p * n + j) / n ≡ p
quotient_in zero j n less =
    let here : 0 * n + j ≡ j = first_row j n in
    ap (λ (m : ℕ). m / n) here ∙ div-eq_of_lt less
quotient_in (suc p) j n less =
    let some : 0 < n = omega (arith, less) in
    let more : suc p * n + j ≡ p * n + j + n = next_row p j n in
    ap (λ (m : ℕ). m / n) more ∙ add-div_right (p * n + j) some ∙ (let rest = quotient_in p j n less in omega (arith, rest))

remainder_in : (p j n : ℕ) → j < n → (p * n + j) % n ≡ j
remainder_in zero j n less =
    let here : 0 * n + j ≡ j = first_row j n in
    ap (λ (m : ℕ). m % n) here ∙ mod-eq_of_lt less
remainder_in (suc p) j n less =
    let more : suc p * n + j ≡ p * n + j + n = next_row p j n in
    ap (λ (m : ℕ). m % n) more ∙ add-mod_right (p * n + j) n ∙ remainder_in p j n less

-- the tuple at a place by the value of the first parameter
first_of_tuple : (formals : List Scalar) (param : Param) (params : List Param) (j : ℕ) → j < choices param * many params → tuple_at formals (param ∷ params) j ≡ picked formals param (j / many params) ∷ tuple_at formals params (j % many params)
first_of_tuple formals (Const n) params j less =
    let below : j < many params = let one = one-mul (many params) in omega (arith, less, one) in
    ap (λ (k : ℕ). slot formals n ∷ tuple_at formals params k) (sym (mod-eq_of_lt below))
first_of_tuple formals (Member listed) params j less = refl
first_of_tuple formals (Between low high) params j less = absurd (let none = zero-mul (many params) in omega (arith, less, none))
first_of_tuple formals Whole params j less = absurd (let none = zero-mul (many params) in omega (arith, less, none))

-- the next parameter of a node, and the next stage
pub record Step (formals args : List Scalar) (node : Node) (stage : Stage) (stages : List Stage) (param : Param) (params : List Param) (total count : ℕ) : Type 0 where
  pub is : IsNode formals args node
  pub asked : node.stages.now ≡ stage ∷ stages
  pub next : drop node.known node.all.now ≡ param ∷ params
  pub more : node.known < length node.all.now
  pub total_is : total ≡ choices param
  pub count_is : count ≡ node.count / total

slot_other : (xs ys : List Scalar) (a b : Scalar) (n : ℕ) → (n ≡ length xs → ⊥) → slot (xs ++ a ∷ ys) n ≡ slot (xs ++ b ∷ ys) n
slot_other [] ys a b zero off = absurd (off refl)
slot_other [] ys a b (suc n) off = refl
slot_other (x ∷ xs) ys a b zero off = refl
slot_other (x ∷ xs) ys a b (suc n) off = slot_other xs ys a b n (λ same. off (ap suc same))

kept_behind : (f g : ℕ → Truth) (from by count : ℕ) → ((j : ℕ) → j < count → f (from + j) ≡ g (from + by + j)) → map (λ at. at + by) (filter f (range_with_len from count)) ≡ filter g (range_with_len (from + by) count)
kept_behind f g from by zero all = refl
kept_behind f g from by (suc n) all =
    let same : from ≡ from + 0 = omega arith in
    let back : from + by + 0 ≡ from + by = omega arith in
    let here : f from ≡ g (from + by) = ap f same ∙ all 0 (omega arith) ∙ ap g back in
    let next : from + 1 + by ≡ from + by + 1 = omega arith in
    let rest : map (λ at. at + by) (filter f (range_with_len (from + 1) n)) ≡ filter g (range_with_len (from + by + 1) n) =
    kept_behind f g (from + 1) by n (λ j less. let one : from + 1 + j ≡ from + suc j = omega arith in let other : from + by + suc j ≡ from + 1 + by + j = omega arith in ap f one ∙ all (suc j) (omega (arith, less)) ∙ ap g other) ∙ ap (λ (m : ℕ). filter g (range_with_len m n)) next in
    split (f from) (g (from + by)) (filter f (range_with_len (from + 1) n)) (filter g (range_with_len (from + by + 1) n)) here rest where
      split : (a b : Truth) (xs ys : List ℕ) → a ≡ b → map (λ at. at + by) xs ≡ ys → map (λ at. at + by) (cond a (from ∷ xs) xs) ≡ cond b ((from + by) ∷ ys) ys
      split true true xs ys ab e = ap (λ zs. (from + by) ∷ zs) e
      split false false xs ys ab e = e
      split true false xs ys ab e = absurd (true≢false ab)
      split false true xs ys ab e = absurd (true≢false (sym ab))

-- what it is, whatever the later arguments are by now
pub step_at : (formals first args : List Scalar) (node : Node) (stage : Stage) (stages : List Stage) (total : ℕ) → IsNode formals first node → length args ≡ length first → take node.known args ≡ take node.known first → node.stages.now ≡ stage ∷ stages → node.known < length node.all.now → total ≡ choices (get_or node.all.now node.known (Const 0)) → Step formals args node stage stages (get_or node.all.now node.known (Const 0)) (drop (node.known + 1) node.all.now) total (node.count / total)
step_at formals first args node stage stages total is long same asked more total_is = record {
  is = node_same formals first args node is long same;
  asked = asked;
  next = drop_more node.all.now node.known (Const 0) more;
  more = more;
  total_is = total_is;
  count_is = refl;
}

-- what a node says of its next stage
module _ (formals args : List Scalar) (node : Node) (stage : Stage) (stages : List Stage) (is : IsNode formals args node) (asked : node.stages.now ≡ stage ∷ stages) where
  stages_there : AreStages (length node.left.now) (suc node.known) (stage ∷ stages)
  stages_there = subst (AreStages (length node.left.now) (suc node.known)) asked is.stages

  pub stage_many : length stage.branches.items ≡ length node.left.now
  stage_many = stages_there.0

  pub stage_branches : AreBranches (suc node.known) stage.branches.items
  stage_branches = stages_there.1

  pub next_stages : AreStages (length node.left.now) (suc (node.known + 1)) stages
  next_stages =
      let one : suc (suc node.known) ≡ suc (node.known + 1) = omega arith in
      subst (λ (k : ℕ). AreStages (length node.left.now) k stages) one stages_there.2

  pub next_apart : AreApart (suc (node.known + 1)) stages
  next_apart =
      let one : suc (suc node.known) ≡ suc (node.known + 1) = omega arith in
      subst (λ (k : ℕ). AreApart k stages) one (subst (AreApart (suc node.known)) asked is.apart).1

pub slot_set : (xs : List Scalar) (n : ℕ) (x : Scalar) → n < length xs → slot (set xs n x) n ≡ x
slot_set [] n x less = absurd (omega (arith, less))
slot_set (y ∷ ys) zero x less = refl
slot_set (y ∷ ys) (suc n) x less = slot_set ys n x (omega (arith, less))

module _ (formals args : List Scalar) (state : List Datum) (node : Node) (stage : Stage) (stages : List Stage) (param : Param) (params : List Param) (total count : ℕ) (step : Step formals args node stage stages param params total count) where
  is : IsNode formals args node
  is = step.is

  asked : node.stages.now ≡ stage ∷ stages
  asked = step.asked

  next : drop node.known node.all.now ≡ param ∷ params
  next = step.next

  more : node.known < length node.all.now
  more = step.more

  total_is : total ≡ choices param
  total_is = step.total_is

  count_is : count ≡ node.count / total
  count_is = step.count_is

  whole : node.count ≡ choices param * many params
  whole = is.count ∙ ap many next ∙ many_first param params

  some_total : 0 < choices param
  some_total = positive (choices param) (many params) 0 (let turned = mul_comm (many params) (choices param) in let some = is.some in omega (arith, whole, turned, some))

  pub total_some : 0 < total
  total_some = omega (arith, total_is, some_total)

  pub count_many : count ≡ many params
  count_many = count_is ∙ (λ i. whole i / total_is i) ∙ mul-div_cancel_left (many params) some_total

  pub product : node.count ≡ total * count
  product = whole ∙ λ i. sym total_is i * sym count_many i

  pub count_some : 0 < count
  count_some = positive count total 0 (let some = is.some in omega (arith, product, some))

  abbrev pub prefix : List Scalar
  prefix = take node.known args

  prefix_length : length prefix ≡ node.known
  prefix_length = take_length args node.known (let room = is.room in omega (arith, more, room))

  -- the tuple at a place below the node
  tuple_is : (j : ℕ) → j < node.count → tuple_at formals node.all.now (node.from + j) ≡ prefix ++ picked formals param (j / count) ∷ tuple_at formals params (j % count)
  tuple_is j less =
      is.reached j less
      ∙ ap (λ ps. prefix ++ tuple_at formals ps j) next
      ∙ ap (λ xs. prefix ++ xs) (first_of_tuple formals param params j (omega (arith, less, whole)))
      ∙ ap (λ (n : ℕ). prefix ++ picked formals param (j / n) ∷ tuple_at formals params (j % n)) (sym count_many)

  abbrev test : ℕ → Truth
  test at = passes formals state node.stages.now node.left.now (tuple_at formals node.all.now at)

  -- a value that is not worth a try
  abbrev Out : ℕ → Type 0
  Out p = (others : List Scalar) → take node.known others ≡ take node.known args → slot others node.known ≡ picked formals param p → is_one_left (left_after (scope_in formals others) state stage.branches.items node.left.now) ≡ false

  out_fails : (j : ℕ) → j < node.count → Out (j / count) → test (node.from + j) ≡ false
  out_fails j less out =
      let tuple = tuple_at formals node.all.now (node.from + j) in
      let here = tuple_is j less in
      let rest = picked formals param (j / count) ∷ tuple_at formals params (j % count) in
      let front : take node.known tuple ≡ take node.known args = ap (take node.known) here ∙ take_front prefix rest node.known prefix_length in
      let value : slot tuple node.known ≡ picked formals param (j / count) = ap (λ xs. slot xs node.known) here ∙ slot_next prefix (picked formals param (j / count)) (tuple_at formals params (j % count)) node.known prefix_length in
      ap (λ ss. is_one_left (left_after_all (scope_in formals tuple) state ss node.left.now)) asked
      ∙ none_left (scope_in formals tuple) state stages (left_after (scope_in formals tuple) state stage.branches.items node.left.now) (out tuple front value)

  row_end : (a b : ℕ) → a ≤ b → a * count + (b - a) * count ≡ b * count
  row_end a b up = let same : a + (b - a) ≡ b = omega (arith, up) in sym (add-mul a (b - a) count) ∙ ap (λ (n : ℕ). n * count) same

  rows : (a j : ℕ) → (a * count + j) / count ≡ a + j / count
  rows zero j =
      let none : j / count ≡ 0 + j / count = omega arith in
      ap (λ (m : ℕ). m / count) (first_row j count) ∙ none
  rows (suc a) j =
      let rest = rows a j in
      let more : (a * count + j) / count + 1 ≡ suc a + j / count = omega (arith, rest) in
      ap (λ (m : ℕ). m / count) (next_row a j count) ∙ add-div_right (a * count + j) count_some ∙ more

  -- between two places nothing is found where no value there is worth a try
  pub none_between : (a b : ℕ) → a ≤ b → b ≤ total → ((p : ℕ) → a ≤ p → p < b → Out p) → filter test (range_with_len (node.from + a * count) ((b - a) * count)) ≡ []
  none_between a b up most out = kept_none test (node.from + a * count) ((b - a) * count) fails where
    fails : (j : ℕ) → j < (b - a) * count → test (node.from + a * count + j) ≡ false
    fails j less =
        let turned : j < count * (b - a) = subst (λ (n : ℕ). j < n) (mul_comm (b - a) count) less in
        let quotient : j / count < b - a = div_below j count (b - a) count_some less in
        let end = row_end a b up in
        let most_row = mul-le b count total count most (omega arith) in
        let within : a * count + j < node.count = omega (arith, less, end, most_row, product) in
        let same : node.from + a * count + j ≡ node.from + (a * count + j) = omega arith in
        let low : a ≤ a + j / count = omega arith in
        let high : a + j / count < b = omega (arith, quotient, up) in
        ap test same ∙ out_fails (a * count + j) within (subst Out (sym (rows a j)) (out (a + j / count) low high))

  -- before the first value that is worth a try nothing is found
  pub none_before : (low : ℕ) → low ≤ total → ((p : ℕ) → p < low → Out p) → filter test (range_with_len node.from (low * count)) ≡ []
  none_before low most out =
      let none = zero-mul count in
      let start : node.from ≡ node.from + 0 * count = omega (arith, none) in
      let whole : low * count ≡ (low - 0) * count = let same : low ≡ low - 0 = omega arith in ap (λ (n : ℕ). n * count) same in
      (λ i. filter test (range_with_len (start i) (whole i))) ∙ none_between 0 low (omega arith) most (λ p h less. out p less)

  -- and after the last one neither
  pub none_after : (place : ℕ) → place ≤ total → ((p : ℕ) → place ≤ p → p < total → Out p) → filter test (range_with_len node.from (place * count)) ≡ filter test (range_with_len node.from node.count)
  none_after place most out =
      let all : node.count ≡ place * count + (total - place) * count = product ∙ sym (row_end place total most) in
      sym (ap (λ (n : ℕ). filter test (range_with_len node.from n)) all
      ∙ kept_in_parts test node.from (place * count) ((total - place) * count)
      ∙ ap (λ xs. filter test (range_with_len node.from (place * count)) ++ xs) (none_between place total most (omega arith) out)
      ∙ append-nil (filter test (range_with_len node.from (place * count))))

  -- one value more
  module _ (place : ℕ) (below : place < total) (new : List Scalar) (new_is : new ≡ set args node.known (picked formals param place)) (left : List Truth) (left_is : left ≡ left_after (scope_in formals new) state stage.branches.items node.left.now) where
    all_stages : AreStages (length node.left.now) (suc node.known) (stage ∷ stages)
    all_stages = subst (AreStages (length node.left.now) (suc node.known)) asked is.stages

    branches : AreBranches (suc node.known) stage.branches.items
    branches = all_stages.1

    abbrev test_below : ℕ → Truth
    test_below at = passes formals state stages left (tuple_at formals node.all.now at)

    new_front : take (suc node.known) new ≡ prefix ++ picked formals param place ∷ []
    new_front =
        let one : suc node.known ≡ node.known + 1 = omega arith in
        let within : node.known < length args = let room = is.room in omega (arith, more, room) in
        ap (λ (n : ℕ). take n new) one ∙ ap (take (node.known + 1)) new_is ∙ take_more_set args node.known (picked formals param place) within

    in_chunk : (j : ℕ) → j < count → place * count + j < node.count
    in_chunk j less =
        let most_row = mul-le (suc place) count total count (omega (arith, below)) (omega arith) in
        let row = suc-mul place count in
        omega (arith, less, most_row, row, product)

    -- the tuple at a place in the chunk
    pub chunk_tuple : (j : ℕ) → j < count → tuple_at formals node.all.now (node.from + place * count + j) ≡ prefix ++ picked formals param place ∷ tuple_at formals params j
    chunk_tuple j less =
        let same : node.from + place * count + j ≡ node.from + (place * count + j) = omega arith in
        ap (tuple_at formals node.all.now) same
        ∙ tuple_is (place * count + j) (in_chunk j less)
        ∙ (λ i. prefix ++ picked formals param (quotient_in place j count less i) ∷ tuple_at formals params (remainder_in place j count less i))

    same_test : (j : ℕ) → j < count → test (node.from + place * count + j) ≡ test_below (node.from + place * count + j)
    same_test j less =
        let tuple = tuple_at formals node.all.now (node.from + place * count + j) in
        let front : take (suc node.known) tuple ≡ take (suc node.known) new = ap (take (suc node.known)) (chunk_tuple j less) ∙ take_next prefix (picked formals param place) (tuple_at formals params j) node.known prefix_length ∙ sym new_front in
        let agree : left_after (scope_in formals tuple) state stage.branches.items node.left.now ≡ left = same_left (suc node.known) stage.branches.items (scope_in formals []) state tuple new node.left.now branches front ∙ sym left_is in
        ap (λ ss. is_one_left (left_after_all (scope_in formals tuple) state ss node.left.now)) asked
        ∙ ap (λ l. is_one_left (left_after_all (scope_in formals tuple) state stages l)) agree

    -- what is found below is what is found of the chunk
    pub chunk_found : filter test (range_with_len node.from ((place + 1) * count)) ≡ filter test (range_with_len node.from (place * count)) ++ filter test_below (range_with_len (node.from + place * count) count)
    chunk_found =
        let one : place + 1 ≡ suc place = omega arith in
        let row = suc-mul place count in
        let all : suc place * count ≡ place * count + count = omega (arith, row) in
        ap (λ (n : ℕ). filter test (range_with_len node.from (n * count))) one
        ∙ ap (λ (n : ℕ). filter test (range_with_len node.from n)) all
        ∙ kept_in_parts test node.from (place * count) count
        ∙ ap (λ xs. filter test (range_with_len node.from (place * count)) ++ xs) (kept_same test test_below (node.from + place * count) count same_test)

    -- what the node below stands on
    pub below_within : node.from + place * count + count < 2 ^ 64
    below_within =
        let most_row = mul-le (suc place) count total count (omega (arith, below)) (omega arith) in
        let row = suc-mul place count in
        let within = is.within in
        omega (arith, most_row, row, product, within)

    pub below_reached : (j : ℕ) → j < count → tuple_at formals node.all.now (node.from + place * count + j) ≡ take (node.known + 1) new ++ tuple_at formals params j
    below_reached j less =
        let one : suc node.known ≡ node.known + 1 = omega arith in
        chunk_tuple j less
        ∙ sym (append_assoc prefix (picked formals param place ∷ []) (tuple_at formals params j))
        ∙ ap (λ xs. xs ++ tuple_at formals params j) (sym new_front ∙ ap (λ (n : ℕ). take n new) one)

    pub below_stages : AreStages (length left) (suc (node.known + 1)) stages
    below_stages =
        let long : length left ≡ length node.left.now = ap length left_is ∙ left_length (scope_in formals new) state (length node.left.now) stage.branches.items node.left.now all_stages.0 refl in
        let one : suc (suc node.known) ≡ suc (node.known + 1) = omega arith in
        subst (λ (n : ℕ). AreStages n (suc (node.known + 1)) stages) (sym long) (subst (λ (k : ℕ). AreStages (length node.left.now) k stages) one all_stages.2)

    pub below_few : length left ≤ 16
    below_few =
        let long : length left ≡ length node.left.now = ap length left_is ∙ left_length (scope_in formals new) state (length node.left.now) stage.branches.items node.left.now all_stages.0 refl in
        let few = is.few in
        omega (arith, long, few)

  -- the node below the first value
  module _ (new : List Scalar) (new_is : new ≡ set args node.known (picked formals param 0)) where
    abbrev first_left : List Truth
    first_left = left_after (scope_in formals new) state stage.branches.items node.left.now

    pub first_within : node.from + count < 2 ^ 64
    first_within =
        let most = below_within 0 total_some new new_is first_left refl in
        let none = zero-mul count in
        omega (arith, most, none)

    pub first_reached : (j : ℕ) → j < count → tuple_at formals node.all.now (node.from + j) ≡ take (node.known + 1) new ++ tuple_at formals params j
    first_reached j less =
        let none = zero-mul count in
        let start : node.from + j ≡ node.from + 0 * count + j = omega (arith, none) in
        ap (tuple_at formals node.all.now) start ∙ below_reached 0 total_some new new_is first_left refl j less

  -- what is found below the first value stands below another, where no later stage mentions the parameter
  module _ (place : ℕ) (below : place < total) (without : AreWithout node.known stages) (left : List Truth) where
    abbrev found_below : ℕ → Truth
    found_below at = passes formals state stages left (tuple_at formals node.all.now at)

    value_at : (p : ℕ) → p < total → (j : ℕ) → j < count → tuple_at formals node.all.now (node.from + p * count + j) ≡ prefix ++ picked formals param p ∷ tuple_at formals params j
    value_at p less = chunk_tuple p less (set args node.known (picked formals param p)) refl (left_after (scope_in formals (set args node.known (picked formals param p))) state stage.branches.items node.left.now) refl

    found_same : (j : ℕ) → j < count → found_below (node.from + j) ≡ found_below (node.from + place * count + j)
    found_same j less =
        let first = tuple_at formals node.all.now (node.from + 0 * count + j) in
        let other = tuple_at formals node.all.now (node.from + place * count + j) in
        let none = zero-mul count in
        let start : node.from + j ≡ node.from + 0 * count + j = omega (arith, none) in
        let agree : (n : ℕ) → (n ≡ node.known → ⊥) → slot first n ≡ slot other n =
        λ n off. ap (λ xs. slot xs n) (value_at 0 total_some j less)
        ∙ slot_other prefix (tuple_at formals params j) (picked formals param 0) (picked formals param place) n (λ same. off (same ∙ prefix_length))
        ∙ sym (ap (λ xs. slot xs n) (value_at place below j less)) in
        ap found_below start ∙ ap is_one_left (same_later node.known stages (scope_in formals []) state first other left without agree)

    pub found_again : (spans : List Span) → places_in spans ≡ filter found_below (range_with_len node.from count) → map (λ at. at + place * count) (places_in spans) ≡ filter found_below (range_with_len (node.from + place * count) count)
    found_again spans is = ap (map (λ at. at + place * count)) is ∙ kept_behind found_below found_below node.from (place * count) count found_same

-- the stages of a node have as many branches as are left or not
pub as_many : (n k : ℕ) (stages : List Stage) → AreStages n k stages → AreAsMany n stages
as_many n k [] are = refl
as_many n k (stage ∷ stages) are = (are.0, as_many n (suc k) stages are.2)

-- where no branch is left nothing is found
pub nothing_left : (formals : List Scalar) (state : List Datum) (stages : List Stage) (left : List Truth) (all : List Param) (from count : ℕ) (places : List ℕ) → is_one_left left ≡ false → places ≡ places ++ filter (λ at. passes formals state stages left (tuple_at formals all at)) (range_with_len from count)
nothing_left formals state stages left all from count places none =
    sym (ap (λ xs. places ++ xs) (kept_none (λ at. passes formals state stages left (tuple_at formals all at)) from count (λ j less. none_left (scope_in formals (tuple_at formals all (from + j))) state stages left none)) ∙ append-nil places)

spans_more : (spans : List Span) (span : Span) → places_in (spans ++ span ∷ []) ≡ places_in spans ++ range_with_len span.from span.count
spans_more spans span = flat_map-append (λ (span : Span). range_with_len span.from span.count) spans (span ∷ []) ∙ ap (λ xs. places_in spans ++ xs) (append-nil (range_with_len span.from span.count))

range_behind : (from by count : ℕ) → map (λ at. at + by) (range_with_len from count) ≡ range_with_len (from + by) count
range_behind from by zero = refl
range_behind from by (suc n) =
    let next : from + 1 + by ≡ from + by + 1 = omega arith in
    ap (λ xs. (from + by) ∷ xs) (range_behind (from + 1) by n ∙ ap (λ (m : ℕ). range_with_len m n) next)

-- one span more behind those before it
pub behind_more : (first old new spans : List Span) (k by from count : ℕ) (d : Span) → k < length spans → places_in old ≡ places_in first ++ map (λ at. at + by) (places_in (take k spans)) → new ≡ old ++ record { from = from; count = count } ∷ [] → from ≡ (get_or spans k d).from + by → count ≡ (get_or spans k d).count → places_in new ≡ places_in first ++ map (λ at. at + by) (places_in (take (k + 1) spans))
behind_more first old new spans k by from count d less old_is new_is from_is count_is =
    let span = get_or spans k d in
    let before = map (λ at. at + by) (places_in (take k spans)) in
    let last : map (λ at. at + by) (places_in (take (k + 1) spans)) ≡ before ++ range_with_len from count =
    ap (λ xs. map (λ at. at + by) (places_in xs)) (take_more spans k d less)
    ∙ ap (map (λ at. at + by)) (spans_more (take k spans) span)
    ∙ map-append (λ at. at + by) (places_in (take k spans)) (range_with_len span.from span.count)
    ∙ ap (λ xs. before ++ xs) (range_behind span.from by span.count)
    ∙ (λ i. before ++ range_with_len (sym from_is i) (sym count_is i)) in
    ap places_in new_is
    ∙ spans_more old (record { from = from; count = count })
    ∙ ap (λ xs. xs ++ range_with_len from count) old_is
    ∙ append_assoc (places_in first) before (range_with_len from count)
    ∙ ap (λ xs. places_in first ++ xs) (sym last)

-- where no stage is to come, all are found
pub all_left : (formals : List Scalar) (state : List Datum) (stages : List Stage) (left : List Truth) (all : List Param) (from count : ℕ) (spans new : List Span) → stages ≡ [] → is_one_left left ≡ true → new ≡ spans ++ record { from = from; count = count } ∷ [] → places_in new ≡ places_in spans ++ filter (λ at. passes formals state stages left (tuple_at formals all at)) (range_with_len from count)
all_left formals state stages left all from count spans new none some is =
    ap places_in is
    ∙ spans_more spans (record { from = from; count = count })
    ∙ ap (λ xs. places_in spans ++ xs) (sym (kept_all (λ at. passes formals state stages left (tuple_at formals all at)) from count (λ j less. ap (λ ss. is_one_left (left_after_all (scope_in formals (tuple_at formals all (from + j))) state ss left)) none ∙ some)))

pub one_place : {X : Type 0} (xs : List X) (k : ℕ) (d x : X) → k < length xs → get_or xs k d ≡ x → slice_get xs k ≡ Some x
one_place [] k d x below is = absurd (omega (arith, below))
one_place (y ∷ ys) zero d x below is = ap Some is
one_place (y ∷ ys) (suc k) d x below is = one_place ys k d x (omega (arith, below)) is

pub shorter : (n : ℕ) (xs ys : List Scalar) → take (n + 1) xs ≡ take (n + 1) ys → take n xs ≡ take n ys
shorter n xs ys same = sym (take-take n (n + 1) xs (omega arith)) ∙ ap (take n) same ∙ take-take n (n + 1) ys (omega arith)

pub nothing_more : (places found : List ℕ) → found ≡ [] → places ≡ places ++ found
nothing_more places found none = sym (ap (λ xs. places ++ xs) none ∙ append-nil places)

pub found_more : (first old new before below all : List ℕ) → old ≡ first ++ before → new ≡ old ++ below → all ≡ before ++ below → new ≡ first ++ all
found_more first old new before below all old_is new_is all_is =
    new_is ∙ ap (λ xs. xs ++ below) old_is ∙ append_assoc first before below ∙ ap (λ xs. first ++ xs) (sym all_is)

pub empty : {X : Type 0} (xs : List X) → length xs ≡ 0 → xs ≡ []
empty [] none = refl
empty (x ∷ xs) none = absurd (omega (arith, none))
