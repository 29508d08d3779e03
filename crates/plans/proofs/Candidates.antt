-- Whoever takes an action is a candidate, and so the candidates that take it are the receivers.
use Rattle.std.specs.Prelude.{◌≡◌, ℕ, zero, suc, ◌+◌, ◌<◌, ◌≤◌, ◌==◌, nat_lt, Bool as Truth, true, false, not, ◌&&◌, ◌||◌, cond, List, [], ◌∷◌, filter, length, All, Contains, refl, slice_index_or, Option, None, Some, IfSome, is_some, if◌then◌else◌}
use Rattle.std.specs.List.{list_any, slice_index}
use Rattle.std.specs.List.Sorted.{IsStrictlyIncreasing}
use Rattle.std.proofs.Common.{arith, ap, sym, subst, ◌∙◌}
use Rattle.std.proofs.lemmas.Bool.{ltb-true, ltb-false}
use Rattle.std.proofs.lemmas.Bool.Decides.{nat_tests}
use Rattle.std.proofs.lemmas.List.Elements.{All-head, All-tail, filter_agree}
use Rattle.std.proofs.lemmas.List.Kept.{IsStrictlyIncreasing-filter}
use Rattle.terms.specs.Named.{Named}
use Rattle.terms.specs.Meaning.{slot}
use Rattle.terms.specs.Same.{scalar_is}
use Rattle.terms.specs.SameTreeLaws.{both_true}
use Rattle.terms.specs.declared.scalar.Scalar.{Scalar}
use Rattle.io_automata.specs.declared.automaton.Kind.{Kind}
use Rattle.io_automata.specs.declared.automaton.Kind.TheVariants.{Input, Output, Internal}
use Rattle.io_automata.specs.declared.automaton.Param.{Param}
use Rattle.io_automata.specs.declared.automaton.Param.TheVariants.{Const, Member, Between, Whole}
use Rattle.io_automata.specs.Automata.{Transition, Instance, component_at}
use Rattle.io_automata.specs.Signatures.{fits_one, fits, has, has_as, same_kind, any_as, inputs, outputs, internals, acts, kind_of, receives, receivers_of, takers_of}
use Rattle.io_automata.specs.Receivers.{Rising, IsIn, receivers_rise, receivers_all, takers_rise, takers_all}
use Rattle.patterns.specs.Patterns.{Kept, fixed_as, fixes, mask_of, asked, values_of, shown, masked, masks_in, IsListed, IsNoted, is_for, IsIndexed}

pub same_from : (m n : ℕ) → (m == n) ≡ true → m ≡ n
same_from m n h = grind (arith, nat_tests)

same_number : (n : ℕ) → (n == n) ≡ true
same_number n = grind (arith, nat_tests)

other_from : (m n : ℕ) → m < n → (m == n) ≡ false
other_from m n h = grind (arith, nat_tests)

-- an argument that fits a parameter shows what the parameter asks
shows_asked : (formals : List Scalar) (param : Param) (value : Scalar) → fits_one formals param value ≡ true → shown (fixes param) value ≡ asked formals param
shows_asked formals (Const n) value h = ap fixed_as (sym (scalar_is (slot formals n) value h))
shows_asked formals (Member members) value h = refl
shows_asked formals (Between low high) value h = refl
shows_asked formals Whole value h = refl

-- arguments that fit, by the entry's mask, are the values that the entry asks for
masked_is : (formals : List Scalar) (params : List Param) (args : List Scalar) → fits formals params args ≡ true → masked (mask_of params) args ≡ values_of formals params
masked_is formals [] args h = refl
masked_is formals (param ∷ params) [] h = cc
masked_is formals (param ∷ params) (value ∷ args) h =
    let both = both_true (fits_one formals param value) (fits formals params args) h in
    let first = shows_asked formals param value both.0 in
    let rest = masked_is formals params args both.1 in
    λ i. first i ∷ rest i

-- all numbers that stand under the patterns of an action
abbrev pub HasListed : Kept → List ℕ → Named → Type 0
HasListed index found action = (mask : List Truth) (j : ℕ) → Contains (masks_in index.masks action.name) mask → IsListed index.numbers action.name (masked mask action.args) j → Contains found j

module _ (every : Truth) (index : Kept) (found : List ℕ) (action : Named) (all : HasListed index found action) (formals : List Scalar) (j : ℕ) (kind : Kind) (covers : (other : Kind) → same_kind kind other ≡ true → is_for every other ≡ true) where
  by_entry : (entry : Transition) → (is_for every entry.kind ≡ true → IsNoted index formals j entry) → has_as kind formals action entry ≡ true → Contains found j
  by_entry entry noted h =
      let kinds = both_true (same_kind kind entry.kind) (has formals action entry) h in
      let parts = both_true (entry.name == action.name) (fits formals entry.params action.args) kinds.1 in
      let name : entry.name ≡ action.name = same_from entry.name action.name parts.0 in
      let values = masked_is formals entry.params action.args parts.1 in
      let there = noted (covers entry.kind kinds.0) in
      all (mask_of entry.params) j (subst (λ n. Contains (masks_in index.masks n) (mask_of entry.params)) name there.mask)
      (subst (λ vs. IsListed index.numbers action.name vs j) (sym values) (subst (λ n. IsListed index.numbers n (values_of formals entry.params) j) name there.number))

  by_entries : (entries : List Transition) → All (λ entry. is_for every entry.kind ≡ true → IsNoted index formals j entry) entries → list_any (has_as kind formals action) entries ≡ true → Contains found j
  by_entries [] noted h = cc
  by_entries (entry ∷ entries) noted h = go (λ g. by_entries entries (All-tail (λ e. is_for every e.kind ≡ true → IsNoted index formals j e) entry entries noted) g) (has_as kind formals action entry) refl h where
    go : (list_any (has_as kind formals action) entries ≡ true → Contains found j) → (b : Truth) → has_as kind formals action entry ≡ b → (b || list_any (has_as kind formals action) entries) ≡ true → Contains found j
    go rest true here g = by_entry entry (All-head (λ e. is_for every e.kind ≡ true → IsNoted index formals j e) entry entries noted) here
    go rest false here g = rest g

pub taker_found : (index : Kept) (composition : List Instance) (found : List ℕ) (action : Named) → IsIndexed false index composition → HasListed index found action → (j : ℕ) → inputs composition j action ≡ true → Contains found j
taker_found index composition found action indexed all j h = by_entries false index found action all (component_at composition j).formals j Input (λ other same. same) (component_at composition j).entries (indexed.entries j) h

-- whoever has an action is found where every entry is noted
pub actor_found : (index : Kept) (composition : List Instance) (found : List ℕ) (action : Named) → IsIndexed true index composition → HasListed index found action → (j : ℕ) → acts composition j action ≡ true → Contains found j
actor_found index composition found action indexed all j h = go (inputs composition j action) (outputs composition j action) (internals composition j action) refl refl refl h where
  by_kind : (kind : Kind) → any_as kind (component_at composition j) action ≡ true → Contains found j
  by_kind kind g = by_entries true index found action all (component_at composition j).formals j kind (λ other same. refl) (component_at composition j).entries (indexed.entries j) g

  go : (a b c : Truth) → inputs composition j action ≡ a → outputs composition j action ≡ b → internals composition j action ≡ c → (a || b || c) ≡ true → Contains found j
  go true b c is_a is_b is_c g = by_kind Input is_a
  go false true c is_a is_b is_c g = by_kind Output is_b
  go false false true is_a is_b is_c g = by_kind Internal is_c
  go false false false is_a is_b is_c g = cc

pub rising_from : (a : ℕ) (xs : List ℕ) → IsStrictlyIncreasing xs → ((y : ℕ) (ys : List ℕ) → xs ≡ y ∷ ys → a ≤ y) → Rising a xs
rising_from a [] rise least = tt
rising_from a (x ∷ []) rise least = (least x [] refl, tt)
rising_from a (x ∷ y ∷ ys) rise least = (least x (y ∷ ys) refl, rising_from (x + 1) (y ∷ ys) rest next) where
  rest : IsStrictlyIncreasing (y ∷ ys)
  rest k h =
      let e : suc k + 1 ≡ suc (k + 1) = omega arith in
      subst (λ (m : ℕ). slice_index (y ∷ ys) k < slice_index (x ∷ y ∷ ys) m) e (rise (suc k) (omega (arith, h)))

  next : (z : ℕ) (zs : List ℕ) → y ∷ ys ≡ z ∷ zs → x + 1 ≤ z
  next z zs is =
      let same : y ≡ z = cc in
      let less : x < y = rise 0 (omega arith) in
      omega (arith, same, less)

not_in_later : (j a : ℕ) (xs : List ℕ) → Rising a xs → j < a → IsIn j xs ≡ false
not_in_later j a [] rise h = refl
not_in_later j a (x ∷ xs) rise h =
    let low = rise.0 in
    let e : (j == x) ≡ false = other_from j x (omega (arith, low, h)) in
    ap (λ b. b || IsIn j xs) e ∙ not_in_later j (x + 1) xs rise.1 (omega (arith, low, h))

-- rising lists of the same numbers are the same
rising_same : (a : ℕ) (xs ys : List ℕ) → Rising a xs → Rising a ys → ((j : ℕ) → IsIn j xs ≡ IsIn j ys) → xs ≡ ys
rising_same a [] [] left right alike = refl
rising_same a [] (y ∷ ys) left right alike = let e : ◌≡◌ {A = Truth} false true = alike y ∙ ap (λ b. b || IsIn y ys) (same_number y) in cc
rising_same a (x ∷ xs) [] left right alike = let e : ◌≡◌ {A = Truth} false true = sym (alike x) ∙ ap (λ b. b || IsIn x xs) (same_number x) in cc
rising_same a (x ∷ xs) (y ∷ ys) left right alike = let rest = rising_same (x + 1) xs ys left.1 right_rest tails in λ i. first i ∷ rest i where
  not_less : (u v : ℕ) (us vs : List ℕ) → Rising (v + 1) vs → IsIn u (u ∷ us) ≡ IsIn u (v ∷ vs) → u < v → ⊥
  not_less u v us vs rise e less =
      let in_first : IsIn u (u ∷ us) ≡ true = ap (λ b. b || IsIn u us) (same_number u) in
      let not_second : IsIn u (v ∷ vs) ≡ false = ap (λ b. b || IsIn u vs) (other_from u v less) ∙ not_in_later u (v + 1) vs rise (omega (arith, less)) in
      let both : ◌≡◌ {A = Truth} true false = sym in_first ∙ e ∙ not_second in
      cc

  first : x ≡ y
  first = by_order (nat_lt x y) refl (nat_lt y x) refl where
    by_order : (b : Truth) → nat_lt x y ≡ b → (d : Truth) → nat_lt y x ≡ d → x ≡ y
    by_order true h d g = absurd (not_less x y xs ys right.1 (alike x) (ltb-true x y h))
    by_order false h true g = absurd (not_less y x ys xs left.1 (sym (alike y)) (ltb-true y x g))
    by_order false h false g = let low = ltb-false x y h in let high = ltb-false y x g in omega (arith, low, high)

  right_rest : Rising (x + 1) ys
  right_rest = subst (λ (z : ℕ). Rising (z + 1) ys) (sym first) right.1

  tails : (j : ℕ) → IsIn j xs ≡ IsIn j ys
  tails j = by_head (j == x) refl where
    by_head : (b : Truth) → (j == x) ≡ b → IsIn j xs ≡ IsIn j ys
    by_head true h =
        let same : j ≡ x = same_from j x h in
        not_in_later j (x + 1) xs left.1 (omega (arith, same)) ∙ sym (not_in_later j (x + 1) ys right_rest (omega (arith, same)))
    by_head false h = sym (ap (λ b. b || IsIn j xs) h) ∙ alike j ∙ ap (λ b. b || IsIn j ys) (ap (λ (z : ℕ). j == z) (sym first) ∙ h)

pub in_filter : (test : ℕ → Truth) (j : ℕ) (xs : List ℕ) → IsIn j (filter test xs) ≡ (test j && IsIn j xs)
in_filter test j [] = none (test j) where
  none : (b : Truth) → false ≡ (b && false)
  none true = refl
  none false = refl
in_filter test j (x ∷ xs) = go (in_filter test j xs) (test x) refl (j == x) refl (test j) refl where
  go : IsIn j (filter test xs) ≡ (test j && IsIn j xs) → (b : Truth) → test x ≡ b → (d : Truth) → (j == x) ≡ d → (e : Truth) → test j ≡ e → IsIn j (cond b (x ∷ filter test xs) (filter test xs)) ≡ (test j && ((j == x) || IsIn j xs))
  go rest true passes true here true own = rw (here, own) refl
  go rest true passes true here false own = let same : j ≡ x = same_from j x here in let both : ◌≡◌ {A = Truth} false true = sym own ∙ ap test same ∙ passes in cc
  go rest false fails true here true own = let same : j ≡ x = same_from j x here in let both : ◌≡◌ {A = Truth} true false = sym own ∙ ap test same ∙ fails in cc
  go rest false fails true here false own = rest ∙ ap (λ b. b && IsIn j xs) own ∙ sym (ap (λ b. b && ((j == x) || IsIn j xs)) own)
  go rest true passes false here e own = ap (λ b. b || IsIn j (filter test xs)) here ∙ rest ∙ sym (ap (λ b. test j && (b || IsIn j xs)) here)
  go rest false fails false here e own = rest ∙ sym (ap (λ b. test j && (b || IsIn j xs)) here)

is_in_at : (xs : List ℕ) (j k : ℕ) → k < length xs → slice_index_or xs k j ≡ j → IsIn j xs ≡ true
is_in_at [] j k below is = absurd (omega (arith, below))
is_in_at (x ∷ xs) j zero below is = let same : j ≡ x = sym is in ap (λ b. b || IsIn j xs) (ap (λ (z : ℕ). j == z) (sym same) ∙ same_number j)
is_in_at (x ∷ xs) j (suc k) below is = let rest = is_in_at xs j k (omega (arith, below)) is in ap (λ b. (j == x) || b) rest ∙ either (j == x) where
  either : (b : Truth) → (b || true) ≡ true
  either true = refl
  either false = refl

-- the candidates that take an action are its receivers
pub receivers_among : (composition : List Instance) (action : Named) (sender : ℕ) (found : List ℕ) → IsStrictlyIncreasing found → ((j : ℕ) → inputs composition j action ≡ true → Contains found j) → filter (receives composition sender action) found ≡ receivers_of composition action sender
receivers_among composition action sender found rise all =
    rising_same 0 (filter test found) (receivers_of composition action sender) (rising_from 0 (filter test found) (IsStrictlyIncreasing-filter test found rise) (λ y ys is. omega arith)) (receivers_rise composition action sender) alike where
      test : ℕ → Truth
      test = receives composition sender action

      alike : (j : ℕ) → IsIn j (filter test found) ≡ IsIn j (receivers_of composition action sender)
      alike j = in_filter test j found ∙ go (test j) refl ∙ sym (receivers_all composition action sender j) where
        go : (b : Truth) → test j ≡ b → (test j && IsIn j found) ≡ test j
        go true h =
            let takes = both_true (not (j == sender)) (inputs composition j action) h in
            let there = all j takes.1 in
            ap (λ b. test j && b) (is_in_at found j there.0 there.1 there.2) ∙ ap (λ b. b && true) h ∙ sym h
        go false h = ap (λ b. b && IsIn j found) h ∙ sym h

has_kind : (composition : List Instance) (action : Named) (j : ℕ) → is_some (kind_of composition j action) ≡ acts composition j action
has_kind composition action j = go (inputs composition j action) (outputs composition j action) (internals composition j action) where
  go : (input output internal : Truth) → is_some (if input then Some Input else if output then Some Output else if internal then Some Internal else None) ≡ (input || output || internal)
  go true output internal = refl
  go false true internal = refl
  go false false true = refl
  go false false false = refl

-- the candidates that have an action are all that have it
pub takers_among : (composition : List Instance) (action : Named) (found : List ℕ) → IsStrictlyIncreasing found → ((j : ℕ) → acts composition j action ≡ true → Contains found j) → filter (λ j. is_some (kind_of composition j action)) found ≡ takers_of composition action
takers_among composition action found rise all =
    filter_agree (λ j. is_some (kind_of composition j action)) test (has_kind composition action) found
    ∙ rising_same 0 (filter test found) (takers_of composition action) (rising_from 0 (filter test found) (IsStrictlyIncreasing-filter test found rise) (λ y ys is. omega arith)) (takers_rise composition action) alike where
      test : ℕ → Truth
      test j = acts composition j action

      alike : (j : ℕ) → IsIn j (filter test found) ≡ IsIn j (takers_of composition action)
      alike j = in_filter test j found ∙ go (test j) refl ∙ sym (takers_all composition action j) where
        go : (b : Truth) → test j ≡ b → (test j && IsIn j found) ≡ test j
        go true h =
            let there = all j h in
            ap (λ b. test j && b) (is_in_at found j there.0 there.1 there.2) ∙ ap (λ b. b && true) h ∙ sym h
        go false h = ap (λ b. b && IsIn j found) h ∙ sym h

-- what follows of a value, if there is one, from two facts of it
pub if_both : {X : Type 0} (value : Option X) (P Q R : X → Type 0) → IfSome value P → IfSome value Q → ((x : X) → P x → Q x → R x) → IfSome value R
if_both None P Q R first second both = first
if_both (Some x) P Q R first second both = both x first second
