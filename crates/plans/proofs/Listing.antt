-- What is enabled is listed once, and nothing else is listed.
use Rattle.std.specs.Prelude.{◌≡◌, ◌≢◌, ℕ, zero, suc, ◌+◌, ◌-◌, ◌%◌, ◌^◌, ◌<◌, ◌≤◌, ℤ, pos, ◌+ℤ◌, ◌-ℤ◌, int_le, int_lt, nat_le, nat_lt, unsigned_abs, Bool, true, false, ◌==◌, cond, if◌then◌else◌, List, [], ◌∷◌, ◌++◌, map, filter, flat_map, length, get_or, Contains, Option, Some, None, slice_get, refl}
use Rattle.std.proofs.Common.{arith, ap, ◌∙◌, sym, subst, inl, inr, ◌⊎◌}
use Rattle.std.proofs.lemmas.Bool.{and_parts, eqb-true, eqb-false, leb-true, ltb-true, cases_lt}
use Rattle.std.proofs.lemmas.Int.{ints}
use Rattle.std.proofs.lemmas.List.{append_assoc, map-append}
use Rattle.std.proofs.lemmas.List.Concat.{flat_map-append}
use Rattle.std.proofs.lemmas.List.Elements.{filter-append}
use Rattle.terms.specs.Datum.{Datum}
use Rattle.terms.specs.Named.{Named}
use Rattle.terms.specs.Meaning.{slot}
use Rattle.terms.specs.Same.{scalar_is}
use Rattle.terms.specs.Shapes.{members, members_from, member, number_of, place_of}
use Rattle.terms.specs.declared.scalar.Scalar.{Scalar}
use Rattle.terms.specs.declared.scalar.Scalar.TheVariants as scalar
use Rattle.terms.specs.declared.scalar.Listed.{Listed}
use Rattle.terms.specs.declared.scalar.Listed.TheVariants as listed
use Rattle.io_automata.specs.declared.automaton.Kind.TheVariants.{Input}
use Rattle.io_automata.specs.declared.automaton.Param.{Param}
use Rattle.io_automata.specs.declared.automaton.Param.TheVariants.{Const, Member, Between, Whole}
use Rattle.io_automata.specs.Automata.{Transition, Instance, component_at}
use Rattle.io_automata.specs.Each.{Each, each_append, each_filter, each_from, each_weaker, each_map, each_flat_map, each_stands, times_in_task}
use Rattle.io_automata.specs.Enabling.{IsEnabled, IsOnce}
use Rattle.io_automata.specs.Outcomes.{named, tuples, enabled_by, enabled_at, enabled_of, task_of}
use Rattle.io_automata.specs.Signatures.{is_member, fits_one, fits, has, same_kind}
use Rattle.io_automata.specs.Steps.{holds}
use Rattle.io_automata.specs.TurnSteps.{IsMade, entry_makes, wraps_not, local_from, complete_at}
use Rattle.io_automata.specs.WellFormed.{IsWellFormed, is_complete, is_listed, times, share}

-- ---- lists in which something stands once

module _ {A : Type 0} where
  each_all : (P : A → Type 0) (xs : List A) → ((x : A) → P x) → Each P xs
  each_all P xs all = each_from P xs (λ k x found. all x)

  -- what holds of each holds of whatever is among them
  contained_at : (P : A → Type 0) (xs : List A) (k : ℕ) (x : A) → Each P xs → k < length xs → get_or xs k x ≡ x → P x
  contained_at P [] k x all below at = absurd (omega arith)
  contained_at P (y ∷ ys) zero x all below at = subst P at all.0
  contained_at P (y ∷ ys) (suc k) x all below at = contained_at P ys k x all.1 (omega arith) at

  contained : (P : A → Type 0) (xs : List A) (x : A) → Each P xs → Contains xs x → P x
  contained P xs x all is = contained_at P xs is.0 x all is.1 is.2

  got : (xs : List A) (k : ℕ) (x : A) → slice_get xs k ≡ Some x → (k < length xs) × (get_or xs k x ≡ x)
  got [] k x found = absurd (cc)
  got (y ∷ ys) zero x found = (omega arith, cc)
  got (y ∷ ys) (suc k) x found = let later = got ys k x found in (omega (arith, later.0), later.1)

  each_itself : (xs : List A) → Each (Contains xs) xs
  each_itself xs = each_from (Contains xs) xs (λ k x found. let at = got xs k x found in (k, at.0, at.1))

  once_later : (x y : A) (xs : List A) → y ≢ x → IsOnce x xs → IsOnce x (y ∷ xs)
  once_later x y xs other once = record {
    before = y ∷ once.before;
    after = once.after;
    split = ap (λ l. y ∷ l) once.split;
    none_before = (other, once.none_before);
    none_after = once.none_after;
  }

  once_left : (x : A) (xs ys : List A) → IsOnce x xs → Each (λ (y : A). y ≢ x) ys → IsOnce x (xs ++ ys)
  once_left x xs ys once none = record {
    before = once.before;
    after = once.after ++ ys;
    split = ap (λ l. l ++ ys) once.split ∙ append_assoc once.before (x ∷ once.after) ys;
    none_before = once.none_before;
    none_after = each_append (λ (y : A). y ≢ x) once.after ys once.none_after none;
  }

  once_right : (x : A) (xs ys : List A) → Each (λ (y : A). y ≢ x) xs → IsOnce x ys → IsOnce x (xs ++ ys)
  once_right x xs ys none once = record {
    before = xs ++ once.before;
    after = once.after;
    split = ap (λ l. xs ++ l) once.split ∙ sym (append_assoc xs once.before (x ∷ once.after));
    none_before = each_append (λ (y : A). y ≢ x) xs once.before none once.none_before;
    none_after = once.none_after;
  }

  none_kept : (test : A → Bool) (x : A) (xs : List A) → Each (λ (y : A). y ≢ x) xs → Each (λ (y : A). y ≢ x) (filter test xs)
  none_kept test x xs none = each_filter (λ (y : A). y ≢ x) test xs (each_weaker (λ (y : A). y ≢ x) (λ (y : A). test y ≡ true → y ≢ x) xs (λ y other passes. other) none)

  once_kept : (test : A → Bool) (x : A) (xs : List A) → test x ≡ true → IsOnce x xs → IsOnce x (filter test xs)
  once_kept test x xs passes once = record {
    before = filter test once.before;
    after = filter test once.after;
    split = ap (filter test) once.split ∙ filter-append test once.before (x ∷ once.after) ∙ ap (λ b. filter test once.before ++ cond b (x ∷ filter test once.after) (filter test once.after)) passes;
    none_before = none_kept test x once.before once.none_before;
    none_after = none_kept test x once.after once.none_after;
  }

  head_same : (x y : A) (xs ys : List A) → x ∷ xs ≡ y ∷ ys → x ≡ y
  head_same x y xs ys e = cc

  tail_same : (x : A) (xs ys : List A) → x ∷ xs ≡ x ∷ ys → xs ≡ ys
  tail_same x xs ys e = cc

module _ {A B : Type 0} where
  none_made : (f : A → B) (x : A) (xs : List A) → ((a b : A) → f a ≡ f b → a ≡ b) → Each (λ (y : A). y ≢ x) xs → Each (λ (y : B). y ≢ f x) (map f xs)
  none_made f x xs one none = each_map (λ (y : B). y ≢ f x) f xs (each_weaker (λ (y : A). y ≢ x) (λ (y : A). f y ≢ f x) xs (λ y other same. other (one y x same)) none)

  -- a map that makes different things of different ones
  once_made : (f : A → B) (x : A) (xs : List A) → ((a b : A) → f a ≡ f b → a ≡ b) → IsOnce x xs → IsOnce (f x) (map f xs)
  once_made f x xs one once = record {
    before = map f once.before;
    after = map f once.after;
    split = ap (map f) once.split ∙ map-append f once.before (x ∷ once.after);
    none_before = none_made f x once.before one once.none_before;
    none_after = none_made f x once.after one once.none_after;
  }

  none_joined : (f : A → List B) (x : A) (y : B) (xs : List A) → ((z : A) → z ≢ x → Each (λ (w : B). w ≢ y) (f z)) → Each (λ (z : A). z ≢ x) xs → Each (λ (w : B). w ≢ y) (flat_map f xs)
  none_joined f x y xs others none = each_flat_map (λ (w : B). w ≢ y) f xs (each_weaker (λ (z : A). z ≢ x) (λ (z : A). Each (λ (w : B). w ≢ y) (f z)) xs others none)

  -- of lists that are joined, one has it once, and no other has it
  once_joined : (f : A → List B) (x : A) (y : B) (xs : List A) → IsOnce x xs → IsOnce y (f x) → ((z : A) → z ≢ x → Each (λ (w : B). w ≢ y) (f z)) → IsOnce y (flat_map f xs)
  once_joined f x y xs once own others =
      let parts : flat_map f xs ≡ flat_map f once.before ++ (f x ++ flat_map f once.after) = ap (flat_map f) once.split ∙ flat_map-append f once.before (x ∷ once.after) in
      subst (IsOnce y) (sym parts)
      (once_right y (flat_map f once.before) (f x ++ flat_map f once.after) (none_joined f x y once.before others once.none_before)
      (once_left y (f x) (flat_map f once.after) own (none_joined f x y once.after others once.none_after)))

-- ---- the members of a type

-- the value is at none of so many places from k on
none_from : (type : Listed) (value : Scalar) (k n : ℕ) → ((j : ℕ) → k ≤ j → j < k + n → member type j ≢ value) → Each (λ (m : Scalar). m ≢ value) (members_from type k n)
none_from type value k zero none = tt
none_from type value k (suc n) none = (none k (omega arith) (omega arith), none_from type value (suc k) n (λ j above below. none j (omega arith) (omega arith)))

-- it is at one of them
once_from : (type : Listed) (value : Scalar) (at k n : ℕ) → k ≤ at → at < k + n → member type at ≡ value → ((j : ℕ) → k ≤ j → j < k + n → member type j ≡ value → j ≡ at) → IsOnce value (members_from type k n)
once_from type value at k zero above below is one = absurd (omega arith)
once_from type value at k (suc n) above below is one = go (cases_lt k at) (λ up. once_from type value at (suc k) n (omega (arith, up)) (omega arith) is (λ j from to same. one j (omega arith) (omega arith) same)) where
  go : (k < at) ⊎ (at ≤ k) → (k < at → IsOnce value (members_from type (suc k) n)) → IsOnce value (members_from type k (suc n))
  go (inl up) rest = once_later value (member type k) (members_from type (suc k) n) (λ same. let e : k ≡ at = one k (omega arith) (omega arith) same in omega (arith, e, up)) (rest up)
  go (inr down) rest =
      let here : k ≡ at = omega (arith, above, down) in
      record {
        before = [];
        after = members_from type (suc k) n;
        split = ap (λ m. m ∷ members_from type (suc k) n) (ap (member type) here ∙ is);
        none_before = tt;
        none_after = none_from type value (suc k) n (λ j from to same. let e : j ≡ at = one j (omega arith) (omega arith) same in omega (arith, e, here, from));
      }

far : (low z : ℤ) → int_le low z ≡ true → low +ℤ pos (unsigned_abs (z -ℤ low)) ≡ z
far low z above = grind (arith, ints)

near : (low z : ℤ) (size : ℕ) → int_le low z ≡ true → int_lt z (low +ℤ pos size) ≡ true → unsigned_abs (z -ℤ low) < size
near low z size above below = grind (arith, ints)

same_place : (low z : ℤ) (j k : ℕ) → low +ℤ pos j ≡ z → low +ℤ pos k ≡ z → j ≡ k
same_place low z j k e f = omega (arith, ints)

number_at : (low z : ℤ) (size at : ℕ) → is_complete (listed.Range low size) ≡ true → at < size → low +ℤ pos at ≡ z → IsOnce (scalar.Int z) (members (listed.Range low size))
number_at low z size at complete below exact =
    once_from (listed.Range low size) (scalar.Int z) at 0 size (omega arith) (omega (arith, below)) (ap scalar.Int (wraps_not low size at complete below ∙ exact))
    (λ j from to same. same_place low z j at (sym (wraps_not low size j complete (omega (arith, to))) ∙ ap number_of same) exact)

within_room : (first size k : ℕ) → first + size ≤ 2 ^ 16 → k < size → (first + k) % 2 ^ 16 ≡ first + k
within_room first size k room below = omega arith

named_at : (first n size at : ℕ) → first + size ≤ 2 ^ 16 → at < size → first + at ≡ n → IsOnce (scalar.Member n) (members (listed.Enumeration first size))
named_at first n size at room below exact =
    once_from (listed.Enumeration first size) (scalar.Member n) at 0 size (omega arith) (omega (arith, below)) (ap scalar.Member (within_room first size at room below ∙ exact))
    (λ j from to same. let e : first + j ≡ n = sym (within_room first size j room (omega (arith, to))) ∙ ap place_of same in omega (arith, e, exact))

-- a type that has all its members has each once
member_once : (type : Listed) (value : Scalar) → is_complete type ≡ true → is_member type value ≡ true → IsOnce value (members type)
member_once listed.Bool (scalar.Int z) complete is = absurd (cc)
member_once listed.Bool (scalar.Bool false) complete is = record { before = []; after = scalar.Bool true ∷ []; split = refl; none_before = tt; none_after = ((λ same. cc), tt) }
member_once listed.Bool (scalar.Bool true) complete is = record { before = scalar.Bool false ∷ []; after = []; split = refl; none_before = ((λ same. cc), tt); none_after = tt }
member_once listed.Bool (scalar.Member n) complete is = absurd (cc)
member_once (listed.Range low size) (scalar.Int z) complete is =
    let parts = and_parts (int_le low z) (int_lt z (low +ℤ pos size)) is in
    number_at low z size (unsigned_abs (z -ℤ low)) complete (near low z size parts.0 parts.1) (far low z parts.0)
member_once (listed.Range low size) (scalar.Bool b) complete is = absurd (cc)
member_once (listed.Range low size) (scalar.Member n) complete is = absurd (cc)
member_once (listed.Enumeration first size) (scalar.Int z) complete is = absurd (cc)
member_once (listed.Enumeration first size) (scalar.Bool b) complete is = absurd (cc)
member_once (listed.Enumeration first size) (scalar.Member n) complete is =
    let parts = and_parts (nat_le first n) (nat_lt n (first + size)) is in
    let least : first ≤ n = leb-true first n parts.0 in
    let most : n < first + size = ltb-true n (first + size) parts.1 in
    named_at first n size (n - first) (leb-true (first + size) (2 ^ 16) complete) (omega (arith, least, most)) (omega (arith, least))

-- ---- the tuples of an entry

-- a parameter whose values are all listed
abbrev AreListed : Param → Type 0
AreListed (Const n) = Unit {0}
AreListed (Member members) = is_complete members ≡ true
AreListed (Between low high) = ⊥
AreListed Whole = ⊥

other_tuples : (other value : Scalar) (args : List Scalar) (rest : List (List Scalar)) → other ≢ value → Each (λ (w : List Scalar). w ≢ (value ∷ args)) (map (λ tuple. other ∷ tuple) rest)
other_tuples other value args rest differs =
    each_map (λ (w : List Scalar). w ≢ (value ∷ args)) (λ (tuple : List Scalar). other ∷ tuple) rest
    (each_all (λ (tuple : List Scalar). (other ∷ tuple) ≢ (value ∷ args)) rest (λ tuple same. differs (head_same other value tuple args same)))

-- a tuple that fits is listed once
tuple_once : (formals : List Scalar) (params : List Param) (args : List Scalar) → Each AreListed params → fits formals params args ≡ true → IsOnce args (tuples formals params)
tuple_once formals [] [] all fit = record { before = []; after = []; split = refl; none_before = tt; none_after = tt }
tuple_once formals [] (value ∷ args) all fit = absurd (cc)
tuple_once formals (Const n ∷ params) [] all fit = absurd (cc)
tuple_once formals (Const n ∷ params) (value ∷ args) all fit =
    let parts = and_parts (fits_one formals (Const n) value) (fits formals params args) fit in
    let same : slot formals n ≡ value = scalar_is (slot formals n) value parts.0 in
    subst (λ (v : Scalar). IsOnce (v ∷ args) (tuples formals (Const n ∷ params))) same
    (once_made (λ tuple. slot formals n ∷ tuple) args (tuples formals params) (tail_same (slot formals n)) (tuple_once formals params args all.1 parts.1))
tuple_once formals (Member type ∷ params) [] all fit = absurd (cc)
tuple_once formals (Member type ∷ params) (value ∷ args) all fit =
    let parts = and_parts (fits_one formals (Member type) value) (fits formals params args) fit in
    once_joined (λ other. map (λ tuple. other ∷ tuple) (tuples formals params)) value (value ∷ args) (members type)
    (member_once type value all.0 parts.0)
    (once_made (λ tuple. value ∷ tuple) args (tuples formals params) (tail_same value) (tuple_once formals params args all.1 parts.1))
    (λ other differs. other_tuples other value args (tuples formals params) differs)
tuple_once formals (Between low high ∷ params) args all fit = absurd all.0
tuple_once formals (Whole ∷ params) args all fit = absurd all.0

-- ---- the actions of an entry

same_args : (name : ℕ) (a b : List Scalar) → named name a ≡ named name b → a ≡ b
same_args name a b e = ap (λ (x : Named). x.args) e

entry_once : (formals : List Scalar) (state : List Datum) (entry : Transition) (action : Named) → Each AreListed entry.params → has formals action entry ≡ true → holds entry formals state action.args ≡ true → IsOnce action (enabled_by formals state (Some entry))
entry_once formals state entry action all had holding =
    let parts = and_parts (entry.name == action.name) (fits formals entry.params action.args) had in
    let same : named entry.name action.args ≡ action = ap (λ name. named name action.args) (eqb-true entry.name action.name parts.0) in
    subst (λ (a : Named). IsOnce a (enabled_by formals state (Some entry))) same
    (once_made (named entry.name) action.args (filter (holds entry formals state) (tuples formals entry.params)) (same_args entry.name)
    (once_kept (holds entry formals state) action.args (tuples formals entry.params) holding (tuple_once formals entry.params action.args all parts.1)))

-- ---- the places of a task

no_more : (b : Bool) (n : ℕ) → (if b then 1 else 0) + n ≡ 0 → (b ≡ false) × (n ≡ 0)
no_more true n none = absurd (omega arith)
no_more false n none = (refl, omega arith)

one_more : (b : Bool) (n : ℕ) → (if b then 1 else 0) + n ≡ 1 → ((b ≡ true) × (n ≡ 0)) ⊎ ((b ≡ false) × (n ≡ 1))
one_more true n one = inl (refl, omega arith)
one_more false n one = inr (refl, omega arith)

none_there : (n : ℕ) (xs : List ℕ) → times n xs ≡ 0 → Each (λ (m : ℕ). m ≢ n) xs
none_there n [] none = tt
none_there n (x ∷ xs) none = let parts = no_more (x == n) (times n xs) none in (eqb-false x n parts.0, none_there n xs parts.1)

once_there : (n : ℕ) (xs : List ℕ) → times n xs ≡ 1 → IsOnce n xs
once_there n [] one = absurd (omega arith)
once_there n (x ∷ xs) one = go (one_more (x == n) (times n xs) one) (once_there n xs) where
  go : ((x == n) ≡ true) × (times n xs ≡ 0) ⊎ ((x == n) ≡ false) × (times n xs ≡ 1) → (times n xs ≡ 1 → IsOnce n xs) → IsOnce n (x ∷ xs)
  go (inl here) rest = record { before = []; after = xs; split = ap (λ m. m ∷ xs) (eqb-true x n here.0); none_before = tt; none_after = none_there n xs here.1 }
  go (inr later) rest = once_later n x xs (eqb-false x n later.0) (rest later.1)

at_most : (b : Bool) → (if b then 0 else 1) ≤ 1
at_most true = omega arith
at_most false = omega arith

share_most : (found : Option Transition) → share found ≤ 1
share_most None = omega arith
share_most (Some entry) = at_most (same_kind Input entry.kind)

module _ (composition : List Instance) (formed : IsWellFormed composition) where
  stands_there : (i task place : ℕ) → Contains (task_of composition i task) place → 1 ≤ times place (task_of composition i task)
  stands_there i task place stands = contained (λ n. 1 ≤ times n (task_of composition i task)) (task_of composition i task) place (each_stands (task_of composition i task)) stands

  -- the place of an entry stands once in its task
  place_once : (i task place : ℕ) → Contains (task_of composition i task) place → IsOnce place (task_of composition i task)
  place_once i task place stands =
      let some = stands_there i task place stands in
      let within = times_in_task place (component_at composition i).tasks task in
      let all = formed.tasks i place in
      let most = share_most (slice_get (component_at composition i).entries place) in
      once_there place (task_of composition i task) (omega (arith, some, within, all, most))

  -- and the entry is locally controlled
  local_there : (i task place : ℕ) (entry : Transition) → Contains (task_of composition i task) place → slice_get (component_at composition i).entries place ≡ Some entry → same_kind Input entry.kind ≡ false
  local_there i task place entry stands at =
      let some = stands_there i task place stands in
      let within = times_in_task place (component_at composition i).tasks task in
      let all = formed.tasks i place in
      let shared : 1 ≤ share (slice_get (component_at composition i).entries place) = omega (arith, some, within, all) in
      local_from (same_kind Input entry.kind) (subst (λ (found : Option Transition). 1 ≤ share found) at shared)

  listed_there : (i place : ℕ) (entry : Transition) → slice_get (component_at composition i).entries place ≡ Some entry → same_kind Input entry.kind ≡ false → Each AreListed entry.params
  listed_there i place entry at local = each_from AreListed entry.params (λ k param found. go param k found (formed.listed i place k entry param at local found)) where
    go : (param : Param) (k : ℕ) → slice_get entry.params k ≡ Some param → is_listed param ≡ true → AreListed param
    go (Const n) k found is = tt
    go (Member members) k found is = formed.complete i place k entry members at found
    go (Between low high) k found is = cc
    go Whole k found is = cc

  -- what the entry at a place makes, if there is one
  place_makes : (i task : ℕ) (state : List Datum) (place : ℕ) → Contains (task_of composition i task) place → Each (IsEnabled composition i task state) (enabled_at composition i state place)
  place_makes i task state place stands = go (slice_get (component_at composition i).entries place) refl where
    go : (found : Option Transition) → slice_get (component_at composition i).entries place ≡ found → Each (IsEnabled composition i task state) (enabled_by (component_at composition i).formals state found)
    go None is = tt
    go (Some entry) is =
        each_weaker (IsMade (component_at composition i).formals state entry) (IsEnabled composition i task state) (enabled_by (component_at composition i).formals state (Some entry))
        (λ action made. record { place = place; entry = entry; stands = stands; at = is; has = made.has; holding = made.holding })
        (entry_makes (component_at composition i).formals state entry (complete_at composition formed i place entry is))

  -- no other entry makes the action
  other_place : (i task : ℕ) (state : List Datum) (action : Named) (enabled : IsEnabled composition i task state action) (place : ℕ) → place ≢ enabled.place → Each (λ (a : Named). a ≢ action) (enabled_at composition i state place)
  other_place i task state action enabled place differs = go (slice_get (component_at composition i).entries place) refl where
    go : (found : Option Transition) → slice_get (component_at composition i).entries place ≡ found → Each (λ (a : Named). a ≢ action) (enabled_by (component_at composition i).formals state found)
    go None is = tt
    go (Some entry) is =
        each_weaker (IsMade (component_at composition i).formals state entry) (λ (a : Named). a ≢ action) (enabled_by (component_at composition i).formals state (Some entry))
        (λ a made same. differs (formed.single i place enabled.place entry enabled.entry action is enabled.at (subst (λ (x : Named). has (component_at composition i).formals x entry ≡ true) same made.has) enabled.has))
        (entry_makes (component_at composition i).formals state entry (complete_at composition formed i place entry is))

  own_place : (i task : ℕ) (state : List Datum) (action : Named) (enabled : IsEnabled composition i task state action) → IsOnce action (enabled_at composition i state enabled.place)
  own_place i task state action enabled =
      let local = local_there i task enabled.place enabled.entry enabled.stands enabled.at in
      subst (λ (found : Option Transition). IsOnce action (enabled_by (component_at composition i).formals state found)) (sym enabled.at)
      (entry_once (component_at composition i).formals state enabled.entry action (listed_there i enabled.place enabled.entry enabled.at local) enabled.has enabled.holding)

  -- what is enabled is listed once
  pub once : (i task : ℕ) (state : List Datum) (action : Named) → IsEnabled composition i task state action → IsOnce action (enabled_of composition i task state)
  once i task state action enabled =
      once_joined (enabled_at composition i state) enabled.place action (task_of composition i task)
      (place_once i task enabled.place enabled.stands) (own_place i task state action enabled) (other_place i task state action enabled)

  -- what is listed is enabled
  pub only : (i task : ℕ) (state : List Datum) (action : Named) → Contains (enabled_of composition i task state) action → IsEnabled composition i task state action
  only i task state action is =
      contained (IsEnabled composition i task state) (enabled_of composition i task state) action
      (each_flat_map (IsEnabled composition i task state) (enabled_at composition i state) (task_of composition i task)
      (each_weaker (Contains (task_of composition i task)) (λ place. Each (IsEnabled composition i task state) (enabled_at composition i state place)) (task_of composition i task)
      (λ place stands. place_makes i task state place stands) (each_itself (task_of composition i task))))
      is
