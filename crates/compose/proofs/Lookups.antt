-- Lists of entries, by name.
use Rattle.std.proofs.Common.{◌≡◌, ◌≤◌, ◌⊎◌, ℕ, zero, suc, ◌+◌, ◌<◌, Bool, true, false, not, ◌&&◌, cond, nat_eq, List, [], ◌∷◌, ◌++◌, length, drop, take, map, filter, get_or, slice_get, slice_set, Some, inl, inr, refl, sym, ◌∙◌, ap, subst, arith}
use Rattle.std.proofs.lemmas.Bool.{true≢false}
use Rattle.std.proofs.lemmas.Bool.Decides.{nat_tests}
use Rattle.std.proofs.lemmas.List.{append-nil}
use Rattle.std.proofs.lemmas.List.Elements.{filter-append}
use Rattle.std.specs.declared.vec.Vec.{Vec}
use Rattle.io_automata.specs.Signatures.{fits, same_kind}
use Rattle.io_automata.specs.declared.automaton.Kind.TheVariants.{Input, Output, Internal}
use Rattle.compose.specs.Rules.{is_barred, suits_all, suits_inputs}
use Rattle.compose.specs.declared.compatibility.rule.Rule.{Rule}
use Rattle.compose.specs.declared.compatibility.rule.Rule.TheVariants.{Own}
use Rattle.compose.specs.declared.compatibility.rule.Rule.TheVariants as rule
use Rattle.io_automata.specs.declared.automaton.Kind.{Kind}
use Rattle.compose.specs.declared.compatibility.standing.Standing.{Standing}
use Rattle.compose.specs.Standings.{Stood, stood, seen_at, is_of, is_input_of, is_control_of, Has, Pair, Clash, ClashesAsInput, IsFirstPair}
use Rattle.compose.proofs.ListPairs.{has_either, has_filtered, has_of_filtered, has_weaker, pair_last}

-- ---- lists and their places

-- what is left of a list begins with its next item
pub left_at : {X : Type 0} (xs : List X) (n : ℕ) (x : X) → x ≡ get_or xs n x → n < length xs → drop n xs ≡ x ∷ drop (n + 1) xs
left_at [] n x e low = absurd (omega (arith, low))
left_at (y ∷ xs) zero x e low = ap (λ z. z ∷ xs) (sym e)
left_at (y ∷ xs) (suc n) x e low =
    let next : suc n + 1 ≡ suc (n + 1) = omega arith in
    left_at xs n x e (omega (arith, low)) ∙ ap (λ k. x ∷ drop k (y ∷ xs)) (sym next)

-- and what was passed ends with it
pub taken_at : {X : Type 0} (xs : List X) (n : ℕ) (x : X) → x ≡ get_or xs n x → n < length xs → take (n + 1) xs ≡ take n xs ++ x ∷ []
taken_at [] n x e low = absurd (omega (arith, low))
taken_at (y ∷ xs) zero x e low = ap (λ z. z ∷ []) (sym e)
taken_at (y ∷ xs) (suc n) x e low =
    let next : suc n + 1 ≡ suc (n + 1) = omega arith in
    ap (λ k. take k (y ∷ xs)) next ∙ ap (λ ys. y ∷ ys) (taken_at xs n x e (omega (arith, low)))

pub taken_all : {X : Type 0} (xs : List X) (n : ℕ) → length xs ≤ n → take n xs ≡ xs
taken_all [] zero h = refl
taken_all [] (suc n) h = refl
taken_all (x ∷ xs) zero h = absurd (omega (arith, h))
taken_all (x ∷ xs) (suc n) h = ap (λ ys. x ∷ ys) (taken_all xs n (omega (arith, h)))

-- a list, cut at an item
pub cut_at : (xs : List Standing) (n : ℕ) (x : Standing) → x ≡ get_or xs n x → n < length xs → map stood xs ≡ map stood (take n xs) ++ stood x ∷ map stood (drop (n + 1) xs)
cut_at [] n x e low = absurd (omega (arith, low))
cut_at (y ∷ xs) zero x e low = ap (λ z. stood z ∷ map stood xs) (sym e)
cut_at (y ∷ xs) (suc n) x e low =
    let next : suc n + 1 ≡ suc (n + 1) = omega arith in
    ap (λ ys. stood y ∷ ys) (cut_at xs n x e (omega (arith, low))) ∙ ap (λ k. stood y ∷ (map stood (take n xs) ++ stood x ∷ map stood (drop k (y ∷ xs)))) (sym next)

pub has_at : (P : Stood → Type 0) (xs : List Standing) (n : ℕ) (x : Standing) → x ≡ get_or xs n x → n < length xs → P (stood x) → Has P (map stood xs)
has_at P [] n x e low h = absurd (omega (arith, low))
has_at P (y ∷ xs) zero x e low h = inl (subst P (ap stood e) h)
has_at P (y ∷ xs) (suc n) x e low h = inr (has_at P xs n x e (omega (arith, low)) h)

-- one of the rest is another than one that isn't
pub has_rest : (P : Stood → Type 0) (x : Stood) (xs : List Stood) → (P x → ⊥) → Has P (x ∷ xs) → Has P xs
has_rest P x xs f (inl h) = absurd (f h)
has_rest P x xs f (inr h) = h

mapped_last : (xs : List Standing) (x : Standing) → map stood (xs ++ x ∷ []) ≡ map stood xs ++ stood x ∷ []
mapped_last [] x = refl
mapped_last (y ∷ xs) x = ap (λ ys. stood y ∷ ys) (mapped_last xs x)

-- ---- the lists of names

-- one more list, with nothing in it
pub room_made : {A : Type 0} (xs : List (Vec Standing A)) (v : Vec Standing A) → v.items ≡ [] → (n : ℕ) → seen_at (xs ++ v ∷ []) n ≡ seen_at xs n
room_made [] v e zero = ap (map stood) e
room_made [] v e (suc n) = refl
room_made (x ∷ xs) v e zero = refl
room_made (x ∷ xs) v e (suc n) = room_made xs v e n

other_zero : (n : ℕ) → nat_eq zero (suc n) ≡ false
other_zero n = grind (arith, nat_tests)

zero_other : (n : ℕ) → nat_eq (suc n) zero ≡ false
zero_other n = grind (arith, nat_tests)

same_next : (k n : ℕ) → nat_eq (suc k) (suc n) ≡ nat_eq k n
same_next k n = grind (arith, nat_tests)

unadded : (xs : List Stood) (s : Stood) (b : Bool) → b ≡ false → xs ≡ xs ++ cond b (s ∷ []) []
unadded xs s b e = sym (append-nil xs) ∙ ap (λ t. xs ++ cond t (s ∷ []) []) (sym e)

-- an entry more in the list of its name
pub added : {A : Type 0} (xs : List (Vec Standing A)) (k : ℕ) (v w : Vec Standing A) (s : Stood) → slice_get xs k ≡ Some v → map stood w.items ≡ map stood v.items ++ s ∷ [] → (n : ℕ) → seen_at (slice_set xs k w) n ≡ seen_at xs n ++ cond (nat_eq k n) (s ∷ []) []
added [] k v w s got e n = cc
added (x ∷ xs) zero v w s got e zero = let same : x ≡ v = cc in e ∙ ap (λ (u : Vec Standing _). map stood u.items ++ s ∷ []) (sym same)
added (x ∷ xs) zero v w s got e (suc n) = unadded (seen_at xs n) s (nat_eq zero (suc n)) (other_zero n)
added (x ∷ xs) (suc k) v w s got e zero = unadded (map stood x.items) s (nat_eq (suc k) zero) (zero_other k)
added (x ∷ xs) (suc k) v w s got e (suc n) = added xs k v w s got e n ∙ ap (λ b. seen_at xs n ++ cond b (s ∷ []) []) (sym (same_next k n))

pub added_to : {A : Type 0} (xs : List (Vec Standing A)) (k : ℕ) (v w : Vec Standing A) (x : Standing) → slice_get xs k ≡ Some v → w.items ≡ v.items ++ x ∷ [] → (n : ℕ) → seen_at (slice_set xs k w) n ≡ seen_at xs n ++ cond (nat_eq k n) (stood x ∷ []) []
added_to xs k v w x got e n = added xs k v w (stood x) got (ap (map stood) e ∙ mapped_last v.items x) n

-- ---- the search

both_left : (a b : Bool) → (a && b) ≡ true → a ≡ true
both_left true b h = refl
both_left false b h = cc

equal_names : (a b c : ℕ) → nat_eq a c ≡ true → nat_eq b c ≡ true → nat_eq a b ≡ true
equal_names a b c h g = grind (arith, nat_tests)

-- what clashes has one name
pub one_name : (rule : Rule) (a b : Stood) → Clash rule a b → is_of b.entry.name a ≡ true
one_name rule a b c =
    let action = c.1.0 in
    equal_names a.entry.name b.entry.name action.name
    (both_left (nat_eq a.entry.name action.name) (fits a.formals a.entry.params action.args) c.1.1.0)
    (both_left (nat_eq b.entry.name action.name) (fits b.formals b.entry.params action.args) c.1.1.1)

module _ (rule : Rule) (all : List Standing) (i : ℕ) (x : Standing) (is : x ≡ get_or all i x) (low : i < length all) where
  so_far : map stood (take (i + 1) all) ≡ map stood (take i all) ++ stood x ∷ []
  so_far = ap (map stood) (taken_at all i x is low) ∙ mapped_last (take i all) x

  -- the lists of names with one more entry
  pub seen_next : (test : ℕ → Stood → Bool) (n : ℕ) (old new : List Stood) → old ≡ filter (test n) (map stood (take i all)) → new ≡ old ++ cond (test n (stood x)) (stood x ∷ []) [] → new ≡ filter (test n) (map stood (take (i + 1) all))
  seen_next test n old new was e = e ∙ ap (λ xs. xs ++ cond (test n (stood x)) (stood x ∷ []) []) was ∙ sym (ap (filter (test n)) so_far ∙ filter-append (test n) (map stood (take i all)) (stood x ∷ []))

  -- no two of the entries so far clash, where the next one clashes with none of its name
  pub free_next : (inputs controls : List Stood) → inputs ≡ filter (is_input_of (stood x).entry.name) (map stood (take i all)) → controls ≡ filter (is_control_of (stood x).entry.name) (map stood (take i all)) → (Pair (Clash rule) (map stood (take i all)) → ⊥) → (Has (λ a. Clash rule a (stood x)) controls → ⊥) → (Has (λ a. ClashesAsInput rule a (stood x)) inputs → ⊥) → Pair (Clash rule) (map stood (take (i + 1) all)) → ⊥
  free_next inputs controls inputs_are controls_are free none none_input pair = by (pair_last (Clash rule) (stood x) (map stood (take i all)) (subst (Pair (Clash rule)) so_far pair))
    where
      sorted : (a : Stood) → Clash rule a (stood x) → ClashesAsInput rule a (stood x) ⊎ ((same_kind Input a.entry.kind ≡ false) × Clash rule a (stood x))
      sorted a c = go (same_kind Input a.entry.kind) refl where
        go : (b : Bool) → same_kind Input a.entry.kind ≡ b → ClashesAsInput rule a (stood x) ⊎ ((same_kind Input a.entry.kind ≡ false) × Clash rule a (stood x))
        go true e = inl (e, c)
        go false e = inr (e, c)

      as_input : (a : Stood) → ClashesAsInput rule a (stood x) → is_input_of (stood x).entry.name a ≡ true
      as_input a c = ap (λ b. b && same_kind Input a.entry.kind) (one_name rule a (stood x) c.1) ∙ c.0

      as_control : (a : Stood) → (same_kind Input a.entry.kind ≡ false) × Clash rule a (stood x) → is_control_of (stood x).entry.name a ≡ true
      as_control a c = ap (λ b. b && not (same_kind Input a.entry.kind)) (one_name rule a (stood x) c.1) ∙ ap not c.0

      apart : Has (λ a. ClashesAsInput rule a (stood x)) (map stood (take i all)) ⊎ Has (λ a. (same_kind Input a.entry.kind ≡ false) × Clash rule a (stood x)) (map stood (take i all)) → ⊥
      apart (inl h) = none_input (subst (Has (λ a. ClashesAsInput rule a (stood x))) (sym inputs_are) (has_filtered (λ a. ClashesAsInput rule a (stood x)) (is_input_of (stood x).entry.name) as_input (map stood (take i all)) h))
      apart (inr h) =
          none (has_weaker (λ a. (same_kind Input a.entry.kind ≡ false) × Clash rule a (stood x)) (λ a. Clash rule a (stood x)) (λ a c. c.1) controls
          (subst (Has (λ a. (same_kind Input a.entry.kind ≡ false) × Clash rule a (stood x))) (sym controls_are) (has_filtered (λ a. (same_kind Input a.entry.kind ≡ false) × Clash rule a (stood x)) (is_control_of (stood x).entry.name) as_control (map stood (take i all)) h)))

      by : Pair (Clash rule) (map stood (take i all)) ⊎ Has (λ a. Clash rule a (stood x)) (map stood (take i all)) → ⊥
      by (inl h) = free h
      by (inr h) = apart (has_either (λ a. ClashesAsInput rule a (stood x)) (λ a. (same_kind Input a.entry.kind ≡ false) × Clash rule a (stood x)) (map stood (take i all)) (has_weaker (λ a. Clash rule a (stood x)) (λ a. ClashesAsInput rule a (stood x) ⊎ ((same_kind Input a.entry.kind ≡ false) × Clash rule a (stood x))) sorted (map stood (take i all)) h))

  -- the next one clashes with one of its name
  pub first_found : (test : Stood → Bool) (old : List Stood) → old ≡ filter test (map stood (take i all)) → (Pair (Clash rule) (map stood (take i all)) → ⊥) → Has (λ a. Clash rule a (stood x)) old → IsFirstPair rule (map stood all) x.component
  first_found test old was free some = record {
    before = map stood (take i all);
    last = stood x;
    after = map stood (drop (i + 1) all);
    split = cut_at all i x is low;
    free = free;
    clash = has_of_filtered (λ a. Clash rule a (stood x)) test (map stood (take i all)) (subst (Has (λ a. Clash rule a (stood x))) was some);
    same = refl;
  }

-- an entry goes into one of two lists
pub into_first : (xs : List Stood) (s : Stood) (a b : Bool) → b ≡ true → xs ++ cond a (s ∷ []) [] ≡ xs ++ cond (a && b) (s ∷ []) []
into_first xs s true b e = ap (λ t. xs ++ cond t (s ∷ []) []) (sym e)
into_first xs s false b e = refl

pub not_into : (xs : List Stood) (s : Stood) (a b : Bool) → b ≡ false → xs ≡ xs ++ cond (a && b) (s ∷ []) []
not_into xs s true b e = unadded xs s b e
not_into xs s false b e = sym (append-nil xs)

no_and : (b : Bool) → (b && false) ≡ true → ⊥
no_and true h = true≢false (sym h)
no_and false h = true≢false (sym h)

no_both : (a b : Bool) → (a && (b && false)) ≡ true → ⊥
no_both true true h = true≢false (sym h)
no_both true false h = true≢false (sym h)
no_both false b h = true≢false (sym h)

-- an entry that suits all inputs breaks the rule with none
pub inputs_suit : (rule : Rule) (one : Bool) (a b : Kind) → same_kind Input a ≡ true → suits_inputs rule b ≡ true → is_barred rule one a b ≡ true → ⊥
inputs_suit rule one Output b p q r = true≢false (sym p)
inputs_suit rule one Internal b p q r = true≢false (sym p)
inputs_suit Own one Input Input p q r = no_and one r
inputs_suit Own one Input Output p q r = true≢false (sym q)
inputs_suit Own one Input Internal p q r = true≢false (sym q)
inputs_suit rule.Internal one Input Input p q r = no_and (not one) r
inputs_suit rule.Internal one Input Output p q r = no_and (not one) r
inputs_suit rule.Internal one Input Internal p q r = true≢false (sym q)
inputs_suit rule.Output one Input b p q r = no_and (not one) r

-- and one that suits all with no other
pub all_suit : (rule : Rule) (one : Bool) (a b : Kind) → suits_all rule b ≡ true → is_barred rule one a b ≡ true → ⊥
all_suit Own one a b q r = true≢false (sym q)
all_suit rule.Internal one a b q r = true≢false (sym q)
all_suit rule.Output one a Input q r = no_both (not one) (same_kind a Output) r
all_suit rule.Output one a Output q r = true≢false (sym q)
all_suit rule.Output one a Internal q r = no_both (not one) (same_kind a Output) r
