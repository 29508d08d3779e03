-- Names in the order of bytes: where a search finds one, and that each is the first of its name.
use Rattle.std.proofs.Common.{◌||◌, Result, Ok, Err, IfOk, OnErr, ◌≡◌, ◌<◌, ◌≤◌, ℕ, zero, suc, Bool, true, false, if◌then◌else◌, Some, is_some, List, [], ◌∷◌, map, length, get_or, string_bytes, bytes_eq, refl, sym, ap, ◌∙◌, inl, inr, arith}
use Rattle.std.proofs.lemmas.Bool.{cases_lt}
use Rattle.std.proofs.lemmas.Cmp.{nat_list_cmp_total}
use Rattle.std.proofs.lemmas.Map.Text.{is_eq-slice_cmp}
use Rattle.std.specs.Cmp.{IsTotalOrder}
use Rattle.std.specs.Cmp.Lexicographic.{bytes_decides, slice_cmp}
use Rattle.std.specs.Global.{Global}
use Rattle.std.specs.List.{AllByRecursion, HoldsAt, list_any}
use Rattle.std.specs.List.Sorted.{IsBinarySearchResult, IsNonDecreasingBy, IsPartitionPoint, IsSearchInRange, IsStrictlySortedBy}
use Rattle.std.specs.Map.{keys_of}
use Rattle.std.specs.Ordering.{is_eq, nat_cmp, ordering_index, ordering_reverse}
use Rattle.std.specs.String.{string_cmp}
use Rattle.std.specs.declared.cmp.Ordering.{Ordering}
use Rattle.std.specs.declared.cmp.Ordering.TheVariants.{Less, Equal, Greater}
use Rattle.std.specs.declared.string.String.{String}
use Rattle.std.specs.declared.vec.Vec.{Vec}
use Rattle.terms.specs.declared.scalar.Shape.{Shape}
use Rattle.plans.specs.Plans.{text_of, types_of}
use Rattle.io_automata.specs.declared.automaton.ActionName.{ActionName}
use Rattle.ioa_trees.specs.Trees.{Bytes}
use Rattle.compose.specs.Instances.{place_in}
use Rattle.compose.specs.Names.{IsRising, Signature, first_in, none_if_missing}
use Rattle.compose.specs.Tables.{action_signature, entry_signature}
use Rattle.compose.proofs.FirstTypes.{swapped}

-- the order of bytes
abbrev order : Bytes → Bytes → Ordering
order = slice_cmp nat_cmp

laws : IsTotalOrder order
laws = nat_list_cmp_total

greater_after : (x y : Bytes) → order x y ≡ Less → order y x ≡ Greater
greater_after x y less = laws.antisymm y x ∙ ap ordering_reverse less

-- a name before another isn't that other
apart_before : (x y : Bytes) → order x y ≡ Less → bytes_eq y x ≡ false
apart_before x y less = sym (is_eq-slice_cmp y x) ∙ ap is_eq (greater_after x y less)

all_at : {A : Type 0} (P : Bytes → Type 0) (f : A → Bytes) (xs : List A) (i : ℕ) (d : A) → AllByRecursion P (map f xs) → i < length xs → P (f (get_or xs i d))
all_at P f [] i d all low = absurd (omega (arith, low))
all_at P f (x ∷ xs) zero d all low = all.0
all_at P f (x ∷ xs) (suc i) d all low = let less : i < length xs = omega (arith, low) in all_at P f xs i d all.1 less

-- ---- where a search ends

pub place_found : {A : Type 0} (f : A → Bytes) (xs : List A) (q : Bytes) (i : ℕ) → IsRising (map f xs) → i < length xs → HoldsAt (λ y. order (f y) q ≡ Equal) xs i → place_in (map f xs) q ≡ i
unfolding IsStrictlySortedBy
place_found f [] q i rising low holds = absurd (omega (arith, low))
place_found f (x ∷ xs) q zero rising low holds =
    let same : bytes_eq q (f x) ≡ true = swapped q (f x) ∙ sym (is_eq-slice_cmp (f x) q) ∙ ap is_eq (holds x) in
    ap (λ b. if b then 0 else suc (place_in (map f xs) q)) same
place_found f (x ∷ xs) q (suc i) rising low holds =
    let less : i < length xs = omega (arith, low) in
    let y = f (get_or xs i x) in
    let before : order (f x) y ≡ Less = all_at (λ z. order (f x) z ≡ Less) f xs i x rising.0 less in
    let after : order q (f x) ≡ Greater = sym (laws.congr y q (f x) (holds x)) ∙ greater_after (f x) y before in
    let apart : bytes_eq q (f x) ≡ false = sym (is_eq-slice_cmp q (f x)) ∙ ap is_eq after in
    ap (λ b. if b then 0 else suc (place_in (map f xs) q)) apart ∙ ap suc (place_found f xs q i rising.1 less (λ d. holds d))

place_absent : {A : Type 0} (f : A → Bytes) (xs : List A) (q : Bytes) → ((k : ℕ) (d : A) → k < length xs → is_eq (order (f (get_or xs k d)) q) ≡ false) → place_in (map f xs) q ≡ length xs
place_absent f [] q none = refl
place_absent f (x ∷ xs) q none =
    let low : 0 < length (x ∷ xs) = omega arith in
    let apart : bytes_eq q (f x) ≡ false = swapped q (f x) ∙ sym (is_eq-slice_cmp (f x) q) ∙ none 0 x low in
    ap (λ b. if b then 0 else suc (place_in (map f xs) q)) apart ∙ ap suc (place_absent f xs q (λ k d less. none (suc k) d (omega (arith, less))))

-- what comes before a name that isn't after q isn't after q
index_rises : (x y q : Bytes) → order x y ≡ Less → ordering_index (order x q) ≤ ordering_index (order y q)
index_rises x y q before = by (order y q) refl
  where
    at_most_two : (o : Ordering) → ordering_index o ≤ 2
    at_most_two Less = omega arith
    at_most_two Equal = omega arith
    at_most_two Greater = omega arith

    by : (o : Ordering) → order y q ≡ o → ordering_index (order x q) ≤ ordering_index o
    by Less is = let zero_is : ordering_index (order x q) ≡ 0 = ap ordering_index (laws.trans x y q before is) in omega (arith, zero_is)
    by Equal is =
        let after : order q x ≡ Greater = sym (laws.congr y q x is) ∙ greater_after x y before in
        let zero_is : ordering_index (order x q) ≡ 0 = ap ordering_index (laws.antisymm x q ∙ ap ordering_reverse after) in
        omega (arith, zero_is)
    by Greater is = at_most_two (order x q)

rises : {A : Type 0} (f : A → Bytes) (xs : List A) (q : Bytes) → IsRising (map f xs) → IsNonDecreasingBy (λ y. ordering_index (order (f y) q)) xs
unfolding IsStrictlySortedBy
rises f [] q rising i j d le low = absurd (omega (arith, low))
rises f (x ∷ xs) q rising zero zero d le low = omega arith
rises f (x ∷ xs) q rising zero (suc j) d le low =
    let less : j < length xs = omega (arith, low) in
    index_rises (f x) (f (get_or xs j d)) q (all_at (λ z. order (f x) z ≡ Less) f xs j d rising.0 less)
rises f (x ∷ xs) q rising (suc i) zero d le low = absurd (omega (arith, le))
rises f (x ∷ xs) q rising (suc i) (suc j) d le low =
    let less : j < length xs = omega (arith, low) in
    let at_most : i ≤ j = omega (arith, le) in
    rises f xs q rising.1 i j d at_most less

pub place_in_gap : {A : Type 0} (f : A → Bytes) (xs : List A) (q : Bytes) (i : ℕ) → IsRising (map f xs)
    → (IsNonDecreasingBy (λ y. ordering_index (order (f y) q)) xs → IsPartitionPoint (λ y. order (f y) q ≡ Less) (λ y. order (f y) q ≡ Greater) xs i) → place_in (map f xs) q ≡ length xs
place_in_gap {A} f xs q i rising found = place_absent f xs q none
  where
    none : (k : ℕ) (d : A) → k < length xs → is_eq (order (f (get_or xs k d)) q) ≡ false
    none k d low = elim (cases_lt k i) [
      | inl below ↦ ap is_eq ((found (rises f xs q rising)).0 k d (omega arith) below)
      | inr above ↦ ap is_eq ((found (rises f xs q rising)).1 k d above low)
    ]

-- ---- names with their types

pub any_first : (ss : List Signature) (q : Bytes) → list_any (bytes_eq q) (map (λ s. s.name) ss) ≡ is_some (first_in ss q)
any_first [] q = refl
any_first (s ∷ ss) q = by (bytes_eq q s.name) (any_first ss q)
  where
    by : (b : Bool) → list_any (bytes_eq q) (map (λ s. s.name) ss) ≡ is_some (first_in ss q)
        → (b || list_any (bytes_eq q) (map (λ s. s.name) ss)) ≡ is_some (if b then Some s.types else first_in ss q)
    by true others = refl
    by false others = others

skipped : (s : Signature) (ss : List Signature) (names : List Bytes) → AllByRecursion (λ y. order s.name y ≡ Less) names
    → map (λ q. none_if_missing (first_in (s ∷ ss) q)) names ≡ map (λ q. none_if_missing (first_in ss q)) names
skipped s ss [] later = refl
skipped s ss (n ∷ names) later =
    let apart = apart_before s.name n later.0 in
    ap (λ b. none_if_missing (if b then Some s.types else first_in ss n) ∷ map (λ q. none_if_missing (first_in (s ∷ ss) q)) names) apart
    ∙ ap (λ r. none_if_missing (first_in ss n) ∷ r) (skipped s ss names later.1)

pub own_types : (ss : List Signature) → IsRising (map (λ s. s.name) ss) → map (λ s. s.types) ss ≡ map (λ q. none_if_missing (first_in ss q)) (map (λ s. s.name) ss)
unfolding IsStrictlySortedBy
own_types [] rising = refl
own_types (s ∷ ss) rising =
    let own : bytes_eq s.name s.name ≡ true = (bytes_decides s.name s.name).1 refl in
    ap (λ r. s.types ∷ r) (own_types ss rising.1)
    ∙ ap (λ r. s.types ∷ r) (sym (skipped s ss (map (λ t. t.name) ss) rising.0))
    ∙ ap (λ b. none_if_missing (if b then Some s.types else first_in ss s.name) ∷ map (λ q. none_if_missing (first_in (s ∷ ss) q)) (map (λ t. t.name) ss)) (sym own)

-- the keys of a map as bytes
pub rising_keys : (es : List (String Global × Vec Shape Global)) → IsStrictlySortedBy string_cmp (keys_of es) → IsRising (map (λ s. s.name) (map entry_signature es))
unfolding IsStrictlySortedBy
rising_keys [] rising = rising
rising_keys (e ∷ es) rising = (later es rising.0, rising_keys es rising.1)
  where
    later : (fs : List (String Global × Vec Shape Global)) → AllByRecursion (λ k. string_cmp e.0 k ≡ Less) (keys_of fs) → AllByRecursion (λ y. order (string_bytes e.0) y ≡ Less) (map (λ s. s.name) (map entry_signature fs))
    later [] all = all
    later (f ∷ fs) all = (all.0, later fs all.1)

pub texts_are : (xs : List ActionName) → map (λ s. s.name) (map action_signature xs) ≡ map text_of xs
texts_are [] = refl
texts_are (x ∷ xs) = ap (λ r. text_of x ∷ r) (texts_are xs)

pub shapes_are : (xs : List ActionName) → map (λ s. s.types) (map action_signature xs) ≡ map types_of xs
shapes_are [] = refl
shapes_are (x ∷ xs) = ap (λ r. types_of x ∷ r) (shapes_are xs)

-- what a search says of a name
pub searched : (actions : List ActionName) (q : Bytes) (r : Result ℕ ℕ) → IsRising (map text_of actions) → IsSearchInRange r (length actions) → IsBinarySearchResult (λ a. slice_cmp nat_cmp (text_of a) q) actions r
    → record { found : IfOk r (λ i. i ≡ place_in (map text_of actions) q); bound : IfOk r (λ i. i < length actions); absent : OnErr r (place_in (map text_of actions) q ≡ length actions) }
searched actions q (Ok i) rising range holds = record { found = sym (place_found text_of actions q i rising range holds); bound = range; absent = tt }
searched actions q (Err i) rising range parted = record { found = tt; bound = tt; absent = place_in_gap text_of actions q i rising parted }
