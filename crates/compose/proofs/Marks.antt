-- Which automata were visited, and what is known of the names after one more component.
use Rattle.std.proofs.Common.{map, option_map, ◌≡◌, ◌≤◌, ◌<◌, ◌+◌, ℕ, zero, suc, Bool, true, false, ◌&&◌, ◌||◌, Option, Some, None, List, [], ◌∷◌, ◌++◌, length, replicate, slice_get, slice_set, nat_eq, nat_lt, refl, sym, ap, ◌∙◌, arith}
use Rattle.std.proofs.lemmas.Bool.Decides.{nat_tests}
use Rattle.std.proofs.lemmas.Option.{slice_get-map}
use Rattle.terms.specs.ShapeTree.{ShapeTree}
use Rattle.ioa_trees.specs.AutomatonRules.{MeantAutomaton}
use Rattle.ioa_trees.specs.SourceRules.{MeantComponent}
use Rattle.ioa_trees.specs.Trees.{Bytes}
use Rattle.compose.specs.Names.{Signature, automaton_at, first_in, signatures_in, signatures_of}
use Rattle.compose.specs.Tables.{Adds, IsTable, either_of, has_automaton, is_at, mark_at, marked_entries}
use Rattle.compose.proofs.FirstTypes.{either_none, first_append}

-- ---- marks

pub marked_now : (marks : List Bool) (k : ℕ) → k < length marks → mark_at (slice_set marks k true) k ≡ true
marked_now [] k low = absurd (omega (arith, low))
marked_now (b ∷ bs) zero low = refl
marked_now (b ∷ bs) (suc k) low = let less : k < length bs = omega (arith, low) in marked_now bs k less

pub marked_else : (marks : List Bool) (k n : ℕ) → nat_eq n k ≡ false → mark_at (slice_set marks k true) n ≡ mark_at marks n
marked_else [] k n apart = refl
marked_else (b ∷ bs) zero zero apart = cc
marked_else (b ∷ bs) zero (suc n) apart = refl
marked_else (b ∷ bs) (suc k) zero apart = refl
marked_else (b ∷ bs) (suc k) (suc n) apart = let other : nat_eq n k ≡ false = grind (arith, nat_tests) in marked_else bs k n other

pub set_length : (marks : List Bool) (k : ℕ) → length (slice_set marks k true) ≡ length marks
set_length [] k = refl
set_length (b ∷ bs) zero = refl
set_length (b ∷ bs) (suc k) = ap suc (set_length bs k)

-- one more is marked
pub entries_set : (marks : List Bool) (automata : List MeantAutomaton) (k : ℕ) (a : MeantAutomaton)
    → length marks ≡ length automata → slice_get automata k ≡ Some a → mark_at marks k ≡ false → marked_entries (slice_set marks k true) automata ≡ marked_entries marks automata + length a.entries
entries_set [] [] k a long is free = cc
entries_set [] (x ∷ xs) k a long is free = cc
entries_set (b ∷ bs) [] k a long is free = cc
entries_set (true ∷ bs) (x ∷ xs) zero a long is free = cc
entries_set (false ∷ bs) (x ∷ xs) zero a long is free = let same : length x.entries ≡ length a.entries = ap (λ (o : Option MeantAutomaton). entries_of o) is in omega (arith, same)
  where
    entries_of : Option MeantAutomaton → ℕ
    entries_of None = 0
    entries_of (Some y) = length y.entries
entries_set (b ∷ bs) (x ∷ xs) (suc k) a long is free =
    let less : length bs ≡ length xs = omega (arith, long) in
    let rest = entries_set bs xs k a less is free in
    omega (arith, rest)

-- ---- components

any_end : (n : ℕ) (seen : List MeantComponent) (c : MeantComponent) → has_automaton n (seen ++ c ∷ []) ≡ (has_automaton n seen || is_at n c.automaton)
any_end n [] c = last (is_at n c.automaton)
  where
    last : (b : Bool) → (b || false) ≡ b
    last true = refl
    last false = refl
any_end n (d ∷ ds) c = either (is_at n d.automaton) (any_end n ds c)
  where
    either : (b : Bool) → has_automaton n (ds ++ c ∷ []) ≡ (has_automaton n ds || is_at n c.automaton) → (b || has_automaton n (ds ++ c ∷ [])) ≡ ((b || has_automaton n ds) || is_at n c.automaton)
    either true others = refl
    either false others = others

seen_end : (automata : List MeantAutomaton) (seen : List MeantComponent) (c : MeantComponent) (q : Bytes)
    → first_in (signatures_of automata (seen ++ c ∷ [])) q ≡ either_of (first_in (signatures_of automata seen) q) (first_in (signatures_in (automaton_at automata c.automaton)) q)
seen_end automata [] c q = first_append (signatures_in (automaton_at automata c.automaton)) [] q ∙ either_none (first_in (signatures_in (automaton_at automata c.automaton)) q)
seen_end automata (d ∷ ds) c q =
    first_append (signatures_in (automaton_at automata d.automaton)) (signatures_of automata (ds ++ c ∷ [])) q
    ∙ ap (either_of (first_in (signatures_in (automaton_at automata d.automaton)) q)) (seen_end automata ds c q)
    ∙ assoc (first_in (signatures_in (automaton_at automata d.automaton)) q) (first_in (signatures_of automata ds) q) (first_in (signatures_in (automaton_at automata c.automaton)) q)
    ∙ ap (λ o. either_of o (first_in (signatures_in (automaton_at automata c.automaton)) q)) (sym (first_append (signatures_in (automaton_at automata d.automaton)) (signatures_of automata ds) q))
  where
    assoc : (x y z : Option (List ShapeTree)) → either_of x (either_of y z) ≡ either_of (either_of x y) z
    assoc None y z = refl
    assoc (Some t) y z = refl

-- a component whose automaton isn't there brings nothing
none_there : (automata : List MeantAutomaton) (n : ℕ) (k : ℕ) → slice_get automata k ≡ None → (nat_lt n (length automata) && nat_eq n k) ≡ false
none_there [] n k is = below n
  where
    below : (n : ℕ) → (nat_lt n 0 && nat_eq n k) ≡ false
    below n = let less : nat_lt n 0 ≡ false = grind (arith, nat_tests) in ap (λ b. b && nat_eq n k) less
none_there (a ∷ others) n zero is = cc
none_there (a ∷ others) zero (suc k) is = let apart : nat_eq 0 (suc k) ≡ false = grind (arith, nat_tests) in ap (λ b. nat_lt 0 (length (a ∷ others)) && b) apart ∙ last (nat_lt 0 (length (a ∷ others)))
  where
    last : (b : Bool) → (b && false) ≡ false
    last true = refl
    last false = refl
none_there (a ∷ others) (suc n) (suc k) is =
    let less : nat_lt (suc n) (length (a ∷ others)) ≡ nat_lt n (length others) = grind (arith, nat_tests) in
    let same : nat_eq (suc n) (suc k) ≡ nat_eq n k = grind (arith, nat_tests) in
    ap (λ b. b && nat_eq (suc n) (suc k)) less ∙ ap (λ b. nat_lt n (length others) && b) same ∙ none_there others n k is

or_false : (b h e : Bool) → (b && e) ≡ false → (b && h) ≡ (b && (h || e))
or_false true true e is = refl
or_false true false e is = sym is
or_false false h e is = refl

pub kept_without : (automata : List MeantAutomaton) (seen : List MeantComponent) (names : List Signature) (marks : List Bool) (c : MeantComponent)
    → automaton_at automata c.automaton ≡ None → IsTable automata seen names marks → IsTable automata (seen ++ c ∷ []) names marks
kept_without automata seen names marks c none known = record {
  first = λ q. known.first q ∙ sym (seen_end automata seen c q ∙ ap (λ o. either_of (first_in (signatures_of automata seen) q) (first_in (signatures_in o) q)) none ∙ either_none (first_in (signatures_of automata seen) q));
  marked = λ n. known.marked n ∙ or_false (nat_lt n (length automata)) (has_automaton n seen) (is_at n c.automaton) (apart n c.automaton none) ∙ ap (λ b. nat_lt n (length automata) && b) (sym (any_end n seen c));
  long = known.long;
  few = known.few;
}
  where
    apart : (n : ℕ) (o : Option ℕ) → automaton_at automata o ≡ None → (nat_lt n (length automata) && is_at n o) ≡ false
    apart n None is = last (nat_lt n (length automata))
      where
        last : (b : Bool) → (b && false) ≡ false
        last true = refl
        last false = refl
    apart n (Some k) is = none_there automata n k is

-- the names of an automaton that was seen are there
covered : (automata : List MeantAutomaton) (seen : List MeantComponent) (k : ℕ) (q : Bytes)
    → has_automaton k seen ≡ true → first_in (signatures_of automata seen) q ≡ None → first_in (signatures_in (slice_get automata k)) q ≡ None
covered automata [] k q has none = cc
covered automata (d ∷ ds) k q has none = by d.automaton refl (is_at k d.automaton) refl (λ later gone. covered automata ds k q later gone)
  where
    all : either_of (first_in (signatures_in (automaton_at automata d.automaton)) q) (first_in (signatures_of automata ds) q) ≡ None
    all = sym (first_append (signatures_in (automaton_at automata d.automaton)) (signatures_of automata ds) q) ∙ none

    first_none : (x y : Option (List ShapeTree)) → either_of x y ≡ None → x ≡ None
    first_none None y is = refl
    first_none (Some t) y is = cc

    other_none : (x y : Option (List ShapeTree)) → either_of x y ≡ None → y ≡ None
    other_none None y is = is
    other_none (Some t) y is = cc

    by : (o : Option ℕ) → d.automaton ≡ o → (b : Bool) → is_at k d.automaton ≡ b
        → (has_automaton k ds ≡ true → first_in (signatures_of automata ds) q ≡ None → first_in (signatures_in (slice_get automata k)) q ≡ None)
        → first_in (signatures_in (slice_get automata k)) q ≡ None
    by o place false apart others =
        let later : has_automaton k ds ≡ true = ap (λ b. b || has_automaton k ds) (sym apart) ∙ has in
        others later (other_none (first_in (signatures_in (automaton_at automata d.automaton)) q) (first_in (signatures_of automata ds) q) all)
    by None place true same others = let never : is_at k None ≡ true = ap (is_at k) (sym place) ∙ same in cc
    by (Some j) place true same others =
        let equal : nat_eq k j ≡ true = ap (is_at k) (sym place) ∙ same in
        let one : k ≡ j = grind (arith, nat_tests) in
        let here = first_none (first_in (signatures_in (automaton_at automata d.automaton)) q) (first_in (signatures_of automata ds) q) all in
        ap (λ i. first_in (signatures_in (slice_get automata i)) q) one ∙ ap (λ o. first_in (signatures_in (automaton_at automata o)) q) (sym place) ∙ here

-- a component whose automaton was seen brings nothing new
pub kept_again : (automata : List MeantAutomaton) (seen : List MeantComponent) (names : List Signature) (marks : List Bool) (c : MeantComponent) (k : ℕ)
    → c.automaton ≡ Some k → mark_at marks k ≡ true → IsTable automata seen names marks → IsTable automata (seen ++ c ∷ []) names marks
kept_again automata seen names marks c k at mark known = record {
  first = λ q. known.first q ∙ nothing_new (first_in (signatures_of automata seen) q) (first_in (signatures_in (slice_get automata k)) q) (covered automata seen k q has)
      ∙ ap (λ o. either_of (first_in (signatures_of automata seen) q) (first_in (signatures_in (automaton_at automata o)) q)) (sym at) ∙ sym (seen_end automata seen c q);
  marked = λ n. known.marked n ∙ ap (λ b. nat_lt n (length automata) && b) (same n (nat_eq n k) refl ∙ ap (λ o. has_automaton n seen || is_at n o) (sym at) ∙ sym (any_end n seen c));
  long = known.long;
  few = known.few;
}
  where
    second : (a b : Bool) → (a && b) ≡ true → b ≡ true
    second true b is = is
    second false b is = cc

    has : has_automaton k seen ≡ true
    has = second (nat_lt k (length automata)) (has_automaton k seen) (sym (known.marked k) ∙ mark)

    nothing_new : (x y : Option (List ShapeTree)) → (x ≡ None → y ≡ None) → x ≡ either_of x y
    nothing_new None y none = sym (none refl)
    nothing_new (Some t) y none = refl

    right_true : (b : Bool) → (b || true) ≡ true
    right_true true = refl
    right_true false = refl

    right_false : (b : Bool) → (b || false) ≡ b
    right_false true = refl
    right_false false = refl

    same : (n : ℕ) (b : Bool) → nat_eq n k ≡ b → has_automaton n seen ≡ (has_automaton n seen || nat_eq n k)
    same n false apart = sym (ap (λ b. has_automaton n seen || b) apart ∙ right_false (has_automaton n seen))
    same n true is =
        let one : n ≡ k = grind (arith, nat_tests) in
        ap (λ i. has_automaton i seen) one ∙ has ∙ sym (ap (λ b. has_automaton n seen || b) is ∙ right_true (has_automaton n seen))

-- a component with a new automaton
pub kept_new : (automata : List MeantAutomaton) (seen : List MeantComponent) (names new : List Signature) (marks : List Bool) (c : MeantComponent) (k : ℕ) (a : MeantAutomaton)
    → c.automaton ≡ Some k → slice_get automata k ≡ Some a → k < length automata → mark_at marks k ≡ false → Adds new names (signatures_in (Some a)) → length new ≤ length names + length a.entries
    → IsTable automata seen names marks → IsTable automata (seen ++ c ∷ []) new (slice_set marks k true)
kept_new automata seen names new marks c k a at is low free adds more known = record {
  first = λ q. adds q ∙ ap (λ o. either_of o (first_in (signatures_in (Some a)) q)) (known.first q)
      ∙ ap (λ o. either_of (first_in (signatures_of automata seen) q) (first_in (signatures_in o) q)) (sym (ap (automaton_at automata) at ∙ is)) ∙ sym (seen_end automata seen c q);
  marked = λ n. mark n (nat_eq n k) refl ∙ ap (λ b. nat_lt n (length automata) && b) (ap (λ o. has_automaton n seen || is_at n o) (sym at) ∙ sym (any_end n seen c));
  long = set_length marks k ∙ known.long;
  few = let sum = entries_set marks automata k a known.long is free in let before = known.few in omega (arith, sum, before, more);
}
  where
    right_true : (b : Bool) → (b || true) ≡ true
    right_true true = refl
    right_true false = refl

    right_false : (b : Bool) → (b || false) ≡ b
    right_false true = refl
    right_false false = refl

    mark : (n : ℕ) (b : Bool) → nat_eq n k ≡ b → mark_at (slice_set marks k true) n ≡ (nat_lt n (length automata) && (has_automaton n seen || nat_eq n k))
    mark n false apart = marked_else marks k n apart ∙ known.marked n ∙ ap (λ b. nat_lt n (length automata) && b) (sym (ap (λ b. has_automaton n seen || b) apart ∙ right_false (has_automaton n seen)))
    mark n true same =
        let one : n ≡ k = grind (arith, nat_tests) in
        let long = known.long in
        let short : k < length marks = omega (arith, long, low) in
        let less : nat_lt n (length automata) ≡ true = grind (arith, nat_tests) in
        ap (λ i. mark_at (slice_set marks k true) i) one ∙ marked_now marks k short ∙ sym (ap (λ b. b && (has_automaton n seen || nat_eq n k)) less ∙ ap (λ b. has_automaton n seen || b) same ∙ right_true (has_automaton n seen))

pub nothing_yet : (automata : List MeantAutomaton) (names : List Signature) (marks : List Bool) → names ≡ [] → length marks ≡ length automata → ((n : ℕ) → mark_at marks n ≡ false) → IsTable automata [] names marks
nothing_yet automata names marks none long free = record {
  first = λ q. ap (λ l. first_in l q) none;
  marked = λ n. free n ∙ sym (last (nat_lt n (length automata)));
  long = long;
  few = let zero_long : length names ≡ 0 = ap length none in omega (arith, zero_long);
}
  where
    last : (b : Bool) → (b && false) ≡ false
    last true = refl
    last false = refl

pub none_marked : (count n : ℕ) → mark_at (replicate count false) n ≡ false
none_marked zero n = refl
none_marked (suc count) zero = refl
none_marked (suc count) (suc n) = none_marked count n

pub at_same_place : {A B : Type 0} (f : A → B) (xs : List A) (n : ℕ) (o : Option A) → slice_get xs n ≡ o → slice_get (map f xs) n ≡ option_map f o
at_same_place f xs n o is = slice_get-map f xs n ∙ ap (option_map f) is
