-- The names of outputs after one more entry, and after one more component.
use Rattle.std.proofs.Common.{arith, ◌≡◌, ◌<◌, ℕ, ◌+◌, nat_eq, Bool, true, false, ◌&&◌, ◌||◌, bytes_eq, None, Some, List, [], ◌∷◌, ◌++◌, map, take, get_or, length, slice_get, slice_set, refl, sym, ◌∙◌, ap}
use Rattle.std.specs.List.{list_any}
use Rattle.std.proofs.lemmas.Bool.Decides.{nat_tests}
use Rattle.std.proofs.lemmas.List.Folds.{list_any-append}
use Rattle.ioa_trees.specs.Trees.{Bytes}
use Rattle.ioa_trees.specs.EntryRules.{Meant}
use Rattle.ioa_trees.specs.AutomatonRules.{MeantAutomaton}
use Rattle.ioa_trees.specs.SourceRules.{MeantComponent}
use Rattle.compose.specs.Names.{automaton_at}
use Rattle.compose.specs.Tables.{mark_at}
use Rattle.compose.proofs.Grown.{map_end, taken}
use Rattle.compose.proofs.Marks.{marked_else}
use Rattle.compose.specs.Faults.{gives, gives_in, is_output, is_output_of}
use Rattle.compose.specs.Outputs.{AddsOutputs, AreGiven}

or_false : (a : Bool) → (a || false) ≡ a
or_false true = refl
or_false false = refl

or_turned : (a b : Bool) → (a || b) ≡ (b || a)
or_turned true true = refl
or_turned true false = refl
or_turned false true = refl
or_turned false false = refl

any_end : {A : Type 0} (test : A → Bool) (xs : List A) (x : A) → list_any test (xs ++ x ∷ []) ≡ (list_any test xs || test x)
any_end test xs x = list_any-append test xs (x ∷ []) ∙ ap (λ b. list_any test xs || b) (or_false (test x))

-- ---- entries

-- the name of an output is put among others, that of another entry isn't
pub output_added : (after before : List Bytes) (e : Meant) → is_output e.kind ≡ true
    → ((q : Bytes) → list_any (bytes_eq q) after ≡ (bytes_eq q e.name || list_any (bytes_eq q) before)) → AddsOutputs after before (e ∷ [])
output_added after before e is added q =
    added q ∙ ap (λ b. b || list_any (bytes_eq q) before) (sym (or_false (is_output_of q e) ∙ ap (λ b. b && bytes_eq q e.name) is))

pub other_left : (names : List Bytes) (e : Meant) → is_output e.kind ≡ false → AddsOutputs names names (e ∷ [])
other_left names e is q = ap (λ b. b || list_any (bytes_eq q) names) (sym (or_false (is_output_of q e) ∙ ap (λ b. b && bytes_eq q e.name) is))

pub none_added : (names : List Bytes) → AddsOutputs names names []
none_added names q = refl

pub one_more : {A : Type 0} (f : A → Meant) (xs : List A) (i : ℕ) (x : A) (new middle old : List Bytes) → x ≡ get_or xs i x → i < length xs
    → AddsOutputs middle old (map f (take i xs)) → AddsOutputs new middle (f x ∷ []) → AddsOutputs new old (map f (take (i + 1) xs))
one_more f xs i x new middle old is low before one q =
    let others = list_any (bytes_eq q) old in
    let first = list_any (is_output_of q) (map f (take i xs)) in
    let last = list_any (is_output_of q) (f x ∷ []) in
    one q ∙ ap (λ b. last || b) (before q) ∙ regrouped last first others
    ∙ ap (λ b. b || others) (sym (list_any-append (is_output_of q) (map f (take i xs)) (f x ∷ [])))
    ∙ ap (λ l. list_any (is_output_of q) l || others) (sym (map_end f (take i xs) x) ∙ ap (map f) (sym (taken xs i x is low)))
  where
    regrouped : (a b c : Bool) → (a || (b || c)) ≡ ((b || a) || c)
    regrouped true true c = refl
    regrouped true false c = refl
    regrouped false b c = ap (λ z. z || c) (sym (or_false b))

-- ---- components

pub none_given : (automata : List MeantAutomaton) (names : List Bytes) (visited : List Bool) → names ≡ [] → ((n : ℕ) → mark_at visited n ≡ false) → AreGiven automata [] names visited
none_given automata names visited none free = record {
  given = λ q. ap (list_any (bytes_eq q)) none;
  covered = λ n mark q h. let e : ◌≡◌ {A = Bool} true false = sym mark ∙ free n in cc;
}

-- a component whose automaton isn't there has no outputs
pub kept_without : (automata : List MeantAutomaton) (seen : List MeantComponent) (names : List Bytes) (visited : List Bool) (c : MeantComponent)
    → automaton_at automata c.automaton ≡ None → AreGiven automata seen names visited → AreGiven automata (seen ++ c ∷ []) names visited
kept_without automata seen names visited c none known = record {
  given = λ q. known.given q ∙ sym (any_end (gives_in automata q) seen c ∙ ap (λ o. list_any (gives_in automata q) seen || gives q o) none ∙ or_false (list_any (gives_in automata q) seen));
  covered = known.covered;
}

-- one whose automaton was visited has no others
pub kept_again : (automata : List MeantAutomaton) (seen : List MeantComponent) (names : List Bytes) (visited : List Bool) (c : MeantComponent) (k : ℕ)
    → c.automaton ≡ Some k → mark_at visited k ≡ true → AreGiven automata seen names visited → AreGiven automata (seen ++ c ∷ []) names visited
kept_again automata seen names visited c k at mark known = record {
  given = λ q. known.given q
      ∙ nothing_new (list_any (gives_in automata q) seen) (gives q (slice_get automata k)) (λ h. sym (known.given q) ∙ known.covered k mark q h)
      ∙ ap (λ o. list_any (gives_in automata q) seen || gives q (automaton_at automata o)) (sym at) ∙ sym (any_end (gives_in automata q) seen c);
  covered = known.covered;
}
  where
    nothing_new : (a b : Bool) → (b ≡ true → a ≡ true) → a ≡ (a || b)
    nothing_new true b h = refl
    nothing_new false true h = h refl
    nothing_new false false h = refl

-- one with a new automaton
pub kept_new : (automata : List MeantAutomaton) (seen : List MeantComponent) (names new : List Bytes) (visited : List Bool) (c : MeantComponent) (k : ℕ) (a : MeantAutomaton)
    → c.automaton ≡ Some k → slice_get automata k ≡ Some a → AddsOutputs new names a.entries
    → AreGiven automata seen names visited → AreGiven automata (seen ++ c ∷ []) new (slice_set visited k true)
kept_new automata seen names new visited c k a at is adds known = record {
  given = λ q. adds q ∙ ap (λ b. list_any (is_output_of q) a.entries || b) (known.given q)
      ∙ or_turned (list_any (is_output_of q) a.entries) (list_any (gives_in automata q) seen)
      ∙ ap (λ o. list_any (gives_in automata q) seen || gives q o) (sym (ap (automaton_at automata) at ∙ is)) ∙ sym (any_end (gives_in automata q) seen c);
  covered = λ n mark q h. by n mark q h (nat_eq n k) refl;
}
  where
    or_left : (b c : Bool) → b ≡ true → (b || c) ≡ true
    or_left true c h = refl
    or_left false c h = cc

    or_right : (b c : Bool) → c ≡ true → (b || c) ≡ true
    or_right true c h = refl
    or_right false c h = h

    by : (n : ℕ) → mark_at (slice_set visited k true) n ≡ true → (q : Bytes) → gives q (slice_get automata n) ≡ true → (b : Bool) → nat_eq n k ≡ b → list_any (bytes_eq q) new ≡ true
    by n mark q h true same =
        let one : n ≡ k = grind (arith, nat_tests) in
        let here : list_any (is_output_of q) a.entries ≡ true = sym (ap (λ j. gives q (slice_get automata j)) one ∙ ap (gives q) is) ∙ h in
        adds q ∙ or_left (list_any (is_output_of q) a.entries) (list_any (bytes_eq q) names) here
    by n mark q h false apart =
        adds q ∙ or_right (list_any (is_output_of q) a.entries) (list_any (bytes_eq q) names) (known.covered n (sym (marked_else visited k n apart) ∙ mark) q h)
