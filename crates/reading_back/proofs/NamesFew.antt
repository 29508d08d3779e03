-- A source has at most so many names and members that each has a number of 16 bits.
use Rattle.std.proofs.Common.{◌≡◌, ◌≤◌, ◌<◌, ◌^◌, ◌+◌, ℕ, zero, suc, Bool, true, false, ◌||◌, bytes_eq, Option, None, Some, List, [], ◌∷◌, ◌++◌, length, length-append, map, slice_get, refl, sym, ◌∙◌, ap, subst, arith}
use Rattle.std.specs.Cmp.Lexicographic.{slice_cmp}
use Rattle.std.specs.List.{IsDistinct, list_any}
use Rattle.std.specs.Ordering.{eq_by_cmp, nat_cmp}
use Rattle.std.proofs.lemmas.Cmp.{nat_list_eq_equiv}
use Rattle.std.proofs.lemmas.List.{length-map}
use Rattle.std.proofs.lemmas.List.Folds.{list_any-append}
use Rattle.std.proofs.lemmas.List.Sums.{sum_by-cons}
use Rattle.std.proofs.lemmas.Map.Keys.{IsDistinct-from_sorted}
use Rattle.std.proofs.lemmas.Map.Made.{length-le_from_is_member}
use Rattle.std.proofs.lemmas.Map.Text.{is_eq-slice_cmp}
use Rattle.std.proofs.lemmas.Slice.Eq.{bytes_eq-Decides}
use Rattle.ioa_trees.specs.Spelling.{spell}
use Rattle.ioa_trees.specs.Trees.{Bytes, PlainSource}
use Rattle.ioa_trees.specs.EntryRules.{Meant}
use Rattle.ioa_trees.specs.AutomatonRules.{MeantAutomaton}
use Rattle.ioa_trees.specs.SourceRules.{MeantSource, source_meaning}
use Rattle.ioa_phrases.proofs.Once.{some_automaton}
use Rattle.ioa_front.proofs.Counts.{few_tokens}
use Rattle.io_automata.specs.Each.{Each}
use Rattle.compose.specs.Composed.{IsRead}
use Rattle.compose.specs.Names.{AreNames, Signature, automaton_at, signatures_of, used_names}
use Rattle.compose.specs.Sound.{entries_in}
use Rattle.compose.proofs.Sizes.{AllLong, entries_few, members_few}
use Rattle.reading_back.proofs.FirstOnes.{in_all}

or_right : (a b : Bool) → b ≡ true → (a || b) ≡ true
or_right true b h = refl
or_right false b h = h

or_left : (a b : Bool) → a ≡ true → (a || b) ≡ true
or_left true b h = refl
or_left false b h = cc

same_bytes : (q r : Bytes) → bytes_eq q r ≡ true → q ≡ r
same_bytes q r h = (bytes_eq-Decides q r).0 h

name_itself : (q : Bytes) → bytes_eq q q ≡ true
name_itself q = (bytes_eq-Decides q q).1 refl

-- ---- the names of all entries

abbrev entry_names : List Meant → List Bytes
entry_names es = map (λ (e : Meant). e.name) es

abbrev all_names : List MeantAutomaton → List Bytes
all_names [] = []
all_names (a ∷ others) = entry_names a.entries ++ all_names others

names_counted : (automata : List MeantAutomaton) → length (all_names automata) ≡ entries_in automata
names_counted [] = refl
names_counted (a ∷ others) =
    let sum : entries_in (a ∷ others) ≡ length a.entries + entries_in others = sum_by-cons (λ (x : MeantAutomaton). length x.entries) a others in
    let each = length-map a.entries (λ (e : Meant). e.name) in
    let all = length-append (entry_names a.entries) (all_names others) in
    let rest = names_counted others in
    omega (arith, sum, each, all, rest)

in_entries : (es : List Meant) (place : ℕ) (e : Meant) → slice_get es place ≡ Some e → list_any (bytes_eq e.name) (entry_names es) ≡ true
in_entries [] place e at = cc
in_entries (d ∷ es) zero e at = let same : d ≡ e = cc in or_left (bytes_eq e.name d.name) (list_any (bytes_eq e.name) (entry_names es)) (ap (λ (x : Meant). bytes_eq e.name x.name) same ∙ name_itself e.name)
in_entries (d ∷ es) (suc place) e at = or_right (bytes_eq e.name d.name) (list_any (bytes_eq e.name) (entry_names es)) (in_entries es place e at)

in_automata : (automata : List MeantAutomaton) (n : ℕ) (a : MeantAutomaton) (place : ℕ) (e : Meant) → slice_get automata n ≡ Some a → slice_get a.entries place ≡ Some e → list_any (bytes_eq e.name) (all_names automata) ≡ true
in_automata [] n a place e there at = cc
in_automata (b ∷ others) zero a place e there at =
    let same : b ≡ a = cc in
    list_any-append (bytes_eq e.name) (entry_names b.entries) (all_names others)
    ∙ or_left (list_any (bytes_eq e.name) (entry_names b.entries)) (list_any (bytes_eq e.name) (all_names others)) (ap (λ (x : MeantAutomaton). list_any (bytes_eq e.name) (entry_names x.entries)) same ∙ in_entries a.entries place e at)
in_automata (b ∷ others) (suc n) a place e there at =
    list_any-append (bytes_eq e.name) (entry_names b.entries) (all_names others)
    ∙ or_right (list_any (bytes_eq e.name) (entry_names b.entries)) (list_any (bytes_eq e.name) (all_names others)) (in_automata others n a place e there at)

in_found : (automata : List MeantAutomaton) (o : Option ℕ) (a : MeantAutomaton) (place : ℕ) (e : Meant) → automaton_at automata o ≡ Some a → slice_get a.entries place ≡ Some e → list_any (bytes_eq e.name) (all_names automata) ≡ true
in_found automata None a place e there at = cc
in_found automata (Some n) a place e there at = in_automata automata n a place e there at

among_signatures : (ss : List Signature) (all : List Bytes) → Each (λ s. list_any (bytes_eq s.name) all ≡ true) ss → (q : Bytes) → list_any (bytes_eq q) (map (λ (s : Signature). s.name) ss) ≡ true → list_any (bytes_eq q) all ≡ true
among_signatures [] all each q h = cc
among_signatures (s ∷ ss) all each q h = by (among_signatures ss all each.1 q) (bytes_eq q s.name) refl h
  where
    by : (list_any (bytes_eq q) (map (λ (s : Signature). s.name) ss) ≡ true → list_any (bytes_eq q) all ≡ true) → (b : Bool) → bytes_eq q s.name ≡ b → (b || list_any (bytes_eq q) (map (λ (s : Signature). s.name) ss)) ≡ true → list_any (bytes_eq q) all ≡ true
    by f true e i = subst (λ (r : Bytes). list_any (bytes_eq r) all ≡ true) (sym (same_bytes q s.name e)) each.0
    by f false e i = f i

used_somewhere : (m : MeantSource) (q : Bytes) → list_any (bytes_eq q) (used_names m) ≡ true → list_any (bytes_eq q) (all_names m.automata) ≡ true
used_somewhere m q h =
    among_signatures (signatures_of m.automata m.components) (all_names m.automata)
    (in_all (λ s. list_any (bytes_eq s.name) (all_names m.automata) ≡ true) m.automata m.components (λ k c a place e there found at. in_found m.automata c.automaton a place e found at))
    q h

-- ---- names in order are distinct

distinct_by : (names : List Bytes) → IsDistinct (eq_by_cmp (slice_cmp nat_cmp)) names → IsDistinct bytes_eq names
distinct_by names h = subst (λ (eq : Bytes → Bytes → Bool). IsDistinct eq names) (λ i q r. is_eq-slice_cmp q r i) h

pub names_few : (m : MeantSource) (names : List Bytes) → AreNames names m → length names ≤ entries_in m.automata
names_few m names are =
    let distinct = distinct_by names (IsDistinct-from_sorted (slice_cmp nat_cmp) names are.rising) in
    let below : length names ≤ length (all_names m.automata) = length-le_from_is_member nat_list_eq_equiv names (all_names m.automata) distinct (λ q h. used_somewhere m q (sym (are.used q) ∙ h)) in
    omega (arith, below, names_counted m.automata)

module _ (long : AllLong) (source : List ℕ) (tree : PlainSource) (read : IsRead source tree) where
  tokens : length (spell tree) ≤ 65536
  tokens = few_tokens source tree read.spelled read.size

  some : 0 < length tree.automata
  some = some_automaton true tree read.readable.0

  pub few_names : (names : List Bytes) → AreNames names (source_meaning tree) → length names ≤ 2 ^ 16
  few_names names are =
      let t = tokens in
      let e = entries_few long tree some in
      let n = names_few (source_meaning tree) names are in
      let bound : length names ≤ 65536 = omega (arith, t, e, n) in
      bound

  pub few_members : length (source_meaning tree).members ≤ 2 ^ 16
  few_members =
      let t = tokens in
      let e = members_few long tree some in
      let bound : length (source_meaning tree).members ≤ 65536 = omega (arith, t, e) in
      bound
