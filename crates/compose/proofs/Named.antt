-- Tables of names, and entries of components.
use Rattle.std.proofs.Common.{◌≡◌, ℕ, zero, suc, Bool, true, false, ◌||◌, bytes_eq, if◌then◌else◌, Option, None, Some, List, [], ◌∷◌, map, slice_get, refl, sym, ◌∙◌, ap}
use Rattle.std.specs.List.{list_any}
use Rattle.std.specs.Option.{option_map}
use Rattle.std.proofs.lemmas.List.{map-append}
use Rattle.std.proofs.lemmas.List.Folds.{list_any-append}
use Rattle.std.proofs.lemmas.Slice.Eq.{bytes_eq-Decides}
use Rattle.ioa_trees.specs.Trees.{Bytes}
use Rattle.ioa_trees.specs.EntryRules.{Meant}
use Rattle.ioa_trees.specs.AutomatonRules.{MeantAutomaton}
use Rattle.ioa_trees.specs.SourceRules.{MeantComponent, MeantSource}
use Rattle.io_automata.specs.Automata.{Instance, absent, component_at}
use Rattle.compose.specs.Instances.{place_in, instance}
use Rattle.compose.specs.Names.{Signature, signature_of, signatures_in, signatures_of, automaton_at, AreNames}

or_right : (a b : Bool) → b ≡ true → (a || b) ≡ true
or_right true b h = refl
or_right false b h = h

or_left : (a b : Bool) → a ≡ true → (a || b) ≡ true
or_left true b h = refl
or_left false b h = cc

-- ---- places in tables

-- what stands at a place of a table
abbrev pub At : List Bytes → ℕ → Bytes → Type 0
At names n q = (r : Bytes) × ((slice_get names n ≡ Some r) × (bytes_eq q r ≡ true))

-- a name that is in a table stands at its place there
pub at_place : (names : List Bytes) (q : Bytes) → list_any (bytes_eq q) names ≡ true → At names (place_in names q) q
at_place [] q h = cc
at_place (name ∷ names) q h = by (bytes_eq q name) refl (λ i. at_place names q i) h
  where
    by : (b : Bool) → bytes_eq q name ≡ b → (list_any (bytes_eq q) names ≡ true → At names (place_in names q) q) → (b || list_any (bytes_eq q) names) ≡ true → At (name ∷ names) (if b then 0 else suc (place_in names q)) q
    by true e f i = (name, (refl, e))
    by false e f i = f i

same_bytes : (q r : Bytes) → bytes_eq q r ≡ true → q ≡ r
same_bytes q r h = (bytes_eq-Decides q r).0 h

name_itself : (q : Bytes) → bytes_eq q q ≡ true
name_itself q = (bytes_eq-Decides q q).1 refl

-- names that stand at one place of a table are one
pub one_place : (names : List Bytes) (q r : Bytes) → list_any (bytes_eq q) names ≡ true → list_any (bytes_eq r) names ≡ true → place_in names q ≡ place_in names r → bytes_eq q r ≡ true
one_place names q r h g e =
    let a = at_place names q h in let b = at_place names r g in
    let here : ◌≡◌ {A = Option Bytes} (Some a.0) (Some b.0) = sym a.1.0 ∙ ap (slice_get names) e ∙ b.1.0 in
    let same : a.0 ≡ b.0 = cc in
    (bytes_eq-Decides q r).1 (same_bytes q a.0 a.1.1 ∙ same ∙ sym (same_bytes r b.0 b.1.1))

-- ---- the entries of a component

used_in : (formals : _) (es : List Meant) (n : ℕ) (e : Meant) → slice_get es n ≡ Some e → list_any (bytes_eq e.name) (map (λ (s : Signature). s.name) (map (signature_of formals) es)) ≡ true
used_in formals [] n e h = cc
used_in formals (d ∷ es) zero e h = let same : d ≡ e = cc in or_left (bytes_eq e.name d.name) (list_any (bytes_eq e.name) (map (λ (s : Signature). s.name) (map (signature_of formals) es))) (ap (λ x. bytes_eq e.name x.name) same ∙ name_itself e.name)
used_in formals (d ∷ es) (suc n) e h = or_right (bytes_eq e.name d.name) (list_any (bytes_eq e.name) (map (λ (s : Signature). s.name) (map (signature_of formals) es))) (used_in formals es n e h)

used_by : (automata : List MeantAutomaton) (cs : List MeantComponent) (i : ℕ) (c : MeantComponent) (a : MeantAutomaton) (n : ℕ) (e : Meant) → slice_get cs i ≡ Some c → automaton_at automata c.automaton ≡ Some a → slice_get a.entries n ≡ Some e → list_any (bytes_eq e.name) (map (λ (s : Signature). s.name) (signatures_of automata cs)) ≡ true
used_by automata [] i c a n e h f g = cc
used_by automata (d ∷ cs) zero c a n e h f g =
    let same : d ≡ c = cc in
    let found : automaton_at automata d.automaton ≡ Some a = ap (λ x. automaton_at automata x.automaton) same ∙ f in
    let here : list_any (bytes_eq e.name) (map (λ (s : Signature). s.name) (signatures_in (automaton_at automata d.automaton))) ≡ true = ap (λ o. list_any (bytes_eq e.name) (map (λ (s : Signature). s.name) (signatures_in o))) found ∙ used_in a.formals a.entries n e g in
    ap (list_any (bytes_eq e.name)) (map-append (λ (s : Signature). s.name) (signatures_in (automaton_at automata d.automaton)) (signatures_of automata cs))
    ∙ list_any-append (bytes_eq e.name) (map (λ (s : Signature). s.name) (signatures_in (automaton_at automata d.automaton))) (map (λ (s : Signature). s.name) (signatures_of automata cs))
    ∙ or_left (list_any (bytes_eq e.name) (map (λ (s : Signature). s.name) (signatures_in (automaton_at automata d.automaton)))) (list_any (bytes_eq e.name) (map (λ (s : Signature). s.name) (signatures_of automata cs))) here
used_by automata (d ∷ cs) (suc i) c a n e h f g =
    ap (list_any (bytes_eq e.name)) (map-append (λ (s : Signature). s.name) (signatures_in (automaton_at automata d.automaton)) (signatures_of automata cs))
    ∙ list_any-append (bytes_eq e.name) (map (λ (s : Signature). s.name) (signatures_in (automaton_at automata d.automaton))) (map (λ (s : Signature). s.name) (signatures_of automata cs))
    ∙ or_right (list_any (bytes_eq e.name) (map (λ (s : Signature). s.name) (signatures_in (automaton_at automata d.automaton)))) (list_any (bytes_eq e.name) (map (λ (s : Signature). s.name) (signatures_of automata cs))) (used_by automata cs i c a n e h f g)

-- the name of an entry of a component is in the table
pub in_table : (names : List Bytes) (m : MeantSource) → AreNames names m → (i : ℕ) (c : MeantComponent) (a : MeantAutomaton) (n : ℕ) (e : Meant) → slice_get m.components i ≡ Some c → automaton_at m.automata c.automaton ≡ Some a → slice_get a.entries n ≡ Some e → list_any (bytes_eq e.name) names ≡ true
in_table names m are i c a n e h f g = are.used e.name ∙ used_by m.automata m.components i c a n e h f g

-- ---- components of a composition

abbrev pub instance_or_absent : List Bytes → List MeantAutomaton → Option MeantComponent → Instance
instance_or_absent names automata None = absent
instance_or_absent names automata (Some c) = instance names automata c

pub component_is : (names : List Bytes) (automata : List MeantAutomaton) (cs : List MeantComponent) (i : ℕ) → component_at (map (instance names automata) cs) i ≡ instance_or_absent names automata (slice_get cs i)
component_is names automata [] i = refl
component_is names automata (c ∷ cs) zero = refl
component_is names automata (c ∷ cs) (suc i) = component_is names automata cs i

pub mapped_at : {A B : Type 0} (f : A → B) (xs : List A) (n : ℕ) → slice_get (map f xs) n ≡ option_map f (slice_get xs n)
mapped_at f [] n = refl
mapped_at f (x ∷ xs) zero = refl
mapped_at f (x ∷ xs) (suc n) = mapped_at f xs n
