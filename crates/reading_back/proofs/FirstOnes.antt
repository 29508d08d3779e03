-- The names of entries in the table of names, and the types of the first entry of a name.
use Rattle.std.proofs.Common.{◌≡◌, ◌<◌, ℕ, zero, suc, ◌+◌, Bool, true, false, ◌||◌, bytes_eq, if◌then◌else◌, Option, None, Some, List, [], ◌∷◌, length, map, slice_get, refl, sym, ◌∙◌, ap, arith}
use Rattle.std.specs.List.{list_any}
use Rattle.std.proofs.lemmas.Slice.Eq.{bytes_eq-Decides}
use Rattle.terms.specs.ShapeTree as shape
use Rattle.terms.specs.ShapeTree.{ShapeTree}
use Rattle.ioa_trees.specs.Trees.{Bytes}
use Rattle.ioa_trees.specs.Kinds.{Kind, shape_of}
use Rattle.ioa_trees.specs.EntryRules.{Meant, Slot, Fixed, Free}
use Rattle.ioa_trees.specs.AutomatonRules.{MeantAutomaton}
use Rattle.ioa_trees.specs.SourceRules.{MeantComponent, MeantSource}
use Rattle.io_automata.specs.Each.{Each, each_append, each_map, each_from}
use Rattle.compose.specs.Instances.{place_in}
use Rattle.compose.specs.Names.{Signature, signature_of, signatures_in, signatures_of, automaton_at, first_in, none_if_missing, type_in, formal_type}
use Rattle.compose.specs.Types.{TypesDiffer, entry_kinds, slot_kind, formal_kind, same_kinds, automaton_of}
use Rattle.compose.specs.Types as types
use Rattle.compose.proofs.SameKinds.{kinds_are}

-- ---- places in the table

same_bytes : (q r : Bytes) → bytes_eq q r ≡ true → q ≡ r
same_bytes q r h = (bytes_eq-Decides q r).0 h

name_itself : (q : Bytes) → bytes_eq q q ≡ true
name_itself q = (bytes_eq-Decides q q).1 refl

-- a name that is in a table stands at its place, and nowhere before
pub record IsPlaced (names : List Bytes) (q : Bytes) (place : ℕ) : Type 0 where
  pub low : place < length names
  pub is : slice_get names place ≡ Some q
  pub first : (k : ℕ) → k < place → slice_get names k ≡ Some q → ⊥

pub placed : (names : List Bytes) (q : Bytes) → list_any (bytes_eq q) names ≡ true → IsPlaced names q (place_in names q)
placed [] q h = cc
placed (name ∷ names) q h = by (bytes_eq q name) refl (λ i. placed names q i) h
  where
    by : (b : Bool) → bytes_eq q name ≡ b → (list_any (bytes_eq q) names ≡ true → IsPlaced names q (place_in names q)) → (b || list_any (bytes_eq q) names) ≡ true → IsPlaced (name ∷ names) q (if b then 0 else suc (place_in names q))
    by true e f i = record { low = omega arith; is = ap Some (sym (same_bytes q name e)); first = λ k less at. absurd (omega (arith, less)) }
    by false e f i = later (f i)
      where
        later : IsPlaced names q (place_in names q) → IsPlaced (name ∷ names) q (suc (place_in names q))
        later r = record { low = omega (arith, r.low); is = r.is; first = before }
          where
            before : (k : ℕ) → k < suc (place_in names q) → slice_get (name ∷ names) k ≡ Some q → ⊥
            before zero less at =
                let same : name ≡ q = cc in
                let both : ◌≡◌ {A = Bool} false true = sym e ∙ ap (bytes_eq q) same ∙ name_itself q in
                cc
            before (suc k) less at = r.first k (omega (arith, less)) at

-- ---- the first types

-- where all entries of a name have these types, so has the first
pub firsts : (ss : List Signature) (q : Bytes) (ts : List ShapeTree) → Each (λ s. bytes_eq q s.name ≡ true → s.types ≡ ts) ss → list_any (bytes_eq q) (map (λ (s : Signature). s.name) ss) ≡ true → none_if_missing (first_in ss q) ≡ ts
firsts [] q ts all h = cc
firsts (s ∷ ss) q ts all h = by (bytes_eq q s.name) refl (firsts ss q ts all.1) h
  where
    by : (b : Bool) → bytes_eq q s.name ≡ b → (list_any (bytes_eq q) (map (λ (s : Signature). s.name) ss) ≡ true → none_if_missing (first_in ss q) ≡ ts) → (b || list_any (bytes_eq q) (map (λ (s : Signature). s.name) ss)) ≡ true → none_if_missing (if b then Some s.types else first_in ss q) ≡ ts
    by true e f i = all.0 e
    by false e f i = f i

-- what holds of each entry of each component holds of all signatures
abbrev pub OfEntries : List MeantAutomaton → List MeantComponent → (Signature → Type 0) → Type 0
OfEntries automata cs P = (k : ℕ) (c : MeantComponent) (b : MeantAutomaton) (place : ℕ) (f : Meant) → slice_get cs k ≡ Some c → automaton_at automata c.automaton ≡ Some b → slice_get b.entries place ≡ Some f → P (signature_of b.formals f)

in_one : (P : Signature → Type 0) (o : Option MeantAutomaton) → ((b : MeantAutomaton) (place : ℕ) (f : Meant) → o ≡ Some b → slice_get b.entries place ≡ Some f → P (signature_of b.formals f)) → Each P (signatures_in o)
in_one P None all = tt
in_one P (Some b) all = each_map P (signature_of b.formals) b.entries (each_from (λ f. P (signature_of b.formals f)) b.entries (λ place f at. all b place f refl at))

pub in_all : (P : Signature → Type 0) (automata : List MeantAutomaton) (cs : List MeantComponent) → OfEntries automata cs P → Each P (signatures_of automata cs)
in_all P automata [] all = tt
in_all P automata (c ∷ cs) all =
    each_append P (signatures_in (automaton_at automata c.automaton)) (signatures_of automata cs)
    (in_one P (automaton_at automata c.automaton) (λ b place f found at. all 0 c b place f refl found at))
    (in_all P automata cs (λ k d b place f found is at. all (suc k) d b place f found is at))

-- ---- types are told by kinds

abbrev type_by : Option Kind → ShapeTree
type_by None = shape.Int
type_by (Some k) = shape_of k

formal_by : (o : Option (Option Kind)) → formal_type o ≡ type_by (formal_kind o)
formal_by None = refl
formal_by (Some None) = refl
formal_by (Some (Some k)) = refl

slot_by : (formals : List (Option Kind)) (s : Option Slot) → type_in formals s ≡ type_by (slot_kind formals s)
slot_by formals None = refl
slot_by formals (Some (Fixed n)) = formal_by (slice_get formals n)
slot_by formals (Some (Free k)) = refl

slots_by : (formals : List (Option Kind)) (ss : List (Option Slot)) → map (type_in formals) ss ≡ map type_by (map (slot_kind formals) ss)
slots_by formals [] = refl
slots_by formals (s ∷ ss) = λ i. slot_by formals s i ∷ slots_by formals ss i

automaton_is : (automata : List MeantAutomaton) (o : Option ℕ) → automaton_of automata o ≡ automaton_at automata o
automaton_is automata None = refl
automaton_is automata (Some n) = refl

-- two entries of one name in a composition have the same types
module _ (m : MeantSource) (differ : (j : ℕ) → TypesDiffer m j → ⊥) where
  place_at : (i : ℕ) (c : MeantComponent) (a : MeantAutomaton) → slice_get m.components i ≡ Some c → automaton_at m.automata c.automaton ≡ Some a → types.automaton_at m i ≡ Some a
  place_at i c a at found = ap (types.automaton_in m.automata) at ∙ automaton_is m.automata c.automaton ∙ found

  pub one_type : (i k : ℕ) (c d : MeantComponent) (a b : MeantAutomaton) (place other : ℕ) (e f : Meant)
      → slice_get m.components i ≡ Some c → automaton_at m.automata c.automaton ≡ Some a → slice_get a.entries place ≡ Some e
      → slice_get m.components k ≡ Some d → automaton_at m.automata d.automaton ≡ Some b → slice_get b.entries other ≡ Some f
      → bytes_eq e.name f.name ≡ true → map (type_in b.formals) f.parameters ≡ map (type_in a.formals) e.parameters
  one_type i k c d a b place other e f ci ca ae dk db bf name = by (same_kinds (entry_kinds a e) (entry_kinds b f)) refl
    where
      by : (t : Bool) → same_kinds (entry_kinds a e) (entry_kinds b f) ≡ t → map (type_in b.formals) f.parameters ≡ map (type_in a.formals) e.parameters
      by true h = slots_by b.formals f.parameters ∙ ap (map type_by) (sym (kinds_are (entry_kinds a e) (entry_kinds b f) h)) ∙ sym (slots_by a.formals e.parameters)
      by false h = absurd (differ (i + k) (record {
        i = i;
        k = k;
        within = omega arith;
        other_within = omega arith;
        a = a;
        b = b;
        automaton = place_at i c a ci ca;
        other_automaton = place_at k d b dk db;
        place = place;
        other_place = other;
        e = e;
        f = f;
        entry = ae;
        other_entry = bf;
        one_name = name;
        differ = h;
      }))

  -- the types of an entry are those of the first of its name
  pub types_are : (i : ℕ) (c : MeantComponent) (a : MeantAutomaton) (place : ℕ) (e : Meant)
      → slice_get m.components i ≡ Some c → automaton_at m.automata c.automaton ≡ Some a → slice_get a.entries place ≡ Some e
      → list_any (bytes_eq e.name) (map (λ (s : Signature). s.name) (signatures_of m.automata m.components)) ≡ true
      → none_if_missing (first_in (signatures_of m.automata m.components) e.name) ≡ map (type_in a.formals) e.parameters
  types_are i c a place e ci ca ae used =
      firsts (signatures_of m.automata m.components) e.name (map (type_in a.formals) e.parameters)
      (in_all (λ s. bytes_eq e.name s.name ≡ true → s.types ≡ map (type_in a.formals) e.parameters) m.automata m.components
      (λ k d b other f dk db bf name. one_type i k c d a b place other e f ci ca ae dk db bf name))
      used
