-- What an automaton without faults means is sound.
use Rattle.std.proofs.Common.{◌≡◌, ℕ, ◌+◌, zero, suc, true, Option, Some, IsSome, nat_lt, List, [], ◌∷◌, ◌++◌, length, slice_get, refl, sym, ap, ◌∙◌, subst, arith}
use Rattle.std.specs.List.{All}
use Rattle.std.proofs.lemmas.List.Elements.{All-nil, All-cons, All-head, All-tail}
use Rattle.std.proofs.lemmas.Option.{same_Some}
use Rattle.ioa_trees.specs.Trees.{Bytes, PlainVariable, PlainAutomaton, PlainSource}
use Rattle.ioa_trees.specs.Faults.{where_wrong}
use Rattle.ioa_trees.specs.Scopes.{Scope, OfVariable, OfAutomaton, declare, taken_before}
use Rattle.ioa_trees.specs.Sizes.{automaton_size}
use Rattle.ioa_trees.specs.TypeRules.{kind_of}
use Rattle.ioa_trees.specs.EntryRules.{Meant, Slot, is_controlled, slots, entries_faults, transitions_faults, meant_by}
use Rattle.ioa_trees.specs.AutomatonRules.{formals_faults, with_variables, variables_faults, tasks_faults, signature_at, states_at, transitions_at, tasks_at, inside, around, entry_names, body_faults, locals, meaning_of}
use Rattle.ioa_trees.specs.SourceRules.{definitions_faults, definitions_size, with_automaton, automata_faults, all_locals, all_members, meanings_of, composed_faults, types_scope, whole_scope, table_of, composed_at, source_faults, source_meaning}
use Rattle.ioa_trees.specs.Meant.{IsWholeEntry, IsWholeAutomaton, IsWholeSource}
use Rattle.compose.specs.Sound.{collide, IsSoundAutomaton}
use Rattle.compose.proofs.NoFaults.{nil_left, nil_right}
use Rattle.ioa_trees.proofs.ScopesMeant.{Alike, alike_self, alike_with}
use Rattle.compose.proofs.Apart.{mapped_at}
use Rattle.compose.proofs.Heads.{has_entry}
use Rattle.compose.proofs.SoundEntries.{kept}
use Rattle.compose.proofs.Once.{AreRight, one_transition}
use Rattle.compose.proofs.Partition.{shared}
use Rattle.compose.proofs.Within.{Within, within_with, definitions_within, formals_within}
use Rattle.compose.proofs.SoundSlots.{IsRight, slots_right}

-- variables are neither types nor formals
alike_with_variables : (types s g : Scope) → Alike s g → (n : ℕ) (vs : List PlainVariable) → Alike (with_variables types s n vs) g
alike_with_variables types s g a n [] = a
alike_with_variables types s g a n (v ∷ vs) =
    let m = OfVariable n (kind_of types v.declared.of) in
    alike_with_variables types (declare v.declared.name m s) g (alike_with v.declared.name m s g refl refl a) (n + 1) vs

body_right : (s : Scope) (at : ℕ) (a : PlainAutomaton) → body_faults s at a ≡ [] → AreRight (inside s a) (around s a) a.entries a.transitions a.tasks
body_right s at a h =
    let i = inside s a in
    let fa = where_wrong (nat_lt 16 (length a.formals)) (at + 1) 17 in
    let fb = formals_faults s 0 (at + 3) a.formals in
    let fc = entries_faults i [] a.transitions a.tasks (signature_at at a + 1) a.entries in
    let fd = variables_faults i (entry_names a.entries) 0 (states_at at a + 1) a.variables in
    let fe = transitions_faults (around s a) a.entries [] (transitions_at at a + 1) a.transitions in
    let ff = tasks_faults a.entries [] (tasks_at at a + 1) a.tasks in
    let hc = nil_right fb (fc ++ (fd ++ (fe ++ ff))) (nil_right fa (fb ++ (fc ++ (fd ++ (fe ++ ff)))) h) in
    let he = nil_right fd (fe ++ ff) (nil_right fc (fd ++ (fe ++ ff)) hc) in
    record {
      entries_at = signature_at at a + 1;
      transitions_at = transitions_at at a + 1;
      tasks_at = tasks_at at a + 1;
      entries = nil_left fc (fd ++ (fe ++ ff)) hc;
      transitions = nil_left fe ff he;
      tasks = nil_right fe ff he;
    }

found_there : {X : Type 0} (P : X → Type 0) (xs : List X) (n : ℕ) (x : X) → All P xs → slice_get xs n ≡ Some x → P x
found_there P [] n x all e = absurd (cc)
found_there P (y ∷ xs) zero x all e = subst P (same_Some y x e) (All-head P y xs all)
found_there P (y ∷ xs) (suc n) x all e = found_there P xs n x (All-tail P y xs all) e

-- the parameters of an entry of what an automaton means
parameter_right : (members : ℕ) (s : Scope) → Within members s → (a : PlainAutomaton) → AreRight (inside s a) (around s a) a.entries a.transitions a.tasks → IsWholeAutomaton (meaning_of s a)
    → (place k : ℕ) (e : Meant) (slot : Option Slot) → slice_get (meaning_of s a).entries place ≡ Some e → slice_get e.parameters k ≡ Some slot → IsRight members (is_controlled e.kind) slot
parameter_right members s w a r whole place k e slot there here =
    let inner = inside s a in let outer = around s a in
    let some = found_there (λ (o : Option Slot). IsSome o) e.parameters k slot (found_there IsWholeEntry (meaning_of s a).entries place e whole.entries there).parameters here in
    let t = mapped_at (meant_by outer) a.transitions place e there in
    let x = has_entry outer a.entries [] r.transitions_at a.transitions r.transitions place t.0 t.1 in
    let i = kept inner [] a.transitions a.tasks r.entries_at a.entries r.entries x.place x.entry x.found in
    let listed : e.parameters ≡ slots outer 0 x.entry.parameters = sym (ap (λ (m : Meant). m.parameters) t.2) ∙ ap (λ ps. slots outer 0 ps) x.parameters in
    let kinds : x.entry.kind ≡ e.kind = sym x.kind ∙ ap (λ (m : Meant). m.kind) t.2 in
    subst (λ c. IsRight members (is_controlled c) slot) kinds
    (slots_right members inner outer (formals_within members s w 0 a.formals) (alike_with_variables inner inner inner (alike_self inner) 0 a.variables) (is_controlled x.entry.kind) 0 i.at x.entry.parameters i.parameters k slot
    (subst (λ (os : List (Option Slot)). slice_get os k ≡ Some slot) listed here) some)

-- what an automaton without faults means is sound
pub automaton_sound : (members : ℕ) (s : Scope) → Within members s → (at : ℕ) (a : PlainAutomaton) → body_faults s at a ≡ [] → IsWholeAutomaton (meaning_of s a) → IsSoundAutomaton members (meaning_of s a)
automaton_sound members s w at a h whole =
    let inner = inside s a in let outer = around s a in
    let r = body_right s at a h in
    record {
      once = λ m n e f i j c.
          let t = mapped_at (meant_by outer) a.transitions m e i in let u = mapped_at (meant_by outer) a.transitions n f j in
          one_transition inner outer a.entries a.transitions a.tasks r m n t.0 u.0 t.1 u.1
          (subst (λ x. collide (meant_by outer t.0) x ≡ true) (sym u.2) (subst (λ x. collide x f ≡ true) (sym t.2) c));
      partition = shared inner outer a.entries a.transitions a.tasks r;
      slots = λ place k e slot i j. (parameter_right members s w a r whole place k e slot i j).stands;
      listed = λ place k e slot i c j. (parameter_right members s w a r whole place k e slot i j).listed c;
    }

automata_sound : (members : ℕ) (s : Scope) → Within members s → (used : List Bytes) (n at : ℕ) (xs : List PlainAutomaton) → automata_faults s used n at xs ≡ [] → All IsWholeAutomaton (meanings_of s n xs) → All (IsSoundAutomaton members) (meanings_of s n xs)
automata_sound members s w used n at [] h whole = All-nil (IsSoundAutomaton members)
automata_sound members s w used n at (x ∷ xs) h whole =
    let r = with_automaton s n x in let p = at + automaton_size x in
    let a = taken_before s used (at + 1) x.name in let b = body_faults r at x in let c = automata_faults r (used ++ locals x) (n + 1) p xs in
    let u = nil_right a (b ++ c) h in
    let v = within_with members x.name (OfAutomaton n) s refl w in
    let m = meaning_of r x in let ms = meanings_of r (n + 1) xs in
    All-cons (IsSoundAutomaton members) m ms
    (automaton_sound members r v at x (nil_left b c u) (All-head IsWholeAutomaton m ms whole))
    (automata_sound members r v (used ++ locals x) (n + 1) p xs (nil_right b c u) (All-tail IsWholeAutomaton m ms whole))

-- the automata that a source without faults means are sound
pub source_sound : (x : PlainSource) → source_faults x ≡ [] → IsWholeSource (source_meaning x) → All (IsSoundAutomaton (length (source_meaning x).members)) (source_meaning x).automata
source_sound x h whole =
    let a = definitions_faults [] 0 0 x.types in
    let b = automata_faults (types_scope x) [] 0 (definitions_size x.types) x.automata in
    let c = composed_faults (whole_scope x) (all_locals x.automata) (table_of x) (composed_at x) x.composed in
    let members = length (all_members x.types) in
    let w = definitions_within members [] (λ q. refl) 0 x.types (omega arith) in
    automata_sound members (types_scope x) w [] 0 (definitions_size x.types) x.automata (nil_left b c (nil_right a (b ++ c) h)) whole.automata
