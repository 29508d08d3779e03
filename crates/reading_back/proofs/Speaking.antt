-- Each action of a composition can be written and read back.
use Rattle.std.proofs.Common.{◌≡◌, ◌≤◌, ◌^◌, ℕ, zero, suc, Bool, true, false, ◌&&◌, ◌==◌, bytes_eq, Option, None, Some, List, [], ◌∷◌, map, length, slice_get, refl, sym, ◌∙◌, ap, subst, arith}
use Rattle.std.specs.List.{All, list_any}
use Rattle.std.specs.Option.{option_map, unwrap_or}
use Rattle.std.proofs.lemmas.Bool.Decides.{nat_tests}
use Rattle.std.proofs.lemmas.List.Elements.{All-head, All-tail}
use Rattle.terms.specs.Datum.{Datum}
use Rattle.terms.specs.Meaning.{slot}
use Rattle.terms.specs.Named.{Named}
use Rattle.terms.specs.ShapeTree.{ShapeTree}
use Rattle.terms.specs.declared.scalar.Scalar.{Scalar}
use Rattle.ioa_tokens.specs.Spelling.{IsName}
use Rattle.ioa_trees.specs.Trees.{Bytes}
use Rattle.ioa_trees.specs.declared.tree.EntryKind.{EntryKind}
use Rattle.ioa_trees.specs.declared.tree.EntryKind.TheVariants as kind
use Rattle.ioa_trees.specs.EntryRules.{Meant, is_controlled}
use Rattle.ioa_trees.specs.AutomatonRules.{MeantAutomaton}
use Rattle.ioa_trees.specs.SourceRules.{MeantComponent, MeantSource}
use Rattle.plans.specs.declared.plan.Plan.{Plan}
use Rattle.io_automata.specs.declared.automaton.Kind.TheVariants as sort
use Rattle.io_automata.specs.Automata.{Instance, Transition, component_at}
use Rattle.io_automata.specs.Each.{Each, each_from}
use Rattle.plans.specs.Plans.{composition, action_texts, action_types}
use Rattle.io_automata.specs.Signatures.{fits, has, same_kind}
use Rattle.io_automata.specs.TurnSteps.{IsOffered, outcome_offered}
use Rattle.io_automata.specs.WellFormed.{IsWellFormed}
use Rattle.compose.specs.Faults.{IsPlan}
use Rattle.compose.specs.Instances.{argument, built, instances, kind_as, param_of, place_in, transition}
use Rattle.compose.specs.Names.{automaton_at, first_types, formal_type, type_in, used_names}
use Rattle.compose.specs.Sound.{IsSoundAutomaton}
use Rattle.compose.specs.Types.{TypesDiffer}
use Rattle.compose.proofs.Named.{component_is, in_table, instance_or_absent, mapped_at}
use Rattle.trace.specs.Lines.{name_at}
use Rattle.trace.specs.Written.{IsKnown, IsNumberOf, IsWritten}
use Rattle.trace.specs.WrittenTurns.{written_of}
use Rattle.reading_back.specs.Said.{SaysAll}
use Rattle.reading_back.proofs.Sayable.{AreNamed, FitFormals, HaveNumbers, IsTyped}
use Rattle.reading_back.proofs.FirstOnes.{placed, types_are}
use Rattle.reading_back.proofs.SlotArgs.{AreTyped, IsFine, slots_typed}

both_true : (a b : Bool) → (a && b) ≡ true → (a ≡ true) × (b ≡ true)
both_true true b h = (refl, h)
both_true false b h = cc

number_is : (a b : ℕ) → (a == b) ≡ true → a ≡ b
number_is a b h = grind (arith, nat_tests)

controlled_by : (k : EntryKind) → same_kind sort.Input (kind_as k) ≡ false → is_controlled k ≡ true
controlled_by kind.Input h = cc
controlled_by kind.Output h = refl
controlled_by kind.Internal h = refl

-- ---- where an entry of a component comes from

record Comes (names : List Bytes) (m : MeantSource) (i : ℕ) (formals : List Scalar) (entry : Transition) : Type 0 where
  c : MeantComponent
  a : MeantAutomaton
  place : ℕ
  e : Meant
  component : slice_get m.components i ≡ Some c
  automaton : automaton_at m.automata c.automaton ≡ Some a
  at : slice_get a.entries place ≡ Some e
  formals_are : formals ≡ map argument c.arguments
  is : entry ≡ transition names e

found_meant : (names : List Bytes) (es : List Meant) (n : ℕ) (t : Transition) → slice_get (map (transition names) es) n ≡ Some t → (e : Meant) × ((slice_get es n ≡ Some e) × (t ≡ transition names e))
found_meant names [] n t h = cc
found_meant names (e ∷ es) zero t h = let same : transition names e ≡ t = cc in (e, (refl, sym same))
found_meant names (e ∷ es) (suc n) t h = found_meant names es n t h

module _ (names : List Bytes) (m : MeantSource) (i : ℕ) (place : ℕ) (entry : Transition) where
  comes_by : (o : Option MeantComponent) → slice_get m.components i ≡ o → slice_get (instance_or_absent names m.automata o).entries place ≡ Some entry → Comes names m i (instance_or_absent names m.automata o).formals entry
  comes_by None there at = cc
  comes_by (Some c) there at = by (automaton_at m.automata c.automaton) refl at
    where
      by : (o : Option MeantAutomaton) → automaton_at m.automata c.automaton ≡ o → slice_get (built names (map argument c.arguments) o).entries place ≡ Some entry → Comes names m i (built names (map argument c.arguments) o).formals entry
      by None found at = cc
      by (Some a) found at =
          let x = found_meant names a.entries place entry at in
          record { c = c; a = a; place = place; e = x.0; component = there; automaton = found; at = x.1.0; formals_are = refl; is = x.1.1 }

  comes : slice_get (component_at (instances names m) i).entries place ≡ Some entry → Comes names m i (component_at (instances names m) i).formals entry
  comes at =
      let same = component_is names m.automata m.components i in
      subst (λ (z : Instance). Comes names m i z.formals entry) (sym same) (comes_by (slice_get m.components i) refl (subst (λ (z : Instance). slice_get z.entries place ≡ Some entry) same at))

-- ---- soundness

all_at : {X : Type 0} (P : X → Type 0) (xs : List X) → All P xs → (n : ℕ) (x : X) → slice_get xs n ≡ Some x → P x
all_at P [] h n x e = cc
all_at P (y ∷ xs) h zero x e = let same : y ≡ x = cc in subst P same (All-head P y xs h)
all_at P (y ∷ xs) h (suc n) x e = all_at P xs (All-tail P y xs h) n x e

sound_at : (m : MeantSource) → All (IsSoundAutomaton (length m.members)) m.automata → (o : Option ℕ) (a : MeantAutomaton) → automaton_at m.automata o ≡ Some a → IsSoundAutomaton (length m.members) a
sound_at m all None a e = cc
sound_at m all (Some n) a e = all_at (IsSoundAutomaton (length m.members)) m.automata all n a e

-- ---- the whole

-- the number and the name of an action
record IsSpoken (names : List Bytes) (types : List (List ShapeTree)) (number : ℕ) (q : Bytes) (ts : List ShapeTree) : Type 0 where
  number_of : IsNumberOf names q number
  name : name_at names number ≡ q
  declared : slice_get types number ≡ Some ts

module _ (plan : Plan) (m : MeantSource) (is : IsPlan m plan)
    (formed : IsWellFormed (composition plan))
    (sound : All (IsSoundAutomaton (length m.members)) m.automata)
    (differ : (j : ℕ) → TypesDiffer m j → ⊥)
    (few : length (action_texts plan) ≤ 2 ^ 16)
    (named : AreNamed m)
    (numbered : HaveNumbers plan m)
    (formals : FitFormals plan m) where
  spoken : (i : ℕ) (c : MeantComponent) (a : MeantAutomaton) (place : ℕ) (e : Meant)
      → slice_get m.components i ≡ Some c → automaton_at m.automata c.automaton ≡ Some a → slice_get a.entries place ≡ Some e
      → IsSpoken (action_texts plan) (action_types plan) (place_in (action_texts plan) e.name) e.name (map (type_in a.formals) e.parameters)
  spoken i c a place e ci ca ae =
      let there = in_table (action_texts plan) m is.names i c a place e ci ca ae in
      let at = placed (action_texts plan) e.name there in
      let used : list_any (bytes_eq e.name) (used_names m) ≡ true = sym (is.names.used e.name) ∙ there in
      record {
        number_of = record { fits = omega (arith, at.low, few); is = at.is; first = at.first };
        name = ap (λ o. unwrap_or o []) at.is;
        declared = ap (λ ts. slice_get ts (place_in (action_texts plan) e.name)) is.types ∙ mapped_at (first_types m) (action_texts plan) (place_in (action_texts plan) e.name)
            ∙ ap (option_map (first_types m)) at.is ∙ ap Some (types_are m differ i c a place e ci ca ae used);
      }

  fine : (a : MeantAutomaton) → IsSoundAutomaton (length m.members) a → (place : ℕ) (e : Meant) → slice_get a.entries place ≡ Some e → is_controlled e.kind ≡ true
      → (fs : List Scalar) (fixed : (n : ℕ) → IsTyped plan (formal_type (slice_get a.formals n)) (slot fs n)) → Each (IsFine plan (length m.members) numbered fs a.formals fixed) e.parameters
  fine a own place e at controlled fs fixed = each_from (IsFine plan (length m.members) numbered fs a.formals fixed) e.parameters
      (λ k s found. record { slot = own.slots place k e s at found; listed = own.listed place k e s at controlled found })

  said_by : (i : ℕ) (fs : List Scalar) (entry : Transition) (action : Named) → Comes (action_texts plan) m i fs entry → same_kind sort.Input entry.kind ≡ false → has fs action entry ≡ true
      → IsWritten plan (written_of plan action) × IsKnown plan (written_of plan action) action
  said_by i fs entry act comes local has_it = (written, known)
    where
      s : IsSpoken (action_texts plan) (action_types plan) (place_in (action_texts plan) comes.e.name) comes.e.name (map (type_in comes.a.formals) comes.e.parameters)
      s = spoken i comes.c comes.a comes.place comes.e comes.component comes.automaton comes.at

      used : list_any (bytes_eq comes.e.name) (used_names m) ≡ true
      used = sym (is.names.used comes.e.name) ∙ in_table (action_texts plan) m is.names i comes.c comes.a comes.place comes.e comes.component comes.automaton comes.at

      parts : ((place_in (action_texts plan) comes.e.name == act.name) ≡ true) × (fits fs (map param_of comes.e.parameters) act.args ≡ true)
      parts = both_true (place_in (action_texts plan) comes.e.name == act.name) (fits fs (map param_of comes.e.parameters) act.args) (subst (λ (t : Transition). has fs act t ≡ true) comes.is has_it)

      number : place_in (action_texts plan) comes.e.name ≡ act.name
      number = number_is (place_in (action_texts plan) comes.e.name) act.name parts.0

      name_is : name_at (action_texts plan) act.name ≡ comes.e.name
      name_is = ap (name_at (action_texts plan)) (sym number) ∙ s.name

      controlled : is_controlled comes.e.kind ≡ true
      controlled = controlled_by comes.e.kind (subst (λ (t : Transition). same_kind sort.Input t.kind ≡ false) comes.is local)

      fixed : (n : ℕ) → IsTyped plan (formal_type (slice_get comes.a.formals n)) (slot fs n)
      fixed n = subst (λ (xs : List Scalar). IsTyped plan (formal_type (slice_get comes.a.formals n)) (slot xs n)) (sym comes.formals_are) (formals i n comes.c comes.a comes.component comes.automaton)

      args : AreTyped plan (length m.members) numbered fs comes.a.formals fixed (map (type_in comes.a.formals) comes.e.parameters) act.args
      args = slots_typed plan (length m.members) numbered fs comes.a.formals fixed comes.e.parameters act.args (fine comes.a (sound_at m sound comes.c.automaton comes.a comes.automaton) comes.place comes.e comes.at controlled fs fixed) parts.1

      written : IsWritten plan (written_of plan act)
      written = record { name = subst IsName (sym name_is) (named comes.e.name used); args = args.written }

      here : IsNumberOf (action_texts plan) comes.e.name act.name
      here = subst (IsNumberOf (action_texts plan) comes.e.name) number s.number_of

      known : IsKnown plan (written_of plan act) act
      known = record { name = subst (λ (q : Bytes). IsNumberOf (action_texts plan) q act.name) (sym name_is) here; args = refl; types = map (type_in comes.a.formals) comes.e.parameters; declared = ap (slice_get (action_types plan)) (sym number) ∙ s.declared; kinds = args.all_of }

  pub says_all : SaysAll plan
  says_all i act taken =
      let offered = outcome_offered (composition plan) formed i taken.task taken.choice taken.state act taken.is in
      by (component_at (composition plan) i) (ap (λ z. component_at z i) is.composition) taken.state offered
    where
      by : (component : Instance) → component ≡ component_at (instances (action_texts plan) m) i → (state : List Datum) → IsOffered component state act → IsWritten plan (written_of plan act) × IsKnown plan (written_of plan act) act
      by component same state offered =
          let found : slice_get (component_at (instances (action_texts plan) m) i).entries offered.place ≡ Some offered.entry = subst (λ (z : Instance). slice_get z.entries offered.place ≡ Some offered.entry) same offered.at in
          let c = comes (action_texts plan) m i offered.place offered.entry found in
          said_by i component.formals offered.entry act (subst (λ (xs : List Scalar). Comes (action_texts plan) m i xs offered.entry) (ap (λ (z : Instance). z.formals) (sym same)) c) offered.local offered.has
