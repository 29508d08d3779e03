-- What is known of a checked source, and of the parts that it means.
use Rattle.std.proofs.Common.{arith, ◌≡◌, ◌≤◌, ◌<◌, ◌^◌, ℕ, ◌+◌, Option, None, Some, IfSome, IfNone, List, [], length, true, false, sym, ◌∙◌, ap, subst}
use Rattle.std.specs.List.{All}
use Rattle.std.proofs.lemmas.List.{length-map}
use Rattle.ioa_trees.specs.Spelling.{spell}
use Rattle.ioa_trees.specs.Trees.{Bytes, PlainSource}
use Rattle.ioa_trees.specs.SourceRules.{MeantSource, source_faults, source_meaning}
use Rattle.ioa_check.specs.Refusals.{IsMeant}
use Rattle.ioa_check.specs.Resolutions.{meaning}
use Rattle.ioa_check.specs.declared.resolved.Resolved.{Resolved}
use Rattle.compose.specs.Sound.{IsSoundAutomaton, entries_in}
use Rattle.io_automata.specs.Automata.{Instance, composed, instance_of}
use Rattle.io_automata.specs.Compatible.{IsCompatible}
use Rattle.io_automata.specs.WellFormed.{IsWellFormed}
use Rattle.io_automata.specs.declared.automaton.Automaton.{Automaton}
use Rattle.io_automata.specs.declared.automaton.Component.{Component}
use Rattle.compose.specs.Rules.{Breaks, IsFirst}
use Rattle.compose.specs.declared.compatibility.rule.Rule.{Rule}
use Rattle.compose.specs.declared.compatibility.rule.Rule.TheVariants as rule
use Rattle.compose.specs.Types.{TypesDiffer}
use Rattle.compose.specs.Instances.{instance, instances}
use Rattle.compose.specs.Names.{AreNames}
use Rattle.compose.specs.declared.fault.ComposeError.{ComposeError}
use Rattle.compose.specs.Faults.{Fault, HasFault, IsRefused, OutputMissing, least_error, unknown_at}
use Rattle.compose.proofs.LeastFault.{Firsts, refused_by, faultless_by}
use Rattle.compose.proofs.Unknown.{unknown_first}

-- ---- the size and the soundness of a checked source

module _ (m : MeantSource) (is : IsMeant m) where
  pub sound_of : ((x : PlainSource) → source_faults x ≡ [] → All (IsSoundAutomaton (length (source_meaning x).members)) (source_meaning x).automata) → All (IsSoundAutomaton (length m.members)) m.automata
  sound_of law = subst (λ (z : MeantSource). All (IsSoundAutomaton (length z.members)) z.automata) (sym is.same) (law is.source is.faultless)

  pub members_of : ((x : PlainSource) → 0 < length x.automata → length (source_meaning x).members ≤ length (spell x)) → length m.members ≤ 2 ^ 16
  members_of law =
      let few : length (spell is.source) ≤ 65536 = is.few in
      let same : length m.members ≡ length (source_meaning is.source).members = ap (λ (z : MeantSource). length z.members) is.same in
      let bound : length m.members ≤ 65536 = omega (arith, law is.source is.some, few, same) in
      bound

  pub entries_of : ((x : PlainSource) → 0 < length x.automata → entries_in (source_meaning x).automata + entries_in (source_meaning x).automata ≤ length (spell x)) → entries_in m.automata < 2 ^ 16
  entries_of law =
      let few : length (spell is.source) ≤ 65536 = is.few in
      let same : entries_in m.automata ≡ entries_in (source_meaning is.source).automata = ap (λ (z : MeantSource). entries_in z.automata) is.same in
      let bound : entries_in m.automata < 65536 = omega (arith, law is.source is.some, few, same) in
      bound

-- ---- where there is no error no rule is broken

unbroken_by : (z : List Instance) (unknown own internal output types : Option ℕ) (n : ℕ) (hidden : Option ℕ)
    → IsFirst (Breaks rule.Own z) own → IsFirst (Breaks rule.Internal z) internal → IsFirst (Breaks rule.Output z) output
    → least_error unknown own internal output types n hidden ≡ None → (k : Rule) (j : ℕ) → Breaks k z j → ⊥
unbroken_by z (Some i) own internal output types n hidden o t p is k = cc
unbroken_by z None (Some i) internal output types n hidden o t p is k = cc
unbroken_by z None None (Some i) output types n hidden o t p is k = cc
unbroken_by z None None None (Some i) types n hidden o t p is k = cc
unbroken_by z None None None None types n hidden o t p is rule.Own = o
unbroken_by z None None None None types n hidden o t p is rule.Internal = t
unbroken_by z None None None None types n hidden o t p is rule.Output = p

module _ (z : List Instance) (unknown own internal output types : Option ℕ) (n : ℕ) (hidden : Option ℕ)
    (own_first : IsFirst (Breaks rule.Own z) own)
    (internal_first : IsFirst (Breaks rule.Internal z) internal)
    (output_first : IsFirst (Breaks rule.Output z) output)
    (is : least_error unknown own internal output types n hidden ≡ None) where
  unbroken : (k : Rule) (j : ℕ) → Breaks k z j → ⊥
  unbroken = unbroken_by z unknown own internal output types n hidden own_first internal_first output_first is

  pub compatible : ((z : List Instance) → ((r : Rule) (j : ℕ) → Breaks r z j → ⊥) → IsCompatible z) → IsCompatible z
  compatible law = law z unbroken

  pub formed : (m : MeantSource) (names : List Bytes) → z ≡ instances names m → AreNames names m
      → ((m : MeantSource) (names : List Bytes) → AreNames names m → All (IsSoundAutomaton (length m.members)) m.automata → length m.members ≤ 2 ^ 16 → ((j : ℕ) → Breaks rule.Own (instances names m) j → ⊥) → IsWellFormed (instances names m))
      → All (IsSoundAutomaton (length m.members)) m.automata → length m.members ≤ 2 ^ 16 → IsWellFormed z
  formed m names same are law sound few = subst IsWellFormed (sym same) (law m names are sound few (subst (λ y. (j : ℕ) → Breaks rule.Own y j → ⊥) same (unbroken rule.Own)))

-- ---- the first components with each fault

module _ (r : Resolved) (names : List Bytes) (automata : List Automaton) (components : List Component) (same : composed automata components ≡ instances names (meaning r)) (are : AreNames names (meaning r)) where
  abbrev m : MeantSource
  m = meaning r

  first_as : (k : Rule) (first : Option ℕ) → IsFirst (Breaks k (composed automata components)) first → IsFirst (Breaks k (instances names m)) first
  first_as k first h = subst (λ z. IsFirst (Breaks k z) first) same h

  count_as : length components ≡ length m.components
  count_as = sym (length-map components (instance_of automata)) ∙ ap length same ∙ length-map m.components (instance names m.automata)

  module _ (unknown own internal output types hidden : Option ℕ)
      (some : IfSome unknown (λ n. (unknown_at r.components.items n ≡ true) × ((k : ℕ) → k < n → unknown_at r.components.items k ≡ false)))
      (none : IfNone unknown ((k : ℕ) → unknown_at r.components.items k ≡ false))
      (own_first : IsFirst (Breaks rule.Own (composed automata components)) own)
      (internal_first : IsFirst (Breaks rule.Internal (composed automata components)) internal)
      (output_first : IsFirst (Breaks rule.Output (composed automata components)) output)
      (types_first : IsFirst (TypesDiffer (meaning r)) types)
      (hidden_first : IsFirst (OutputMissing (meaning r)) hidden) where
    firsts : Firsts names m are unknown own internal output types (length components) hidden
    firsts = record {
      unknown_first = unknown_first r.components.items unknown some none;
      own_first = first_as rule.Own own own_first;
      internal_first = first_as rule.Internal internal internal_first;
      output_first = first_as rule.Output output output_first;
      types_first = types_first;
      count = count_as;
      hidden_first = hidden_first;
    }

    pub refused : (e : ComposeError) → least_error unknown own internal output types (length components) hidden ≡ Some e → IsRefused m e
    refused e is = refused_by names m are unknown own internal output types (length components) hidden firsts e is

    module _ (is : least_error unknown own internal output types (length components) hidden ≡ None) where
      pub faultless : (f : Fault) (j : ℕ) → HasFault names m f j → ⊥
      faultless = faultless_by names m are unknown own internal output types (length components) hidden firsts is
