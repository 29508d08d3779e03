-- The first component without an automaton.
use Rattle.std.proofs.Common.{arith, ◌≡◌, ◌<◌, ℕ, true, false, Option, None, Some, IfSome, IfNone, List, map, slice_get, refl, sym, ◌∙◌, ap}
use Rattle.std.specs.Option.{option_map}
use Rattle.ioa_trees.specs.SourceRules.{MeantComponent}
use Rattle.ioa_check.specs.declared.resolved.Component.{Component}
use Rattle.ioa_check.specs.Resolutions.{component_meaning}
use Rattle.compose.specs.Rules.{IsFirst}
use Rattle.compose.specs.Faults.{AutomatonMissing, lacks, unknown_in, unknown_at}
use Rattle.compose.proofs.Named.{mapped_at}
use Rattle.compose.proofs.Searched.{searched}

lacks_none : (o : Option ℕ) → lacks o ≡ true → o ≡ None
lacks_none None h = refl
lacks_none (Some n) h = cc

-- a component of the code that has no automaton, as it is meant
missing_by : (cs : List Component) (n : ℕ) (o : Option Component) → slice_get cs n ≡ o → unknown_in o ≡ true → AutomatonMissing (map component_meaning cs) n
missing_by cs n None at h = cc
missing_by cs n (Some c) at h = record {
  number = n;
  within = omega arith;
  component = component_meaning c;
  at = mapped_at component_meaning cs n ∙ ap (option_map component_meaning) at;
  missing = lacks_none c.automaton h;
}

unknown_by : (o : Option Component) (m : MeantComponent) → option_map component_meaning o ≡ Some m → m.automaton ≡ None → unknown_in o ≡ true
unknown_by None m h e = cc
unknown_by (Some c) m h e = let same : component_meaning c ≡ m = cc in ap lacks (ap (λ (x : MeantComponent). x.automaton) same ∙ e)

-- and the other way round
unknown_of : (cs : List Component) (j : ℕ) (a : AutomatonMissing (map component_meaning cs) j) → unknown_at cs a.number ≡ true
unknown_of cs j a = unknown_by (slice_get cs a.number) a.component (sym (mapped_at component_meaning cs a.number) ∙ a.at) a.missing

pub unknown_first : (cs : List Component) (first : Option ℕ)
    → IfSome first (λ n. (unknown_at cs n ≡ true) × ((k : ℕ) → k < n → unknown_at cs k ≡ false))
    → IfNone first ((k : ℕ) → unknown_at cs k ≡ false) → IsFirst (AutomatonMissing (map component_meaning cs)) first
unknown_first cs = searched (AutomatonMissing (map component_meaning cs)) (unknown_at cs) (λ n h. missing_by cs n (slice_get cs n) refl h) (λ j a. (a.number, (a.within, unknown_of cs j a)))
