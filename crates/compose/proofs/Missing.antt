-- The first hidden name of which no component has an output.
use Rattle.std.proofs.Common.{arith, ◌≡◌, ◌<◌, ◌==◌, ℕ, length, Bool, true, false, not, bytes_eq, string_bytes, Option, None, Some, IfSome, IfNone, List, [], ◌∷◌, map, slice_get, refl, sym, ◌∙◌, ap}
use Rattle.std.proofs.lemmas.Bool.Decides.{Decides-eqb}
use Rattle.std.specs.Global.{Global}
use Rattle.std.specs.List.{list_any}
use Rattle.std.specs.Option.{option_map}
use Rattle.std.specs.declared.string.String.{String}
use Rattle.ioa_trees.specs.Trees.{Bytes}
use Rattle.ioa_trees.specs.SourceRules.{MeantSource}
use Rattle.compose.specs.Rules.{IsFirst}
use Rattle.compose.specs.Faults.{OutputMissing, is_given}
use Rattle.compose.specs.Outputs.{lacks_in, lacks_at}
use Rattle.compose.proofs.Named.{mapped_at}
use Rattle.compose.proofs.Searched.{searched}

not_true : (a : Bool) → not a ≡ true → a ≡ false
not_true true h = sym h
not_true false h = refl

-- where no output is hidden, none is missing
pub emptied : {A : Type 0} (xs : List A) (b : Bool) → b ≡ (length xs == 0) → b ≡ true → xs ≡ []
emptied [] b is h = refl
emptied (x ∷ xs) b is h = let none : length (x ∷ xs) ≡ 0 = (Decides-eqb (length (x ∷ xs)) 0).0 (sym is ∙ h) in absurd (omega (arith, none))

pub none_hidden : (m : MeantSource) → m.hidden ≡ [] → IsFirst (OutputMissing m) None
none_hidden m none = λ j a. let e : ◌≡◌ {A = Option Bytes} None (Some a.name) = ap (λ l. slice_get l a.number) (sym none) ∙ a.at in cc

module _ (m : MeantSource) (names : List (String Global)) (same : map string_bytes names ≡ m.hidden) (given : List Bytes) (are : (q : Bytes) → list_any (bytes_eq q) given ≡ is_given m q) where
  missing_by : (n : ℕ) (o : Option (String Global)) → slice_get names n ≡ o → lacks_in given o ≡ true → OutputMissing m n
  missing_by n None at h = cc
  missing_by n (Some s) at h = record {
    number = n;
    within = omega arith;
    name = string_bytes s;
    at = ap (λ l. slice_get l n) (sym same) ∙ mapped_at string_bytes names n ∙ ap (option_map string_bytes) at;
    missing = sym (are (string_bytes s)) ∙ not_true (list_any (bytes_eq (string_bytes s)) given) h;
  }

  lacks_by : (q : Bytes) (o : Option (String Global)) → option_map string_bytes o ≡ Some q → is_given m q ≡ false → lacks_in given o ≡ true
  lacks_by q None e h = cc
  lacks_by q (Some s) e h = let one : string_bytes s ≡ q = cc in ap not (ap (λ x. list_any (bytes_eq x) given) one ∙ are q ∙ h)

  lacks_of : (j : ℕ) (a : OutputMissing m j) → lacks_at given names a.number ≡ true
  lacks_of j a = lacks_by a.name (slice_get names a.number) (sym (mapped_at string_bytes names a.number) ∙ ap (λ l. slice_get l a.number) same ∙ a.at) a.missing

  pub missing_first : (first : Option ℕ)
      → IfSome first (λ n. (lacks_at given names n ≡ true) × ((k : ℕ) → k < n → lacks_at given names k ≡ false))
      → IfNone first ((k : ℕ) → lacks_at given names k ≡ false) → IsFirst (OutputMissing m) first
  missing_first = searched (OutputMissing m) (lacks_at given names) (λ n h. missing_by n (slice_get names n) refl h) (λ j a. (a.number, (a.within, lacks_of j a)))
